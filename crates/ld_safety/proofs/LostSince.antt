-- Since the asks of a confirmation were sent: each node that says in its round that it is lost was so at that moment, and nobody else is told.
use Rattle.std.proofs.Common.{◌≡◌, ◌∙◌, ◌≤◌, ℕ, inl, inr, refl, ap, sym, subst, true, List, [], length, Some, None, arith}
use Rattle.ld_table.specs.Table.{find}
use Rattle.ld_table.specs.Named.{find_named, put_named}
use Rattle.ld_table.specs.Words.{is_in}
use Rattle.ld_lsn.specs.Number.{home_epoch}
use Rattle.ld_config.specs.declared.config.Config.{Config}
use Rattle.ld_msg.specs.declared.msg.Msg.{Msg}
use Rattle.ld_msg.specs.declared.msg.Who.TheVariants as whos
use Rattle.ld_msg.specs.declared.msg.Body.{Body}
use Rattle.ld_msg.specs.declared.msg.Body.TheVariants as bodies
use Rattle.ld_msg.specs.Reader.{Reader, Confirmation, opened, polled, on_answer, poll_asks}
use Rattle.ld_msg.specs.Register.{View, generation_of}
use Rattle.ld_machine.specs.Config.{looks_at}
use Rattle.ld_op.specs.Plain.{Plain, log_of, is_lost}
use Rattle.ld_machine.specs.State.{node_at, posted}
use Rattle.ld_machine.specs.World.{World, In}
use Rattle.ld_machine.specs.Run.{after_step}
use Rattle.ld_machine.specs.Step as Step
use Rattle.ld_safety.proofs.Lists.{Some_inj, not_none, only}
use Rattle.ld_safety.proofs.Names.{named_cases}
use Rattle.ld_safety.proofs.ReaderLogs.{Apart, Concerns}
use Rattle.ld_safety.proofs.Events.{NamesOnce}
use Rattle.ld_safety.proofs.LostNodes.{LostIn}
use Rattle.ld_safety.proofs.Generations.{Back, back_on, back_step}
use Rattle.ld_safety.proofs.LostReads.{ReadOn, SaysAgain, poll_are, polled_up, read_on, AskOf}
use Rattle.ld_safety.proofs.LostTalk.{Elsewhere, TalkKeeps, talked, new_or_old, same_readers}
use Rattle.ld_safety.proofs.LostRounds.{ask_answer, found_in, posted_to, ask_parts, wave_of}
use Rattle.ld_safety.proofs.LostAlong.{RoundsOf}
use Rattle.ld_msg.specs.declared.style.Style.{Style}
use Rattle.ld_safety.proofs.ReaderSteps.{IsAskOf}
use Rattle.ld_machine.specs.Calm as Calm
use Rattle.ld_machine.specs.Calm.{Move}

-- the world in which the asks were sent; the reader's number and log, the number asked, the round, and the nodes asked with their generations
module _ (then : World) (r l s round : ℕ) (asked : List (ℕ × ℕ)) where
  -- the node was lost then, under the generation that was held for it
  pub record LostThen (y : ℕ) : Type 0 where
    pub generation : ℕ
    pub held : find y asked ≡ Some generation
    pub lost : LostIn (node_at then.state y) l (home_epoch s) generation

  pub record SinceMsg (m : Msg) : Type 0 where
    pub log : Concerns m r → m.log ≡ l
    pub ask : m.from ≡ whos.Reader r → (n : ℕ) → IsAskOf round n m.body → n ≡ s
    pub answer : m.to ≡ whos.Reader r → (n g end : ℕ) → m.body ≡ bodies.LostHere n round g end → g ≤ generation_of then.state.register (Step.sender_node m.from) → LostIn (node_at then.state (Step.sender_node m.from)) l (home_epoch s) g

  pub record SinceConfirming (d : Reader) (v : Confirmation) : Type 0 where
    pub same : v.asked ≡ asked
    pub next : d.next ≡ s
    pub told : (z : ℕ) → is_in z v.told ≡ true → LostThen z

  pub record SinceReader (d : Reader) : Type 0 where
    pub log : d.log ≡ l
    pub up : round ≤ d.round
    pub confirming : (v : Confirmation) → d.confirming ≡ Some v → v.round ≡ round → SinceConfirming d v

  pub record OneThere (ds : List (List ℕ × Reader)) : Type 0 where
    pub name : List ℕ
    pub reader : Reader
    pub named : find_named name ds ≡ Some reader
    pub number : reader.number ≡ r

  pub record SinceTalk (ms : List Msg) (ds : List (List ℕ × Reader)) : Type 0 where
    pub sent : (m : Msg) → In m ms → SinceMsg m
    pub there : OneThere ds
    pub readers : (t : List ℕ) (d : Reader) → find_named t ds ≡ Some d → d.number ≡ r → SinceReader d

  abbrev pub AllDrawnThen : Type 0
  AllDrawnThen = (z g : ℕ) → find z asked ≡ Some g → g ≤ generation_of then.state.register z

  pub record Since (w : World) : Type 0 where
    pub back : Back then w
    pub drawn : AllDrawnThen
    pub talk : SinceTalk w.state.network.sent w.state.readers

  -- ---- one event ----
  module _ (c : Config) (w : World) (e : Move) (A : Apart w.state.network.sent w.state.readers) (R : RoundsOf w) (P : Since w) where
    elsewhere_since : (m : Msg) → Elsewhere m → SinceMsg m
    elsewhere_since m h = record {
      log = λ q. absurd (elim q [ inl a ↦ to_node a | inr a ↦ h.whose r a ]);
      ask = λ q n b. absurd (h.whose r q);
      answer = λ q n g end b u. absurd (to_node q);
    } where
      to_node : m.to ≡ whos.Reader r → ⊥
      to_node q = let z : whos.Node h.node ≡ whos.Reader r = sym h.to ∙ q in cc

    -- a node's answer
    module _ (n : ℕ) (m : Msg) (x : Body) (i : In m w.state.network.sent) (a : (Step.node_handles n (node_at w.state n) m).answer ≡ Some x) where
      lost_now : (k g end : ℕ) → m.from ≡ whos.Reader r → x ≡ bodies.LostHere k round g end → LostIn (node_at w.state n) l (home_epoch s) g
      lost_now k g end q b =
          let p : Plain = (node_at w.state n).plain in
          let j = R.asks m r i q in
          let y = (ask_answer n p.generation (log_of p m.log) m.log _ _ m.body x j a).lost k round g end b in
          let ask : j.from ≡ s = (P.talk.sent m i).ask q j.from (subst (λ u. IsAskOf u j.from m.body) (sym y.1) j.is) in
          record {
            plain = p;
            held = inl refl;
            generation = sym y.0;
            lost = subst (λ u. is_lost (log_of p u) (home_epoch s) ≡ true) ((P.talk.sent m i).log (inr q)) (subst (λ u. is_lost (log_of p m.log) (home_epoch u) ≡ true) ask y.3);
          }

      not_reader : whos.Node n ≡ whos.Reader r → ⊥
      not_reader h = cc

      answer_since : SinceMsg (record { from = whos.Node n; to = m.from; log = m.log; body = x })
      answer_since = record {
        log = λ q. elim q [ inl z ↦ (P.talk.sent m i).log (inr z) | inr z ↦ absurd (not_reader z) ];
        ask = λ q k b. absurd (not_reader q);
        answer = λ q k g end b u. P.back.lost n l (home_epoch s) g u (lost_now k g end q b);
      }

    -- a reader that goes on
    module _ (name : List ℕ) (d x : Reader) (bs : List (ℕ × Body)) (F : find_named name w.state.readers ≡ Some d) (number : x.number ≡ d.number) (log : x.log ≡ d.log) (up : d.round ≤ x.round)
        (asks : (b : ℕ × Body) → In b bs → AskOf d.round x.round x.next b.1) (on : d.number ≡ r → (v : Confirmation) → x.confirming ≡ Some v → v.round ≡ round → SinceConfirming x v) where
      was : x.number ≡ r → SinceReader d
      was e = P.talk.readers name d F (sym number ∙ e)

      ask_since : (m : Msg) → In m (posted (whos.Reader x.number) x.log bs) → SinceMsg m
      ask_since m i = let p = posted_to (whos.Reader x.number) x.log bs m i in record {
        log = λ q. elim q [
          | inl z ↦ absurd (to_node p.0.0 (sym (ap (λ (y : Msg). y.to) p.2) ∙ z))
          | inr z ↦ ap (λ (y : Msg). y.log) p.2 ∙ (log ∙ (was (from_here (sym (ap (λ (y : Msg). y.from) p.2) ∙ z))).log)
        ];
        ask = λ q n b. absurd (let y = asks p.0 p.1 in let k : y.at ≡ round = sym (ask_parts p.0.1 y.at y.from y.is).0 ∙ (ap wave_of (sym (ap (λ (u : Msg). u.body) p.2)) ∙ (ask_parts m.body round n b).0) in let h = (was (from_here (sym (ap (λ (u : Msg). u.from) p.2) ∙ q))).up in let v = y.above in omega arith);
        answer = λ q n g end b u. absurd (to_node p.0.0 (sym (ap (λ (y : Msg). y.to) p.2) ∙ q));
      } where
        to_node : (y : ℕ) → whos.Node y ≡ whos.Reader r → ⊥
        to_node y h = cc

        from_here : whos.Reader x.number ≡ whos.Reader r → x.number ≡ r
        from_here h = cc

      there_on : OneThere (put_named name x w.state.readers)
      there_on = let o = P.talk.there in elim (named_cases o.name name x w.state.readers) [
        | inl a ↦ (let z : d ≡ o.reader = Some_inj (sym F ∙ subst (λ t. find_named t w.state.readers ≡ Some o.reader) a.0 o.named) in record { name = o.name; reader = x; named = a.1; number = number ∙ (ap (λ (y : Reader). y.number) z ∙ o.number) })
        | inr a ↦ record { name = o.name; reader = o.reader; named = a.1 ∙ o.named; number = o.number }
      ]

      goes_since : SinceTalk (posted (whos.Reader x.number) x.log bs) (put_named name x w.state.readers)
      goes_since = record {
        sent = ask_since;
        there = there_on;
        readers = λ t z f q. elim (found_in t name x z w.state.readers f) [
          | inl a ↦ subst SinceReader a.1 (let k = was (ap (λ (y : Reader). y.number) a.1 ∙ q) in record { log = log ∙ k.log; up = (let u = k.up in omega arith); confirming = on (sym number ∙ (ap (λ (y : Reader). y.number) a.1 ∙ q)) })
          | inr a ↦ P.talk.readers t z a.1 q
        ];
      }

    -- who says again that it is lost was so then
    pub again : (m : Msg) → In m w.state.network.sent → m.to ≡ whos.Reader r → (u : Confirmation) (z : ℕ) → z ≡ Step.sender_node m.from → u.round ≡ round → u.asked ≡ asked → SaysAgain u (Step.sender_node m.from) m.body → LostThen z
    again m i t u z a b x g = let y = Step.sender_node m.from in let j : find y asked ≡ Some g.generation = subst (λ (k : List (ℕ × ℕ)). find y k ≡ Some g.generation) x g.asked in
        subst LostThen (sym a) (record { generation = g.generation; held = j; lost = (P.talk.sent m i).answer t g.number g.generation g.end (g.is ∙ ap (λ k. bodies.LostHere g.number k g.generation g.end) b) (P.drawn y g.generation j) })

    -- what an answer makes of a confirmation of the round
    read_since : (looks : ℕ → View) (name : List ℕ) (d : Reader) (m : Msg) → find_named name w.state.readers ≡ Some d → In m w.state.network.sent → m.to ≡ whos.Reader d.number → ReadOn looks d (Step.sender_node m.from) m.body (on_answer looks d (Step.sender_node m.from) m.body)
        → d.number ≡ r → (v : Confirmation) → (on_answer looks d (Step.sender_node m.from) m.body).reader.confirming ≡ Some v → v.round ≡ round → SinceConfirming (on_answer looks d (Step.sender_node m.from) m.body).reader v
    read_since looks name d m f i t G q v h k = let D = P.talk.readers name d f q in elim (G.confirming v h) [
      | inl o ↦ (let C = D.confirming o.before o.was (sym o.round ∙ k) in record { same = o.asked ∙ C.same; next = o.next ∙ C.next; told = λ z j. elim (o.told z j) [ inl a ↦ C.told z a | inr a ↦ again m i (t ∙ ap whos.Reader q) o.before z a.0 (sym o.round ∙ k) C.same a.1 ] })
      | inr n ↦ absurd (let a = n.higher in let b = D.up in omega arith)
    ]

    opened_since : (style : Style) (name : List ℕ) (k from until : ℕ) → find_named name w.state.readers ≡ None → SinceTalk [] (put_named name (opened style k (length w.state.readers) from until) w.state.readers)
    opened_since style name k from until n = let o = P.talk.there in let x = opened style k (length w.state.readers) from until in record {
      sent = λ m i. absurd i;
      there = elim (named_cases o.name name x w.state.readers) [
        | inl a ↦ absurd (not_none (sym n ∙ subst (λ t. find_named t w.state.readers ≡ Some o.reader) a.0 o.named))
        | inr a ↦ record { name = o.name; reader = o.reader; named = a.1 ∙ o.named; number = o.number }
      ];
      readers = λ t z f q. elim (found_in t name x z w.state.readers f) [
        | inl a ↦ absurd (let u = A.numbers o.name o.reader o.named in let v : length w.state.readers ≡ z.number = ap (λ (y : Reader). y.number) a.1 in let h = o.number in omega arith)
        | inr a ↦ P.talk.readers t z a.1 q
      ];
    }

    since_talk : TalkKeeps c w.state e SinceTalk
    since_talk = record {
      quiet = record { sent = λ m i. absurd i; there = P.talk.there; readers = P.talk.readers };
      elsewhere = λ ms h. record { sent = λ m i. elsewhere_since m (h m i); there = P.talk.there; readers = P.talk.readers };
      answers = λ n m x i t v h. record { sent = λ z j. subst SinceMsg (sym (only z _ j)) (answer_since n m x i h); there = P.talk.there; readers = P.talk.readers };
      reads = λ name d m i t v. let looks = looks_at c w.state.register d.log in let y = Step.sender_node m.from in let a = on_answer looks d y m.body in let G = read_on looks d y m.body v.open_still in
          goes_since name d a.reader a.asks v.named G.number G.log G.round (λ b j. G.asks b j) (read_since looks name d m v.named i t G);
      polls = λ name d v. let looks = looks_at c w.state.register d.log in goes_since name d (polled looks d) (poll_asks looks d) v.named refl refl (polled_up looks d) (λ b j. let z = poll_are looks d b j in record { at = (polled looks d).round; from = d.next; above = z.1; upto = omega arith; is = z.0; below = omega arith }) (λ q v h. absurd (not_none h));
      opens = λ style name k from until o. opened_since style name k from until o.fresh_name;
    }

    pub since_step : NamesOnce w.state → Since (after_step c w e)
    since_step N = let t = talked c w.state e SinceTalk since_talk N in record {
      back = back_on then w (after_step c w e) P.back (back_step c w e N);
      drawn = P.drawn;
      talk = subst (λ (ds : List (List ℕ × Reader)). SinceTalk (after_step c w e).state.network.sent ds) (sym (same_readers (Calm.moves c w.state e)))
          (record { sent = λ m i. elim (new_or_old c w.state e m t.same i) [ inl o ↦ P.talk.sent m o | inr n ↦ t.talk.sent m n ]; there = t.talk.there; readers = t.talk.readers });
    }
