-- Along a run in which nodes keep what was settled, clean pages and known ends that readers are told stay right.
use Rattle.std.proofs.Common.{◌≡◌, ◌∙◌, ◌≤◌, ◌<◌, ℕ, inl, inr, refl, ap, sym, subst, true, List, Some, None, arith, map, Bool}
use Rattle.std.specs.Option.{unwrap_or}
use Rattle.ld_table.specs.Table.{find}
use Rattle.ld_table.specs.Words.{how_many}
use Rattle.ld_table.proofs.Laws.{put_cases}
use Rattle.ld_lsn.specs.Number.{numbered, home_epoch}
use Rattle.ld_config.specs.declared.config.Config.{Config}
use Rattle.ld_msg.specs.declared.msg.Msg.{Msg}
use Rattle.ld_msg.specs.declared.msg.Who.{Who}
use Rattle.ld_msg.specs.declared.msg.Who.TheVariants as whos
use Rattle.ld_msg.specs.declared.msg.Entry.{Entry}
use Rattle.ld_msg.specs.declared.msg.Summary.{Summary}
use Rattle.ld_msg.specs.declared.msg.Body.{Body}
use Rattle.ld_msg.specs.declared.msg.Body.TheVariants as bodies
use Rattle.ld_msg.specs.Register.{swap, swapped_epochs, Register, Epochs, no_epochs, epochs_of, with_epochs, next_epoch, closed_epochs, activate, close, draw}
use Rattle.ld_op.specs.Plain.{Plain, log_of}
use Rattle.ld_op.specs.Answers.{read_answer, withheld_in, withheld}
use Rattle.ld_ids.specs.Choice.{nodes_of}
use Rattle.ld_ids.specs.declared.set.Spec.{Spec}
use Rattle.ld_machine.specs.Config.{fixed_of, fixed_at}
use Rattle.ld_machine.specs.Disk.{Node}
use Rattle.ld_machine.specs.State.{finish, node_at, posted}
use Rattle.ld_machine.specs.Facts.{Happened}
use Rattle.ld_machine.specs.World.{World, In, Sent, MayHold, Unserved}
use Rattle.ld_machine.specs.Invariant.{Closed}
use Rattle.ld_machine.specs.Run.{after_step}
use Rattle.ld_machine.specs.Step as Step
use Rattle.ld_safety.proofs.Lists.{not_none, only, count_mono}
use Rattle.ld_safety.proofs.Traces.{Keeps, both_kept, beside_kept}
use Rattle.ld_safety.proofs.Base.{Base}
use Rattle.ld_safety.proofs.Events.{NamesOnce, Serves}
use Rattle.ld_safety.proofs.NodeSteps.{read_answered}
use Rattle.ld_safety.proofs.RegisterSteps.{Same, activate_leaves, close_leaves, draw_leaves, swap_leaves, epochs_put, epochs_same}
use Rattle.ld_safety.proofs.Registers.{OnlyClosed, register_kept, follows, specs_stay, spec_stays, start_closed}
use Rattle.ld_safety.proofs.LostTalk.{TalkKeeps, talked, new_or_old}
use Rattle.ld_safety.proofs.LostRounds.{posted_to, ask_answered}
use Rattle.ld_safety.proofs.LostAlong.{Asked, RoundsOf, asked_kept}
use Rattle.ld_safety.proofs.LostKept.{Standings, standings_kept}
use Rattle.ld_safety.proofs.LostUnserved.{unserved_step}
use Rattle.ld_safety.proofs.LostTold.{told_copied, copied_before, copied_after}
use Rattle.ld_safety.proofs.LostPages.{Enough, CleanKept, CleanPage, KnownEnd, home_is, known_end, page_of}
use Rattle.ld_safety.proofs.Withheld.{still_there}
use Rattle.ld_machine.specs.Calm as Calm
use Rattle.ld_machine.specs.Calm.{Move}

-- ---- closed epochs stay closed ----
abbrev pub StaysClosed : Register → Register → Type 0
StaysClosed r n = (l e : ℕ) (z : Summary) → find e (epochs_of r l).summaries ≡ Some z → find e (epochs_of n l).summaries ≡ Some z

logs_stay : (r n : Register) → n.logs ≡ r.logs → StaysClosed r n
logs_stay r n q l e z h = ap (λ m. find e (unwrap_or (find l m) no_epochs).summaries) q ∙ h

put_stays : (r n : Register) (l : ℕ) (x : Epochs) → ((e : ℕ) (z : Summary) → find e (epochs_of r l).summaries ≡ Some z → find e x.summaries ≡ Some z) → Same (with_epochs r l x) n → StaysClosed r n
put_stays r n l x a s k e z h = elim (epochs_put r l k x) [
  | inl p ↦ ap (λ (v : Epochs). find e v.summaries) (epochs_same (with_epochs r l x) n k s ∙ p.1) ∙ a e z (subst (λ j. find e (epochs_of r j).summaries ≡ Some z) p.0 h)
  | inr p ↦ ap (λ (v : Epochs). find e v.summaries) (epochs_same (with_epochs r l x) n k s ∙ p.1) ∙ h
]

pub closed_step : (c : Config) (w : World) (v : Move) → NamesOnce w.state → OnlyClosed w.state.register → StaysClosed w.state.register (after_step c w v).state.register
unfolding finish
closed_step c w v N h = let r = w.state.register in register_kept c w.state v (λ n. StaysClosed r n) (logs_stay r r refl)
    (λ l g. let p = Step.spec_set c w.state l in elim (activate_leaves r l p) [ inl a ↦ logs_stay r (activate r l p).register a.0 | inr a ↦ put_stays r (activate r l p).register l (next_epoch (epochs_of r l) p) (λ e z q. q) a.1 ])
    (λ l k y b. elim (close_leaves r l k y b) [
      | inl a ↦ logs_stay r (close r l k y b).register a.0
      | inr a ↦ put_stays r (close r l k y b).register l (closed_epochs (epochs_of r l) k y) (λ e z q. elim (put_cases e k y (epochs_of r l).summaries) [ inl b ↦ absurd (let u = h l e z q in let x = a.0 in let t = b.0 in omega arith) | inr b ↦ b.1 ∙ q ]) a.1
    ])
    (λ n. elim (draw_leaves r n) [ inl a ↦ logs_stay r (draw r n).register a.0 | inr a ↦ logs_stay r (draw r n).register a.0 ])
    (λ l upto old new. elim (swap_leaves r l upto old new) [ inl a ↦ logs_stay r (swap r l upto old new).register a.0 | inr a ↦ put_stays r (swap r l upto old new).register l (swapped_epochs (epochs_of r l) upto old new) (λ e z q. q) a ])
    (λ n q. logs_stay r n q) N

only_closed_step : (c : Config) (w : World) (v : Move) → NamesOnce w.state → OnlyClosed w.state.register → OnlyClosed (after_step c w v).state.register
unfolding finish
only_closed_step c w v N h = (follows c w.state v N h).1

-- ---- what a reader is told ----
pub record PageFacts (c : Config) (w : World) (y l : ℕ) (b : Body) : Type 0 where
  pub ends : (n u g end : ℕ) → b ≡ bodies.LostHere n u g end → 0 < end → KnownEnd w l n end
  pub pages : (u from upto : ℕ) (es : List Entry) → b ≡ bodies.ReadPage u from upto true es → CleanPage c w y l from upto es

abbrev pub Facts : Config → World → Msg → Type 0
Facts c w m = (r : ℕ) → m.to ≡ whos.Reader r → PageFacts c w (Step.sender_node m.from) m.log m.body

module _ (c : Config) (w : World) (v : Move) (N : NamesOnce w.state) (O : OnlyClosed w.state.register) (K : CleanKept c w) (up : (n l : ℕ) → Serves c w.state n l → ((node_at w.state n).cut ≡ None) × (0 < (node_at w.state n).plain.generation)) (R : RoundsOf w) where
  -- ---- a step later ----
  closed_later : (l e : ℕ) (z : Summary) → Closed w l e z → Closed (after_step c w v) l e z
  closed_later l e z h = closed_step c w v N O l e z h

  spec_later : (l e : ℕ) → 0 < e → e ≤ (epochs_of w.state.register l).epoch → fixed_of c (after_step c w v).state.register l e ≡ fixed_of c w.state.register l e
  unfolding finish
  spec_later l e p b = spec_stays c w.state.register (Calm.moves c w.state v).state.register (follows c w.state v N O).0 (specs_stay c w.state v N) l e (p, b)

  enough_later : (l s : ℕ) (z : Summary) → 0 < home_epoch s → home_epoch s ≤ (epochs_of w.state.register l).epoch → Enough c w l s z → Enough c (after_step c w v) l s z
  enough_later l s z p b h = subst (λ (k : Spec). k.r ≤ how_many (told_copied (after_step c w v) l s z) (nodes_of k)) (sym (spec_later l (home_epoch s) p b))
      (let k = count_mono (told_copied w l s z) (told_copied (after_step c w v) l s z) (fixed_at c w.state.register l (home_epoch s)) (λ y i t. copied_after c w v (λ n j u. (up n j u).1) N y l s z t) in omega arith)

  page_later : (y l from upto : ℕ) (es : List Entry) → CleanPage c w y l from upto es → CleanPage c (after_step c w v) y l from upto es
  page_later y l from upto es P = let k = K.bounded l (home_epoch from) P.summary P.closed P.positive in let b = k.0 in record {
    summary = P.summary;
    closed = closed_later l (home_epoch from) P.summary P.closed;
    above = P.above;
    positive = P.positive;
    starts = P.starts;
    ends = P.ends;
    place = P.place;
    has = λ s lo hi t. let a = P.starts in let z = P.ends in let x = P.place in let q = home_is s (home_epoch from) (omega arith) (omega arith) in
        P.has s lo hi (copied_before c w v (λ n j u. (up n j u).1) N y l s P.summary (λ p i. subst (λ j. Unserved p l j) (sym q.1) (P.unserved p i)) t);
    short = λ s lo hi. let a = P.starts in let z = P.ends in let x = P.place in let q = home_is s (home_epoch from) (omega arith) (omega arith) in let f = P.positive in elim (P.short s lo hi) [
      | inl e ↦ inl (enough_later l s P.summary (let y = q.0 in omega arith) (let y = q.0 in omega arith) e)
      | inr e ↦ inr (λ i. e (subst (λ (k : Spec). In y (nodes_of k)) (spec_later l (home_epoch from) P.positive b) i))
    ];
    unserved = unserved_step c w v N y l (home_epoch from) P.positive b P.unserved;
  }

  facts_later : (y l : ℕ) (b : Body) → PageFacts c w y l b → PageFacts c (after_step c w v) y l b
  facts_later y l b F = record {
    ends = λ n u g end q p. let k = F.ends n u g end q p in record { summary = k.summary; closed = closed_later l (home_epoch n) k.summary k.closed; positive = k.positive; above = k.above; is = k.is };
    pages = λ u from upto es q. page_later y l from upto es (F.pages u from upto es q);
  }

  -- ---- an answer ----
  same_page : (y l u f k from upto : ℕ) (es xs : List Entry) → bodies.ReadPage u f k true es ≡ bodies.ReadPage u from upto true xs → CleanPage c w y l f k es → CleanPage c w y l from upto xs
  same_page y l u f k from upto es xs q P = let a : f ≡ from = cc in let b : k ≡ upto = cc in let d : es ≡ xs = cc in subst (λ z. CleanPage c w y l from upto z) d (subst (λ z. CleanPage c w y l from z es) b (subst (λ z. CleanPage c w y l z k es) a P))

  read_facts : (n l released round from : ℕ) → Serves c w.state n l → PageFacts c w n l (read_answer (node_at w.state n).plain.generation (log_of (node_at w.state n).plain l) released round from)
  read_facts n l released round from S = let x : Node = node_at w.state n in let p : Plain = (node_at w.state n).plain in let u = up n l S in read_answered p.generation (log_of p l) released round from (PageFacts c w n l) (record {
    trimmed = λ a. record { ends = λ i j g end q z. absurd cc; pages = λ i f k es q. absurd cc };
    ended = λ y a h k. record { ends = λ i j g end q z. absurd cc; pages = λ i f k es q. absurd cc };
    lost_clean = λ y a h k t. record {
      ends = λ i j g end q z. let b : from ≡ i = cc in let d : numbered (home_epoch from) y.end ≡ end = cc in subst (λ m. KnownEnd w l m end) b (subst (λ m. KnownEnd w l from m) d (known_end c w K n l p (inl refl) from y a h k));
      pages = λ i f k es q. absurd cc;
    };
    lost = λ a h t. record { ends = λ i j g end q z. absurd (let b : 0 ≡ end = cc in omega arith); pages = λ i f k es q. absurd cc };
    clean = λ y a h k t. record {
      ends = λ i j g end q z. absurd cc;
      pages = λ i f m es q. same_page n l i from _ f m _ es (q_round q) (page_of c w K n l p (inl refl) u.1 (λ z. only_plain x u.0 z) from y a h k t);
    };
    open_page = λ a h t k. record { ends = λ i j g end q z. absurd cc; pages = λ i f m es q. absurd cc };
    waits = λ a. record { ends = λ i j g end q z. absurd cc; pages = λ i f k es q. absurd cc };
  }) where
    q_round : {a i f k m j : ℕ} {es xs : List Entry} → bodies.ReadPage a f k true es ≡ bodies.ReadPage i m j true xs → bodies.ReadPage i f k true es ≡ bodies.ReadPage i m j true xs
    q_round q = cc

    only_plain : (x : Node) → x.cut ≡ None → (z : Plain) → MayHold x z → z ≡ x.plain
    only_plain x h z (inl q) = q
    only_plain x h z (inr q) = absurd (not_none (sym h ∙ q.1))

  -- a page in which records are withheld has their numbers
  one_page : (y l from upto n : ℕ) (set excluded : List Bool) (es : List Entry) → CleanPage c w y l from upto es → CleanPage c w y l from upto (map (withheld n set excluded) es)
  one_page y l from upto n set excluded es P = record {
    summary = P.summary;
    closed = P.closed;
    above = P.above;
    positive = P.positive;
    starts = P.starts;
    ends = P.ends;
    place = P.place;
    has = λ s lo hi t. still_there n set excluded s es ∙ P.has s lo hi t;
    short = λ s lo hi. elim (P.short s lo hi) [ inl e ↦ inl e | inr e ↦ inr (λ i. still_there n set excluded s es ∙ e i) ];
    unserved = P.unserved;
  }

  one_facts : (y l : ℕ) (set excluded : List Bool) (b : Body) → PageFacts c w y l b → PageFacts c w y l (withheld_in y set excluded b)
  one_facts y l set excluded (bodies.ReadPage u f k clean es) F = record {
    ends = λ n v g end q p. absurd cc;
    pages = λ v from upto xs q.
        let a : clean ≡ true = cc in let b : f ≡ from = cc in let d : k ≡ upto = cc in let p : map (withheld y set excluded) es ≡ xs = cc in
        subst (λ z. CleanPage c w y l from upto z) p (subst (λ z. CleanPage c w y l from z (map (withheld y set excluded) es)) d (subst (λ z. CleanPage c w y l z k (map (withheld y set excluded) es)) b
        (one_page y l f k y set excluded es (F.pages u f k es (ap (λ z. bodies.ReadPage u f k z es) a)))));
  }
  one_facts y l set excluded _ F = F

  answer_facts : (n : ℕ) (m : Msg) (x : Body) → In m w.state.network.sent → Serves c w.state n m.log → (Step.node_handles n (node_at w.state n) m).answer ≡ Some x → Facts c w (record { from = whos.Node n; to = m.from; log = m.log; body = x })
  answer_facts n m x i S a r t = let q = R.asks m r i t in let p : Plain = (node_at w.state n).plain in
      ask_answered n p.generation (log_of p m.log) m.log _ (Step.released_at (node_at w.state n) m.log) m.body x q (PageFacts c w n m.log) a (read_facts n m.log (Step.released_at (node_at w.state n) m.log) q.round q.from S) (λ set excluded z k. one_facts n m.log set excluded z k)

  to_nodes : (who : Who) (l : ℕ) (bs : List (ℕ × Body)) (m : Msg) → In m (posted who l bs) → Facts c w m
  to_nodes who l bs m i r t = absurd (let p = posted_to who l bs m i in let z : whos.Node p.0.0 ≡ whos.Reader r = sym (ap (λ (y : Msg). y.to) p.2) ∙ t in cc)

  facts_talk : TalkKeeps c w.state v (λ ms ds. (m : Msg) → In m ms → Facts c w m)
  facts_talk = record {
    quiet = λ m i. absurd i;
    elsewhere = λ ms f m i r t. absurd (let z : whos.Node (f m i).node ≡ whos.Reader r = sym (f m i).to ∙ t in cc);
    answers = λ n m x i t S a k j. subst (Facts c w) (sym (only k _ j)) (answer_facts n m x i S a);
    reads = λ name d m i t u. to_nodes _ _ _;
    polls = λ name d u. to_nodes _ _ _;
    opens = λ style name l from until o m i. absurd i;
  }

  pub facts_step : ((m : Msg) → Sent w m → Facts c w m) → (m : Msg) → Sent (after_step c w v) m → Facts c (after_step c w v) m
  facts_step F m i r t = let k = talked c w.state v (λ ms ds. (m : Msg) → In m ms → Facts c w m) facts_talk N in facts_later (Step.sender_node m.from) m.log m.body (elim (new_or_old c w.state v m k.same i) [ inl o ↦ F m o r t | inr n ↦ k.talk m n r t ])

-- ---- along a run ----
module _ (c : Config) (Q : List Happened → World → Type 0) (C : (hs : List Happened) (w : World) → Q hs w → CleanKept c w) where
  abbrev pub Grounds : List Happened → World → Type 0
  Grounds hs w = (Asked c hs w × Q hs w) × (Base c hs w × Standings c hs w)

  abbrev pub Told : World → Type 0
  Told w = OnlyClosed w.state.register × ((m : Msg) → Sent w m → Facts c w m)

  abbrev pub Shown : List Happened → World → Type 0
  Shown hs w = Grounds hs w × Told w

  told_step : (hs : List Happened) (w : World) (v : Move) → Grounds hs w → Told w → Told (after_step c w v)
  told_step hs w v G T = let N = G.0.0.0.0.0 in (
    only_closed_step c w v N T.0,
    facts_step c w v N T.0 (C hs w G.0.1) (λ n l S. (G.1.1.1 n l).up S.up) G.0.0.1.1 T.1,
  )

  pub shown_kept : Keeps c Q → Keeps c Shown
  shown_kept K = beside_kept c Grounds (λ hs w. Told w) (both_kept c (λ hs w. Asked c hs w × Q hs w) (λ hs w. Base c hs w × Standings c hs w) (both_kept c (Asked c) Q (asked_kept c) K) (standings_kept c))
      (start_closed, λ m i. absurd i) (λ hs w v G H T. told_step hs w v G T)
