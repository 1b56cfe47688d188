-- A confirmation after a step lasted through it, or begins in it: then what has happened since its asks is known.
use Rattle.std.proofs.Common.{◌≡◌, ◌∙◌, ◌⊎◌, ◌≤◌, ◌<◌, ℕ, inl, inr, refl, ap, sym, subst, Bool, true, false, not, ◌&&◌, ◌==◌, List, [], ◌∷◌, length, Option, Some, None, arith}
use Rattle.std.proofs.lemmas.Bool.{and_parts, eqb-true}
use Rattle.ld_table.specs.Table.{find}
use Rattle.ld_table.specs.Named.{find_named, put_named}
use Rattle.ld_table.specs.Words.{is_in, all_of, any_of}
use Rattle.ld_lsn.specs.Number.{home_epoch}
use Rattle.ld_config.specs.declared.config.Config.{Config}
use Rattle.ld_msg.specs.declared.msg.Msg.{Msg}
use Rattle.ld_msg.specs.declared.msg.Who.TheVariants as whos
use Rattle.ld_msg.specs.declared.msg.Body.{Body}
use Rattle.ld_msg.specs.declared.msg.Body.TheVariants as bodies
use Rattle.ld_msg.specs.Reading.{Held, lost_held, lost_generation, is_loss, is_lost_for, leaves_open, knows_end_above, within}
use Rattle.ld_msg.specs.Reader.{Reader, Confirmation, shown_swaps, sees_swap, opened, polled, on_answer, seen_nodes, has_seen}
use Rattle.ld_msg.specs.Register.{View, look, generation_of, epochs_of}
use Rattle.ld_machine.specs.Config.{looks_at, set_at}
use Rattle.ld_machine.specs.State.{State, finish, posted}
use Rattle.ld_machine.specs.World.{World, In, Sent}
use Rattle.ld_machine.specs.Run.{after_step}
use Rattle.ld_machine.specs.Step as Step
use Rattle.ld_safety.proofs.Lists.{Some_inj, not_none, In-append, any_in, cond_both}
use Rattle.ld_safety.proofs.Members.{find_in, In_filter}
use Rattle.ld_safety.proofs.ReaderLogs.{Apart}
use Rattle.ld_safety.proofs.Events.{NamesOnce}
use Rattle.ld_safety.proofs.Registers.{OnlyClosed, follows}
use Rattle.ld_safety.proofs.Joins.{counts_step, swap_or_kept, swap_readers}
use Rattle.ld_safety.proofs.Generations.{back_here}
use Rattle.ld_safety.proofs.LostReads.{SeenBy, ReadOn, read_on}
use Rattle.ld_safety.proofs.LostSeen.{AllShow, Shows, seen_shows, shows_later}
use Rattle.ld_safety.proofs.LostTalk.{TalkKeeps, talked, new_or_old, same_readers}
use Rattle.ld_safety.proofs.LostRounds.{wave_of, answer_to, found_in, posted_to, ask_parts, place_of}
use Rattle.ld_safety.proofs.LostAlong.{RoundsOf}
use Rattle.ld_safety.proofs.LostSince.{Since, SinceMsg, SinceReader}
use Rattle.ld_machine.specs.Calm as Calm
use Rattle.ld_machine.specs.Calm.{Move}

-- ---- the nodes that are held as lost ----
pub record HeldLost (s y g : ℕ) (hs : List (ℕ × Held)) : Type 0 where
  pub answer : ℕ × Held
  pub there : In answer hs
  pub node : answer.0 ≡ y
  pub number : ℕ
  pub round : ℕ
  pub end : ℕ
  pub is : answer.1.body ≡ bodies.LostHere number round g end
  pub same_epoch : home_epoch number ≡ home_epoch s

pair_parts : (a b c d : ℕ) → ◌≡◌ {A = ℕ × ℕ} (a, b) (c, d) → (a ≡ c) × (b ≡ d)
pair_parts a b c d e = (ap (λ (x : ℕ × ℕ). x.0) e, ap (λ (x : ℕ × ℕ). x.1) e)

only_pair : (a b c d : ℕ) → In {X = ℕ × ℕ} (a, b) ((c, d) ∷ []) → (a ≡ c) × (b ≡ d)
only_pair a b c d (inl e) = pair_parts a b c d e
only_pair a b c d (inr i) = absurd i

one_lost : (s y g : ℕ) (h : ℕ × Held) (hs : List (ℕ × Held)) (b : Body) → h.1.body ≡ b → In h hs → In (y, g) (lost_generation s h.0 b) → HeldLost s y g hs
one_lost s y g h hs (bodies.LostHere n u k end) e i v = cond_both (home_epoch n == home_epoch s) ((h.0, k) ∷ []) [] (λ z. In {X = ℕ × ℕ} (y, g) z → HeldLost s y g hs)
    (λ t j. let p = only_pair y g h.0 k j in record { answer = h; there = i; node = sym p.0; number = n; round = u; end = end; is = e ∙ ap (λ x. bodies.LostHere n u x end) (sym p.1); same_epoch = eqb-true _ _ t }) (λ t j. absurd j) v
one_lost s y g h hs _ e i j = absurd j

lost_among : (s y g : ℕ) (hs : List (ℕ × Held)) → In (y, g) (lost_held s hs) → HeldLost s y g hs
lost_among s y g [] i = absurd i
lost_among s y g (h ∷ hs) i = elim (In-append (y, g) (lost_generation s h.0 h.1.body) (lost_held s hs) i) [
  | inl a ↦ one_lost s y g h (h ∷ hs) h.1.body refl (inl refl) a
  | inr a ↦ let k = lost_among s y g hs a in record { answer = k.answer; there = inr k.there; node = k.node; number = k.number; round = k.round; end = k.end; is = k.is; same_epoch = k.same_epoch }
]

pub lost_in : (s y g : ℕ) (set : List ℕ) (hs : List (ℕ × Held)) → In (y, g) (lost_held s (within set hs)) → HeldLost s y g hs
lost_in s y g set hs i = let k = lost_among s y g (within set hs) i in record { answer = k.answer; there = (In_filter (λ (h : ℕ × Held). is_in h.0 set) k.answer hs k.there).0; node = k.node; number = k.number; round = k.round; end = k.end; is = k.is; same_epoch = k.same_epoch }

-- ---- a loss ----
one_positive : (s : ℕ) (b : Body) → is_lost_for s b ≡ true → (n : ℕ) × (u : ℕ) × (g : ℕ) × (end : ℕ) × (b ≡ bodies.LostHere n u g end) × (home_epoch n ≡ home_epoch s)
one_positive s (bodies.LostHere n u g end) h = (n, u, g, end, refl, eqb-true _ _ h)
one_positive s _ h = absurd cc

-- a number that is lost for what a reader holds is of an epoch from the first on
pub loss_positive : (w : World) → RoundsOf w → (t : List ℕ) (d : Reader) → find_named t w.state.readers ≡ Some d → (s : ℕ) (set : List ℕ) → is_loss s set d.held ≡ true → 0 < home_epoch s
unfolding is_loss
loss_positive w R t d f s set l =
    let hs = within set d.held in
    let p = and_parts (all_of (λ y. leaves_open s (find y d.held)) set && any_of (λ h. is_lost_for s h.1.body) hs) (any_of (λ h. knows_end_above s h.1.body) hs) l in
    let x = any_in (λ (h : ℕ × Held). is_lost_for s h.1.body) hs (and_parts (all_of (λ y. leaves_open s (find y d.held)) set) (any_of (λ h. is_lost_for s h.1.body) hs) p.0).1 in
    let i = (In_filter (λ (h : ℕ × Held). is_in h.0 set) x.0 d.held x.1).0 in
    let k = one_positive s x.0.1.body x.2 in
    subst (λ e. 0 < e) k.5 (R.positive (answer_to x.0.0 d x.0.1.body) d.number k.0 k.1 k.2 k.3 (R.held t d x.0 f i) refl k.4)

-- ---- what a confirmation comes from ----
module _ (c : Config) (s : State) where
  -- it lasted through the step
  pub record StillThere (t : List ℕ) (x : Reader) (v : Confirmation) : Type 0 where
    pub reader : Reader
    pub named : find_named t s.readers ≡ Some reader
    pub before : Confirmation
    pub was : reader.confirming ≡ Some before
    pub number : x.number ≡ reader.number
    pub log : x.log ≡ reader.log
    pub next : x.next ≡ reader.next
    pub round : v.round ≡ before.round
    pub asked : v.asked ≡ before.asked

  -- it begins in the step, which sends its asks
  pub record NewHere (ms : List Msg) (t : List ℕ) (x : Reader) (v : Confirmation) : Type 0 where
    pub reader : Reader
    pub named : find_named t s.readers ≡ Some reader
    pub number : x.number ≡ reader.number
    pub log : x.log ≡ reader.log
    pub round : v.round ≡ x.round
    pub higher : reader.round < v.round
    pub told : v.told ≡ []
    pub view : Option View
    pub came : SeenBy (looks_at c s.register reader.log) reader view
    pub seen : has_seen (home_epoch x.next) view ≡ true
    pub asked : v.asked ≡ lost_held x.next (within (seen_nodes view) x.held)
    pub loss : is_loss x.next (seen_nodes view) x.held ≡ true
    pub same : sees_swap view (looks_at c s.register reader.log (home_epoch x.next)) ≡ false
    pub now : x.seen ≡ Some (looks_at c s.register reader.log (home_epoch x.next))
    pub asks : (m : Msg) → In m ms → (y : ℕ) × (m.to ≡ whos.Node y) × (m.from ≡ whos.Reader x.number) × (m.log ≡ x.log) × (m.body ≡ bodies.ReadAsk v.round x.next)

  abbrev pub Came : List Msg → List (List ℕ × Reader) → Type 0
  Came ms ds = (t : List ℕ) (x : Reader) (v : Confirmation) → find_named t ds ≡ Some x → x.confirming ≡ Some v → StillThere t x v ⊎ NewHere ms t x v

  as_before : (t : List ℕ) (x : Reader) (v : Confirmation) → find_named t s.readers ≡ Some x → x.confirming ≡ Some v → StillThere t x v
  as_before t x v f h = record { reader = x; named = f; before = v; was = h; number = refl; log = refl; next = refl; round = refl; asked = refl }

  asks_new : (x : Reader) (v : Confirmation) (bs : List (ℕ × Body)) → ((b : ℕ × Body) → In b bs → b.1 ≡ bodies.ReadAsk v.round x.next) → (m : Msg) → In m (posted (whos.Reader x.number) x.log bs)
      → (y : ℕ) × (m.to ≡ whos.Node y) × (m.from ≡ whos.Reader x.number) × (m.log ≡ x.log) × (m.body ≡ bodies.ReadAsk v.round x.next)
  asks_new x v bs h m i = let p = posted_to (whos.Reader x.number) x.log bs m i in
      (p.0.0, ap (λ (y : Msg). y.to) p.2, ap (λ (y : Msg). y.from) p.2, ap (λ (y : Msg). y.log) p.2, ap (λ (y : Msg). y.body) p.2 ∙ h p.0 p.1)

  reads_came : (name : List ℕ) (d : Reader) (y : ℕ) (b : Body) → find_named name s.readers ≡ Some d → ReadOn (looks_at c s.register d.log) d y b (on_answer (looks_at c s.register d.log) d y b)
      → Came (posted (whos.Reader (on_answer (looks_at c s.register d.log) d y b).reader.number) (on_answer (looks_at c s.register d.log) d y b).reader.log (on_answer (looks_at c s.register d.log) d y b).asks) (put_named name (on_answer (looks_at c s.register d.log) d y b).reader s.readers)
  reads_came name d y b F G t x v f h = let a = on_answer (looks_at c s.register d.log) d y b in elim (found_in t name a.reader x s.readers f) [
    | inl q ↦ subst (λ (z : Reader). StillThere t z v ⊎ NewHere (posted (whos.Reader a.reader.number) a.reader.log a.asks) t z v) q.1 (elim (G.confirming v (subst (λ (z : Reader). z.confirming ≡ Some v) (sym q.1) h)) [
      | inl o ↦ inl (record { reader = d; named = subst (λ z. find_named z s.readers ≡ Some d) (sym q.0) F; before = o.before; was = o.was; number = G.number; log = G.log; next = o.next; round = o.round; asked = o.asked })
      | inr n ↦ inr (record {
        reader = d;
        named = subst (λ z. find_named z s.readers ≡ Some d) (sym q.0) F;
        number = G.number;
        log = G.log;
        round = n.round;
        higher = n.higher;
        told = n.told;
        view = n.view;
        came = n.came;
        seen = n.seen;
        asked = n.asked;
        loss = n.loss;
        same = n.same;
        now = n.now;
        asks = asks_new a.reader v a.asks n.asks;
      })
    ])
    | inr q ↦ inl (as_before t x v q.1 h)
  ]

  unconfirming : (ms : List Msg) (name : List ℕ) (z : Reader) → z.confirming ≡ None → Came ms (put_named name z s.readers)
  unconfirming ms name z n t x v f h = elim (found_in t name z x s.readers f) [
    | inl q ↦ absurd (not_none (sym n ∙ subst (λ (y : Reader). y.confirming ≡ Some v) (sym q.1) h))
    | inr q ↦ inl (as_before t x v q.1 h)
  ]

  came_talk : (e : Move) → TalkKeeps c s e Came
  came_talk e = record {
    quiet = λ t x v f h. inl (as_before t x v f h);
    elsewhere = λ ms k t x v f h. inl (as_before t x v f h);
    answers = λ n m b i q u a t x v f h. inl (as_before t x v f h);
    reads = λ name d m i t v. reads_came name d (Step.sender_node m.from) m.body v.named (read_on (looks_at c s.register d.log) d (Step.sender_node m.from) m.body v.open_still);
    polls = λ name d v. unconfirming _ name (polled (looks_at c s.register d.log) d) refl;
    opens = λ style name l from until o. unconfirming [] name (opened style l (length s.readers) from until) refl;
  }

pub came : (c : Config) (w : World) (e : Move) → NamesOnce w.state → Came c w.state (Calm.moves c w.state e).sends (after_step c w e).state.readers
came c w e N = subst (λ (ds : List (List ℕ × Reader)). Came c w.state (Calm.moves c w.state e).sends ds) (sym (same_readers (Calm.moves c w.state e))) (talked c w.state e (Came c w.state) (came_talk c w.state e) N).talk

-- ---- a new one, at its moment ----
module _ (c : Config) (w : World) (e : Move) (N : NamesOnce w.state) (A : Apart w.state.network.sent w.state.readers) (R : RoundsOf w)
    (B : Apart (after_step c w e).state.network.sent (after_step c w e).state.readers) (Q : RoundsOf (after_step c w e))
    (t : List ℕ) (x : Reader) (v : Confirmation) (f : find_named t (after_step c w e).state.readers ≡ Some x) (h : x.confirming ≡ Some v) (n : NewHere c w.state (Calm.moves c w.state e).sends t x v) where
  after : World
  after = after_step c w e

  old_msg : (m : Msg) → Sent w m → SinceMsg (after_step c w e) x.number x.log x.next v.round v.asked m
  old_msg m i = record {
    log = λ q. sym (A.logs m x.number t n.reader i q n.named (sym n.number)) ∙ sym n.log;
    ask = λ q k b. absurd (let a = (R.waves m x.number t n.reader i (inr q) n.named (sym n.number)).wave in let u = (ask_parts m.body v.round k b).0 in let z = n.higher in omega arith);
    answer = λ q k g end b u. absurd (let a = (R.waves m x.number t n.reader i (inl q) n.named (sym n.number)).wave in let y : wave_of m.body ≡ v.round = ap wave_of b in let z = n.higher in omega arith);
  }

  new_msg : (m : Msg) → In m (Calm.moves c w.state e).sends → SinceMsg (after_step c w e) x.number x.log x.next v.round v.asked m
  new_msg m i = let k = n.asks m i in record {
    log = λ q. k.3;
    ask = λ q j b. sym (ask_parts m.body v.round j b).1 ∙ ap place_of k.4;
    answer = λ q j g end b u. absurd (let z : whos.Node k.0 ≡ whos.Reader x.number = sym k.1 ∙ q in cc);
  }

  asked_drawn : (z g : ℕ) → find z v.asked ≡ Some g → g ≤ generation_of (after_step c w e).state.register z
  asked_drawn z g q = let o = lost_in x.next z g (seen_nodes n.view) x.held (find_in z _ g (subst (λ (k : List (ℕ × ℕ)). find z k ≡ Some g) n.asked q)) in
      subst (λ y. g ≤ generation_of (after_step c w e).state.register y) o.node
      (Q.generations (answer_to o.answer.0 x o.answer.1.body) x.number o.number o.round g o.end (Q.held t x o.answer f o.there) refl o.is)

  not_not : (b : Bool) → not b ≡ false → b ≡ true
  not_not true q = refl
  not_not false q = absurd cc

  -- a step in which a confirmation begins swaps nothing
  still : (l : ℕ) → (epochs_of (Calm.moves c w.state e).state.register l).swaps ≡ (epochs_of w.state.register l).swaps
  still l = elim (swap_or_kept c w.state e N) [
    | inl a ↦ (a l).swaps
    | inr k ↦ absurd (let g : find_named t w.state.readers ≡ Some x = ap (find_named t) (sym (swap_readers c w.state k.node k.other k.log)) ∙ (ap (λ v. find_named t (Calm.moves c w.state v).state.readers) (sym k.event) ∙ (ap (find_named t) (sym (same_readers (Calm.moves c w.state e))) ∙ f)) in
        let y = ap (λ (z : Reader). z.round) (Some_inj (sym n.named ∙ g)) in let a = n.round in let b = n.higher in omega arith)
  ]

  -- the nodes that the last look showed are those of the number's epoch
  pub new_set : OnlyClosed w.state.register → AllShow c w.state.register w.state.readers → (0 < home_epoch x.next) × (home_epoch x.next ≤ (epochs_of (after_step c w e).state.register x.log).epoch) × (seen_nodes n.view ≡ set_at c (after_step c w e).state.register x.log (home_epoch x.next))
  unfolding finish look
  new_set O S =
      let p : 0 < home_epoch x.next = loss_positive (after_step c w e) Q t x f x.next (seen_nodes n.view) n.loss in
      let u = follows c w.state e N O in
      let k : Shows c (after_step c w e).state.register n.reader.log n.view = shows_later c w.state.register (after_step c w e).state.register n.reader.log n.view u.0 (counts_step c w.state e N u.0 n.reader.log) (seen_shows c w.state.register n.reader n.view (S t n.reader n.named) n.came) in
      let h : Shows c (after_step c w e).state.register x.log n.view = subst (λ l. Shows c (after_step c w e).state.register l n.view) (sym n.log) k in
      (p, h.epoch (home_epoch x.next) n.seen, h.nodes (home_epoch x.next) p n.seen (equal n.view n.same ∙ (sym (still n.reader.log) ∙ ap (λ l. (epochs_of (Calm.moves c w.state e).state.register l).swaps) (sym n.log)))) where
        equal : (o : Option View) → sees_swap o (looks_at c w.state.register n.reader.log (home_epoch x.next)) ≡ false → shown_swaps o ≡ (epochs_of w.state.register n.reader.log).swaps
        equal o q = eqb-true _ _ (not_not (shown_swaps o == (epochs_of w.state.register n.reader.log).swaps) q)

  -- its last look showed the count of swaps as it is
  pub new_equal : shown_swaps x.seen ≡ (epochs_of (after_step c w e).state.register x.log).swaps
  unfolding finish look
  new_equal = ap shown_swaps n.now ∙ sym (ap (λ l. (epochs_of (Calm.moves c w.state e).state.register l).swaps) n.log ∙ still n.reader.log)

  pub since_new : Since (after_step c w e) x.number x.log x.next v.round v.asked (after_step c w e)
  since_new = record {
    back = back_here (after_step c w e);
    drawn = asked_drawn;
    talk = record {
      sent = λ m i. elim (new_or_old c w.state e m (talked c w.state e (Came c w.state) (came_talk c w.state e) N).same i) [ inl o ↦ old_msg m o | inr o ↦ new_msg m o ];
      there = record { name = t; reader = x; named = f; number = refl };
      readers = λ u z g q. let k : u ≡ t = B.once u t z x g f q in let y : x ≡ z = Some_inj (sym f ∙ subst (λ j. find_named j (after_step c w e).state.readers ≡ Some z) k g) in
          subst (SinceReader (after_step c w e) x.number x.log x.next v.round v.asked) y (record {
            log = refl;
            up = (let a = n.round in omega arith);
            confirming = λ p j b. let a : v ≡ p = Some_inj (sym h ∙ j) in record { same = ap (λ (o : Confirmation). o.asked) (sym a); next = refl; told = λ i o. absurd (none_told i (subst (λ (xs : List ℕ). is_in i xs ≡ true) n.told (subst (λ (k : Confirmation). is_in i k.told ≡ true) (sym a) o))) };
          });
    };
  } where
    none_told : (i : ℕ) → is_in i [] ≡ true → ⊥
    none_told i o = cc
