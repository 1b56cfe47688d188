-- Readers that have seen each swap: clean pages that they may hold are of after it, so a node that took a place in their epoch shows each number in them.
use Rattle.std.proofs.Common.{◌≡◌, ◌∙◌, ◌⊎◌, ◌≤◌, ◌<◌, ℕ, inl, inr, refl, ap, sym, subst, true, List, [], ◌∷◌, length, Some, None, is_some, arith, map, Bool}
use Rattle.ld_table.specs.Named.{find_named, put_named}
use Rattle.ld_lsn.specs.Number.{home_epoch}
use Rattle.ld_config.specs.declared.config.Config.{Config}
use Rattle.ld_msg.specs.declared.msg.Msg.{Msg}
use Rattle.ld_msg.specs.declared.msg.Who.{Who}
use Rattle.ld_msg.specs.declared.msg.Who.TheVariants as whos
use Rattle.ld_msg.specs.declared.msg.Entry.{Entry}
use Rattle.ld_msg.specs.declared.msg.Body.{Body}
use Rattle.ld_msg.specs.declared.msg.Body.TheVariants as bodies
use Rattle.ld_msg.specs.Register.{Register, epochs_of}
use Rattle.ld_msg.specs.Reading.{entry_at}
use Rattle.ld_msg.specs.Reader.{Reader, opened, polled, on_answer, poll_asks, round_of, shown_swaps}
use Rattle.ld_op.specs.Plain.{Plain, log_of}
use Rattle.ld_op.specs.Answers.{read_answer, withheld_in, withheld}
use Rattle.ld_machine.specs.Config.{looks_at}
use Rattle.ld_machine.specs.Disk.{Node}
use Rattle.ld_machine.specs.State.{finish, node_at, posted}
use Rattle.ld_machine.specs.Facts.{Happened}
use Rattle.ld_machine.specs.World.{World, Joined, In, Sent, MayHold, begin}
use Rattle.ld_machine.specs.Run.{after_step}
use Rattle.ld_machine.specs.Step as Step
use Rattle.ld_safety.proofs.Lists.{not_none, only}
use Rattle.ld_safety.proofs.Traces.{Keeps, beside_kept}
use Rattle.ld_safety.proofs.Events.{NamesOnce, Serves}
use Rattle.ld_safety.proofs.NodeSteps.{read_answered}
use Rattle.ld_safety.proofs.Registers.{OnlyClosed, follows}
use Rattle.ld_safety.proofs.ReaderLogs.{Apart}
use Rattle.ld_safety.proofs.Joins.{Joins, joins_back, counts_step}
use Rattle.ld_safety.proofs.LostTalk.{TalkKeeps, talked, new_or_old, same_readers}
use Rattle.ld_safety.proofs.LostRounds.{wave_of, found_in, posted_to, ask_answered}
use Rattle.ld_safety.proofs.LostReads.{AllFrom, FreshOf, polled_fresh, polled_held, read_on}
use Rattle.ld_safety.proofs.LostSeen.{AllShow}
use Rattle.ld_safety.proofs.LostAlong.{RoundsOf}
use Rattle.ld_safety.proofs.LostPages.{CleanKept, joined_shown}
use Rattle.ld_safety.proofs.LostShown.{Shown, shown_kept}
use Rattle.ld_msg.specs.declared.style.Style.{Style}
use Rattle.ld_safety.proofs.Withheld.{still_there}
use Rattle.ld_machine.specs.Calm as Calm
use Rattle.ld_machine.specs.Calm.{Move}

-- a clean page of a node that took a place in its epoch has each number that it covers
abbrev pub PageRight : List Joined → ℕ → ℕ → Body → Type 0
PageRight js y l b = (u from upto : ℕ) (es : List Entry) → b ≡ bodies.ReadPage u from upto true es → (s : ℕ) → from ≤ s → s ≤ upto → Joins js l (home_epoch from) y → is_some (entry_at s es) ≡ true

abbrev pub Right : List Joined → Msg → Type 0
Right js m = PageRight js (Step.sender_node m.from) m.log m.body

-- so is each that a reader may hold which has seen each swap of its log
pub record FreshAt (js : List Joined) (S : Msg → Type 0) (r : Register) (d : Reader) : Type 0 where
  pub right : shown_swaps d.seen ≡ (epochs_of r d.log).swaps → (m : Msg) → S m → m.to ≡ whos.Reader d.number → d.least ≤ round_of m.body → Right js m
  pub held : AllFrom d.least d.held

abbrev pub AllFresh : World → Type 0
AllFresh w = (t : List ℕ) (d : Reader) → find_named t w.state.readers ≡ Some d → FreshAt w.joined (Sent w) w.state.register d

module _ (c : Config) (w : World) (v : Move) (N : NamesOnce w.state) (O : OnlyClosed w.state.register) (K : CleanKept c w) (up : (n l : ℕ) → Serves c w.state n l → ((node_at w.state n).cut ≡ None) × (0 < (node_at w.state n).plain.generation)) (R : RoundsOf w)
    (A : Apart w.state.network.sent w.state.readers) (S : AllShow c w.state.register w.state.readers) (F : AllFresh w) where
  abbrev js : List Joined
  js = (after_step c w v).joined

  abbrev n : Register
  n = (after_step c w v).state.register

  -- ---- an answer of this step ----
  same_right : (y l u f k from upto : ℕ) (es xs : List Entry) → bodies.ReadPage u f k true es ≡ bodies.ReadPage u from upto true xs → ((s : ℕ) → f ≤ s → s ≤ k → Joins w.joined l (home_epoch f) y → is_some (entry_at s es) ≡ true)
      → (s : ℕ) → from ≤ s → s ≤ upto → Joins w.joined l (home_epoch from) y → is_some (entry_at s xs) ≡ true
  same_right y l u f k from upto es xs q P = let a : f ≡ from = cc in let b : k ≡ upto = cc in let d : es ≡ xs = cc in
      subst (λ z. (s : ℕ) → from ≤ s → s ≤ upto → Joins w.joined l (home_epoch from) y → is_some (entry_at s z) ≡ true) d
      (subst (λ z. (s : ℕ) → from ≤ s → s ≤ z → Joins w.joined l (home_epoch from) y → is_some (entry_at s es) ≡ true) b
      (subst (λ z. (s : ℕ) → z ≤ s → s ≤ k → Joins w.joined l (home_epoch z) y → is_some (entry_at s es) ≡ true) a P))

  read_right : (y l released round from : ℕ) → Serves c w.state y l → PageRight w.joined y l (read_answer (node_at w.state y).plain.generation (log_of (node_at w.state y).plain l) released round from)
  read_right y l released round from T = let x : Node = node_at w.state y in let p : Plain = (node_at w.state y).plain in let u = up y l T in read_answered p.generation (log_of p l) released round from (PageRight w.joined y l) (record {
    trimmed = λ a i f k es q. absurd cc;
    ended = λ z a h k i f m es q. absurd cc;
    lost_clean = λ z a h k t i f m es q. absurd cc;
    lost = λ a h t i f k es q. absurd cc;
    clean = λ z a h k t i f m es q. same_right y l i from _ f m _ es (q_round q) (joined_shown c w K y l p (inl refl) u.1 (λ z. only_plain x u.0 z) from z a h k t);
    open_page = λ a h t k i f m es q. absurd cc;
    waits = λ a i f k es q. absurd cc;
  }) where
    q_round : {a i f k m j : ℕ} {es xs : List Entry} → bodies.ReadPage a f k true es ≡ bodies.ReadPage i m j true xs → bodies.ReadPage i f k true es ≡ bodies.ReadPage i m j true xs
    q_round q = cc

    only_plain : (x : Node) → x.cut ≡ None → (z : Plain) → MayHold x z → z ≡ x.plain
    only_plain x h z (inl q) = q
    only_plain x h z (inr q) = absurd (not_none (sym h ∙ q.1))

  one_right : (y : ℕ) (set excluded : List Bool) (l : ℕ) (b : Body) → PageRight w.joined y l b → PageRight w.joined y l (withheld_in y set excluded b)
  one_right y set excluded l (bodies.ReadPage round f k clean es) h = λ u from upto xs e s lo hi j.
      let c : clean ≡ true = cc in let a : f ≡ from = cc in let d : k ≡ upto = cc in let p : map (withheld y set excluded) es ≡ xs = cc in
      ap (λ z. is_some (entry_at s z)) (sym p) ∙ (still_there y set excluded s es ∙ h round f k es (ap (λ z. bodies.ReadPage round f k z es) c) s (omega arith) (omega arith) (subst (λ z. Joins w.joined l (home_epoch z) y) (sym a) j))
  one_right y set excluded l _ h = h

  answer_right : (y : ℕ) (m : Msg) (x : Body) → In m w.state.network.sent → Serves c w.state y m.log → (Step.node_handles y (node_at w.state y) m).answer ≡ Some x → (r : ℕ) → m.from ≡ whos.Reader r → PageRight w.joined y m.log x
  answer_right y m x i T a r t = let q = R.asks m r i t in let p : Plain = (node_at w.state y).plain in
      ask_answered y p.generation (log_of p m.log) m.log _ (Step.released_at (node_at w.state y) m.log) m.body x q (PageRight w.joined y m.log) a (read_right y m.log (Step.released_at (node_at w.state y) m.log) q.round q.from T) (λ set excluded z k. one_right y set excluded m.log z k)

  -- ---- what was sent before ----
  right_on : (y l : ℕ) (b : Body) → (epochs_of (after_step c w v).state.register l).swaps ≡ (epochs_of w.state.register l).swaps → PageRight w.joined y l b → PageRight (after_step c w v).joined y l b
  right_on y l b q h u from upto es k s lo hi j = h u from upto es k s lo hi (joins_back c w v N l (home_epoch from) y q j)

  rises : (l : ℕ) → (epochs_of w.state.register l).swaps ≤ (epochs_of (after_step c w v).state.register l).swaps
  unfolding finish
  rises l = (counts_step c w.state v N (follows c w.state v N O).0 l).rises

  -- a reader that has seen each swap saw each before
  record Seen (d : Reader) : Type 0 where
    before : shown_swaps d.seen ≡ (epochs_of w.state.register d.log).swaps
    same : (epochs_of (after_step c w v).state.register d.log).swaps ≡ (epochs_of w.state.register d.log).swaps

  seen_all : (t : List ℕ) (d : Reader) → find_named t w.state.readers ≡ Some d → shown_swaps d.seen ≡ (epochs_of (after_step c w v).state.register d.log).swaps → Seen d
  seen_all t d f q = let a = (S t d f).count in let b = rises d.log in record { before = omega arith; same = omega arith }

  old_right : (t : List ℕ) (d x : Reader) → find_named t w.state.readers ≡ Some d → x.number ≡ d.number → x.log ≡ d.log → FreshOf d x.seen x.least → shown_swaps x.seen ≡ (epochs_of (after_step c w v).state.register x.log).swaps
      → (m : Msg) → In m w.state.network.sent → m.to ≡ whos.Reader x.number → x.least ≤ round_of m.body → Right (after_step c w v).joined m
  old_right t d x f number log (inl z) q m i to le u from upto es b s lo hi j =
      let o : m.to ≡ whos.Reader d.number = to ∙ ap whos.Reader number in
      let e : shown_swaps d.seen ≡ (epochs_of (after_step c w v).state.register d.log).swaps = sym z.0 ∙ (q ∙ ap (λ l. (epochs_of (after_step c w v).state.register l).swaps) log) in
      let k = seen_all t d f e in
      right_on (Step.sender_node m.from) m.log m.body (subst (λ l. (epochs_of (after_step c w v).state.register l).swaps ≡ (epochs_of w.state.register l).swaps) (A.logs m d.number t d i (inl o) f refl) k.same)
      ((F t d f).right k.before m i o (let a = z.1 in omega arith)) u from upto es b s lo hi j
  old_right t d x f number log (inr z) q m i to le u from upto es b s lo hi j = absurd (
      let a = (R.waves m d.number t d i (inl (to ∙ ap whos.Reader number)) f refl).wave in
      let p : wave_of m.body ≡ u = ap wave_of b in let g : round_of m.body ≡ u = ap round_of b in omega arith)

  -- ---- every step ----
  abbrev Talk : List Msg → List (List ℕ × Reader) → Type 0
  Talk ms ds = (t : List ℕ) (d : Reader) → find_named t ds ≡ Some d → FreshAt (after_step c w v).joined (λ m. In m w.state.network.sent ⊎ In m ms) (after_step c w v).state.register d

  still : (ms : List Msg) → ((t : List ℕ) (d : Reader) → find_named t w.state.readers ≡ Some d → shown_swaps d.seen ≡ (epochs_of (after_step c w v).state.register d.log).swaps → (m : Msg) → In m ms → m.to ≡ whos.Reader d.number → Right (after_step c w v).joined m) → Talk ms w.state.readers
  still ms h t d f = record {
    right = λ q m o to le. elim o [ inl i ↦ old_right t d d f refl refl (inl (refl, omega arith)) q m i to le | inr i ↦ h t d f q m i to ];
    held = (F t d f).held;
  }

  going : (name : List ℕ) (d x : Reader) (ms : List Msg) → find_named name w.state.readers ≡ Some d → x.number ≡ d.number → x.log ≡ d.log → FreshOf d x.seen x.least → AllFrom x.least x.held → ((m : Msg) (r : ℕ) → In m ms → m.to ≡ whos.Reader r → ⊥) → Talk ms (put_named name x w.state.readers)
  going name d x ms f number log fresh held none t z g = elim (found_in t name x z w.state.readers g) [
    | inl a ↦ subst (FreshAt (after_step c w v).joined (λ m. In m w.state.network.sent ⊎ In m ms) (after_step c w v).state.register) a.1 (record {
      right = λ q m o to le. elim o [ inl i ↦ old_right name d x f number log fresh q m i to le | inr i ↦ absurd (none m x.number i to) ];
      held = held;
    })
    | inr a ↦ still ms (λ t d f q m i to. absurd (none m d.number i to)) t z a.1
  ]

  new_one : (style : Style) (name : List ℕ) (l from until : ℕ) → Talk [] (put_named name (opened style l (length w.state.readers) from until) w.state.readers)
  new_one style name l from until t z g = elim (found_in t name (opened style l (length w.state.readers) from until) z w.state.readers g) [
    | inl a ↦ subst (FreshAt (after_step c w v).joined (λ m. In m w.state.network.sent ⊎ In m []) (after_step c w v).state.register) a.1 (record {
      right = λ q m o to le. elim o [ inl i ↦ absurd (let k = A.known m (length w.state.readers) i (inl to) in omega arith) | inr i ↦ absurd i ];
      held = λ h i. absurd i;
    })
    | inr a ↦ still [] (λ t d f q m i to. absurd i) t z a.1
  ]

  to_nodes : (who : Who) (l : ℕ) (bs : List (ℕ × Body)) (m : Msg) (r : ℕ) → In m (posted who l bs) → m.to ≡ whos.Reader r → ⊥
  to_nodes who l bs m r i t = let p = posted_to who l bs m i in let z : whos.Node p.0.0 ≡ whos.Reader r = sym (ap (λ (y : Msg). y.to) p.2) ∙ t in cc

  answered : (y : ℕ) (m : Msg) (x : Body) → In m w.state.network.sent → Serves c w.state y m.log → (Step.node_handles y (node_at w.state y) m).answer ≡ Some x → Talk (record { from = whos.Node y; to = m.from; log = m.log; body = x } ∷ []) w.state.readers
  answered y m x i T a = still (record { from = whos.Node y; to = m.from; log = m.log; body = x } ∷ []) (λ t d f q k j to. let e = only k _ j in
      let r : m.from ≡ whos.Reader d.number = sym (ap (λ (z : Msg). z.to) e) ∙ to in
      let o = seen_all t d f q in
      subst (Right (after_step c w v).joined) (sym e) (right_on y m.log x (subst (λ l. (epochs_of (after_step c w v).state.register l).swaps ≡ (epochs_of w.state.register l).swaps) (A.logs m d.number t d i (inr r) f refl) o.same) (answer_right y m x i T a d.number r)))

  fresh_talk : TalkKeeps c w.state v Talk
  fresh_talk = record {
    quiet = still [] (λ t d f q m i to. absurd i);
    elsewhere = λ ms h. still ms (λ t d f q m i to. absurd (let z : whos.Node (h m i).node ≡ whos.Reader d.number = sym (h m i).to ∙ to in cc));
    answers = λ y m x i t T a. answered y m x i T a;
    reads = λ name d m i t u. let G = read_on (looks_at c w.state.register d.log) d (Step.sender_node m.from) m.body u.open_still in let a = on_answer (looks_at c w.state.register d.log) d (Step.sender_node m.from) m.body in
        going name d a.reader _ u.named G.number G.log G.fresh (G.held_least (F name d u.named).held) (to_nodes (whos.Reader a.reader.number) a.reader.log a.asks);
    polls = λ name d u. let x = polled (looks_at c w.state.register d.log) d in going name d x _ u.named refl refl (polled_fresh (looks_at c w.state.register d.log) d) (polled_held (looks_at c w.state.register d.log) d (F name d u.named).held) (to_nodes (whos.Reader d.number) d.log (poll_asks (looks_at c w.state.register d.log) d));
    opens = λ style name l from until o. new_one style name l from until;
  }

  pub fresh_step : AllFresh (after_step c w v)
  fresh_step t d f = let k = talked c w.state v Talk fresh_talk N in
      let h = k.talk t d (subst (λ (ds : List (List ℕ × Reader)). find_named t ds ≡ Some d) (same_readers (Calm.moves c w.state v)) f) in record {
        right = λ q m i to le. h.right q m (new_or_old c w.state v m k.same i) to le;
        held = h.held;
      }

start_fresh : (c : Config) → AllFresh (begin c)
unfolding find_named
start_fresh c t d f = absurd (not_none f)

-- ---- along a run ----
module _ (c : Config) (Q : List Happened → World → Type 0) (C : (hs : List Happened) (w : World) → Q hs w → CleanKept c w) where
  abbrev pub Seeing : List Happened → World → Type 0
  Seeing hs w = Shown c Q C hs w × AllFresh w

  pub seeing_kept : Keeps c Q → Keeps c Seeing
  seeing_kept K = beside_kept c (Shown c Q C) (λ hs w. AllFresh w) (shown_kept c Q C K) (start_fresh c)
      (λ hs w v T H F. let G = T.0 in fresh_step c w v G.0.0.0.0.0 T.1.0 (C hs w G.0.1) (λ n l S. (G.1.1.1 n l).up S.up) G.0.0.1.1 G.0.0.0.1.1 G.0.0.1.0.1 F)
