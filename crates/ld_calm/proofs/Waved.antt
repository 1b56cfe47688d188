-- While a confirmation lasts, each message of its round is for the reader's next number, and to or from a node that it asks.
use Rattle.std.proofs.Common.{◌≡◌, ◌∙◌, ℕ, ◌+◌, inl, inr, refl, ap, sym, subst, Bool, true, false, if◌then◌else◌, List, [], ◌∷◌, length, Some, None, is_some, arith}
use Rattle.std.proofs.lemmas.Bool.{eq-eqb}
use Rattle.ld_table.specs.Table.{find}
use Rattle.std.proofs.Common.{nat_cmp}
use Rattle.std.specs.BTreeMap.{is_at}
use Rattle.ld_table.proofs.Laws.{tied}
use Rattle.ld_table.specs.Named.{same, find_named, put_named}
use Rattle.ld_config.specs.declared.config.Config.{Config}
use Rattle.ld_msg.specs.declared.msg.Msg.{Msg}
use Rattle.ld_msg.specs.declared.msg.Who.{Who}
use Rattle.ld_msg.specs.declared.msg.Who.TheVariants as whos
use Rattle.ld_msg.specs.declared.msg.Body.{Body}
use Rattle.ld_msg.specs.declared.msg.Body.TheVariants as bodies
use Rattle.ld_msg.specs.Register.{View}
use Rattle.ld_msg.specs.Reader.{Reader, Confirmation, Read, opened, polled, poll_asks, on_answer, confirms, sees_swap, look_of, start_asks, asks_of, asks_with, keys}
use Rattle.ld_machine.specs.Config.{looks_at}
use Rattle.ld_op.specs.Plain.{log_of}
use Rattle.ld_machine.specs.State.{node_at, posted}
use Rattle.ld_machine.specs.World.{World, In}
use Rattle.ld_machine.specs.Run.{after_step}
use Rattle.ld_machine.specs.Step as Step
use Rattle.ld_machine.specs.Calm as Calm
use Rattle.ld_machine.specs.Calm.{Move}
use Rattle.ld_safety.proofs.Lists.{Some_inj, not_none, only, cond_both, not_both}
use Rattle.ld_safety.proofs.Traces.{Keeps, beside_kept}
use Rattle.ld_safety.proofs.Events.{NamesOnce}
use Rattle.ld_safety.proofs.ReaderLogs.{Apart, Concerns}
use Rattle.ld_safety.proofs.ReaderSteps.{answered}
use Rattle.ld_safety.proofs.LostReads.{ReadOn, read_on}
use Rattle.ld_safety.proofs.LostTalk.{Elsewhere, TalkKeeps, talked, new_or_old, same_readers}
use Rattle.ld_safety.proofs.LostRounds.{wave_of, place_of, IsAsk, ask_answer, ask_parts, found_in, not_same, posted_to}
use Rattle.ld_safety.proofs.LostAlong.{RoundsOf, Asked, asked_kept}

-- the node of a message to or from a reader
abbrev pub node_of : Who → Who → ℕ
node_of (whos.Reader r) (whos.Node n) = n
node_of from to = Step.sender_node from

-- of the confirmation's round
pub record InWave (d : Reader) (v : Confirmation) (m : Msg) : Type 0 where
  pub place : place_of m.body ≡ d.next
  pub asked : is_some (find (node_of m.from m.to) v.asked) ≡ true

abbrev pub WavedBy : List Msg → Reader → Type 0
WavedBy ms d = (v : Confirmation) → d.confirming ≡ Some v → (m : Msg) → In m ms → Concerns m d.number → wave_of m.body ≡ v.round → InWave d v m

abbrev pub Waved : List Msg → List (List ℕ × Reader) → Type 0
Waved ms ds = (t : List ℕ) (d : Reader) → find_named t ds ≡ Some d → WavedBy ms d

-- ---- the asks of a confirmation go to the nodes that it asks ----

-- as long as nothing but a confirmation asked
abbrev AsksAsked : Read → Type 0
AsksAsked a = (v : Confirmation) → a.reader.confirming ≡ Some v → (x : ℕ × Body) → In x a.asks → is_some (find x.0 v.asked) ≡ true

asks_keys : (b : Body) (ks : List (ℕ × ℕ)) (x : ℕ × Body) → In x (asks_with b (keys ks)) → is_some (find x.0 ks) ≡ true
unfolding find
asks_keys b [] x i = absurd i
asks_keys b (k ∷ ks) x i = cond_both (is_at (nat_cmp x.0) k.0) (Some k.1) (find x.0 ks) (λ o. is_some o ≡ true) (λ t. refl) (λ t. elim i [
  | inl e ↦ absurd (let at : is_at (nat_cmp k.0) k.0 ≡ true = tied k.0 k.0 ∙ eq-eqb k.0 k.0 refl in not_both (is_at (nat_cmp k.0) k.0) at (subst (λ (z : ℕ × Body). is_at (nat_cmp z.0) k.0 ≡ false) e t))
  | inr j ↦ asks_keys b ks x j
])

confirms_asked : (looks : ℕ → View) (a : Read) (lost : List (ℕ × ℕ)) → AsksAsked (confirms looks a lost)
confirms_asked looks a lost v e x i = by_swap (sees_swap a.reader.seen (look_of looks a.reader)) e i where
  by_swap : (t : Bool) → (if t then None else Some (record { round = a.reader.round + 1; asked = lost; told = [] })) ≡ Some v → In x (if t then start_asks false looks a.reader else asks_of (a.reader.round + 1) a.reader.next (keys lost)) → is_some (find x.0 v.asked) ≡ true
  by_swap true h j = absurd (not_none h)
  by_swap false h j = subst (λ (k : Confirmation). is_some (find x.0 k.asked) ≡ true) (Some_inj h) (asks_keys (bodies.ReadAsk (a.reader.round + 1) a.reader.next) lost x j)

answer_asks : (looks : ℕ → View) (d : Reader) (y : ℕ) (b : Body) → AsksAsked (on_answer looks d y b)
answer_asks looks d y b = answered looks d y b AsksAsked (record {
  starts = λ v q x i. absurd i;
  ignored = λ t v q x i. absurd i;
  loss = λ t u v q x i. absurd i;
  swapped = λ t u v q. absurd (not_none q);
  trim = λ a i f l v q. absurd (not_none q);
  record_there = λ a p i f l v q. absurd (not_none q);
  hole_there = λ a i f l v q. absurd (not_none q);
  plug = λ a i f l v q. absurd (not_none q);
  bridge = λ a i f l v q. absurd (not_none q);
  lossy_end = λ a i f l v q. absurd (not_none q);
  confirm = λ a i f m l. confirms_asked looks a _;
  asks_all = λ a i f v q. absurd (not_none q);
  polls_on = λ a i f v q. absurd (not_none q);
})

-- ---- one step ----
module _ (c : Config) (w : World) (e : Move) (A : Apart w.state.network.sent w.state.readers) (R : RoundsOf w) (P : Waved w.state.network.sent w.state.readers) where
  abbrev Now : List Msg → List (List ℕ × Reader) → Type 0
  Now ms ds = Waved w.state.network.sent ds × Waved ms ds

  elsewhere_waved : (m : Msg) → Elsewhere m → (r : ℕ) → Concerns m r → ⊥
  elsewhere_waved m h r (inl a) = (let z : whos.Node h.node ≡ whos.Reader r = sym h.to ∙ a in cc)
  elsewhere_waved m h r (inr a) = h.whose r a

  -- a node's answer is of the ask's round, for its number
  answer_waved : (n : ℕ) (m : Msg) (x : Body) → In m w.state.network.sent → m.to ≡ whos.Node n → (Step.node_handles n (node_at w.state n) m).answer ≡ Some x → Waved (record { from = whos.Node n; to = m.from; log = m.log; body = x } ∷ []) w.state.readers
  answer_waved n m x i t h name d f v q k j o u = subst (InWave d v) (sym (only k _ j)) (elim o [ inl a ↦ came (sym (ap (λ (z : Msg). z.to) (only k _ j)) ∙ a) | inr a ↦ absurd (not_reader (sym (ap (λ (z : Msg). z.from) (only k _ j)) ∙ a)) ]) where
    not_reader : whos.Node n ≡ whos.Reader d.number → ⊥
    not_reader z = cc

    came : m.from ≡ whos.Reader d.number → InWave d v (record { from = whos.Node n; to = m.from; log = m.log; body = x })
    came g =
        let a : IsAsk m.body = R.asks m d.number i g in
        let y = ask_answer n (node_at w.state n).plain.generation (log_of (node_at w.state n).plain m.log) m.log _ _ m.body x a h in
        let p = ask_parts m.body a.round a.from a.is in
        let now : wave_of x ≡ v.round = sym (ap (λ (z : Msg). wave_of z.body) (only k _ j)) ∙ u in
        let old : InWave d v m = P name d f v q m i (inr g) (p.0 ∙ (sym y.wave ∙ now)) in
        record { place = y.place ∙ (sym p.1 ∙ old.place); asked = subst (λ z. is_some (find z v.asked) ≡ true) (λ r. node_of (g r) (t r)) old.asked }

  not_node : (y r : ℕ) → whos.Node y ≡ whos.Reader r → ⊥
  not_node y r h = cc

  -- a reader that goes on: of its confirmation nothing but what is new, or it lasts
  module _ (name : List ℕ) (d x : Reader) (bs : List (ℕ × Body)) (F : find_named name w.state.readers ≡ Some d) (number : x.number ≡ d.number)
      (old : WavedBy w.state.network.sent x) (new : WavedBy (posted (whos.Reader x.number) x.log bs) x) where
    one_number : (r : ℕ) → whos.Reader x.number ≡ whos.Reader r → x.number ≡ r
    one_number r h = cc

    -- other readers have other numbers
    goes_waved : Now (posted (whos.Reader x.number) x.log bs) (put_named name x w.state.readers)
    goes_waved = (
      λ t z f. elim (found_in t name x z w.state.readers f) [ inl a ↦ subst (WavedBy w.state.network.sent) a.1 old | inr a ↦ P t z a.1 ],
      λ t z f. elim (found_in t name x z w.state.readers f) [ inl a ↦ subst (WavedBy (posted (whos.Reader x.number) x.log bs)) a.1 new | inr a ↦ other t z a.0 a.1 ],
    ) where
      other : (t : List ℕ) (z : Reader) → same t name ≡ false → find_named t w.state.readers ≡ Some z → WavedBy (posted (whos.Reader x.number) x.log bs) z
      other t z n f v q m i o u = let p = posted_to (whos.Reader x.number) x.log bs m i in elim o [
        | inl a ↦ absurd (not_node p.0.0 z.number (sym (ap (λ (y : Msg). y.to) p.2) ∙ a))
        | inr a ↦ absurd (not_same t name n (A.once t name z d f F (sym (one_number z.number (sym (ap (λ (y : Msg). y.from) p.2) ∙ a)) ∙ number)))
      ]

  -- what an answer leaves
  module _ (name : List ℕ) (d : Reader) (y : ℕ) (b : Body) (F : find_named name w.state.readers ≡ Some d) (looks : ℕ → View) (G : ReadOn looks d y b (on_answer looks d y b)) where
    abbrev now : Read
    now = on_answer looks d y b

    concerned : (m : Msg) → Concerns m now.reader.number → Concerns m d.number
    concerned m o = subst (Concerns m) G.number o

    read_old : WavedBy w.state.network.sent now.reader
    read_old v q m i o u = elim (G.confirming v q) [
      | inl l ↦ (let k : InWave d l.before m = P name d F l.before l.was m i (concerned m o) (u ∙ l.round) in record { place = k.place ∙ sym l.next; asked = subst (λ ks. is_some (find (node_of m.from m.to) ks) ≡ true) (sym l.asked) k.asked })
      | inr n ↦ absurd (let z = (R.waves m d.number name d i (concerned m o) F refl).wave in let a = n.higher in omega arith)
    ]

    read_new : WavedBy (posted (whos.Reader now.reader.number) now.reader.log now.asks) now.reader
    read_new v q m i o u =
        let p = posted_to (whos.Reader now.reader.number) now.reader.log now.asks m i in
        let a = G.asks p.0 p.1 in let k = ask_parts p.0.1 a.at a.from a.is in
        let body : wave_of m.body ≡ wave_of p.0.1 = ap (λ (z : Msg). wave_of z.body) p.2 in
        elim (G.confirming v q) [
          | inl l ↦ absurd (let z = R.confirming name d l.before F l.was in let r = l.round in let x = a.above in let t = k.0 in omega arith)
          | inr n ↦ record {
            place = ap (λ (z : Msg). place_of z.body) p.2 ∙ ap place_of (n.asks p.0 p.1);
            asked = subst (λ (z : Msg). is_some (find (node_of z.from z.to) v.asked) ≡ true) (sym p.2) (answer_asks looks d y b v q p.0 p.1);
          }
        ]

  waved_talk : TalkKeeps c w.state e Now
  waved_talk = record {
    quiet = (P, λ t d f v q m i. absurd i);
    elsewhere = λ ms h. (P, λ t d f v q m i o. absurd (elsewhere_waved m (h m i) d.number o));
    answers = λ n m x i t v h. (P, answer_waved n m x i t h);
    reads = λ name d m i t v. let looks = looks_at c w.state.register d.log in let y = Step.sender_node m.from in let G = read_on looks d y m.body v.open_still in
        goes_waved name d (on_answer looks d y m.body).reader (on_answer looks d y m.body).asks v.named G.number (read_old name d y m.body v.named looks G) (read_new name d y m.body v.named looks G);
    polls = λ name d v. goes_waved name d (polled (looks_at c w.state.register d.log) d) (poll_asks (looks_at c w.state.register d.log) d) v.named refl (λ u q. absurd (not_none q)) (λ u q. absurd (not_none q));
    opens = λ style name l from until o. let x = opened style l (length w.state.readers) from until in
        (λ t z f. elim (found_in t name x z w.state.readers f) [ inl a ↦ subst (WavedBy w.state.network.sent) a.1 (λ u q. absurd (not_none q)) | inr a ↦ P t z a.1 ], λ t d f v q m i. absurd i);
  }

pub waved_step : (c : Config) (w : World) (e : Move) → NamesOnce w.state → Apart w.state.network.sent w.state.readers → RoundsOf w → Waved w.state.network.sent w.state.readers → Waved (after_step c w e).state.network.sent (after_step c w e).state.readers
waved_step c w e N A R P =
    let t = talked c w.state e (λ ms ds. Waved w.state.network.sent ds × Waved ms ds) (waved_talk c w e A R P) N in
    subst (Waved (after_step c w e).state.network.sent) (sym (same_readers (Calm.moves c w.state e)))
    (λ name d f v q m i o u. elim (new_or_old c w.state e m t.same i) [ inl k ↦ t.talk.0 name d f v q m k o u | inr k ↦ t.talk.1 name d f v q m k o u ])

-- in every run
pub waved_kept : (c : Config) → Keeps c (λ hs w. Asked c hs w × Waved w.state.network.sent w.state.readers)
unfolding find_named
waved_kept c = beside_kept c (Asked c) (λ hs w. Waved w.state.network.sent w.state.readers) (asked_kept c) (λ t d f. absurd (not_none f))
    (λ hs w e B C p. waved_step c w e B.0.0.0 B.0.1.1 B.1.1 p)
