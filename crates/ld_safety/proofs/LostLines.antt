-- A line that calls numbers lost comes of a confirmation that each asked node answered, and each was lost when the asks were sent; or of a plug or an end that a node told.
use Rattle.std.proofs.Common.{◌≡◌, ◌∙◌, ◌⊎◌, ◌≤◌, ℕ, inl, inr, refl, ap, sym, subst, true, nat_lt, cond, arith, List, [], ◌∷◌, Option, Some, None}
use Rattle.std.proofs.lemmas.Bool.{ltb-true}
use Rattle.ld_table.specs.Named.{find_named}
use Rattle.ld_table.specs.Words.{is_in}
use Rattle.ld_config.specs.declared.config.Config.{Config}
use Rattle.ld_transcript.specs.declared.line.Line.{Line}
use Rattle.ld_transcript.specs.declared.line.Line.TheVariants as lines
use Rattle.ld_transcript.specs.declared.line.GapKind.TheVariants as gaps
use Rattle.ld_msg.specs.declared.msg.Msg.{Msg}
use Rattle.ld_msg.specs.declared.msg.Who.TheVariants as whos
use Rattle.ld_msg.specs.declared.msg.Body.{Body}
use Rattle.ld_msg.specs.declared.msg.Body.TheVariants as bodies
use Rattle.ld_msg.specs.Reading.{Held, Item, TrimTo, RecordHere, HoleHere, BridgeTo, LossHere, LossTo, bridge_to, lost_held, lost_generation, is_lost_for, within}
use Rattle.ld_msg.specs.Reader.{Reader, Confirmation, heard, is_confirmed, on_answer}
use Rattle.ld_machine.specs.Config.{looks_at}
use Rattle.ld_machine.specs.State.{State}
use Rattle.ld_machine.specs.World.{World, In}
use Rattle.ld_safety.proofs.Members.{filter_in, in_set}
use Rattle.ld_machine.specs.Step as Step
use Rattle.ld_safety.proofs.Lists.{Some_inj, In_left, In_right, all_in, cond_both}
use Rattle.ld_safety.proofs.Events.{NamesOnce, Reading, Delivers, dispatch, is_quiet}
use Rattle.ld_safety.proofs.ItemLines.{line_cases}
use Rattle.ld_safety.proofs.ReaderLogs.{Apart}
use Rattle.ld_safety.proofs.LostReads.{ReadOn, PlugAt, LossyEnd, read_on, heard_lasts}
use Rattle.ld_safety.proofs.LostAlong.{RoundsOf}
use Rattle.ld_safety.proofs.LostSince.{Since, LostThen, again}
use Rattle.ld_msg.specs.declared.style.Style.{Style}
use Rattle.ld_safety.proofs.Batches.{one_of}
use Rattle.ld_machine.specs.Calm as Calm
use Rattle.ld_machine.specs.Calm.{Move}

-- ---- lines ----

-- a confirmation that each node that was asked once more answered: of one number
pub record ByConfirmation (d : Reader) (next low high : ℕ) : Type 0 where
  pub confirmed : is_confirmed d.confirming ≡ true
  pub first : low ≡ next
  pub last : high ≡ next

-- a plug that is held: of one number
pub record ByPlug (d : Reader) (low high : ℕ) : Type 0 where
  pub plug : PlugAt low d.held
  pub last : high ≡ low

-- an end that is held, past which the epoch's numbers are lost
pub record ByEnd (d : Reader) (low high : ℕ) : Type 0 where
  pub ended : LossyEnd low d.held
  pub last : high ≤ bridge_to low

-- a node told of a plan that says what is lost
abbrev pub ToldLost : Reader → ℕ → ℕ → Type 0
ToldLost d low high = ByPlug d low high ⊎ ByEnd d low high

abbrev pub LossCause : Reader → ℕ → ℕ → ℕ → Type 0
LossCause d next low high = ByConfirmation d next low high ⊎ ToldLost d low high

-- a reader was given numbers as lost
pub record LossGiven (s : State) (e : Move) (name : List ℕ) (low high : ℕ) : Type 0 where
  pub reader : Reader
  pub named : find_named name s.readers ≡ Some reader
  pub message : Msg
  pub sent : In message s.network.sent
  pub to : message.to ≡ whos.Reader reader.number
  pub delivers : Delivers s e message
  pub how : LossCause (heard reader (Step.sender_node message.from) message.body) reader.next low high

record LossItem (r : List ℕ) (is : List (ℕ × Item)) (name : List ℕ) (low high : ℕ) : Type 0 where
  item : ℕ × Item
  there : In item is
  whose : name ≡ r
  first : low ≡ item.0
  kind : ((item.1 ≡ LossHere) × (high ≡ item.0)) ⊎ ((last : ℕ) × (item.1 ≡ LossTo last) × (high ≤ last))

record OneLoss (r : List ℕ) (s : ℕ) (i : Item) (name : List ℕ) (low high : ℕ) : Type 0 where
  whose : name ≡ r
  first : low ≡ s
  kind : ((i ≡ LossHere) × (high ≡ s)) ⊎ ((last : ℕ) × (i ≡ LossTo last) × (high ≤ last))

one_item : (r : List ℕ) (until s : ℕ) (i : Item) (name : List ℕ) (low high : ℕ) → lines.Gap name gaps.DataLoss low high ≡ Step.item_line r s until i → OneLoss r s i name low high
one_item r until s (TrimTo last) name low high e = absurd cc
one_item r until s (RecordHere p) name low high e = absurd cc
one_item r until s HoleHere name low high e = absurd cc
one_item r until s (BridgeTo last) name low high e = absurd cc
one_item r until s LossHere name low high e = record { whose = cc; first = cc; kind = inl (refl, cc) }
one_item r until s (LossTo last) name low high e = record {
  whose = cc;
  first = cc;
  kind = inr (last, refl, let z : high ≡ cond (nat_lt until last) until last = cc in cond_both (nat_lt until last) until last (λ k. high ≡ k → high ≤ last) (λ t w. let v = ltb-true until last t in omega arith) (λ t w. omega arith) z);
}

loss_item : (style : Style) (r : List ℕ) (until : ℕ) (is : List (ℕ × Item)) (name : List ℕ) (low high : ℕ) → In (lines.Gap name gaps.DataLoss low high) (Step.item_lines style r until is) → LossItem r is name low high
loss_item style r until is name low high i = let o = one_of style r until is (lines.Gap name gaps.DataLoss low high) (λ a n j m q. cc) i in let k = one_item r until o.item.0 o.item.1 name low high o.line in
    record { item = o.item; there = o.there; whose = k.whose; first = k.first; kind = k.kind }

abbrev LossesOf : State → Move → List Line → Type 0
LossesOf s e ls = (name : List ℕ) (low high : ℕ) → In (lines.Gap name gaps.DataLoss low high) ls → LossGiven s e name low high

reads_losses : (c : Config) (s : State) (e : Move) (name : List ℕ) (d : Reader) (m : Msg) → In m s.network.sent → m.to ≡ whos.Reader d.number → Reading s name d → Delivers s e m
    → LossesOf s e (Step.item_lines (on_answer (looks_at c s.register d.log) d (Step.sender_node m.from) m.body).reader.style name (on_answer (looks_at c s.register d.log) d (Step.sender_node m.from) m.body).reader.until (on_answer (looks_at c s.register d.log) d (Step.sender_node m.from) m.body).items)
reads_losses c s e name d m i t v o r low high j =
    let y = Step.sender_node m.from in
    let G = read_on (looks_at c s.register d.log) d y m.body v.open_still in
    let k = loss_item _ name _ _ r low high j in
    record { reader = d; named = subst (λ (u : List ℕ). find_named u s.readers ≡ Some d) (sym k.whose) v.named; message = m; sent = i; to = t; delivers = o; how = by_kind G k } where
      by_kind : ReadOn (looks_at c s.register d.log) d (Step.sender_node m.from) m.body (on_answer (looks_at c s.register d.log) d (Step.sender_node m.from) m.body) → LossItem name (on_answer (looks_at c s.register d.log) d (Step.sender_node m.from) m.body).items r low high → LossCause (heard d (Step.sender_node m.from) m.body) d.next low high
      by_kind G k = elim k.kind [
        | inl a ↦ elim (G.losses k.item k.there a.0) [
          | inl z ↦ inl (record { confirmed = z.1; first = k.first ∙ z.0; last = a.1 ∙ z.0 })
          | inr z ↦ inr (inl (record { plug = subst (λ n. PlugAt n (heard d (Step.sender_node m.from) m.body).held) (sym k.first) z; last = a.1 ∙ sym k.first }))
        ]
        | inr a ↦ let z = G.ends k.item a.0 k.there a.1 in let q = z.0 in let h = a.2 in
            inr (inr (record { ended = subst (λ n. LossyEnd n (heard d (Step.sender_node m.from) m.body).held) (sym k.first) z.1; last = subst (λ n. high ≤ bridge_to n) (sym k.first) (omega arith) }))
      ]

pub losses_given : (c : Config) (s : State) (e : Move) → NamesOnce s → LossesOf s e (Calm.moves c s e).lines
losses_given c s e N = dispatch c s e (λ d m. LossesOf s e d.lines) N (line_cases c s e (LossesOf s e)
    (λ g ls n a name low high i. absurd (n (sym (a _ i))))
    (λ f name d m i t v o. reads_losses c s e name d m i t v o)
    (λ ls q name low high i. absurd (no_quiet name low high (q _ i)))) where
      no_quiet : (name : List ℕ) (low high : ℕ) → is_quiet (lines.Gap name gaps.DataLoss low high) ≡ true → ⊥
      no_quiet name low high h = cc

-- ---- who was told ----
abbrev OneOf : ℕ → ℕ → List (ℕ × ℕ) → Type 0
OneOf y g m = In {X = ℕ × ℕ} (y, g) m

-- each node of the set that is held as lost is among those asked
pub record AmongLost (s y : ℕ) (hs : List (ℕ × Held)) : Type 0 where
  pub generation : ℕ
  pub there : OneOf y generation (lost_held s hs)

one_among : (s y : ℕ) (b : Body) → is_lost_for s b ≡ true → (g : ℕ) × OneOf y g (lost_generation s y b)
one_among s y (bodies.LostHere n u g end) h = (g, subst (λ t. OneOf y g (cond t ((y, g) ∷ []) [])) (sym h) (inl refl))
one_among s y _ h = absurd cc

lost_among : (s y : ℕ) (h : Held) (hs : List (ℕ × Held)) → In {X = ℕ × Held} (y, h) hs → is_lost_for s h.body ≡ true → AmongLost s y hs
lost_among s y h [] i l = absurd i
lost_among s y h (k ∷ hs) (inl e) l = let a = one_among s y h.body l in record { generation = a.0; there = In_left {X = ℕ × ℕ} _ (lost_generation s k.0 k.1.body) (lost_held s hs) (subst (λ (z : ℕ × Held). OneOf y a.0 (lost_generation s z.0 z.1.body)) e a.1) }
lost_among s y h (k ∷ hs) (inr i) l = let a = lost_among s y h hs i l in record { generation = a.generation; there = In_right {X = ℕ × ℕ} _ (lost_generation s k.0 k.1.body) (lost_held s hs) a.there }

pub among_lost : (s y : ℕ) (h : Held) (set : List ℕ) (hs : List (ℕ × Held)) → In y set → In {X = ℕ × Held} (y, h) hs → is_lost_for s h.body ≡ true → AmongLost s y (within set hs)
among_lost s y h set hs m i l = lost_among s y h (within set hs) (filter_in (λ (k : ℕ × Held). is_in k.0 set) (y, h) hs i (in_set y set m)) l

-- when the last asked node has said again that it is lost, each of them was lost at the moment of the asks
module _ (c : Config) (then w : World) (e : Move) (A : Apart w.state.network.sent w.state.readers) (R : RoundsOf w) (name : List ℕ) (d : Reader) (u : Confirmation) (P : Since then d.number d.log d.next u.round u.asked w)
    (f : find_named name w.state.readers ≡ Some d) (was : d.confirming ≡ Some u) (m : Msg) (i : In m w.state.network.sent) (t : m.to ≡ whos.Reader d.number) where
  all_told : (o : Option Confirmation) → (heard d (Step.sender_node m.from) m.body).confirming ≡ o → is_confirmed o ≡ true → (z g : ℕ) → OneOf z g u.asked → LostThen then d.number d.log d.next u.round u.asked z
  all_told None q h z g j = absurd cc
  all_told (Some v) q h z g j =
      let o = heard_lasts d (Step.sender_node m.from) m.body v q in
      let k : o.before ≡ u = Some_inj (sym o.was ∙ was) in
      let x : OneOf z g v.asked = subst (OneOf z g) (sym (o.asked ∙ ap (λ (y : Confirmation). y.asked) k)) j in
      let D = P.talk.readers name d f refl in
      let C = D.confirming u was refl in
      elim (o.told z (all_in (λ (y : ℕ × ℕ). is_in y.0 v.told) (z, g) v.asked h x)) [
        | inl a ↦ C.told z (subst (λ (y : Confirmation). is_in z y.told ≡ true) k a)
        | inr a ↦ again then d.number d.log d.next u.round u.asked c w e A R P m i t o.before z a.0 (ap (λ (y : Confirmation). y.round) k) (ap (λ (y : Confirmation). y.asked) k) a.1
      ]

  pub confirmed_lost : is_confirmed (heard d (Step.sender_node m.from) m.body).confirming ≡ true → (z g : ℕ) → OneOf z g u.asked → LostThen then d.number d.log d.next u.round u.asked z
  confirmed_lost h z g j = all_told _ refl h z g j
