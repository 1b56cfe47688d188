-- What is settled for good: acknowledged appends, trims, closed epochs, and what readers are shown of these.
use Rattle.std.proofs.Common.{◌≡◌, sym, subst, ◌⊎◌, ◌≤◌, ◌<◌, ℕ, ◌+◌, inl, inr, Bool, true, false, List, ◌++◌, [], ◌∷◌, Some, arith}
use Rattle.ld_table.specs.Words.{how_many}
use Rattle.ld_table.specs.Table.{find}
use Rattle.ld_lsn.specs.Number.{epoch_of, esn_of, home_epoch, last_esn}
use Rattle.ld_ids.specs.declared.set.Spec.{Spec}
use Rattle.ld_ids.specs.Choice.{nodes_of}
use Rattle.ld_config.specs.declared.config.Config.{Config}
use Rattle.ld_msg.specs.declared.msg.What.{What}
use Rattle.ld_msg.specs.declared.msg.What.TheVariants.{Rec, Hole}
use Rattle.ld_msg.specs.declared.msg.Entry.{Entry}
use Rattle.ld_msg.specs.declared.msg.Summary.{Summary}
use Rattle.ld_msg.specs.declared.msg.Msg.{Msg}
use Rattle.ld_msg.specs.declared.msg.Body.TheVariants as bodies
use Rattle.ld_msg.specs.Digest.{is_bridge, plan_end, plan_floor, digest_trim, digest_lng}
use Rattle.ld_msg.specs.Register.{Register, epochs_of, lce_of}
use Rattle.ld_machine.specs.Config.{fixed_of, fixed_at}
use Rattle.ld_machine.specs.State.{Done}
use Rattle.ld_machine.specs.Facts.{Happened}
use Rattle.ld_machine.specs.World.{Made, In, from_node, told_by, says_stored, says_settled}
use Rattle.ld_safety.proofs.Lists.{any_from, any_in, count_mono, In_right, In-append}
use Rattle.ld_safety.proofs.Steps.{told}
pub use Rattle.ld_safety.proofs.Registers.{Reached}
use Rattle.ld_safety.proofs.Registers.{Up, reached_later}
use Rattle.ld_safety.proofs.Given.{AppendedBy, appends_grows}
use Rattle.ld_safety.proofs.Protocol.{Basis, plan_of, plan_at, OwnSays, PlanSays, Chosen, tells_stored, tells_settled}
use Rattle.ld_machine.specs.Calm.{Move}

abbrev pub Open : Register → ℕ → ℕ → Type 0
Open r l e = lce_of r l < e

-- an append that as many nodes as there are copies stored for its own epoch
pub record Acknowledged (c : Config) (hs : List Happened) (sent : List Msg) (r : Register) (l n : ℕ) : Type 0 where
  pub reached : Reached r l (epoch_of n)
  pub above : 0 < esn_of n
  pub below : esn_of n < last_esn
  pub payload : List ℕ
  pub appended : AppendedBy hs l n payload
  pub chosen : Chosen (fixed_of c r l (epoch_of n)) sent l n (epoch_of n)

-- of an open epoch a trim covers acknowledged appends alone
abbrev pub TrimFine : Config → List Happened → List Msg → Register → ℕ → ℕ → Type 0
TrimFine c hs sent r l t = (n : ℕ) → n ≤ t → 0 < esn_of n → Open r l (epoch_of n) → Acknowledged c hs sent r l n

-- a last known good offset of an epoch covers acknowledged appends alone
abbrev pub LngFine : Config → List Happened → List Msg → Register → ℕ → ℕ → ℕ → Type 0
LngFine c hs sent r l e g = (n : ℕ) → epoch_of n ≡ e → 0 < esn_of n → esn_of n ≤ g → Acknowledged c hs sent r l n

-- a released number covers acknowledged appends of its epoch, and the epochs before it are closed
pub record ReleaseFine (c : Config) (hs : List Happened) (sent : List Msg) (r : Register) (l k : ℕ) : Type 0 where
  pub acked : (n : ℕ) → epoch_of n ≡ epoch_of k → 0 < esn_of n → n ≤ k → Acknowledged c hs sent r l n
  pub closed : epoch_of k ≤ lce_of r l + 1

-- a number that represents a ballot, whatever comes
abbrev pub Fixed : Config → List Happened → List Msg → Register → ℕ → ℕ → ℕ → Type 0
Fixed c hs sent r l n b = Acknowledged c hs sent r l n ⊎ Chosen (fixed_of c r l (epoch_of n)) sent l n b

-- a node told the ballot that it is lost for the epoch
pub record LostTold (sent : List Msg) (l e b y : ℕ) : Type 0 where
  pub number : ℕ
  pub round : ℕ
  pub generation : ℕ
  pub end : ℕ
  pub said : In (from_node l y b (bodies.LostHere number round generation end)) sent
  pub home : home_epoch number ≡ e

-- a plan each of whose numbers was settled by as many nodes as there are copies, its bridge too
pub record FullClose (c : Config) (hs : List Happened) (sent : List Msg) (r : Register) (l e b : ℕ) (d : Basis) : Type 0 where
  pub found : d.loss ≡ false
  pub copies : (n : ℕ) → epoch_of n ≡ e → plan_floor e d.digest < esn_of n → esn_of n ≤ plan_end e d.digest → (fixed_of c r l e).r ≤ how_many (tells_settled sent l n b) (fixed_at c r l e)
  pub fixed : (n : ℕ) → epoch_of n ≡ e → plan_floor e d.digest < esn_of n → esn_of n < plan_end e d.digest → Fixed c hs sent r l n b

-- a plan each of whose numbers each node settled that wasn't lost, its bridge too
pub record ShortClose (c : Config) (sent : List Msg) (r : Register) (l e b : ℕ) (d : Basis) : Type 0 where
  pub settled : (n : ℕ) → epoch_of n ≡ e → plan_floor e d.digest < esn_of n → esn_of n ≤ plan_end e d.digest → (y : ℕ) → In y (fixed_at c r l e) → (tells_settled sent l n b y ≡ true) ⊎ LostTold sent l e b y

-- a summary of a plan that stands
pub record Summarized (c : Config) (hs : List Happened) (made : List Made) (sent : List Msg) (r : Register) (l e : ℕ) (y : Summary) : Type 0 where
  pub reached : Reached r l e
  pub basis : Basis
  pub planned : In (plan_of l e y.ballot basis) made
  pub loss : y.loss ≡ basis.loss
  pub end : y.end ≡ plan_end e basis.digest
  pub trim : y.trim ≡ digest_trim basis.digest
  pub lng : y.lng ≡ digest_lng basis.digest
  pub good : LngFine c hs sent r l e y.lng
  pub how : FullClose c hs sent r l e y.ballot basis ⊎ ShortClose c sent r l e y.ballot basis

-- an epoch that is closed with this summary
pub record ClosedBy (c : Config) (hs : List Happened) (made : List Made) (sent : List Msg) (r : Register) (l e : ℕ) (y : Summary) : Type 0 where
  pub found_so : find e (epochs_of r l).summaries ≡ Some y
  pub positive : 0 < e
  pub low : e ≤ lce_of r l
  pub plan : Summarized c hs made sent r l e y

-- epoch 0 is closed before its offset 1, by no plan
abbrev pub OfZero : ℕ → Summary → Type 0
OfZero e y = (e ≡ 0) × (y.end ≡ 1) × (y.loss ≡ false)

abbrev pub CloseFine : Config → List Happened → List Made → List Msg → Register → ℕ → ℕ → Summary → Type 0
CloseFine c hs made sent r l e y = TrimFine c hs sent r l y.trim × (OfZero e y ⊎ ClosedBy c hs made sent r l e y)

-- a number that was known good as its epoch was closed has the append's record
pub record GoodSays (hs : List Happened) (l n : ℕ) (y : Summary) (x : What) : Type 0 where
  pub above : 0 < esn_of n
  pub low : esn_of n ≤ y.lng
  pub says : OwnSays hs l (epoch_of n) n x

-- what a loss plan of the epoch says of its number
pub record LossSays (made : List Made) (l n : ℕ) (x : What) : Type 0 where
  pub ballot : ℕ
  pub basis : Basis
  pub planned : In (plan_of l (epoch_of n) ballot basis) made
  pub later : epoch_of n < ballot
  pub loss : basis.loss ≡ true
  pub item : plan_at (epoch_of n) basis (esn_of n) ≡ Some x

-- and its ballot isn't below the closing one, but where the number was known good
pub record LossBeside (made : List Made) (l n : ℕ) (y : Summary) (x : What) : Type 0 where
  pub says : LossSays made l n x
  pub side : (y.ballot ≤ says.ballot) ⊎ (esn_of n ≤ y.lng)

-- what a closed epoch says of its number: the closing plan's item, or what was known good, or a loss plan's item
abbrev pub ClosedSays : List Happened → List Made → ℕ → ℕ → Summary → What → Type 0
ClosedSays hs made l n y x = PlanSays made l y.ballot n x ⊎ (GoodSays hs l n y x ⊎ LossBeside made l n y x)

-- a hole that stands where no loss plan has a record
abbrev pub HoleFine : List Made → ℕ → ℕ → What → Type 0
HoleFine made l n x = x ≡ Hole → (b : ℕ) (f : Basis) (p : List ℕ) → In (plan_of l (epoch_of n) b f) made → f.loss ≡ true → plan_at (epoch_of n) f (esn_of n) ≡ Some (Rec p) → ⊥

-- a clean page shows what the closed epoch says
pub record ClosedEntry (c : Config) (hs : List Happened) (made : List Made) (sent : List Msg) (r : Register) (l : ℕ) (e : Entry) : Type 0 where
  pub summary : Summary
  pub closed : ClosedBy c hs made sent r l (epoch_of e.number) summary
  pub says : ClosedSays hs made l e.number summary e.what
  pub hole : HoleFine made l e.number e.what
  pub content : is_bridge e.what ≡ false
  pub below : esn_of e.number < summary.end

-- and one that isn't clean shows acknowledged appends
abbrev pub ShowFine : Config → List Happened → List Made → List Msg → Register → ℕ → Bool → Entry → Type 0
ShowFine c hs made sent r l true e = ClosedEntry c hs made sent r l e
ShowFine c hs made sent r l false e = Acknowledged c hs sent r l e.number

-- what a refilled entry is that was known good: it has the closing ballot, whose plan says nothing of it, and the append's record
pub record KnownGood (hs : List Happened) (r : Register) (l b n : ℕ) (x : What) : Type 0 where
  pub summary : Summary
  pub found_so : find (epoch_of n) (epochs_of r l).summaries ≡ Some summary
  pub ballot : b ≡ summary.ballot
  pub good : GoodSays hs l n summary x

-- what a refilled entry is that a loss plan says: it has the closing ballot
pub record OfLoss (made : List Made) (r : Register) (l b n : ℕ) (x : What) : Type 0 where
  pub summary : Summary
  pub found_so : find (epoch_of n) (epochs_of r l).summaries ≡ Some summary
  pub ballot : b ≡ summary.ballot
  pub says : LossBeside made l n summary x
  pub content : is_bridge x ≡ false

-- loss plans are made of open epochs alone
abbrev pub FreshLosses : List Made → Register → Type 0
FreshLosses more r = (l e b : ℕ) (f : Basis) → In (plan_of l e b f) more → f.loss ≡ true → Open r l e

-- ---- what grows ----

-- summaries stay, and what is fixed for an epoch that was handed out
pub record Stays (c : Config) (r k : Register) : Type 0 where
  pub summaries : (l e : ℕ) (y : Summary) → find e (epochs_of r l).summaries ≡ Some y → find e (epochs_of k l).summaries ≡ Some y
  pub specs : (l e : ℕ) → Reached r l e → fixed_of c k l e ≡ fixed_of c r l e

pub tells_more : (sent after : List Msg) (into : (m : Msg) → In m sent → In m after) (l n b y : ℕ) → tells_stored sent l n b y ≡ true → tells_stored after l n b y ≡ true
tells_more sent after into l n b y h = let a = any_in (told_by (says_stored n) l y b) sent h in any_from (told_by (says_stored n) l y b) a.0 after (into a.0 a.1) a.2

pub settles_more : (sent after : List Msg) (into : (m : Msg) → In m sent → In m after) (l n b y : ℕ) → tells_settled sent l n b y ≡ true → tells_settled after l n b y ≡ true
settles_more sent after into l n b y h = let a = any_in (told_by (says_settled n) l y b) sent h in any_from (told_by (says_settled n) l y b) a.0 after (into a.0 a.1) a.2

pub copies_more : (s : Spec) (sent after : List Msg) (into : (m : Msg) → In m sent → In m after) (l n b : ℕ) → s.r ≤ how_many (tells_settled sent l n b) (nodes_of s) → s.r ≤ how_many (tells_settled after l n b) (nodes_of s)
copies_more s sent after into l n b h = let z = count_mono (tells_settled sent l n b) (tells_settled after l n b) (nodes_of s) (λ y i t. settles_more sent after into l n b y t) in omega arith

pub chosen_more : (s : Spec) (sent after : List Msg) (into : (m : Msg) → In m sent → In m after) (l n b : ℕ) → Chosen s sent l n b → Chosen s after l n b
chosen_more s sent after into l n b h = let z = count_mono (tells_stored sent l n b) (tells_stored after l n b) (nodes_of s) (λ y i t. tells_more sent after into l n b y t) in omega arith

module _ (c : Config) (hs : List Happened) (e : Move) (d : Done) (made more : List Made) (sent after : List Msg) (r k : Register) (into : (m : Msg) → In m sent → In m after) (u : Up r k) (s : Stays c r k) where
  next : List Happened
  next = hs ++ told r e d ∷ []

  pub chosen_grows : (l n b : ℕ) → Reached r l (epoch_of n) → Chosen (fixed_of c r l (epoch_of n)) sent l n b → Chosen (fixed_of c k l (epoch_of n)) after l n b
  chosen_grows l n b o h = subst (λ p. Chosen p after l n b) (sym (s.specs l (epoch_of n) o)) (chosen_more (fixed_of c r l (epoch_of n)) sent after into l n b h)

  pub copies_grow : (l x n b : ℕ) → Reached r l x → (fixed_of c r l x).r ≤ how_many (tells_settled sent l n b) (fixed_at c r l x) → (fixed_of c k l x).r ≤ how_many (tells_settled after l n b) (fixed_at c k l x)
  copies_grow l x n b o h = subst (λ (p : Spec). p.r ≤ how_many (tells_settled after l n b) (nodes_of p)) (sym (s.specs l x o)) (copies_more (fixed_of c r l x) sent after into l n b h)

  pub acked_grows : (l n : ℕ) → Acknowledged c hs sent r l n → Acknowledged c (hs ++ told r e d ∷ []) after k l n
  acked_grows l n h = record { reached = reached_later r k l (epoch_of n) u h.reached; above = h.above; below = h.below; payload = h.payload; appended = (h.appended.0, appends_grows hs r e d l n h.appended.0 h.payload h.appended.1); chosen = chosen_grows l n (epoch_of n) h.reached h.chosen }

  pub trim_fine_grows : (l t : ℕ) → TrimFine c hs sent r l t → TrimFine c (hs ++ told r e d ∷ []) after k l t
  trim_fine_grows l t h n a b o = acked_grows l n (h n a b (let z = (u l).1 in omega arith))

  pub lng_fine_grows : (l x g : ℕ) → LngFine c hs sent r l x g → LngFine c (hs ++ told r e d ∷ []) after k l x g
  lng_fine_grows l x g h n a b o = acked_grows l n (h n a b o)

  pub release_grows : (l t : ℕ) → ReleaseFine c hs sent r l t → ReleaseFine c (hs ++ told r e d ∷ []) after k l t
  release_grows l t h = record { acked = λ n a b o. acked_grows l n (h.acked n a b o); closed = let z = (u l).1 in let y = h.closed in omega arith }

  pub fixed_grows : (l n b : ℕ) → Reached r l (epoch_of n) → Fixed c hs sent r l n b → Fixed c (hs ++ told r e d ∷ []) after k l n b
  fixed_grows l n b o (inl h) = inl (acked_grows l n h)
  fixed_grows l n b o (inr h) = inr (chosen_grows l n b o h)

  lost_told_grows : (l x b y : ℕ) → LostTold sent l x b y → LostTold after l x b y
  lost_told_grows l x b y h = record { number = h.number; round = h.round; generation = h.generation; end = h.end; said = into _ h.said; home = h.home }

  how_grows : (l x b : ℕ) (f : Basis) → Reached r l x → FullClose c hs sent r l x b f ⊎ ShortClose c sent r l x b f → FullClose c (hs ++ told r e d ∷ []) after k l x b f ⊎ ShortClose c after k l x b f
  how_grows l x b f o (inl h) = inl (record { found = h.found; copies = λ n q lo hi. copies_grow l x n b o (h.copies n q lo hi); fixed = λ n q lo hi. fixed_grows l n b (subst (Reached r l) (sym q) o) (h.fixed n q lo hi) })
  how_grows l x b f o (inr h) = inr (record {
    settled = λ n q lo hi y i. elim (h.settled n q lo hi y (subst (λ (p : Spec). In y (nodes_of p)) (s.specs l x o) i)) [ inl t ↦ inl (settles_more sent after into l n b y t) | inr t ↦ inr (lost_told_grows l x b y t) ];
  })

  pub summarized_grows : (l x : ℕ) (y : Summary) → Summarized c hs made sent r l x y → Summarized c (hs ++ told r e d ∷ []) (more ++ made) after k l x y
  summarized_grows l x y h = record { reached = reached_later r k l x u h.reached; basis = h.basis; planned = In_right _ more made h.planned; loss = h.loss; end = h.end; trim = h.trim; lng = h.lng; good = lng_fine_grows l x y.lng h.good; how = how_grows l x y.ballot h.basis h.reached h.how }

  pub closed_grows : (l x : ℕ) (y : Summary) → ClosedBy c hs made sent r l x y → ClosedBy c (hs ++ told r e d ∷ []) (more ++ made) after k l x y
  closed_grows l x y h = record { found_so = s.summaries l x y h.found_so; positive = h.positive; low = let z = (u l).1 in let w = h.low in omega arith; plan = summarized_grows l x y h.plan }

  pub close_fine_grows : (l x : ℕ) (y : Summary) → CloseFine c hs made sent r l x y → CloseFine c (hs ++ told r e d ∷ []) (more ++ made) after k l x y
  close_fine_grows l x y (t, inl h) = (trim_fine_grows l y.trim t, inl h)
  close_fine_grows l x y (t, inr h) = (trim_fine_grows l y.trim t, inr (closed_grows l x y h))

  good_grows : (l n : ℕ) (y : Summary) (x : What) → GoodSays hs l n y x → GoodSays (hs ++ told r e d ∷ []) l n y x
  good_grows l n y x g = record { above = g.above; low = g.low; says = record { own = g.says.own; payload = g.says.payload; is = g.says.is; appended = (g.says.appended.0, appends_grows hs r e d l n g.says.appended.0 g.says.payload g.says.appended.1) } }

  beside_grows : (l n : ℕ) (y : Summary) (x : What) → LossBeside made l n y x → LossBeside (more ++ made) l n y x
  beside_grows l n y x h = let z = h.says in record { says = record { ballot = z.ballot; basis = z.basis; planned = In_right _ more made z.planned; later = z.later; loss = z.loss; item = z.item }; side = h.side }

  pub closed_says_grows : (l n : ℕ) (y : Summary) (x : What) → ClosedSays hs made l n y x → ClosedSays (hs ++ told r e d ∷ []) (more ++ made) l n y x
  closed_says_grows l n y x (inl p) = inl (record { later = p.later; basis = p.basis; planned = In_right _ more made p.planned; item = p.item })
  closed_says_grows l n y x (inr (inl g)) = inr (inl (good_grows l n y x g))
  closed_says_grows l n y x (inr (inr g)) = inr (inr (beside_grows l n y x g))

  pub hole_grows : (l n : ℕ) (x : What) → FreshLosses more r → epoch_of n ≤ lce_of r l → HoleFine made l n x → HoleFine (more ++ made) l n x
  hole_grows l n x fresh low h q b f p i lo it = elim (In-append (plan_of l (epoch_of n) b f) more made i) [
    | inl j ↦ let z = fresh l (epoch_of n) b f j lo in omega arith
    | inr j ↦ h q b f p j lo it
  ]

  pub of_loss_grows : (l b n : ℕ) (x : What) → OfLoss made r l b n x → OfLoss (more ++ made) k l b n x
  of_loss_grows l b n x h = record { summary = h.summary; found_so = s.summaries l (epoch_of n) h.summary h.found_so; ballot = h.ballot; says = beside_grows l n h.summary x h.says; content = h.content }

  pub known_good_grows : (l b n : ℕ) (x : What) → KnownGood hs r l b n x → KnownGood (hs ++ told r e d ∷ []) k l b n x
  known_good_grows l b n x h = record { summary = h.summary; found_so = s.summaries l (epoch_of n) h.summary h.found_so; ballot = h.ballot; good = good_grows l n h.summary x h.good }

  pub show_grows : FreshLosses more r → (l : ℕ) (b : Bool) (x : Entry) → ShowFine c hs made sent r l b x → ShowFine c (hs ++ told r e d ∷ []) (more ++ made) after k l b x
  show_grows fresh l true x h = record { summary = h.summary; closed = closed_grows l (epoch_of x.number) h.summary h.closed; says = closed_says_grows l x.number h.summary x.what h.says; hole = hole_grows l x.number x.what fresh h.closed.low h.hole; content = h.content; below = h.below }
  show_grows fresh l false x h = acked_grows l x.number h

pub close_low : (c : Config) (hs : List Happened) (made : List Made) (sent : List Msg) (r : Register) (l e : ℕ) (y : Summary) → CloseFine c hs made sent r l e y → e ≤ lce_of r l
close_low c hs made sent r l e y (t, inl h) = let z = h.0 in omega arith
close_low c hs made sent r l e y (t, inr h) = h.low
