-- Where payloads stand: apart from all that is written next, so an index reads the same.
use Rattle.std.proofs.Common.{◌≡◌, ◌≢◌, ◌⊎◌, inl, inr, ⊎_elim, refl, ℕ, ◌+◌, ◌-◌, ◌≤◌, ◌<◌, List, [], ◌∷◌, length, take, drop, get_or, Option, None, Some, true, sym, ◌∙◌, ap, arith}
use Rattle.std.proofs.lemmas.Bool.{cases_eq}
use Rattle.std.proofs.lemmas.List.{get_or-drop, get_or-take}
use Rattle.ld_table.specs.Table.{find, put}
use Rattle.ld_table.specs.Words.{is_in}
use Rattle.ld_table.proofs.Laws.{put_cases, find-put_same, find-put_other, find-empty}
use Rattle.ld_op.specs.Cells.{byte_at, read_plain}
use Rattle.ld_op.proofs.Agree.{plain_same}
use Rattle.ld_layout.specs.Areas.{AreLive, IsInside, IsHeld}
use Rattle.ld_layout.specs.Layout.{Layout, Segment, head_end, closed_areas, live_areas, IsSegment, IfSegment}
use Rattle.ld_segment.specs.Stays.{StaysOutside, IsSameAt}
use Rattle.ld_segment.specs.Lies.{IfBounded, IsSound, gate_in}
use Rattle.ld_segment.proofs.Ranges.{stays_at}

-- ---- one byte ----

abbrev pub IsSameByte : ℕ → List ℕ → List ℕ → Type 0
IsSameByte k old new = byte_at new k ≡ byte_at old k

pub front_byte : (k : ℕ) (l : List ℕ) → get_or (take 1 (drop k l)) 0 0 ≡ byte_at l k
front_byte k l =
    let none : k + 0 ≡ k = omega arith in
    get_or-take 1 (drop k l) 0 0 (omega arith) ∙ get_or-drop k l 0 0 ∙ ap (λ i. get_or l i 0) none

pub same_byte : (k : ℕ) (old new : List ℕ) → IsSameAt k 1 old new → IsSameByte k old new
same_byte k old new same = sym (front_byte k new) ∙ ap (λ l. get_or l 0 0) same ∙ front_byte k old

pub byte_outside : (from to k : ℕ) (old new : List ℕ) → StaysOutside from to old new → (k < from) ⊎ (to ≤ k) → IsSameByte k old new
byte_outside from to k old new stays apart = same_byte k old new (stays_at from to k 1 old new stays (⊎_elim (λ before. inl (omega (arith, before))) (λ behind. inr behind) apart))

take_in_at : (k n i : ℕ) (old new : List ℕ) → i < n → IsSameAt k n old new → get_or (drop k new) i 0 ≡ get_or (drop k old) i 0
take_in_at k n i old new less same = sym (get_or-take n (drop k new) i 0 less) ∙ ap (λ l. get_or l i 0) same ∙ get_or-take n (drop k old) i 0 less

-- a byte among some that are as they were
pub byte_within : (at n k : ℕ) (old new : List ℕ) → IsSameAt at n old new → at ≤ k → k < at + n → IsSameByte k old new
byte_within at n k old new same from below =
    let step : at + (k - at) ≡ k = omega arith in
    ap (λ i. get_or new i 0) (sym step) ∙ sym (get_or-drop at new (k - at) 0) ∙ take_in_at at n (k - at) old new (omega arith) same ∙ get_or-drop at old (k - at) 0 ∙ ap (λ i. get_or old i 0) step

-- ---- where a payload stands ----

-- in another area than the first segment's and the current one's
pub record Elsewhere (g : Segment) (k : ℕ) : Type 0 where
  pub place : ℕ
  pub length : ℕ
  pub found : find place g.areas ≡ Some length
  pub not_first : place ≢ 0
  pub not_this : place ≢ g.place
  pub from : place ≤ k
  pub below : k < place + length

abbrev pub Standing : Layout → Option Segment → ℕ → Type 0
Standing y None k = k < y.end
Standing y (Some g) k = (k < y.end) ⊎ (((g.place ≤ k) × (k < g.end)) ⊎ Elsewhere g k)

pub one_is : (k v i w : ℕ) → find i ((k, v) ∷ []) ≡ Some w → (i ≡ k) × (w ≡ v)
unfolding put
one_is k v i w found = ⊎_elim
    (λ here. (here.0, (let same : Some v ≡ Some w = sym here.1 ∙ found in sym (cc same))))
    (λ there. absurd (let none : None ≡ Some w = sym (there.1 ∙ find-empty i) ∙ found in cc none))
    (put_cases i k v [])

standing : (y : Layout) (a : Option Segment) → IfSegment a → IfBounded y.end a → (ks : List ℕ) (k : ℕ) → IsInside ks (closed_areas y a) → is_in k ks ≡ true → Standing y a k
standing y None segment bounded ks k inside there =
    let one = one_is 0 (y.end + 1) inside.place inside.length inside.found in
    let w = inside.within k there in omega (arith, w.1, one.0, one.1)
standing y (Some g) segment bounded ks k inside there =
    let w = inside.within k there in
    ⊎_elim
    (λ here.
    let long : g.end + 1 - g.place ≡ inside.length = (let same : Some (g.end + 1 - g.place) ≡ Some inside.length = sym here.1 ∙ inside.found in cc same) in
    inr (inl (omega (arith, w.0, here.0), omega (arith, w.1, here.0, long, segment.begun))))
    (λ other.
    let found : find inside.place g.areas ≡ Some inside.length = sym other.1 ∙ inside.found in
    ⊎_elim
    (λ first. inl (omega (arith, w.1, first, bounded.first inside.length (ap (λ p. find p g.areas) (sym first) ∙ found))))
    (λ later. inr (inr (record { place = inside.place; length = inside.length; found = found; not_first = later; not_this = other.0; from = w.0; below = omega (arith, w.1) })))
    (cases_eq inside.place 0))
    (put_cases inside.place g.place (g.end + 1 - g.place) g.areas)

stand : (y : Layout) → IsSound y → (q : List ℕ) (k : ℕ) → IsHeld q (closed_areas y y.later) → is_in k q ≡ true → Standing y y.later k
stand y sound [] k held there = absurd (cc there)
stand y sound (j ∷ js) k held there = standing y y.later sound.laid.segment sound.bounded (j ∷ js) k held there

-- where those bytes stay, the index reads the same
pub index_same : (y : Layout) (b c : List ℕ) → IsSound y → ((k : ℕ) → Standing y y.later k → IsSameByte k b c) → read_plain c y.index ≡ read_plain b y.index
index_same y b c sound same =
    plain_same (byte_at c) (byte_at b) y.index sound.index.ordered (λ l n h e p k at_l at_n is there. same k (stand y sound p k (sound.held l n h e p at_l at_n is) there))

-- ---- what lies apart ----

first_live : (y : Layout) (g : Segment) → IsSegment g → find 0 (live_areas y (Some g)) ≡ Some (head_end y.end)
first_live y g is =
    find-put_other 0 g.place (g.limit - g.place) (put 0 (head_end y.end) g.areas) (λ same. omega (arith, same, is.behind)) ∙ find-put_same 0 0 (head_end y.end) g.areas refl

pub this_live : (y : Layout) (g : Segment) → find g.place (live_areas y (Some g)) ≡ Some (g.limit - g.place)
this_live y g = find-put_same g.place g.place (g.limit - g.place) (put 0 (head_end y.end) g.areas) refl

other_live : (y : Layout) (g : Segment) (place length : ℕ) → find place g.areas ≡ Some length → place ≢ 0 → place ≢ g.place → find place (live_areas y (Some g)) ≡ Some length
other_live y g place length found not_first not_this =
    find-put_other place g.place (g.limit - g.place) (put 0 (head_end y.end) g.areas) not_this ∙ (find-put_other place 0 (head_end y.end) g.areas not_first ∙ found)

-- the head and the slots lie before each later segment
pub head_before : (y : Layout) (g : Segment) → AreLive (live_areas y (Some g)) → IsSegment g → head_end y.end ≤ g.place
head_before y g live is = ⊎_elim
    (λ before. omega (arith, before))
    (λ behind. absurd (omega (arith, behind, is.behind)))
    (live.apart 0 g.place (head_end y.end) (g.limit - g.place) (first_live y g is) (this_live y g) (λ same. omega (arith, same, is.behind)))

-- and each other area
pub other_behind : (y : Layout) (g : Segment) (place length k : ℕ) → AreLive (live_areas y (Some g)) → IsSegment g → find place g.areas ≡ Some length → place ≢ 0 → place ≢ g.place → k < place + length → head_end y.end ≤ place
other_behind y g place length k live is found not_first not_this below = ⊎_elim
    (λ before. omega (arith, before))
    (λ behind. absurd (let one : place ≡ 0 = omega (arith, behind) in not_first one))
    (live.apart 0 place (head_end y.end) length (first_live y g is) (other_live y g place length found not_first not_this) (λ same. not_first (sym same)))

pub other_apart : (y : Layout) (g : Segment) (place length : ℕ) → AreLive (live_areas y (Some g)) → IsSegment g → find place g.areas ≡ Some length → place ≢ 0 → place ≢ g.place → (place + length ≤ g.place) ⊎ (g.limit ≤ place)
other_apart y g place length live is found not_first not_this = ⊎_elim
    (λ before. inl before)
    (λ behind. inr (omega (arith, behind, is.begun, is.within)))
    (live.apart place g.place length (g.limit - g.place) (other_live y g place length found not_first not_this) (this_live y g) not_this)

-- what a record takes lies within the segment's area
abbrev pub FitsIn : ℕ → Option Segment → Type 0
FitsIn to None = Unit {0}
FitsIn to (Some g) = to ≤ g.limit

-- payloads lie before the gate, or behind the area
pub off_record : (y : Layout) (a : Option Segment) (to k : ℕ) → AreLive (live_areas y a) → IfSegment a → FitsIn to a → Standing y a k → (k < gate_in y a) ⊎ (to ≤ k)
off_record y None to k live is fits at = inl at
off_record y (Some g) to k live is fits at = ⊎_elim
    (λ first. inl (omega (arith, first, head_before y g live is, is.begun)))
    (λ later. ⊎_elim
    (λ this. inl this.1)
    (λ other. ⊎_elim (λ before. inl (omega (arith, before, other.below, is.begun))) (λ behind. inr (omega (arith, behind, fits, other.from))) (other_apart y g other.place other.length live is other.found other.not_first other.not_this))
    later)
    at

-- each lies in an area that is live
pub record IsLive (y : Layout) (a : Option Segment) (k : ℕ) : Type 0 where
  pub place : ℕ
  pub length : ℕ
  pub found : find place (live_areas y a) ≡ Some length
  pub from : place ≤ k
  pub below : k < place + length

pub is_live : (y : Layout) (a : Option Segment) (k : ℕ) → IfSegment a → Standing y a k → IsLive y a k
unfolding put
is_live y None k is at = record { place = 0; length = head_end y.end; found = find-put_same 0 0 (head_end y.end) [] refl; from = omega arith; below = omega (arith, at) }
is_live y (Some g) k is at = ⊎_elim
    (λ first. record { place = 0; length = head_end y.end; found = first_live y g is; from = omega arith; below = omega (arith, first) })
    (λ later. ⊎_elim
    (λ this. record { place = g.place; length = g.limit - g.place; found = this_live y g; from = this.0; below = omega (arith, this.0, this.1, is.within) })
    (λ other. record { place = other.place; length = other.length; found = other_live y g other.place other.length other.found other.not_first other.not_this; from = other.from; below = other.below })
    later)
    at

-- and outside the head and the slots
pub off_head : (y : Layout) (a : Option Segment) (k : ℕ) → AreLive (live_areas y a) → IfSegment a → Standing y a k → (k < y.end) ⊎ (head_end y.end ≤ k)
off_head y None k live is at = inl at
off_head y (Some g) k live is at = ⊎_elim
    (λ first. inl first)
    (λ later. ⊎_elim
    (λ this. inr (omega (arith, this.0, head_before y g live is)))
    (λ other. inr (omega (arith, other.from, other_behind y g other.place other.length k live is other.found other.not_first other.not_this other.below)))
    later)
    at
