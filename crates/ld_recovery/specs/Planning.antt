-- A plan that is being stored, its items under numbers that follow each other.
use Rattle.std.specs.Prelude.{ℕ, zero, suc, ◌≡◌, ◌≤◌, ◌+◌, List, [], ◌∷◌, Bool, true, nat_lt, length, if◌then◌else◌}
use Rattle.ld_table.specs.Words.{is_in, with_one, how_many}
use Rattle.ld_lsn.specs.Number.{last_esn}
use Rattle.ld_ids.specs.declared.set.Spec.{Spec}
use Rattle.ld_msg.specs.declared.msg.Summary.{Summary}
use Rattle.ld_msg.specs.Bounds.{IsLng, Is64}
use Rattle.ld_msg.specs.Sequencer.{Planned, Storing}
use Rattle.ld_recovery.specs.Marks.{mark}

-- a plan with what is fixed for its epoch
pub record Plans : Type 0 where
  pub spec : Spec
  pub storing : Storing

abbrev pub with_storing : Plans → Storing → Plans
with_storing p g = record { spec = p.spec; storing = g }

-- a summary that a plan gives to the sequencer of an epoch
pub record IsClose (by : ℕ) (y : Summary) : Type 0 where
  pub ballot : y.ballot ≡ by
  pub lng : IsLng y.lng
  pub trim : Is64 y.trim
  pub end : 1 ≤ y.end
  pub end_most : y.end ≤ last_esn

-- items have the numbers from one on
abbrev pub AreFrom : ℕ → List (ℕ × Planned) → Type 0
AreFrom n [] = Unit {0}
AreFrom n (e ∷ m) = (e.0 ≡ n) × AreFrom (n + 1) m

-- fewer nodes than the factor settled the item
abbrev pub lacks : ℕ → ℕ × Planned → Bool
lacks factor e = nat_lt (length e.1.settled) factor

-- the node settled the item
abbrev pub settled_one : ℕ → ℕ × Planned → ℕ × Planned
settled_one y e = (e.0, record { what = e.1.what; settled = with_one y e.1.settled })

-- the node settled the item at the offset, where there is one
unfoldable pub settle_at : ℕ → ℕ → List (ℕ × Planned) → List (ℕ × Planned)
settle_at i y [] = []
settle_at zero y (e ∷ m) = settled_one y e ∷ m
settle_at (suc i) y (e ∷ m) = e ∷ settle_at i y m

-- the node settled so many items, from the first one on
unfoldable pub settle_first : ℕ → ℕ → List (ℕ × Planned) → List (ℕ × Planned)
settle_first k y [] = []
settle_first zero y (e ∷ m) = e ∷ m
settle_first (suc k) y (e ∷ m) = settled_one y e ∷ settle_first k y m

abbrev pub one_if : Bool → ℕ
one_if b = if b then 1 else 0

-- the node is among those that settled each of so many items, from the first one on
unfoldable pub HasSettled : ℕ → ℕ → List (ℕ × Planned) → Type 0
HasSettled k y [] = Unit {0}
HasSettled zero y (e ∷ m) = Unit {0}
HasSettled (suc k) y (e ∷ m) = (is_in y e.1.settled ≡ true) × HasSettled k y m

-- each node has settled as many items as its count says
abbrev pub AreMarked : List ℕ → List (ℕ × Planned) → Type 0
AreMarked marks m = (y : ℕ) → 1 ≤ y → HasSettled (mark y marks) y m

-- whether the node settled the item
abbrev pub has_settled : ℕ → ℕ × Planned → Bool
has_settled y e = is_in y e.1.settled

-- the counts say how many items each node has settled
abbrev pub AreCounted : List ℕ → List (ℕ × Planned) → Type 0
AreCounted counts m = (y : ℕ) → 1 ≤ y → mark y counts ≡ how_many (has_settled y) m

-- what is kept beside the items of a plan says what they are
pub record IsKept (factor first lacking lng end : ℕ) (marks counts : List ℕ) (items : List (ℕ × Planned)) : Type 0 where
  pub numbers : AreFrom first items
  pub lack : lacking ≡ how_many (lacks factor) items
  pub good : IsLng lng
  pub some : 1 ≤ end
  pub marked : AreMarked marks items
  pub counted : AreCounted counts items
