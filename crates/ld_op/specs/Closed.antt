-- What the map of a log's summaries keeps beside them.
use Rattle.std.specs.Prelude.{◌≡◌, ℕ, ◌<◌, ◌≤◌, ◌^◌, List, Option, Some, None, true, is_some}
use Rattle.ld_table.specs.Table.{find}
use Rattle.ld_msg.specs.declared.msg.Summary.{Summary}
use Rattle.ld_op.specs.Places.{filled, has_place}

-- each epoch from one on and below another has a summary
abbrev pub AreClean : ℕ → ℕ → List (ℕ × Summary) → Type 0
AreClean from upto m = (k : ℕ) → from ≤ k → k < upto → is_some (find k m) ≡ true

-- each epoch with a place is a number of 32 bits
abbrev pub AreEpochs : List (ℕ × Option Summary) → Type 0
AreEpochs m = (k : ℕ) → has_place k m ≡ true → k < 2 ^ 32

-- epochs and ends are numbers of 32 bits, and the lowest epoch from one on without a summary is kept
pub record AreSummaries (m : List (ℕ × Option Summary)) (lowest : ℕ) : Type 0 where
  pub epochs : AreEpochs m
  pub ends : (e : ℕ) (y : Summary) → find e (filled m) ≡ Some y → y.end < 2 ^ 32
  pub positive : 1 ≤ lowest
  pub below : AreClean 1 lowest (filled m)
  pub absent : find lowest (filled m) ≡ None
