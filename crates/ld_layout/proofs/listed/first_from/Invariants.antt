use Rattle.std.proofs.Common.{◌≤◌, ◌<◌, ◌-◌, ℕ, length, slice_index}
use Rattle.ld_layout.proofs.listed.first_from.Given as goal

abbrev pub invariant-halves : goal.invariant-halves
invariant-halves l = record {
  order : l.from ≤ l.to;
  most : l.to ≤ length l.starts;
  before : (k : ℕ) → k < l.from → slice_index l.starts k < l.place;
  behind : (k : ℕ) → l.to ≤ k → k < length l.starts → l.place ≤ slice_index l.starts k;
}

abbrev pub decreases-halves : goal.decreases-halves
decreases-halves l = l.to - l.from
