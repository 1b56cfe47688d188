use Rattle.std.proofs.Common.{◌≡◌, true, length, ◌++◌}
use Rattle.std.specs.Prelude.{replicate}
use Rattle.std.specs.VecDeque.{deque_capacity}
use Rattle.ld_window.proofs.window.take_stored.Given as goal

abbrev pub invariant-marks : goal.invariant-marks
invariant-marks l = record {
  taken : l.initial.marks.items ≡ replicate l.count true ++ l.marks.items;
  capacity : deque_capacity l.marks ≡ deque_capacity l.initial.marks;
}

abbrev pub decreases-marks : goal.decreases-marks
decreases-marks l = length l.marks.items
