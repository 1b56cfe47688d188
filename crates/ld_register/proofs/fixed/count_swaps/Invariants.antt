use Rattle.std.proofs.Common.{◌≡◌, ◌≤◌, ◌+◌, ◌-◌}
use Rattle.ld_register.specs.Kept.{swaps_up_to}
use Rattle.ld_register.proofs.fixed.count_swaps.Given as goal

abbrev pub invariant-epochs : goal.invariant-epochs
invariant-epochs l = record {
  count : l.count ≡ swaps_up_to (l.e - 1) l.fn.member l.fn.spare l.fn.table.entries;
  small : l.count + 1 ≤ l.e;
}
