use Rattle.std.proofs.Common.{◌≡◌, ◌-◌}
use Rattle.ld_register.specs.Kept.{swapped_up_to}
use Rattle.ld_register.proofs.fixed.swap_all.Given as goal

abbrev pub invariant-epochs : goal.invariant-epochs
invariant-epochs l = l.table.entries ≡ swapped_up_to (l.e - 1) l.fn.member l.fn.spare l.initial.table.entries
