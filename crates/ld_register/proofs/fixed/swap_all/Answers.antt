use Rattle.std.proofs.Common.{◌≡◌, ◌∙◌, ◌+◌, ◌-◌, ap, sym, arith}
use Rattle.ld_register.specs.Kept.{swapped_up_to}
use Rattle.ld_register.proofs.Swapping.{none_swapped, swapped_more}
use Rattle.ld_register.proofs.fixed.swap_all.Goals as goal

pub epochs-init : goal.epochs-init
epochs-init c = sym (none_swapped c.args.member c.args.spare c.args.table.now.entries)

pub epochs-preserved : goal.epochs-preserved
epochs-preserved c = let one = c.epochs.auto.e in let next : c.epochs.e ≡ (c.epochs.e + 1) - 1 = omega arith in
    c.swap_at.ensures ∙ (swapped_more (c.epochs.e - 1) c.epochs.e c.args.member c.args.spare c.args.table.now.entries _ (omega arith) c.len.ensures.ordered c.epochs.invariant ∙ ap (λ i. swapped_up_to i c.args.member c.args.spare c.args.table.now.entries) next)
