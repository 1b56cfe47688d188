use Rattle.std.proofs.Common.{rules, refl, Some, None, is_some, sym, ap, ◌∙◌, arith}
use Rattle.ld_table.specs.Table.{find}
use Rattle.ld_op.proofs.Places.{find-filled_by}
use Rattle.ld_op.proofs.Closed.{none_past}
use Rattle.ld_op.proofs.summaries.has_summary.Goals as goal

pub returns-then-from-epoch : goal.returns-then-from-epoch
returns-then-from-epoch c = sym (none_past c.args.epoch _ c.len.ensures.ordered c.requires (omega (arith, c.from.ensures, c.if-from-epoch.true)))

pub returns-in-Some : goal.returns-in-Some
unfolding find
returns-in-Some c = c.is_some.ensures ∙ ap is_some (find-filled_by c.args.epoch _ _ (Some c.in-Some.place.now) c.len.ensures.ordered refl (search rules))

pub returns-in-None : goal.returns-in-None
unfolding find
returns-in-None c = ap is_some (find-filled_by c.args.epoch _ _ None c.len.ensures.ordered refl (search rules))
