use Rattle.std.proofs.Common.{◌<◌, ◌^◌, sym, ◌∙◌, arith}
use Rattle.ld_op.proofs.Closed.{is_epoch}
use Rattle.ld_op.proofs.summaries.lowest_from.Goals as goal

within : (c : goal.In-epochs) → c.epochs.lowest < 2 ^ 32
within c = is_epoch c.epochs.lowest _ c.len.ensures.ordered c.requires (sym c.has_summary.ensures ∙ c.epochs-test.true)

pub overflow_add-lowest : goal.overflow_add-lowest
overflow_add-lowest c = omega (arith, within c)

pub epochs-smaller : goal.epochs-smaller
epochs-smaller c = omega (arith, within c)
