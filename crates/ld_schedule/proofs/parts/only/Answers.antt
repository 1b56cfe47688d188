use Rattle.std.proofs.Common.{[], ◌∷◌, ◌++◌, ap, length, arith}
use Rattle.ld_batch.specs.Batch.{packed}
use Rattle.ld_schedule.proofs.MessageLists.{one_packed}
use Rattle.ld_schedule.proofs.parts.only.Goals as goal

pub push-requires : goal.push-requires
push-requires c = omega (arith, c.requires, one_packed c.args.message, ap (λ l. length (packed (l ++ c.args.message ∷ []))) c.empty-messages.ensures)
