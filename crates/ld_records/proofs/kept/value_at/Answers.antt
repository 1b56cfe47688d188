use Rattle.std.proofs.Common.{arith}
use Rattle.ld_records.proofs.Values.{mapped_at}
use Rattle.ld_records.proofs.kept.value_at.Goals as goal

pub returns : goal.returns
returns c = mapped_at (λ v. v.items) c.args.values.now c.args.number c.index-values-at.result c.deref.result.now c.if-at-values.false c.index-values-at.is c.deref.ensures.value
