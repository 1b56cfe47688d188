use Rattle.std.proofs.Common.{◌∙◌, ap, length, arith}
use Rattle.ld_batch.proofs.Growing.{count_of}
use Rattle.ld_batch.proofs.batch.Batch.len.Goals as goal

pub unreachable-requires : goal.unreachable-requires
unreachable-requires c = omega (arith, c.in-None.ensures, (count_of c.deref.result.now _ (c.deref.ensures.value ∙ c.self.invariant.is)).0)

pub returns : goal.returns
returns c = c.from.ensures ∙ c.in-Some.ensures.1 ∙ (count_of c.deref.result.now _ (c.deref.ensures.value ∙ c.self.invariant.is)).1 ∙ ap length c.self.view_is
