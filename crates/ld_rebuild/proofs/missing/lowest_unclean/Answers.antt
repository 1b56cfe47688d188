use Rattle.std.proofs.Common.{arith}
use Rattle.ld_op.specs.Plain.{log_of}
use Rattle.ld_rebuild.proofs.Uncleans.{lowest_fits}
use Rattle.ld_rebuild.proofs.missing.lowest_unclean.Goals as goal

pub overflow_cast-result : goal.overflow_cast-result
overflow_cast-result c = omega (arith, c.lowest_unclean.ensures, lowest_fits (log_of c.args.plain.now.state c.args.log) c.requires)
