use Rattle.std.proofs.Common.{refl, arith}
use Rattle.ld_recovery.proofs.storing.summary.Goals as goal

pub returns-clause-close : goal.returns-clause-close
returns-clause-close c = record { ballot = refl; lng = c.requires.lng; trim = omega (arith, c.value.ensures); end = c.requires.end; end_most = omega (arith, c.ranges.end.fits) }
