use Rattle.std.proofs.Common.{ap, arith}
use Rattle.ld_msg.specs.Digest.{digest_lng}
use Rattle.ld_digest.proofs.Changed.{good_below}
use Rattle.ld_digest.proofs.digest.Digest.lng.Goals as goal

pub returns-clause-below : goal.returns-clause-below
returns-clause-below c = omega (arith, c.greatest_lng.ensures, ap digest_lng c.told.ensures.value, good_below c.args.self.now.told c.told.ensures.in_place)
