use Rattle.std.proofs.Common.{◌≡◌, drop, max}
use Rattle.ld_msg.specs.Digest.{digest_lng}
use Rattle.ld_digest.proofs.digest.greatest_lng.Given as goal

abbrev pub invariant-loop-one : goal.invariant-loop-one
invariant-loop-one l = max l.greatest (digest_lng (drop l.one-index l.told)) ≡ digest_lng l.told
