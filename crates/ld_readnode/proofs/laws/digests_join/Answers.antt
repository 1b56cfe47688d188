use Rattle.ld_readnode.proofs.Joining.{digest_covers}
use Rattle.ld_readnode.proofs.laws.digests_join.Goals as goal

pub returns : goal.returns
returns c g epoch from = λ o a f l. digest_covers g epoch from o a f l
