use Rattle.ld_readnode.proofs.Joining.{clean_covers, open_covers}
use Rattle.ld_readnode.proofs.laws.read_pages_join.Goals as goal

pub returns-clause-clean : goal.returns-clause-clean
returns-clause-clean c g generation released = λ round epoch from y o a s lost small t f l. clean_covers g generation released round epoch from y o a s lost small t f l

pub returns-clause-open : goal.returns-clause-open
returns-clause-open c g generation released = λ round epoch from o a s lost e p t f l. open_covers g generation released round epoch from o a s lost e p t f l
