use Rattle.ld_node_bounds.proofs.Released.{raised_is}
use Rattle.ld_node_bounds.proofs.laws.released_numbers_stay.Goals as goal

pub returns : goal.returns
returns c = λ rs l r before R h b i. raised_is rs l r before R h b i
