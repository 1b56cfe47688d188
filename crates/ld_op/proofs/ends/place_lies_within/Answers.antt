use Rattle.std.proofs.Common.{◌∙◌, sym, arith}
use Rattle.std.proofs.lemmas.Bool.Decides.{nat_tests}
use Rattle.ld_op.proofs.Within.{numbers_within}
use Rattle.ld_op.proofs.ends.place_lies_within.Goals as goal

pub returns-then-place-end : goal.returns-then-place-end
returns-then-place-end c = grind (arith, nat_tests) ∙ sym (numbers_within c.args.end c.args.place.at c.args.place.len)
