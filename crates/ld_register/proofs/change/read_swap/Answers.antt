use Rattle.std.proofs.Common.{◌∙◌, ap}
use Rattle.std.specs.Int.{w32, to_be_bytes}
use Rattle.ld_register.proofs.Bytes.{swap_is, no_swap}
use Rattle.ld_register.proofs.change.read_swap.Goals as goal

pub returns-in_default-clause-none : goal.returns-in_default-clause-none
returns-in_default-clause-none c = no_swap c.args.body.now c.word-number.result c.requires.len c.word-number.type_inv c.word-number.ensures (λ l m s. c.in_default.ensures.none l)

pub returns-in_default-new-clause-none : goal.returns-in_default-new-clause-none
returns-in_default-new-clause-none c = no_swap c.args.body.now c.word-number.result c.requires.len c.word-number.type_inv c.word-number.ensures (λ l m s. c.in_default-new.ensures.none m)

pub returns-in_default-new-2-clause-none : goal.returns-in_default-new-2-clause-none
returns-in_default-new-2-clause-none c = no_swap c.args.body.now c.word-number.result c.requires.len c.word-number.type_inv c.word-number.ensures (λ l m s. c.in_default-new-2.ensures.none s)

pub returns-clause-some : goal.returns-clause-some
returns-clause-some c = record {
  bytes = swap_is c.args.body.now c.in-Some.log c.word-upto.result c.in-Some-new.member c.in-Some-new-2.spare c.requires.len c.requires.kind (ap (to_be_bytes w32) c.in-Some.ensures.some ∙ c.word-number.ensures) c.word-upto.ensures c.in-Some-new.ensures.some c.in-Some-new-2.ensures.some;
  is = (c.number.ensures.bounds, c.word-upto.type_inv, c.number-2.ensures.bounds, c.number-3.ensures.bounds);
}
