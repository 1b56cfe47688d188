use Rattle.std.proofs.Common.{◌∙◌, ap, arith}
use Rattle.std.specs.Int.{w32, to_be_bytes}
use Rattle.ld_register.proofs.Bytes.{unfixed_is, no_unfixed}
use Rattle.ld_register.proofs.change.read_unfixed.Goals as goal

pub returns-in_default-clause-none : goal.returns-in_default-clause-none
returns-in_default-clause-none c = no_unfixed c.args.body.now c.word-number.result c.word-epoch.result c.requires.len c.word-number.type_inv c.word-epoch.type_inv c.word-number.ensures c.word-epoch.ensures (λ i e. c.in_default.ensures.none i)

pub returns-then-epoch-eq0-clause-none : goal.returns-then-epoch-eq0-clause-none
returns-then-epoch-eq0-clause-none c = no_unfixed c.args.body.now c.word-number.result c.word-epoch.result c.requires.len c.word-number.type_inv c.word-epoch.type_inv c.word-number.ensures c.word-epoch.ensures (λ i e. let o = c.then-epoch-eq0.either in let a = e.0 in let b = e.1 in omega arith)

pub returns-clause-some : goal.returns-clause-some
returns-clause-some c = let log = c.in-Some.ensures.some in record {
  bytes = unfixed_is c.args.body.now c.in-Some.log c.word-epoch.result c.requires.len c.requires.kind (ap (to_be_bytes w32) log ∙ c.word-number.ensures) c.word-epoch.ensures;
  is = (c.number.ensures.bounds, (omega arith, omega arith));
}
