use Rattle.std.proofs.Common.{◌≡◌, [], arith}
use Rattle.std.proofs.lemmas.Grind.{common_steps}
use Rattle.ld_shared.proofs.Copied.{empty_damaged, err_of, memory_as, on_err, place_as}
use Rattle.ld_shared.proofs.copying.values_of.Goals as goal

pub returns-then-is_empty-clause-damaged : goal.returns-then-is_empty-clause-damaged
returns-then-is_empty-clause-damaged c place is =
    let none : c.args.bytes.now ≡ [] = grind (arith, common_steps, c.if-is_empty.ensures, c.if-is_empty.true) in
    empty_damaged place c.args.bytes.now (place_as 0 place is) none

pub returns-in_err-check-clause-whole : goal.returns-in_err-check-clause-whole
returns-in_err-check-clause-whole c d stands =
    on_err c.from_residual.result _ (memory_as c.from_residual.result c.in_err-check.field-0.0 (err_of c.from_residual.result c.in_err-check.field-0.0 c.from_residual.ensures.1) (c.in_err-check.ensures.whole d stands))
