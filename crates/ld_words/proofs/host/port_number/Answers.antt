use Rattle.std.proofs.Common.{◌∙◌, sym, arith}
use Rattle.std.proofs.lemmas.Fmt.{decimal_injective}
use Rattle.ld_words.proofs.host.port_number.Goals as goal

pub returns-else-number-le65535 : goal.returns-else-number-le65535
returns-else-number-le65535 c port small is =
    let same = decimal_injective c.in-Some.number port (omega arith) (omega (arith, small)) (sym c.in-Some.ensures.found ∙ is) in
    omega (arith, same, small, c.if-number-le65535.false)
