use Rattle.std.proofs.Common.{arith}
use Rattle.std.proofs.lemmas.Fmt.{decimal_injective}
use Rattle.ld_words.proofs.number.within.Goals as goal
use Rattle.ld_words.proofs.number.within.Goals.{else-least-number-via-then-least-number+else-number-most, else-least-number-via-else-least-number}

pub returns-else-least-number : goal.returns-else-least-number
returns-else-least-number c n s =
    let e = decimal_injective c.args.number n (omega (arith, c.ranges.number.fits)) (omega (arith, s.to, c.ranges.most.fits)) s.digits in
    elim c.else-least-number.branch [
      | else-least-number-via-then-least-number+else-number-most w ↦ absurd (omega (arith, e, s.to, w.if-number-most.false))
      | else-least-number-via-else-least-number w ↦ absurd (omega (arith, e, s.from, w.if-least-number.false))
    ]
