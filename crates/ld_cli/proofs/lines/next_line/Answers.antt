use Rattle.std.proofs.Common.{◌≡◌, ◌∙◌, ◌<◌, [], length, arith}
use Rattle.std.proofs.lemmas.Grind.{common_steps}
use Rattle.std.proofs.lemmas.List.{length-append}
use Rattle.ld_lsn.proofs.Texts.{Lacks-push}
use Rattle.ld_cli.proofs.LineLoop.{taken_on, taken_kept, at_end, none_kept}
use Rattle.ld_cli.proofs.lines.next_line.Goals as goal

pub loop-preserved : goal.loop-preserved
loop-preserved g c =
    let read = c.loop.invariant.1 in
    let pushed = c.in_ok-push-in-Some.ensures.items in
    let byte = rw c.in-Some.is at c.in-Ok.ensures.taken in
    let fewer = rw c.in-Some.is at c.in-Ok.ensures.budget in
    let other = rw c.in-Some.is at c.in-Some.byte-test in (
      λ all may. let before = c.loop.invariant.0 all (c.in-Ok.ensures.fed all may) in
          (before.0, rw pushed (taken_on _ _ _ before.1 (byte all may))),
      record {
        lacks = rw pushed (Lacks-push _ _ _ read.lacks other.1);
        long = rw (pushed, length-append, read.long);
        budget = omega (arith, read.budget, fewer);
        later = omega (arith, read.later, c.in-Ok.ensures.cause.later);
      },
      c.in-Ok.ensures.steady ∙ c.loop.invariant.2,
    )

pub returns-in-None-clause-taken : goal.returns-in-None-clause-taken
returns-in-None-clause-taken g c = λ all may.
    let read = (c.loop.invariant.0 all (c.in-Ok.ensures.fed all may)).1 in
    let ends = rw c.in-None.is at c.in-Ok.ensures.taken all may in
    let none : c.loop.line.items ≡ [] = grind (arith, common_steps, c.if-is_empty.ensures, c.if-is_empty.true) in (
      at_end _ _ none read ends.0 ends.1,
      ends.1,
      none_kept _ _ none read ends.0,
    )

pub returns-in-None-2-clause-taken : goal.returns-in-None-2-clause-taken
returns-in-None-2-clause-taken g c = λ all may.
    let read = c.loop.invariant.1 in
    let taken = (c.loop.invariant.0 all (c.in-Ok.ensures.fed all may)).1 in
    let ends = rw c.in-None.is at c.in-Ok.ensures.taken all may in
    let some : 0 < length c.loop.line.items = grind (arith, common_steps, c.if-is_empty.ensures) in (
      read.lacks,
      omega (arith, read.long, c.loop-test.true),
      some,
      taken_kept c.loop.line.items taken ends.0,
      ends.1,
    )
