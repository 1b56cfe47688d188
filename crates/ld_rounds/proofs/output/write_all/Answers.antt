use Rattle.std.proofs.Common.{◌∙◌, arith, Some}
use Rattle.std.proofs.lemmas.List.{take_rest, length-drop}
use Rattle.ld_rounds.proofs.Writing.{one_more, part}
use Rattle.ld_rounds.proofs.output.write_all.Goals as goal

pub returns-in-Err-clause-written : goal.returns-in-Err-clause-written
returns-in-Err-clause-written g c = part (Some _) (Some _) (Some _) c.args.bytes.now c.loop-done.done c.loop-done.invariant.1 c.in-Err.ensures.bytes

pub loop-done-preserved : goal.loop-done-preserved
loop-done-preserved g c =
    let kept = c.loop-done.invariant in
    let bound = rw take_rest at c.in-Ok.ensures.bound in (
      omega (arith, bound, kept.0, length-drop c.loop-done.done c.args.bytes.now),
      one_more (Some _) (Some _) (Some _) c.args.bytes.now c.loop-done.done c.in-Ok.count kept.1 c.in-Ok.ensures.bytes,
      c.in-Ok.ensures.cause.same ∙ kept.2,
    )
