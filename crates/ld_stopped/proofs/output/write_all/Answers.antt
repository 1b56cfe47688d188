use Rattle.std.proofs.Common.{◌∙◌, arith}
use Rattle.std.proofs.lemmas.List.{take_rest, length-drop}
use Rattle.ld_stopped.proofs.Writing.{one_more, some_of}
use Rattle.ld_stopped.proofs.output.write_all.Goals as goal

pub returns-in-Err-clause-part : goal.returns-in-Err-clause-part
returns-in-Err-clause-part g c = some_of _ _ _ c.args.bytes.now c.loop-done.done c.loop-done.invariant.1 c.in-Err.ensures.bytes

pub loop-done-preserved : goal.loop-done-preserved
loop-done-preserved g c =
    let kept = c.loop-done.invariant in
    let bound = rw take_rest at c.in-Ok.ensures.bound in (
      omega (arith, bound, kept.0, length-drop c.loop-done.done c.args.bytes.now),
      one_more _ _ _ c.args.bytes.now c.loop-done.done c.in-Ok.count kept.1 c.in-Ok.ensures.bytes,
      c.in-Ok.ensures.cause.same ∙ kept.2,
    )
