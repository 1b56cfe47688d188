use Rattle.std.proofs.Common.{◌∙◌, refl, arith}
use Rattle.std.proofs.lemmas.List.{take_rest, length-drop}
use Rattle.ld_framed.specs.Writes.{Writes}
use Rattle.ld_framed.proofs.Writing.{says_nothing, one_more, part, writes_more, writes_part}
use Rattle.ld_framed.proofs.output.write_all.Goals as goal

pub loop-done-init : goal.loop-done-init
loop-done-init g c = (omega arith, says_nothing _, refl, Writes.none)

pub returns-in-Err-clause-written : goal.returns-in-Err-clause-written
returns-in-Err-clause-written g c = part _ _ _ c.args.bytes.now c.loop-done.done c.loop-done.invariant.1 c.in-Err.ensures.bytes

pub loop-done-preserved : goal.loop-done-preserved
loop-done-preserved g c =
    let kept = c.loop-done.invariant in
    let bound = rw take_rest at c.in-Ok.ensures.bound in (
      omega (arith, bound, kept.0, length-drop c.loop-done.done c.args.bytes.now),
      one_more _ _ _ c.args.bytes.now c.loop-done.done c.in-Ok.count kept.1 c.in-Ok.ensures.bytes,
      c.in-Ok.ensures.cause.same ∙ kept.2,
      writes_more _ _ _ c.args.bytes.now c.loop-done.done c.in-Ok.count kept.3 c.in-Ok.ensures.did,
    )

pub returns-in-Err-clause-did : goal.returns-in-Err-clause-did
returns-in-Err-clause-did g c = writes_part _ _ _ c.args.bytes.now c.loop-done.done c.loop-done.invariant.3 c.in-Err.ensures.did
