use Rattle.std.proofs.Common.{◌≡◌, ◌∙◌, ℕ, List, ◌∷◌, length, take, get_or, ap, sym, arith}
use Rattle.std.proofs.lemmas.Result.{err_from_is_err_and}
use Rattle.ld_crowd.specs.Calls.{said}
use Rattle.ld_serve.specs.Group.{told, waiting_in}
use Rattle.ld_serve.specs.declared.group.Answer.{Answer}
use Rattle.ld_serve.proofs.Groups.{told_next, take_waiting}
use Rattle.ld_serve.proofs.group.say_all.Goals as goal

pub loop-answer-preserved : goal.loop-answer-preserved
loop-answer-preserved g c = record {
  said =
      c.in_ok-say.ensures.did
      ∙ ap (λ (bytes : List ℕ). said c.answer-item.result.peer bytes ∷ g.C.Crowd.did c.loop-answer.crowd) c.deref.ensures.value
      ∙ ap (λ (a : Answer). said a.peer a.bytes.items ∷ g.C.Crowd.did c.loop-answer.crowd) c.answer-item.is
      ∙ (λ i. said (get_or c.args.answers.now c.loop-answer.answer-index c.answer-item.result).peer (get_or c.args.answers.now c.loop-answer.answer-index c.answer-item.result).bytes.items ∷ c.loop-answer.invariant.said i)
      ∙ sym (told_next c.args.answers.now c.loop-answer.answer-index c.answer-item.result (g.C.Crowd.did c.args.crowd.now) c.loop-answer-test.true);
  faults = c.in_ok-say.ensures.faults ∙ c.loop-answer.invariant.faults;
}

pub returns-in_err-say-clause-part : goal.returns-in_err-say-clause-part
returns-in_err-say-clause-part g c =
    let p = err_from_is_err_and c.from_residual.result c.from_residual.ensures.1 in
    rw p.1 (c.loop-answer.answer-index, c.in_err-say.ensures.did ∙ c.loop-answer.invariant.said)

pub returns-in_err-say-clause-faults : goal.returns-in_err-say-clause-faults
returns-in_err-say-clause-faults g c = c.in_err-say.ensures.faults ∙ c.loop-answer.invariant.faults

pub returns-clause-said : goal.returns-clause-said
returns-clause-said g c =
    let end : c.loop-answer.answer-index ≡ length c.args.answers.now = omega (arith, c.loop-answer-test.false, c.loop-answer.auto.answer-index-end) in
    c.loop-answer.invariant.said
    ∙ ap (λ (k : ℕ). told (take k (waiting_in c.args.answers.now)) (g.C.Crowd.did c.args.crowd.now)) end
    ∙ ap (λ (l : List (ℕ × List ℕ)). told l (g.C.Crowd.did c.args.crowd.now)) (take_waiting c.args.answers.now)
