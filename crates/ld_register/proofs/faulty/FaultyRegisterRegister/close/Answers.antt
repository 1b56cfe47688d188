use Rattle.std.proofs.Common.{◌+◌, ◌-◌, ◌^◌, ◌∙◌, inl, inr, ap, sym, subst, min, Err}
use Rattle.std.specs.Result.{IsErrOf}
use Rattle.ld_msg.specs.Register.{falls, armed_after}
use Rattle.ld_register.specs.declared.fault.RegisterFault.TheVariants as faults
use Rattle.ld_register.specs.Calls.{closed, after_close}
use Rattle.ld_register.proofs.Committing.{err_of, on_err}
use Rattle.ld_register.proofs.Arming.{arms_close, armed_refused, armed_fell, armed_passed, fallen}
use Rattle.ld_register.proofs.faulty.FaultyRegisterRegister.close.Goals as goal

pub returns-in_err-next-clause-meets : goal.returns-in_err-next-clause-meets
returns-in_err-next-clause-meets g c = armed_refused c.args.self.now c.attempt_close.new.self c.in_err-next.field-0.0 c.from_residual.result _ _ (arms_close c.args.log c.args.epoch c.args.summary.now c.args.short).refused (err_of c.from_residual.result c.in_err-next.field-0.0 c.from_residual.ensures.1) c.in_err-next.ensures.armed c.in_err-next.ensures.faults c.in_err-next.ensures.refused

pub returns-in_err-count_down-clause-meets : goal.returns-in_err-count_down-clause-meets
returns-in_err-count_down-clause-meets g c = let a = c.in_ok-next.ensures.armed in let k = c.in_err-count_down.ensures.falls in
    armed_fell c.args.self.now c.attempt_close.new.self c.count_down.new.self c.in_ok-next.next c.from_residual-in_err-count_down.result _ _ ((arms_close c.args.log c.args.epoch c.args.summary.now c.args.short).granted _)
    (err_of c.from_residual-in_err-count_down.result c.in_err-count_down.field-0.0 c.from_residual-in_err-count_down.ensures.1 ∙ ap (λ e. Err e) k.0) (ap falls (sym a) ∙ k.1) c.in_err-count_down.ensures.register
    (c.in_err-count_down.ensures.armed ∙ ap armed_after a) (k.2 ∙ ap (λ n. min (n + 1) (2 ^ 64 - 1)) c.in_ok-next.ensures.faults) c.in_ok-next.ensures.granted

pub returns-clause-meets : goal.returns-clause-meets
returns-clause-meets g c = let a = c.in_ok-next.ensures.armed in let k = c.in_ok-count_down.ensures.passes in
    armed_passed c.args.self.now c.attempt_close.new.self c.count_down.new.self c.in_ok-next.next _ _ ((arms_close c.args.log c.args.epoch c.args.summary.now c.args.short).granted _) (ap falls (sym a) ∙ k.0) c.in_ok-count_down.ensures.register
    (c.in_ok-count_down.ensures.armed ∙ ap armed_after a) (k.1 ∙ c.in_ok-next.ensures.faults) c.in_ok-next.ensures.granted

pub returns-in_err-next-clause-fell : goal.returns-in_err-next-clause-fell
returns-in_err-next-clause-fell g c = on_err c.from_residual.result _ (inl (record { armed = c.in_err-next.ensures.armed; faults = c.in_err-next.ensures.faults }))

pub returns-in_err-count_down-clause-fell : goal.returns-in_err-count_down-clause-fell
returns-in_err-count_down-clause-fell g c = let a = c.in_ok-next.ensures.armed in let k = c.in_err-count_down.ensures.falls in
    on_err c.from_residual-in_err-count_down.result _ (inr (fallen c.args.self.now c.attempt_close.new.self c.count_down.new.self c.in_ok-next.next c.from_residual-in_err-count_down.result (λ h. closed h c.args.log c.args.epoch c.args.summary.now c.args.short) (λ h. after_close h c.args.log c.args.epoch c.args.summary.now c.args.short)
    (err_of c.from_residual-in_err-count_down.result c.in_err-count_down.field-0.0 c.from_residual-in_err-count_down.ensures.1 ∙ ap (λ e. Err e) k.0) (ap falls (sym a) ∙ k.1) c.in_err-count_down.ensures.register
    (c.in_err-count_down.ensures.armed ∙ ap armed_after a) (k.2 ∙ ap (λ n. min (n + 1) (2 ^ 64 - 1)) c.in_ok-next.ensures.faults) c.in_ok-next.ensures.granted))

pub returns-clause-passes : goal.returns-clause-passes
returns-clause-passes g c = let a = c.in_ok-next.ensures.armed in let k = c.in_ok-count_down.ensures.passes in
    record { passes = ap falls (sym a) ∙ k.0; armed = c.in_ok-count_down.ensures.armed ∙ ap armed_after a; faults = k.1 ∙ c.in_ok-next.ensures.faults }

pub returns-in_err-next-clause-bounds : goal.returns-in_err-next-clause-bounds
returns-in_err-next-clause-bounds g c lce next e = c.in_err-next.ensures.bounds lce next (subst (λ r. IsErrOf r (faults.Behind lce next)) (err_of c.from_residual.result c.in_err-next.field-0.0 c.from_residual.ensures.1) e)

pub returns-in_err-next-clause-overtaken : goal.returns-in_err-next-clause-overtaken
returns-in_err-next-clause-overtaken g c kept e = c.in_err-next.ensures.overtaken kept (subst (λ r. IsErrOf r (faults.Overtaken kept)) (err_of c.from_residual.result c.in_err-next.field-0.0 c.from_residual.ensures.1) e)
