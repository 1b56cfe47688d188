use Rattle.std.proofs.Common.{◌+◌, ◌-◌, ◌^◌, ◌∙◌, inl, inr, ap, sym, min, Err}
use Rattle.ld_msg.specs.Register.{falls, armed_after}
use Rattle.ld_register.specs.Calls.{activated, after_activate}
use Rattle.ld_register.proofs.Committing.{err_of, on_err}
use Rattle.ld_register.proofs.Arming.{arms_activate, armed_refused, armed_fell, armed_passed, fallen}
use Rattle.ld_register.proofs.faulty.FaultyRegisterRegister.activate.Goals as goal

pub returns-in_err-grant-clause-meets : goal.returns-in_err-grant-clause-meets
returns-in_err-grant-clause-meets g c = armed_refused c.args.self.now c.attempt_activate.new.self c.in_err-grant.field-0.0 c.from_residual.result _ _ (arms_activate c.args.spec.now).refused (err_of c.from_residual.result c.in_err-grant.field-0.0 c.from_residual.ensures.1) c.in_err-grant.ensures.armed c.in_err-grant.ensures.faults c.in_err-grant.ensures.refused

pub returns-in_err-count_down-clause-meets : goal.returns-in_err-count_down-clause-meets
returns-in_err-count_down-clause-meets g c = let a = c.in_ok-grant.ensures.armed in let k = c.in_err-count_down.ensures.falls in
    armed_fell c.args.self.now c.attempt_activate.new.self c.count_down.new.self c.in_ok-grant.grant c.from_residual-in_err-count_down.result _ _ ((arms_activate c.args.spec.now).granted _)
    (err_of c.from_residual-in_err-count_down.result c.in_err-count_down.field-0.0 c.from_residual-in_err-count_down.ensures.1 ∙ ap (λ e. Err e) k.0) (ap falls (sym a) ∙ k.1) c.in_err-count_down.ensures.register
    (c.in_err-count_down.ensures.armed ∙ ap armed_after a) (k.2 ∙ ap (λ n. min (n + 1) (2 ^ 64 - 1)) c.in_ok-grant.ensures.faults) c.in_ok-grant.ensures.granted

pub returns-clause-meets : goal.returns-clause-meets
returns-clause-meets g c = let a = c.in_ok-grant.ensures.armed in let k = c.in_ok-count_down.ensures.passes in
    armed_passed c.args.self.now c.attempt_activate.new.self c.count_down.new.self c.in_ok-grant.grant _ _ ((arms_activate c.args.spec.now).granted _) (ap falls (sym a) ∙ k.0) c.in_ok-count_down.ensures.register
    (c.in_ok-count_down.ensures.armed ∙ ap armed_after a) (k.1 ∙ c.in_ok-grant.ensures.faults) c.in_ok-grant.ensures.granted

pub returns-in_err-grant-clause-fell : goal.returns-in_err-grant-clause-fell
returns-in_err-grant-clause-fell g c = on_err c.from_residual.result _ (inl (record { armed = c.in_err-grant.ensures.armed; faults = c.in_err-grant.ensures.faults }))

pub returns-in_err-count_down-clause-fell : goal.returns-in_err-count_down-clause-fell
returns-in_err-count_down-clause-fell g c = let a = c.in_ok-grant.ensures.armed in let k = c.in_err-count_down.ensures.falls in
    on_err c.from_residual-in_err-count_down.result _ (inr (fallen c.args.self.now c.attempt_activate.new.self c.count_down.new.self c.in_ok-grant.grant c.from_residual-in_err-count_down.result (λ h. activated h c.args.spec.now) (λ h. after_activate h c.args.spec.now)
    (err_of c.from_residual-in_err-count_down.result c.in_err-count_down.field-0.0 c.from_residual-in_err-count_down.ensures.1 ∙ ap (λ e. Err e) k.0) (ap falls (sym a) ∙ k.1) c.in_err-count_down.ensures.register
    (c.in_err-count_down.ensures.armed ∙ ap armed_after a) (k.2 ∙ ap (λ n. min (n + 1) (2 ^ 64 - 1)) c.in_ok-grant.ensures.faults) c.in_ok-grant.ensures.granted))

pub returns-clause-passes : goal.returns-clause-passes
returns-clause-passes g c = let a = c.in_ok-grant.ensures.armed in let k = c.in_ok-count_down.ensures.passes in
    record { passes = ap falls (sym a) ∙ k.0; armed = c.in_ok-count_down.ensures.armed ∙ ap armed_after a; faults = k.1 ∙ c.in_ok-grant.ensures.faults }
