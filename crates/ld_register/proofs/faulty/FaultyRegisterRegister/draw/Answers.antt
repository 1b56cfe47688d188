use Rattle.std.proofs.Common.{◌+◌, ◌-◌, ◌^◌, ◌∙◌, inl, inr, ap, sym, min, Err}
use Rattle.ld_msg.specs.Register.{falls, armed_after}
use Rattle.ld_register.specs.Calls.{drawn, after_draw}
use Rattle.ld_register.proofs.Committing.{err_of, on_err}
use Rattle.ld_register.proofs.Arming.{arms_draw, armed_refused, armed_fell, armed_passed, fallen}
use Rattle.ld_register.proofs.faulty.FaultyRegisterRegister.draw.Goals as goal

pub returns-in_err-handed-clause-meets : goal.returns-in_err-handed-clause-meets
returns-in_err-handed-clause-meets g c = armed_refused c.args.self.now c.attempt_draw.new.self c.in_err-handed.field-0.0 c.from_residual.result _ _ (arms_draw c.args.node).refused (err_of c.from_residual.result c.in_err-handed.field-0.0 c.from_residual.ensures.1) c.in_err-handed.ensures.armed c.in_err-handed.ensures.faults c.in_err-handed.ensures.refused

pub returns-in_err-count_down-clause-meets : goal.returns-in_err-count_down-clause-meets
returns-in_err-count_down-clause-meets g c = let a = c.in_ok-handed.ensures.armed in let k = c.in_err-count_down.ensures.falls in
    armed_fell c.args.self.now c.attempt_draw.new.self c.count_down.new.self c.in_ok-handed.handed c.from_residual-in_err-count_down.result _ _ ((arms_draw c.args.node).granted _)
    (err_of c.from_residual-in_err-count_down.result c.in_err-count_down.field-0.0 c.from_residual-in_err-count_down.ensures.1 ∙ ap (λ e. Err e) k.0) (ap falls (sym a) ∙ k.1) c.in_err-count_down.ensures.register
    (c.in_err-count_down.ensures.armed ∙ ap armed_after a) (k.2 ∙ ap (λ n. min (n + 1) (2 ^ 64 - 1)) c.in_ok-handed.ensures.faults) c.in_ok-handed.ensures.granted

pub returns-clause-meets : goal.returns-clause-meets
returns-clause-meets g c = let a = c.in_ok-handed.ensures.armed in let k = c.in_ok-count_down.ensures.passes in
    armed_passed c.args.self.now c.attempt_draw.new.self c.count_down.new.self c.in_ok-handed.handed _ _ ((arms_draw c.args.node).granted _) (ap falls (sym a) ∙ k.0) c.in_ok-count_down.ensures.register
    (c.in_ok-count_down.ensures.armed ∙ ap armed_after a) (k.1 ∙ c.in_ok-handed.ensures.faults) c.in_ok-handed.ensures.granted

pub returns-in_err-handed-clause-fell : goal.returns-in_err-handed-clause-fell
returns-in_err-handed-clause-fell g c = on_err c.from_residual.result _ (inl (record { armed = c.in_err-handed.ensures.armed; faults = c.in_err-handed.ensures.faults }))

pub returns-in_err-count_down-clause-fell : goal.returns-in_err-count_down-clause-fell
returns-in_err-count_down-clause-fell g c = let a = c.in_ok-handed.ensures.armed in let k = c.in_err-count_down.ensures.falls in
    on_err c.from_residual-in_err-count_down.result _ (inr (fallen c.args.self.now c.attempt_draw.new.self c.count_down.new.self c.in_ok-handed.handed c.from_residual-in_err-count_down.result (λ h. drawn h c.args.node) (λ h. after_draw h c.args.node)
    (err_of c.from_residual-in_err-count_down.result c.in_err-count_down.field-0.0 c.from_residual-in_err-count_down.ensures.1 ∙ ap (λ e. Err e) k.0) (ap falls (sym a) ∙ k.1) c.in_err-count_down.ensures.register
    (c.in_err-count_down.ensures.armed ∙ ap armed_after a) (k.2 ∙ ap (λ n. min (n + 1) (2 ^ 64 - 1)) c.in_ok-handed.ensures.faults) c.in_ok-handed.ensures.granted))

pub returns-clause-passes : goal.returns-clause-passes
returns-clause-passes g c = let a = c.in_ok-handed.ensures.armed in let k = c.in_ok-count_down.ensures.passes in
    record { passes = ap falls (sym a) ∙ k.0; armed = c.in_ok-count_down.ensures.armed ∙ ap armed_after a; faults = k.1 ∙ c.in_ok-handed.ensures.faults }
