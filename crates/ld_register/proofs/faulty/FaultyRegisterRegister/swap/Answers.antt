use Rattle.std.proofs.Common.{◌+◌, ◌-◌, ◌^◌, ◌∙◌, inl, inr, ap, sym, subst, min, Err, arith}
use Rattle.ld_msg.specs.Register.{falls, armed_after}
use Rattle.ld_register.specs.Calls.{swapped, after_swap}
use Rattle.ld_register.specs.Held.{Meets, granting}
use Rattle.ld_register.specs.Arming.{kept_in}
use Rattle.ld_register.proofs.Committing.{err_of, on_err}
use Rattle.ld_register.proofs.Arming.{refuses_swap, grants_swap, idle_swap_armed, armed_kept, armed_refused, armed_fell, armed_passed, fallen}
use Rattle.ld_register.proofs.faulty.FaultyRegisterRegister.swap.Goals as goal

pub returns-in_err-count-clause-meets : goal.returns-in_err-count-clause-meets
returns-in_err-count-clause-meets g c = armed_refused c.args.self.now c.attempt_swap.new.self c.in_err-count.field-0.0 c.from_residual.result _ _ (refuses_swap c.args.log c.args.upto c.args.member c.args.spare) (err_of c.from_residual.result c.in_err-count.field-0.0 c.from_residual.ensures.1) c.in_err-count.ensures.armed c.in_err-count.ensures.faults c.in_err-count.ensures.refused

pub returns-then-count-eq0-clause-meets : goal.returns-then-count-eq0-clause-meets
returns-then-count-eq0-clause-meets g c = armed_kept c.args.self.now c.attempt_swap.new.self (granting 0) _ _ (idle_swap_armed c.args.log c.args.upto c.args.member c.args.spare) c.in_ok-count.ensures.armed c.in_ok-count.ensures.faults
    (subst (λ n. Meets (kept_in c.args.self.now) (kept_in c.attempt_swap.new.self) (granting n) (λ h. swapped h c.args.log c.args.upto c.args.member c.args.spare) (λ h. after_swap h c.args.log c.args.upto c.args.member c.args.spare)) c.if-count-eq0.true (c.in_ok-count.ensures.none c.if-count-eq0.true))

pub returns-in_err-count_down-clause-meets : goal.returns-in_err-count_down-clause-meets
returns-in_err-count_down-clause-meets g c = let a = c.in_ok-count.ensures.armed in let k = c.in_err-count_down.ensures.falls in
    armed_fell c.args.self.now c.attempt_swap.new.self c.count_down.new.self c.in_ok-count.count c.from_residual-in_err-count_down.result _ _ (grants_swap c.args.log c.args.upto c.args.member c.args.spare c.in_ok-count.count (let z = c.if-count-eq0.false in omega arith))
    (err_of c.from_residual-in_err-count_down.result c.in_err-count_down.field-0.0 c.from_residual-in_err-count_down.ensures.1 ∙ ap (λ e. Err e) k.0) (ap falls (sym a) ∙ k.1) c.in_err-count_down.ensures.register
    (c.in_err-count_down.ensures.armed ∙ ap armed_after a) (k.2 ∙ ap (λ n. min (n + 1) (2 ^ 64 - 1)) c.in_ok-count.ensures.faults) (c.in_ok-count.ensures.granted (let z = c.if-count-eq0.false in omega arith))

pub returns-clause-meets : goal.returns-clause-meets
returns-clause-meets g c = let a = c.in_ok-count.ensures.armed in let k = c.in_ok-count_down.ensures.passes in
    armed_passed c.args.self.now c.attempt_swap.new.self c.count_down.new.self c.in_ok-count.count _ _ (grants_swap c.args.log c.args.upto c.args.member c.args.spare c.in_ok-count.count (let z = c.if-count-eq0.false in omega arith)) (ap falls (sym a) ∙ k.0) c.in_ok-count_down.ensures.register
    (c.in_ok-count_down.ensures.armed ∙ ap armed_after a) (k.1 ∙ c.in_ok-count.ensures.faults) (c.in_ok-count.ensures.granted (let z = c.if-count-eq0.false in omega arith))

pub returns-in_err-count_down-clause-fell : goal.returns-in_err-count_down-clause-fell
returns-in_err-count_down-clause-fell g c = let a = c.in_ok-count.ensures.armed in let k = c.in_err-count_down.ensures.falls in
    on_err c.from_residual-in_err-count_down.result _ (inr (fallen c.args.self.now c.attempt_swap.new.self c.count_down.new.self c.in_ok-count.count c.from_residual-in_err-count_down.result (λ h. swapped h c.args.log c.args.upto c.args.member c.args.spare) (λ h. after_swap h c.args.log c.args.upto c.args.member c.args.spare)
    (err_of c.from_residual-in_err-count_down.result c.in_err-count_down.field-0.0 c.from_residual-in_err-count_down.ensures.1 ∙ ap (λ e. Err e) k.0) (ap falls (sym a) ∙ k.1) c.in_err-count_down.ensures.register
    (c.in_err-count_down.ensures.armed ∙ ap armed_after a) (k.2 ∙ ap (λ n. min (n + 1) (2 ^ 64 - 1)) c.in_ok-count.ensures.faults) (c.in_ok-count.ensures.granted (let z = c.if-count-eq0.false in omega arith))))

pub returns-in_err-count-clause-fell : goal.returns-in_err-count-clause-fell
returns-in_err-count-clause-fell g c = on_err c.from_residual.result _ (inl (record { armed = c.in_err-count.ensures.armed; faults = c.in_err-count.ensures.faults }))

pub returns-clause-passes : goal.returns-clause-passes
returns-clause-passes g c some = let a = c.in_ok-count.ensures.armed in let k = c.in_ok-count_down.ensures.passes in
    record { passes = ap falls (sym a) ∙ k.0; armed = c.in_ok-count_down.ensures.armed ∙ ap armed_after a; faults = k.1 ∙ c.in_ok-count.ensures.faults }
