use Rattle.std.proofs.Common.{◌∙◌, inl, inr, refl, ap, sym, subst, Ok}
use Rattle.ld_register.proofs.Committing.{err_of}
use Rattle.ld_shared.specs.Says.{IsLate, granting, refusal, owner_of, values_of}
use Rattle.ld_shared.proofs.Growing.{grows_on, settled_grows, none_late}
use Rattle.ld_shared.proofs.Meeting.{call_says, refusal_says, late_as, free_passed, fits_passed, tried_some, fits_some}
use Rattle.ld_shared.proofs.Sole.{not_beaten, exact_never, exact_as, exact_of, exact_memory, stays_some, answers_some}
use Rattle.ld_shared.proofs.shared.SharedRegister.call.Goals as goal

pub returns-in_err-settle-clause-says : goal.returns-in_err-settle-clause-says
returns-in_err-settle-clause-says g c = inl (free_passed c.from_residual.result c.in_err-settle.field-0.0 (err_of c.from_residual.result c.in_err-settle.field-0.0 c.from_residual.ensures.1) c.in_err-settle.ensures.refused.0)

pub returns-in_err-settle-clause-settles : goal.returns-in_err-settle-clause-settles
returns-in_err-settle-clause-settles g c = inr (free_passed c.from_residual.result c.in_err-settle.field-0.0 (err_of c.from_residual.result c.in_err-settle.field-0.0 c.from_residual.ensures.1) c.in_err-settle.ensures.refused.0, c.in_err-settle.ensures.refused.1)

pub returns-in_err-settle-clause-fits : goal.returns-in_err-settle-clause-fits
returns-in_err-settle-clause-fits g c = g.met.Q.Question.free_fits c.args.question.now c.from_residual.result (free_passed c.from_residual.result c.in_err-settle.field-0.0 (err_of c.from_residual.result c.in_err-settle.field-0.0 c.from_residual.ensures.1) c.in_err-settle.ensures.refused.0)

pub tries-init : goal.tries-init
tries-init g c = record {
  grows = c.settle.ensures.grows;
  settled = c.in_ok-settle.ensures.settled.0;
  before = c.in_ok-settle.ensures.settled.1;
  same_owner = c.settle.ensures.owner;
  same_faults = c.settle.ensures.faults;
  alone = λ s. let a = c.in_ok-settle.ensures.alone s.1 in ((subst (λ r. g.C.Records.sole r) (sym a.records) s.0, a.unsettled), ap (λ r. g.C.Records.list r) a.records);
}

pub returns-in_err-answer-clause-grows : goal.returns-in_err-answer-clause-grows
returns-in_err-answer-clause-grows g c = grows_on (values_of g.C.Records c.args.self.now) (values_of g.C.Records c.tries.self) (values_of g.C.Records c.once.new.self) c.tries.invariant.grows c.once.ensures.grows

pub returns-in_err-answer-clause-says : goal.returns-in_err-answer-clause-says
returns-in_err-answer-clause-says g c = refusal_says (owner_of c.tries.self) (owner_of c.args.self.now) (values_of g.C.Records c.args.self.now) (values_of g.C.Records c.tries.self) (values_of g.C.Records c.once.new.self) (g.Q.Question.answer c.args.question.now) (g.Q.Question.after c.args.question.now) c.tries.invariant.same_owner c.tries.invariant.grows c.from_residual-in_err-answer.result c.in_err-answer.field-0.0 (err_of c.from_residual-in_err-answer.result c.in_err-answer.field-0.0 c.from_residual-in_err-answer.ensures.1) c.in_err-answer.ensures.tried

pub returns-in_err-answer-clause-settles : goal.returns-in_err-answer-clause-settles
returns-in_err-answer-clause-settles g c = inl (settled_grows c.args.self.now.unsettled (values_of g.C.Records c.tries.self) (values_of g.C.Records c.once.new.self) c.once.ensures.grows c.tries.invariant.before, late_as (owner_of c.tries.self) (owner_of c.args.self.now) (values_of g.C.Records c.once.new.self) (g.Q.Question.after c.args.question.now) c.once.new.self.unsettled c.tries.invariant.same_owner c.once.ensures.late)

pub returns-in_err-answer-clause-fits : goal.returns-in_err-answer-clause-fits
returns-in_err-answer-clause-fits g c = fits_passed (g.Q.Question.fits c.args.question.now) c.from_residual-in_err-answer.result c.in_err-answer.field-0.0 (err_of c.from_residual-in_err-answer.result c.in_err-answer.field-0.0 c.from_residual-in_err-answer.ensures.1) c.in_err-answer.ensures.fits

pub returns-in_err-answer-clause-owner : goal.returns-in_err-answer-clause-owner
returns-in_err-answer-clause-owner g c = c.once.ensures.owner ∙ c.tries.invariant.same_owner

pub returns-in-Some-clause-grows : goal.returns-in-Some-clause-grows
returns-in-Some-clause-grows g c = grows_on (values_of g.C.Records c.args.self.now) (values_of g.C.Records c.tries.self) (values_of g.C.Records c.once.new.self) c.tries.invariant.grows c.once.ensures.grows

pub returns-in-Some-clause-says : goal.returns-in-Some-clause-says
returns-in-Some-clause-says g c = call_says (owner_of c.tries.self) (owner_of c.args.self.now) (values_of g.C.Records c.args.self.now) (values_of g.C.Records c.tries.self) (values_of g.C.Records c.once.new.self) (g.Q.Question.answer c.args.question.now) (g.Q.Question.after c.args.question.now) c.tries.invariant.same_owner c.tries.invariant.grows (Ok c.in-Some.answer) (inr (tried_some (owner_of c.tries.self) (values_of g.C.Records c.tries.self) (values_of g.C.Records c.once.new.self) c.in_ok-answer.field-0 c.in-Some.answer (g.Q.Question.answer c.args.question.now) (g.Q.Question.after c.args.question.now) c.in-Some.is c.in_ok-answer.ensures.tried))

pub returns-in-Some-clause-settles : goal.returns-in-Some-clause-settles
returns-in-Some-clause-settles g c = inl (settled_grows c.args.self.now.unsettled (values_of g.C.Records c.tries.self) (values_of g.C.Records c.once.new.self) c.once.ensures.grows c.tries.invariant.before, late_as (owner_of c.tries.self) (owner_of c.args.self.now) (values_of g.C.Records c.once.new.self) (g.Q.Question.after c.args.question.now) c.once.new.self.unsettled c.tries.invariant.same_owner c.once.ensures.late)

pub returns-in-Some-clause-fits : goal.returns-in-Some-clause-fits
returns-in-Some-clause-fits g c = fits_some (g.Q.Question.fits c.args.question.now) c.in_ok-answer.field-0 c.in-Some.answer c.in-Some.is c.in_ok-answer.ensures.fits

pub returns-in-Some-clause-owner : goal.returns-in-Some-clause-owner
returns-in-Some-clause-owner g c = c.once.ensures.owner ∙ c.tries.invariant.same_owner

pub tries-preserved : goal.tries-preserved
tries-preserved g c = record {
  grows = grows_on (values_of g.C.Records c.args.self.now) (values_of g.C.Records c.tries.self) (values_of g.C.Records c.once.new.self) c.tries.invariant.grows c.once.ensures.grows;
  settled = c.in_ok-answer.ensures.settled;
  before = settled_grows c.args.self.now.unsettled (values_of g.C.Records c.tries.self) (values_of g.C.Records c.once.new.self) c.once.ensures.grows c.tries.invariant.before;
  same_owner = c.once.ensures.owner ∙ c.tries.invariant.same_owner;
  same_faults = c.once.ensures.faults ∙ c.tries.invariant.same_faults;
  alone = λ s. absurd (not_beaten (values_of g.C.Records c.tries.self) (values_of g.C.Records c.once.new.self) c.in_ok-answer.field-0 c.in_default.is (c.in_ok-answer.ensures.alone (c.tries.invariant.alone s).0).1);
}

pub returns-clause-settles : goal.returns-clause-settles
returns-clause-settles g c = inl (c.tries.invariant.before, none_late c.tries.self.unsettled (IsLate (owner_of c.args.self.now) (values_of g.C.Records c.tries.self) (g.Q.Question.after c.args.question.now)) c.tries.invariant.settled)

pub returns-in_err-settle-clause-exact : goal.returns-in_err-settle-clause-exact
returns-in_err-settle-clause-exact g c = exact_never g.C.Records _ _ _ _ _ (λ s. let e = (c.in_err-settle.ensures.alone s.1).answers in cc e)

pub returns-in_err-answer-clause-exact : goal.returns-in_err-answer-clause-exact
returns-in_err-answer-clause-exact g c =
    let is = err_of c.from_residual-in_err-answer.result c.in_err-answer.field-0.0 c.from_residual-in_err-answer.ensures.1 in
    exact_as g.C.Records c.args.self.now c.once.new.self _ _ (owner_of c.args.self.now) c.tries.self (refusal c.in_err-answer.field-0.0) c.from_residual-in_err-answer.result is
    (g.met.Q.Question.is_told c.args.question.now) c.tries.invariant.alone c.in_err-answer.ensures.alone c.in_err-answer.ensures.exact
    (returns-in_err-answer-clause-grows g c) (returns-in_err-answer-clause-says g c)

pub returns-in-Some-clause-exact : goal.returns-in-Some-clause-exact
returns-in-Some-clause-exact g c =
    exact_of g.C.Records c.args.self.now c.once.new.self _ _ (owner_of c.args.self.now) c.tries.self (granting c.in-Some.answer)
    (g.met.Q.Question.is_told c.args.question.now) c.tries.invariant.alone
    (λ s. let a = c.in_ok-answer.ensures.alone s in (a.0, stays_some (values_of g.C.Records c.tries.self) (values_of g.C.Records c.once.new.self) c.in_ok-answer.field-0 c.in-Some.answer c.in-Some.is a.1))
    (λ b h. answers_some (values_of g.C.Records c.once.new.self) c.in_ok-answer.field-0 c.in-Some.answer b (g.Q.Question.answer c.args.question.now) (g.Q.Question.after c.args.question.now) c.in-Some.is (c.in_ok-answer.ensures.exact b h))
    (returns-in-Some-clause-grows g c) (returns-in-Some-clause-says g c)

pub returns-clause-exact : goal.returns-clause-exact
returns-clause-exact g c = exact_memory g.C.Records _ _ _ _ _ refl c.tries.invariant.alone
