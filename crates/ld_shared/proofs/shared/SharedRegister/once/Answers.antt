use Rattle.std.proofs.Common.{◌≡◌, inl, inr, refl, ap, sym, subst, ◌∙◌, Ok, Err}
use Rattle.std.specs.Prelude.{IfSome}
use Rattle.ld_msg.specs.Register.{empty_register}
use Rattle.ld_register.specs.Changes.{Leads}
use Rattle.ld_shared.specs.Bodies.{IsValueOf, bodies_of}
use Rattle.ld_shared.specs.Holds.{HasOneMore}
use Rattle.ld_register.proofs.Committing.{err_of}
use Rattle.ld_shared.specs.Says.{IsLate, owner_of, values_of}
use Rattle.ld_shared.proofs.Growing.{grows_length, grows_on, none_late}
use Rattle.ld_shared.proofs.Sole.{stays_refused, answers_refused, unchanged_exact, made_exact, append_refused, append_made, append_not_beaten, one_refusal}
use Rattle.ld_shared.proofs.Meeting.{tried_refused, fits_refused, unchanged_by, made_by, late_by}
use Rattle.ld_shared.proofs.shared.SharedRegister.once.Goals as goal

pub returns-in_err-fresh-clause-tried : goal.returns-in_err-fresh-clause-tried
returns-in_err-fresh-clause-tried g c = tried_refused (owner_of c.args.self.now) (values_of g.C.Records c.args.self.now) (g.C.Records.list c.fresh_of.new.records) c.from_residual.result c.in_err-fresh.field-0.0 (g.Q.Question.answer c.args.question.now) (g.Q.Question.after c.args.question.now) (err_of c.from_residual.result c.in_err-fresh.field-0.0 c.from_residual.ensures.1) (inl c.in_err-fresh.ensures.free)

pub returns-in_err-fresh-clause-fits : goal.returns-in_err-fresh-clause-fits
returns-in_err-fresh-clause-fits g c = fits_refused (g.Q.Question.fits c.args.question.now) c.from_residual.result c.in_err-fresh.field-0.0 (err_of c.from_residual.result c.in_err-fresh.field-0.0 c.from_residual.ensures.1) (g.met.Q.Question.free_fits c.args.question.now (Err c.in_err-fresh.field-0.0) c.in_err-fresh.ensures.free)

pub returns-in_err-fresh-clause-late : goal.returns-in_err-fresh-clause-late
returns-in_err-fresh-clause-late g c = none_late c.args.self.now.unsettled (IsLate (owner_of c.args.self.now) (g.C.Records.list c.fresh_of.new.records) (g.Q.Question.after c.args.question.now)) c.requires.settled

pub returns-in_err-decision-clause-tried : goal.returns-in_err-decision-clause-tried
returns-in_err-decision-clause-tried g c = tried_refused (owner_of c.args.self.now) (values_of g.C.Records c.args.self.now) (g.C.Records.list c.fresh_of.new.records) c.from_residual-in_err-decision.result c.in_err-decision.field-0.0 (g.Q.Question.answer c.args.question.now) (g.Q.Question.after c.args.question.now) (err_of c.from_residual-in_err-decision.result c.in_err-decision.field-0.0 c.from_residual-in_err-decision.ensures.1)
    (c.in_err-decision.ensures.refused (owner_of c.args.self.now) (values_of g.C.Records c.args.self.now) (g.C.Records.list c.fresh_of.new.records) c.in_ok-fresh.ensures.fresh (grows_length (values_of g.C.Records c.args.self.now) (g.C.Records.list c.fresh_of.new.records) c.in_ok-fresh.ensures.grows))

pub returns-in_err-decision-clause-fits : goal.returns-in_err-decision-clause-fits
returns-in_err-decision-clause-fits g c = fits_refused (g.Q.Question.fits c.args.question.now) c.from_residual-in_err-decision.result c.in_err-decision.field-0.0 (err_of c.from_residual-in_err-decision.result c.in_err-decision.field-0.0 c.from_residual-in_err-decision.ensures.1) c.in_err-decision.ensures.unfit

pub returns-in_err-decision-clause-late : goal.returns-in_err-decision-clause-late
returns-in_err-decision-clause-late g c = none_late c.args.self.now.unsettled (IsLate (owner_of c.args.self.now) (g.C.Records.list c.fresh_of.new.records) (g.Q.Question.after c.args.question.now)) c.requires.settled

pub returns-in_default-clause-tried : goal.returns-in_default-clause-tried
returns-in_default-clause-tried g c = unchanged_by (λ v. v.items) (g.Q.Question.answer c.args.question.now) (g.Q.Question.after c.args.question.now) (owner_of c.args.self.now) (values_of g.C.Records c.args.self.now) (g.C.Records.list c.fresh_of.new.records) c.in_ok-decision.decision.answer c.in_ok-decision.decision.body
    (grows_length (values_of g.C.Records c.args.self.now) (g.C.Records.list c.fresh_of.new.records) c.in_ok-fresh.ensures.grows) (c.in_ok-decision.ensures.decided (g.C.Records.list c.fresh_of.new.records) c.in_ok-fresh.ensures.fresh) c.in_default.is

pub returns-in_default-clause-late : goal.returns-in_default-clause-late
returns-in_default-clause-late g c = none_late c.args.self.now.unsettled (IsLate (owner_of c.args.self.now) (g.C.Records.list c.fresh_of.new.records) (g.Q.Question.after c.args.question.now)) c.requires.settled

pub returns-in_err-append-clause-grows : goal.returns-in_err-append-clause-grows
returns-in_err-append-clause-grows g c = grows_on (values_of g.C.Records c.args.self.now) (g.C.Records.list c.fresh_of.new.records) (g.C.Records.list c.append.new.self.records) c.in_ok-fresh.ensures.grows c.append.ensures.grows

pub returns-in_err-append-clause-tried : goal.returns-in_err-append-clause-tried
returns-in_err-append-clause-tried g c = tried_refused (owner_of c.args.self.now) (values_of g.C.Records c.args.self.now) (g.C.Records.list c.append.new.self.records) c.from_residual-in_err-append.result c.in_err-append.field-0.0 (g.Q.Question.answer c.args.question.now) (g.Q.Question.after c.args.question.now) (err_of c.from_residual-in_err-append.result c.in_err-append.field-0.0 c.from_residual-in_err-append.ensures.1) (inl c.in_err-append.ensures.free)

pub returns-in_err-append-clause-fits : goal.returns-in_err-append-clause-fits
returns-in_err-append-clause-fits g c = fits_refused (g.Q.Question.fits c.args.question.now) c.from_residual-in_err-append.result c.in_err-append.field-0.0 (err_of c.from_residual-in_err-append.result c.in_err-append.field-0.0 c.from_residual-in_err-append.ensures.1) (g.met.Q.Question.free_fits c.args.question.now (Err c.in_err-append.field-0.0) c.in_err-append.ensures.free)

pub returns-in_err-append-clause-late : goal.returns-in_err-append-clause-late
returns-in_err-append-clause-late g c = late_by (λ v. v.items) (g.Q.Question.answer c.args.question.now) (g.Q.Question.after c.args.question.now) (owner_of c.args.self.now) (values_of g.C.Records c.args.self.now) (g.C.Records.list c.fresh_of.new.records) c.in_ok-decision.decision.answer c.in_ok-decision.decision.body
    (grows_length (values_of g.C.Records c.args.self.now) (g.C.Records.list c.fresh_of.new.records) c.in_ok-fresh.ensures.grows) (c.in_ok-decision.ensures.decided (g.C.Records.list c.fresh_of.new.records) c.in_ok-fresh.ensures.fresh) c.in-Some.body (g.C.Records.list c.append.new.self.records) c.in_ok-fresh.fresh.number c.append.new.self.unsettled c.in-Some.is c.in_ok-fresh.ensures.fresh.number c.append.ensures.grows
    (subst (λ b. IfSome c.append.new.self.unsettled (λ u. (u.number ≡ c.in_ok-fresh.fresh.number) × IsValueOf (owner_of c.args.self.now) b u.value.items)) c.deref.ensures.value c.append.ensures.late)

pub returns-then-branch-clause-grows : goal.returns-then-branch-clause-grows
returns-then-branch-clause-grows g c = grows_on (values_of g.C.Records c.args.self.now) (g.C.Records.list c.fresh_of.new.records) (g.C.Records.list c.append.new.self.records) c.in_ok-fresh.ensures.grows c.append.ensures.grows

pub returns-then-branch-clause-tried : goal.returns-then-branch-clause-tried
returns-then-branch-clause-tried g c =
    let m = c.in_ok-append.ensures.made (ap (λ b. Ok b) c.if-branch.true) in
    made_by (λ v. v.items) (g.Q.Question.answer c.args.question.now) (g.Q.Question.after c.args.question.now) (owner_of c.args.self.now) (values_of g.C.Records c.args.self.now) (g.C.Records.list c.fresh_of.new.records) c.in_ok-decision.decision.answer c.in_ok-decision.decision.body
    (grows_length (values_of g.C.Records c.args.self.now) (g.C.Records.list c.fresh_of.new.records) c.in_ok-fresh.ensures.grows) (c.in_ok-decision.ensures.decided (g.C.Records.list c.fresh_of.new.records) c.in_ok-fresh.ensures.fresh) c.in-Some.body (g.C.Records.list c.append.new.self.records) c.in_ok-fresh.fresh.number c.in-Some.is c.in_ok-fresh.ensures.fresh.number c.append.ensures.grows (m.0, m.1, subst (λ b. IsValueOf (owner_of c.args.self.now) b m.0) c.deref.ensures.value m.2)

pub returns-then-branch-clause-late : goal.returns-then-branch-clause-late
returns-then-branch-clause-late g c = late_by (λ v. v.items) (g.Q.Question.answer c.args.question.now) (g.Q.Question.after c.args.question.now) (owner_of c.args.self.now) (values_of g.C.Records c.args.self.now) (g.C.Records.list c.fresh_of.new.records) c.in_ok-decision.decision.answer c.in_ok-decision.decision.body
    (grows_length (values_of g.C.Records c.args.self.now) (g.C.Records.list c.fresh_of.new.records) c.in_ok-fresh.ensures.grows) (c.in_ok-decision.ensures.decided (g.C.Records.list c.fresh_of.new.records) c.in_ok-fresh.ensures.fresh) c.in-Some.body (g.C.Records.list c.append.new.self.records) c.in_ok-fresh.fresh.number c.append.new.self.unsettled c.in-Some.is c.in_ok-fresh.ensures.fresh.number c.append.ensures.grows
    (subst (λ b. IfSome c.append.new.self.unsettled (λ u. (u.number ≡ c.in_ok-fresh.fresh.number) × IsValueOf (owner_of c.args.self.now) b u.value.items)) c.deref.ensures.value c.append.ensures.late)

pub returns-clause-grows : goal.returns-clause-grows
returns-clause-grows g c = grows_on (values_of g.C.Records c.args.self.now) (g.C.Records.list c.fresh_of.new.records) (g.C.Records.list c.append.new.self.records) c.in_ok-fresh.ensures.grows c.append.ensures.grows

pub returns-clause-late : goal.returns-clause-late
returns-clause-late g c = late_by (λ v. v.items) (g.Q.Question.answer c.args.question.now) (g.Q.Question.after c.args.question.now) (owner_of c.args.self.now) (values_of g.C.Records c.args.self.now) (g.C.Records.list c.fresh_of.new.records) c.in_ok-decision.decision.answer c.in_ok-decision.decision.body
    (grows_length (values_of g.C.Records c.args.self.now) (g.C.Records.list c.fresh_of.new.records) c.in_ok-fresh.ensures.grows) (c.in_ok-decision.ensures.decided (g.C.Records.list c.fresh_of.new.records) c.in_ok-fresh.ensures.fresh) c.in-Some.body (g.C.Records.list c.append.new.self.records) c.in_ok-fresh.fresh.number c.append.new.self.unsettled c.in-Some.is c.in_ok-fresh.ensures.fresh.number c.append.ensures.grows
    (subst (λ b. IfSome c.append.new.self.unsettled (λ u. (u.number ≡ c.in_ok-fresh.fresh.number) × IsValueOf (owner_of c.args.self.now) b u.value.items)) c.deref.ensures.value c.append.ensures.late)

pub returns-in_err-fresh-clause-alone : goal.returns-in_err-fresh-clause-alone
returns-in_err-fresh-clause-alone g c s = let a = c.in_err-fresh.ensures.alone s.0 in ((a.0, s.1), stays_refused _ _ c.from_residual.result c.in_err-fresh.field-0.0 (err_of c.from_residual.result c.in_err-fresh.field-0.0 c.from_residual.ensures.1) a.1)

pub returns-in_err-fresh-clause-exact : goal.returns-in_err-fresh-clause-exact
returns-in_err-fresh-clause-exact g c b h = answers_refused _ _ b _ c.from_residual.result c.in_err-fresh.field-0.0 (err_of c.from_residual.result c.in_err-fresh.field-0.0 c.from_residual.ensures.1) (inl (one_refusal _ _ (c.in_err-fresh.ensures.memory b h.sole.0 h.leads)))

pub returns-in_err-decision-clause-alone : goal.returns-in_err-decision-clause-alone
returns-in_err-decision-clause-alone g c s = let a = c.in_ok-fresh.ensures.alone s.0 in ((a.0, s.1), stays_refused _ _ c.from_residual-in_err-decision.result c.in_err-decision.field-0.0 (err_of c.from_residual-in_err-decision.result c.in_err-decision.field-0.0 c.from_residual-in_err-decision.ensures.1) a.1)

pub returns-in_err-decision-clause-exact : goal.returns-in_err-decision-clause-exact
returns-in_err-decision-clause-exact g c b h = let a = c.in_ok-fresh.ensures.alone h.sole.0 in answers_refused _ _ b _ c.from_residual-in_err-decision.result c.in_err-decision.field-0.0 (err_of c.from_residual-in_err-decision.result c.in_err-decision.field-0.0 c.from_residual-in_err-decision.ensures.1)
    (c.in_err-decision.ensures.exact (g.C.Records.list c.fresh_of.new.records) b c.in_ok-fresh.ensures.fresh (subst (λ v. Leads empty_register (bodies_of v) b) (sym a.1) h.leads))

pub returns-in_default-clause-alone : goal.returns-in_default-clause-alone
returns-in_default-clause-alone g c s = let a = c.in_ok-fresh.ensures.alone s.0 in ((a.0, s.1), tt)

pub returns-in_default-clause-exact : goal.returns-in_default-clause-exact
returns-in_default-clause-exact g c b h = let a = c.in_ok-fresh.ensures.alone h.sole.0 in
    unchanged_exact _ _ b (λ v. v.items) (g.C.Records.list c.fresh_of.new.records) (g.C.Records.list c.fresh_of.new.records) c.in_ok-decision.decision.answer c.in_ok-decision.decision.body (c.in_ok-decision.ensures.decided (g.C.Records.list c.fresh_of.new.records) c.in_ok-fresh.ensures.fresh) (subst (λ v. Leads empty_register (bodies_of v) b) (sym a.1) h.leads) c.in_default.is refl

pub returns-in_err-append-clause-alone : goal.returns-in_err-append-clause-alone
returns-in_err-append-clause-alone g c s =
    let a = c.in_ok-fresh.ensures.alone s.0 in
    let p = c.in_err-append.ensures.alone a.0 c.in_ok-fresh.ensures.fresh.number in
    (p.sole, stays_refused _ _ c.from_residual-in_err-append.result c.in_err-append.field-0.0 (err_of c.from_residual-in_err-append.result c.in_err-append.field-0.0 c.from_residual-in_err-append.ensures.1) ((append_refused _ _ _ _ c.in_err-append.field-0.0 p).1 ∙ a.1))

pub returns-in_err-append-clause-exact : goal.returns-in_err-append-clause-exact
returns-in_err-append-clause-exact g c b h =
    let a = c.in_ok-fresh.ensures.alone h.sole.0 in
    let p = c.in_err-append.ensures.alone a.0 c.in_ok-fresh.ensures.fresh.number in
    answers_refused _ _ b _ c.from_residual-in_err-append.result c.in_err-append.field-0.0 (err_of c.from_residual-in_err-append.result c.in_err-append.field-0.0 c.from_residual-in_err-append.ensures.1) (inl (append_refused _ _ _ _ c.in_err-append.field-0.0 p).0)

pub returns-then-branch-clause-alone : goal.returns-then-branch-clause-alone
returns-then-branch-clause-alone g c s = let a = c.in_ok-fresh.ensures.alone s.0 in ((c.in_ok-append.ensures.alone a.0 c.in_ok-fresh.ensures.fresh.number).sole, tt)

pub returns-then-branch-clause-exact : goal.returns-then-branch-clause-exact
returns-then-branch-clause-exact g c b h =
    let a = c.in_ok-fresh.ensures.alone h.sole.0 in
    let p = append_made _ _ _ _ c.in_ok-append.field-0 (c.in_ok-append.ensures.alone a.0 c.in_ok-fresh.ensures.fresh.number) in
    made_exact (g.Q.Question.answer c.args.question.now) (g.Q.Question.after c.args.question.now) b (λ v. v.items) (g.C.Records.list c.fresh_of.new.records) (g.C.Records.list c.append.new.self.records) c.in_ok-decision.decision.answer c.in_ok-decision.decision.body
    (c.in_ok-decision.ensures.decided (g.C.Records.list c.fresh_of.new.records) c.in_ok-fresh.ensures.fresh) (subst (λ v. Leads empty_register (bodies_of v) b) (sym a.1) h.leads) (owner_of c.args.self.now) c.in-Some.body c.in-Some.is
    (subst (λ o. HasOneMore (owner_of c.args.self.now) o (g.C.Records.list c.fresh_of.new.records) (g.C.Records.list c.append.new.self.records)) c.deref.ensures.value p)

pub returns-clause-alone : goal.returns-clause-alone
returns-clause-alone g c s = let a = c.in_ok-fresh.ensures.alone s.0 in absurd (append_not_beaten _ _ _ _ c.in_ok-append.field-0 c.if-branch.false (c.in_ok-append.ensures.alone a.0 c.in_ok-fresh.ensures.fresh.number))
