use Rattle.std.proofs.Common.{◌≡◌, refl, Err, Some}
use Rattle.std.proofs.lemmas.Result.{err_from_is_err_and}
use Rattle.ld_rounds.specs.Acts.{driver}
use Rattle.ld_rounds.specs.Feeding.{upcoming}
use Rattle.ld_rounds.specs.Rounds.{Adding, Adds, AddsUntil, IsDry}
use Rattle.ld_rounds.proofs.Joining.{feeds_here, until_end, input_until}
use Rattle.ld_rounds.proofs.Endings.{later_here}
use Rattle.ld_rounds.proofs.Feeding.{of_input, same_on, same_given, append_cause_since, input_unframed, input_stops, input_off, stays_behind, stays_fed, stays_until}
use Rattle.ld_rounds.proofs.Going.{each_end, went_here, goes_such}
use Rattle.ld_rounds.proofs.appends.add_first.Goals as goal

pub returns-in_err-fill-clause-held : goal.returns-in_err-fill-clause-held
returns-in_err-fill-clause-held g c own k first s far b h =
    let p = err_from_is_err_and c.from_residual.result c.from_residual.ensures.1 in
    let name = c.args.name.now in
    let i = upcoming c.args.feed.now.held (g.P.Payloads.coming c.args.input.now) in
    let j = upcoming c.fill.new.self.held (g.P.Payloads.coming c.fill.new.input) in
    let e = c.in_err-fill.field-0.0 in
    rw (p.1, p.2) (input_stops (driver name own) ⊥ k first b (Adding name k i i) (AddsUntil name k i) (g.A.Actor.stands c.args.sequencer.now) (λ now. now ≡ far) s c.args.queues.now (Some (g.O.Sink.written c.args.out.now)) (Some (g.O.Sink.written c.args.out.now)) e (input_unframed _ _ _ e c.in_err-fill.ensures.cause)
    (λ es x. (x.0.0, until_end k i i e s es x.1 (input_until k i j e _ _ _ _ c.in_err-fill.ensures.refused c.in_err-fill.ensures.cause)))
    (went_here (driver name own) ⊥ k first b (Adding name k i i) (g.A.Actor.stands c.args.sequencer.now) (λ now. now ≡ far) s far c.args.queues.now (Some (g.O.Sink.written c.args.out.now)) ((tt, tt), feeds_here k i s) refl h))

pub returns-clause-held : goal.returns-clause-held
returns-clause-held g c own k first s far b h =
    let name = c.args.name.now in
    let i = upcoming c.args.feed.now.held (g.P.Payloads.coming c.args.input.now) in
    let j = upcoming c.fill.new.self.held (g.P.Payloads.coming c.fill.new.input) in
    let m = upcoming c.add_all.new.feed.held (g.P.Payloads.coming c.add_all.new.input) in
    let dry = IsDry c.add_all.new.feed.is_over (g.P.Payloads.ready c.add_all.new.input) c.add_all.new.feed.held (g.A.Appends.settled c.add_all.new.sequencer) in
    goes_such (driver name own) ⊥ k first b {R = Unit {0}} (Adds name k dry j m) (Adds name k dry i m) (AddsUntil name k j) (AddsUntil name k i) ⊥ (g.A.Actor.stands c.add_all.new.sequencer) (λ now. now ≡ far) (λ now. now ≡ far) s c.add_all.new.queues (Some (g.O.Sink.written c.args.out.now)) (Some (g.O.Sink.written c.add_all.new.out)) c.add_all.result (λ x. x) (λ f t. t)
    (λ es x. (x.0, stays_fed k i j m s es c.in_ok-fill.ensures.stays x.1)) (each_end c.add_all.result (λ e es x. (x.0, stays_until k i j e s es c.in_ok-fill.ensures.stays x.1)))
    (c.add_all.ensures.held own k first s far b h)

pub returns-clause-over : goal.returns-clause-over
returns-clause-over g c origin p q = c.add_all.ensures.over origin (same_on origin _ _ p (stays_behind _ _ c.in_ok-fill.ensures.stays)) (c.in_ok-fill.ensures.over origin p q)

pub returns-clause-behind : goal.returns-clause-behind
returns-clause-behind g c = same_given _ _ _ c.add_all.result (stays_behind _ _ c.in_ok-fill.ensures.stays) c.add_all.ensures.behind

pub returns-clause-cause : goal.returns-clause-cause
returns-clause-cause g c = append_cause_since _ _ _ _ _ _ _ _ _ _ _ c.add_all.result (stays_behind _ _ c.in_ok-fill.ensures.stays) c.in_ok-fill.ensures.later (later_here _ _) c.add_all.ensures.cause

pub returns-in_err-fill-clause-cause : goal.returns-in_err-fill-clause-cause
returns-in_err-fill-clause-cause g c =
    let p = err_from_is_err_and c.from_residual.result c.from_residual.ensures.1 in
    rw (p.1, p.2) (of_input _ _ _ _ _ _ _ c.in_err-fill.field-0.0 c.in_err-fill.ensures.cause)

pub returns-in_err-fill-clause-off : goal.returns-in_err-fill-clause-off
returns-in_err-fill-clause-off g c off =
    let p = err_from_is_err_and c.from_residual.result c.from_residual.ensures.1 in
    rw (p.1, p.2) (input_off {R = Unit {0}} off _ _ _ (Err c.in_err-fill.field-0.0) c.in_err-fill.ensures.cause)

pub returns-in_err-fill-clause-since : goal.returns-in_err-fill-clause-since
returns-in_err-fill-clause-since g c = g.met.A.Actor.since_here c.args.sequencer.now

pub returns-in_err-fill-clause-later : goal.returns-in_err-fill-clause-later
returns-in_err-fill-clause-later g c = later_here _ _
