use Rattle.std.proofs.Common.{◌≡◌, refl, inr, arith, Err, [], true, false, Some, sym, subst}
use Rattle.std.proofs.lemmas.Result.{err_from_is_err_and}
use Rattle.ld_machine.specs.State.{State}
use Rattle.ld_rounds.specs.Feeding.{upcoming}
use Rattle.ld_rounds.specs.Acts.{driver}
use Rattle.ld_rounds.specs.Rounds.{IsRetry, MayRetry, AreRequests, Adds, AddsUntil, Prepares, PreparesUntil, AreFilling, IsDry}
use Rattle.ld_rounds.proofs.Joining.{splits_end, feeds_join, until_join, feeds_until, retry_feeds, after_none}
use Rattle.ld_rounds.proofs.Endings.{later_on}
use Rattle.ld_rounds.proofs.Feeding.{partly, of_ending, append_cause_since, apart_on, same_here, never}
use Rattle.ld_rounds.proofs.Going.{each_end, goes_such}
use Rattle.ld_rounds.proofs.appends.prepare.Goals as goal

pub returns-then-is_first-clause-held : goal.returns-then-is_first-clause-held
returns-then-is_first-clause-held g c own k first s far b h =
    let name = c.args.name.now in
    let i = upcoming c.args.feed.now.held (g.P.Payloads.coming c.args.input.now) in
    let j = upcoming c.add_first.new.feed.held (g.P.Payloads.coming c.add_first.new.input) in
    let dry = IsDry c.add_first.new.feed.is_over (g.P.Payloads.ready c.add_first.new.input) c.add_first.new.feed.held (g.A.Appends.settled c.add_first.new.sequencer) in
    rw c.if-is_first.true (goes_such (driver c.args.name.now own) ⊥ k first b {R = Unit {0}} (Adds name k dry i j) (Prepares name k dry true i j) (AddsUntil name k i) (PreparesUntil name k true i) ⊥ (g.A.Actor.stands c.add_first.new.sequencer) (λ now. now ≡ far) (λ now. now ≡ far) s c.add_first.new.queues (Some (g.O.Sink.written c.args.out.now)) (Some (g.O.Sink.written c.add_first.new.out)) c.add_first.result (λ x. x) (λ f t. t)
    (λ es x. (record { front = []; rest = es; whole = refl; came = refl; goes = subst (λ (t : State). AreFilling name k dry t es) (sym (after_none k s)) x.0 }, x.1)) (each_end c.add_first.result (λ e es x. (record { front = []; rest = es; whole = refl; came = refl; goes = subst (λ (t : State). AreRequests name k t es) (sym (after_none k s)) x.0 }, x.1)))
    (c.add_first.ensures.held own k first s far b h))

pub returns-in_err-again-clause-held : goal.returns-in_err-again-clause-held
returns-in_err-again-clause-held g c own k first s far b h =
    let p = err_from_is_err_and c.from_residual.result c.from_residual.ensures.1 in
    let name = c.args.name.now in
    let i = upcoming c.args.feed.now.held (g.P.Payloads.coming c.args.input.now) in
    let e = c.in_err-again.field-0.0 in
    rw (p.1, p.2, c.if-is_first.false) (goes_such (driver c.args.name.now own) ⊥ k first b {R = Unit {0}} (IsRetry name false) (IsRetry name false) (λ e. MayRetry name false) (PreparesUntil name k false i) ⊥ (g.A.Actor.stands c.again.new.sequencer) (λ now. now ≡ far) (λ now. now ≡ far) s c.again.new.queues (Some (g.O.Sink.written c.args.out.now)) (Some (g.O.Sink.written c.again.new.out)) (Err e) (λ x. x) (λ f t. t)
    (λ es x. x) (λ es x. (splits_end k (MayRetry name false) (AreRequests name k) s es x tt, feeds_until k i i e s es (partly _ _ _ _ e c.in_err-again.ensures.cause) (retry_feeds k i name false s es x)))
    (c.in_err-again.ensures.held own k first s far b h))

pub returns-in_err-again-clause-cause : goal.returns-in_err-again-clause-cause
returns-in_err-again-clause-cause g c =
    let p = err_from_is_err_and c.from_residual.result c.from_residual.ensures.1 in
    rw (p.1, p.2) (of_ending _ _ _ _ _ _ _ c.in_err-again.field-0.0 c.in_err-again.ensures.cause)

pub returns-clause-held : goal.returns-clause-held
returns-clause-held g c own k first s far b h =
    let name = c.args.name.now in
    let i = upcoming c.args.feed.now.held (g.P.Payloads.coming c.args.input.now) in
    let j = upcoming c.add_all.new.feed.held (g.P.Payloads.coming c.add_all.new.input) in
    let w = c.in_ok-again.ensures.held own k first s far b h in
    let dry = IsDry c.add_all.new.feed.is_over (g.P.Payloads.ready c.add_all.new.input) c.add_all.new.feed.held (g.A.Appends.settled c.add_all.new.sequencer) in
    rw c.if-is_first.false (apart_on (driver c.args.name.now own) ⊥ k first b {R = Unit {0}} (IsRetry name false) (Adds name k dry i j) (Prepares name k dry false i j) (AddsUntil name k i) (PreparesUntil name k false i) (g.A.Actor.stands c.again.new.sequencer) (g.A.Actor.stands c.add_all.new.sequencer) s far c.again.new.queues c.add_all.new.queues (Some (g.O.Sink.written c.args.out.now)) (Some (g.O.Sink.written c.again.new.out)) (Some (g.O.Sink.written c.add_all.new.out)) c.add_all.result
    (λ t es fs x y. (record { front = es; rest = fs; whole = refl; came = x; goes = y.0 }, feeds_join k i i j t es fs (retry_feeds k i name false t es (inr x)) y.1))
    (each_end c.add_all.result (λ e t es fs x y. (record { front = es; rest = fs; whole = refl; came = inr x; goes = y.0 }, until_join k i i e t es fs (retry_feeds k i name false t es (inr x)) y.1))) w
    (c.add_all.ensures.held own k first w.moved.state w.far b w.moved.holds))

pub returns-clause-cause : goal.returns-clause-cause
returns-clause-cause g c = append_cause_since _ _ _ _ _ _ _ _ _ _ _ c.add_all.result (same_here _) (omega arith) c.in_ok-again.ensures.later c.add_all.ensures.cause

pub returns-clause-later : goal.returns-clause-later
returns-clause-later g c = later_on _ _ _ _ _ _ c.in_ok-again.ensures.later c.add_all.ensures.later

pub returns-clause-since : goal.returns-clause-since
returns-clause-since g c = g.met.A.Actor.since_on c.args.sequencer.now c.again.new.sequencer c.add_all.new.sequencer c.in_ok-again.ensures.since c.add_all.ensures.since

pub returns-in_err-again-clause-off : goal.returns-in_err-again-clause-off
returns-in_err-again-clause-off g c off =
    let p = err_from_is_err_and c.from_residual.result c.from_residual.ensures.1 in
    rw (p.1, p.2) (c.in_err-again.ensures.off off)

pub returns-in_err-again-clause-waits : goal.returns-in_err-again-clause-waits
returns-in_err-again-clause-waits g c = λ later none ready. refl

pub returns-clause-waits : goal.returns-clause-waits
returns-clause-waits g c = λ later none ready. c.add_all.ensures.waits none ready

pub returns-then-is_first-clause-waits : goal.returns-then-is_first-clause-waits
returns-then-is_first-clause-waits g c = λ later. absurd (never c.args.is_first c.if-is_first.true later)
