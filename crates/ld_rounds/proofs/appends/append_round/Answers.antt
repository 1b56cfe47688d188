use Rattle.std.proofs.Common.{◌≡◌, ◌∙◌, ◌++◌, refl, sym, subst, inr, Err, true, false, Some}
use Rattle.std.proofs.lemmas.Result.{err_from_is_err_and}
use Rattle.ld_ids.specs.Set.{members}
use Rattle.ld_machine.specs.Run.{state_after}
use Rattle.ld_rounds.specs.Acts.{driver}
use Rattle.ld_rounds.specs.Drives.{AllTaken, IsBroken, counted}
use Rattle.ld_rounds.specs.Feeding.{upcoming}
use Rattle.ld_rounds.specs.Rounds.{Splits, AreVisits, ArePartVisits, VisitsEnd, IsRetry, MayRetry, AreRequests, Prepares, PreparesUntil, Rounds, RoundsUntil, AreFilling, IsDry}
use Rattle.ld_rounds.proofs.Joining.{dry_as, prepared_as, splits_end, splits_as, may_retry, none_visited, visits_calm, part_calm, feeds_calm, feeds_until}
use Rattle.ld_rounds.proofs.Visiting.{drives_on}
use Rattle.ld_rounds.proofs.Endings.{later_on, none_off}
use Rattle.ld_rounds.proofs.Feeding.{partly, round_cause_since}
use Rattle.ld_rounds.proofs.Going.{end_by, went_as, goes_such, then_on}
use Rattle.ld_rounds.proofs.appends.append_round.Goals as goal

pub returns-in_err-prepare-clause-held : goal.returns-in_err-prepare-clause-held
returns-in_err-prepare-clause-held g c own is k first s far b there told h =
    let p = err_from_is_err_and c.from_residual.result c.from_residual.ensures.1 in
    let B = g.A.Actor.stands c.prepare.new.sequencer in
    let T = AllTaken (g.N.Nodes.tells c.args.nodes.now k) in
    let name = c.args.name.now in
    let f = c.args.is_first in
    let i = upcoming c.args.feed.now.held (g.P.Payloads.coming c.args.input.now) in
    let j = upcoming c.prepare.new.feed.held (g.P.Payloads.coming c.prepare.new.input) in
    let dry = IsDry c.prepare.new.feed.is_over (g.P.Payloads.ready c.prepare.new.input) c.prepare.new.feed.held (g.A.Appends.settled c.prepare.new.sequencer) in
    let ys = members c.args.set.now in
    let counts = counted (g.N.Nodes.faults c.args.nodes.now) (g.N.Nodes.faults c.args.nodes.now) (g.N.Nodes.endings c.args.nodes.now) (g.N.Nodes.endings c.args.nodes.now) in
    rw (p.1, p.2) (inr (goes_such (driver c.args.name.now own) (IsBroken (g.N.Nodes.faults c.args.nodes.now) (g.N.Nodes.faults c.args.nodes.now) (g.N.Nodes.endings c.args.nodes.now) (g.N.Nodes.endings c.args.nodes.now)) k first b {R = Unit {0}} (Prepares name k dry f i j) (Prepares name k dry f i j) (PreparesUntil name k f i) (RoundsUntil name k first ys f counts i) ⊥ B (λ now. now ≡ far) T s c.prepare.new.queues (Some (g.O.Sink.written c.args.out.now)) (Some (g.O.Sink.written c.prepare.new.out)) (Err c.in_err-prepare.field-0.0) (λ x. absurd x) (λ f e. subst T (sym e) told)
    (λ es x. x) (λ es x. (splits_end k (Splits (MayRetry name f) (AreRequests name k) k) (ArePartVisits k first ys counts) s es x.0 (none_visited k first ys counts (state_after k s es)), x.1)) (c.in_err-prepare.ensures.held own k first s far b h)))

pub returns-clause-held : goal.returns-clause-held
returns-clause-held g c own is k first s far b there told h =
    let B = g.A.Actor.stands c.prepare.new.sequencer in
    let C = g.A.Actor.stands c.round.new.actor in
    let T = AllTaken (g.N.Nodes.tells c.args.nodes.now k) in
    let U = AllTaken (g.N.Nodes.tells c.round.new.nodes k) in
    let name = c.args.name.now in
    let f = c.args.is_first in
    let ys = members c.args.set.now in
    let i = upcoming c.args.feed.now.held (g.P.Payloads.coming c.args.input.now) in
    let j = upcoming c.prepare.new.feed.held (g.P.Payloads.coming c.prepare.new.input) in
    let dry = IsDry c.prepare.new.feed.is_over (g.P.Payloads.ready c.prepare.new.input) c.prepare.new.feed.held (g.A.Appends.settled c.prepare.new.sequencer) in
    let less = IsDry c.prepare.new.feed.is_over (g.P.Payloads.ready c.prepare.new.input) c.prepare.new.feed.held false in
    let broken = IsBroken (g.N.Nodes.faults c.args.nodes.now) (g.N.Nodes.faults c.round.new.nodes) (g.N.Nodes.endings c.args.nodes.now) (g.N.Nodes.endings c.round.new.nodes) in
    let counts = counted (g.N.Nodes.faults c.args.nodes.now) (g.N.Nodes.faults c.round.new.nodes) (g.N.Nodes.endings c.args.nodes.now) (g.N.Nodes.endings c.round.new.nodes) in
    let w = went_as (driver c.args.name.now own) broken k first b (Prepares name k dry f i j) ⊥ B (λ now. now ≡ far) T s c.prepare.new.queues (Some (g.O.Sink.written c.args.out.now)) (Some (g.O.Sink.written c.prepare.new.out)) (λ x. absurd x) (λ f e. subst T (sym e) told) (c.in_ok-prepare.ensures.held own k first s far b h) in
    then_on (driver c.args.name.now own) broken k first b {R = Unit {0}} (Prepares name k dry f i j) (AreVisits k first ys counts) (Rounds name k less first ys f counts i j) (VisitsEnd k first ys counts) (RoundsUntil name k first ys f counts i) broken broken (g.N.Nodes.silent c.round.new.nodes ≡ true) (g.N.Nodes.silent c.round.new.nodes ≡ true) B C T U s c.prepare.new.queues c.round.new.queues (Some (g.O.Sink.written c.args.out.now)) (Some (g.O.Sink.written c.prepare.new.out)) (Some (g.O.Sink.written c.round.new.out)) c.round.result
    (λ t es fs x y. (record { front = es; rest = fs; whole = refl; came = prepared_as k name dry less f t es (dry_as _ _ c.prepare.new.feed.held _) x.0; goes = y }, feeds_calm k i j t es fs x.1 (visits_calm k first ys counts (state_after k t es) fs y)))
    (end_by c.round.result (λ e why t es fs x q. (record { front = es; rest = fs; whole = refl; came = splits_as k (IsRetry name f) (AreFilling name k dry) (MayRetry name f) (AreRequests name k) t es (may_retry k name f) (λ u l z. z.0) x.0; goes = q }, feeds_until k i j e t (es ++ fs) (partly _ _ _ _ e why) (feeds_calm k i j t es fs x.1 (part_calm k first ys counts (state_after k t es) fs q)))) c.round.ensures.cause)
    (λ l. l) (λ l. l) (λ quiet. quiet) (λ v. c.round.ensures.held (driver c.args.name.now own) (drives_on (driver c.args.name.now own) own (g.A.Actor.own c.prepare.new.sequencer) (refl, refl) (c.in_ok-prepare.ensures.actor ∙ is)) k first v.moved.state v.far b there v.told v.moved.holds) (inr w)

pub returns-clause-cause : goal.returns-clause-cause
returns-clause-cause g c = round_cause_since _ _ _ _ _ _ _ _ _ c.round.result c.in_ok-prepare.ensures.later c.round.ensures.cause

pub returns-clause-later : goal.returns-clause-later
returns-clause-later g c = later_on _ _ _ _ _ _ c.in_ok-prepare.ensures.later c.round.ensures.later

pub returns-clause-since : goal.returns-clause-since
returns-clause-since g c = g.met.A.Actor.since_on c.args.sequencer.now c.prepare.new.sequencer c.round.new.actor c.in_ok-prepare.ensures.since c.round.ensures.since

pub returns-in_err-prepare-clause-off : goal.returns-in_err-prepare-clause-off
returns-in_err-prepare-clause-off g c =
    let p = err_from_is_err_and c.from_residual.result c.from_residual.ensures.1 in
    rw (p.1, p.2) (c.in_err-prepare.ensures.off (g.N.Nodes.off c.args.nodes.now))

pub returns-in_err-prepare-clause-ended : goal.returns-in_err-prepare-clause-ended
returns-in_err-prepare-clause-ended g c = λ none. none_off _ _ none

pub returns-clause-ended : goal.returns-clause-ended
returns-clause-ended g c = c.round.ensures.ended

pub returns-clause-waits : goal.returns-clause-waits
returns-clause-waits g c = c.in_ok-prepare.ensures.waits

pub returns-in_err-prepare-clause-waits : goal.returns-in_err-prepare-clause-waits
returns-in_err-prepare-clause-waits g c = c.in_err-prepare.ensures.waits
