use Rattle.std.proofs.Common.{◌∙◌, inl, inr, ⊎_elim, Err, false, arith, Bool, Some}
use Rattle.std.proofs.lemmas.Result.{err_from_is_err_and}
use Rattle.ld_ids.specs.Set.{members}
use Rattle.ld_rounds.specs.Acts.{driver}
use Rattle.ld_rounds.specs.Drives.{AllTaken, IsBroken, counted}
use Rattle.ld_rounds.specs.Feeding.{upcoming}
use Rattle.ld_rounds.specs.Rounds.{IsDry, Rounds, RoundsUntil}
use Rattle.ld_rounds.proofs.Counting.{counted_until, broken_until, later_since}
use Rattle.ld_rounds.proofs.Endings.{none_off, goes_unoff, ends_as}
use Rattle.ld_rounds.proofs.Feeding.{same_on, of_input, append_cause_since, stays_given, waited_so, input_off}
use Rattle.ld_rounds.proofs.Going.{end_by, goes_such}
use Rattle.ld_rounds.proofs.appends.turn.Goals as goal

pub returns-in_err-append_round-clause-held : goal.returns-in_err-append_round-clause-held
returns-in_err-append_round-clause-held g c own is k first s far b there told h =
    let p = err_from_is_err_and c.from_residual.result c.from_residual.ensures.1 in
    let name = c.args.name.now in
    let f = c.args.is_first in
    let ys = members c.args.set.now in
    let i = upcoming c.args.feed.now.held (g.P.Payloads.coming c.args.input.now) in
    let j = upcoming c.append_round.new.feed.held (g.P.Payloads.coming c.append_round.new.input) in
    let dry = IsDry c.append_round.new.feed.is_over (g.P.Payloads.ready c.append_round.new.input) c.append_round.new.feed.held false in
    let broken = IsBroken (g.N.Nodes.faults c.args.nodes.now) (g.N.Nodes.faults c.append_round.new.nodes) (g.N.Nodes.endings c.args.nodes.now) (g.N.Nodes.endings c.append_round.new.nodes) in
    let counts = counted (g.N.Nodes.faults c.args.nodes.now) (g.N.Nodes.faults c.append_round.new.nodes) (g.N.Nodes.endings c.args.nodes.now) (g.N.Nodes.endings c.append_round.new.nodes) in
    let T = AllTaken (g.N.Nodes.tells c.append_round.new.nodes k) in
    rw (p.1, p.2) (⊎_elim (λ quiet. inl quiet)
    (λ w. inr (goes_such (driver name own) broken k first b {R = Bool} (Rounds name k dry first ys f counts i j) (Rounds name k dry first ys f counts i j) (RoundsUntil name k first ys f counts i) (RoundsUntil name k first ys f counts i) broken (g.A.Actor.stands c.append_round.new.sequencer) T T s c.append_round.new.queues (Some (g.O.Sink.written c.args.out.now)) (Some (g.O.Sink.written c.append_round.new.out)) (Err c.in_err-append_round.field-0.0) (λ l. l) (λ f t. t) (λ es x. x) (λ es x. x) w))
    (c.in_err-append_round.ensures.held own is k first s far b there told h))

pub returns-clause-held : goal.returns-clause-held
returns-clause-held g c own is k first s far b there told h =
    let name = c.args.name.now in
    let f = c.args.is_first in
    let ys = members c.args.set.now in
    let i = upcoming c.args.feed.now.held (g.P.Payloads.coming c.args.input.now) in
    let j = upcoming c.append_round.new.feed.held (g.P.Payloads.coming c.append_round.new.input) in
    let m = upcoming c.is_done.new.feed.held (g.P.Payloads.coming c.is_done.new.input) in
    let dry = IsDry c.append_round.new.feed.is_over (g.P.Payloads.ready c.append_round.new.input) c.append_round.new.feed.held false in
    let less = IsBroken (g.N.Nodes.faults c.args.nodes.now) (g.N.Nodes.faults c.append_round.new.nodes) (g.N.Nodes.endings c.args.nodes.now) (g.N.Nodes.endings c.append_round.new.nodes) in
    let broken = IsBroken (g.N.Nodes.faults c.args.nodes.now) (g.N.Nodes.faults c.is_done.new.nodes) (g.N.Nodes.endings c.args.nodes.now) (g.N.Nodes.endings c.is_done.new.nodes) in
    let T = AllTaken (g.N.Nodes.tells c.append_round.new.nodes k) in
    let U = AllTaken (g.N.Nodes.tells c.is_done.new.nodes k) in
    let x = c.is_done.ensures.faults in
    let y = c.is_done.ensures.endings in
    ⊎_elim (λ quiet. inl (c.is_done.ensures.silent ∙ quiet))
    (λ w. inr (waited_so (driver name own) broken k first b {R = Bool} name dry ys f (counted (g.N.Nodes.faults c.args.nodes.now) (g.N.Nodes.faults c.append_round.new.nodes) (g.N.Nodes.endings c.args.nodes.now) (g.N.Nodes.endings c.append_round.new.nodes)) (counted (g.N.Nodes.faults c.args.nodes.now) (g.N.Nodes.faults c.is_done.new.nodes) (g.N.Nodes.endings c.args.nodes.now) (g.N.Nodes.endings c.is_done.new.nodes)) (counted_until _ _ _ _ _ _ x y) i j m (g.P.Payloads.faults c.append_round.new.input) (g.P.Payloads.faults c.is_done.new.input) less (g.A.Actor.stands c.append_round.new.sequencer) T U s c.append_round.new.queues (Some (g.O.Sink.written c.args.out.now)) (Some (g.O.Sink.written c.append_round.new.out)) c.is_done.result
    (broken_until _ _ _ _ _ _ (omega (arith, x), omega (arith, y))) (λ far t. (c.is_done.ensures.rested k far t.0, t.1)) c.is_done.ensures.stays c.is_done.ensures.refused c.is_done.ensures.cause w))
    (c.in_ok-append_round.ensures.held own is k first s far b there told h)

pub returns-clause-silent : goal.returns-clause-silent
returns-clause-silent g c = λ quiet. c.is_done.ensures.silent ∙ c.in_ok-append_round.ensures.silent quiet

pub returns-clause-over : goal.returns-clause-over
returns-clause-over g c origin p q = c.is_done.ensures.over origin (same_on origin _ _ p c.in_ok-append_round.ensures.behind) (c.in_ok-append_round.ensures.over origin p q)

pub returns-clause-behind : goal.returns-clause-behind
returns-clause-behind g c = stays_given _ _ _ c.is_done.result c.in_ok-append_round.ensures.behind c.is_done.ensures.stays

pub returns-clause-waits : goal.returns-clause-waits
returns-clause-waits g c later none ready idle = c.is_done.ensures.waits idle ∙ c.in_ok-append_round.ensures.waits later none ready

pub returns-clause-cause : goal.returns-clause-cause
returns-clause-cause g c = append_cause_since _ _ _ _ _ _ _ _ _ _ _ c.is_done.result c.in_ok-append_round.ensures.behind c.in_ok-append_round.ensures.input_later c.in_ok-append_round.ensures.later
    (end_by c.is_done.result (λ e x. of_input _ _ _ _ _ _ _ e x) c.is_done.ensures.cause)

pub returns-clause-off : goal.returns-clause-off
returns-clause-off g c = input_off _ _ _ _ c.is_done.result c.is_done.ensures.cause

pub returns-clause-ended : goal.returns-clause-ended
returns-clause-ended g c = λ none. none_off _ _ (c.is_done.ensures.off ∙ goes_unoff _ tt (c.in_ok-append_round.ensures.ended none))

pub returns-in_err-append_round-clause-ended : goal.returns-in_err-append_round-clause-ended
returns-in_err-append_round-clause-ended g c =
    let p = err_from_is_err_and c.from_residual.result c.from_residual.ensures.1 in
    λ none. rw (p.1, p.2) (ends_as (Unit {0}) Bool _ c.in_err-append_round.field-0.0 (c.in_err-append_round.ensures.ended none))

pub returns-clause-counts : goal.returns-clause-counts
returns-clause-counts g c =
    let x = c.is_done.ensures.faults in
    let y = c.is_done.ensures.endings in
    later_since _ _ _ _ _ _ c.in_ok-append_round.ensures.counts (omega (arith, x), omega (arith, y))
