use Rattle.std.proofs.Common.{◌≡◌, Bool, Some, Ok, Err, true, refl, inl, inr, ⊎_elim}
use Rattle.std.proofs.lemmas.Result.{err_from_is_err_and}
use Rattle.ld_rounds.specs.Drives.{IsBroken, WithNode, Answering}
use Rattle.ld_rounds.specs.Rounds.{Visiting, VisitEnd}
use Rattle.ld_rounds.proofs.Going.{goes_as, visiting_on}
use Rattle.ld_rounds.proofs.Counting.{broken_since, broken_until}
use Rattle.ld_rounds.proofs.Visiting.{has_answered}
use Rattle.ld_rounds.proofs.visits.exchange.Goals as goal

pub returns-in_err-due-clause-held : goal.returns-in_err-due-clause-held
returns-in_err-due-clause-held g c who is k first s far b there told h =
    let p = err_from_is_err_and c.from_residual.result c.from_residual.ensures.1 in
    let y = c.args.node in
    let T = g.N.Nodes.tells c.send_some.new.nodes in
    let w = Some (g.O.Sink.written c.args.out.now) in
    rw (p.1, p.2) (⊎_elim (λ quiet. inl quiet)
    (λ v. inr (goes_as who (IsBroken (g.N.Nodes.faults c.args.nodes.now) (g.N.Nodes.faults c.send_some.new.nodes) (g.N.Nodes.endings c.args.nodes.now) (g.N.Nodes.endings c.send_some.new.nodes)) k first b {R = Bool} (Visiting k first y) (VisitEnd k first y) (IsBroken (g.N.Nodes.faults c.args.nodes.now) (g.N.Nodes.faults c.send_some.new.nodes) (g.N.Nodes.endings c.args.nodes.now) (g.N.Nodes.endings c.send_some.new.nodes)) (g.A.Actor.stands c.args.actor.now) (Answering T k y 0) (WithNode T k y) s c.send_some.new.queues w w (Err c.in_err-due.field-0.0) (λ l. l) (λ f t. has_answered T k y 0 f refl t) v))
    (c.in_err-due.ensures.held who k first s far w b told h))

pub returns-in_err-due-clause-cause : goal.returns-in_err-due-clause-cause
returns-in_err-due-clause-cause g c =
    let p = err_from_is_err_and c.from_residual.result c.from_residual.ensures.1 in
    let w = Some (g.O.Sink.written c.args.out.now) in
    rw (p.1, p.2) (c.in_err-due.ensures.cause (g.O.Sink.faults c.args.out.now) (g.O.Sink.faults c.args.out.now) w w)

pub returns-in_err-is_on-clause-held : goal.returns-in_err-is_on-clause-held
returns-in_err-is_on-clause-held g c who is k first s far b there told h =
    let p = err_from_is_err_and c.from_residual-in_err-is_on.result c.from_residual-in_err-is_on.ensures.1 in
    let y = c.args.node in
    let A = g.A.Actor.stands c.args.actor.now in
    let B = g.A.Actor.stands c.listen_all.new.actor in
    let T = g.N.Nodes.tells c.send_some.new.nodes in
    let U = g.N.Nodes.tells c.listen_all.new.nodes in
    let w = Some (g.O.Sink.written c.args.out.now) in
    let new = Some (g.O.Sink.written c.listen_all.new.out) in
    rw (p.1, p.2) (visiting_on who (IsBroken (g.N.Nodes.faults c.args.nodes.now) (g.N.Nodes.faults c.listen_all.new.nodes) (g.N.Nodes.endings c.args.nodes.now) (g.N.Nodes.endings c.listen_all.new.nodes)) k first b {R = Bool} y (IsBroken (g.N.Nodes.faults c.args.nodes.now) (g.N.Nodes.faults c.send_some.new.nodes) (g.N.Nodes.endings c.args.nodes.now) (g.N.Nodes.endings c.send_some.new.nodes)) (IsBroken (g.N.Nodes.faults c.send_some.new.nodes) (g.N.Nodes.faults c.listen_all.new.nodes) (g.N.Nodes.endings c.send_some.new.nodes) (g.N.Nodes.endings c.listen_all.new.nodes)) (g.N.Nodes.silent c.send_some.new.nodes ≡ true) (g.N.Nodes.silent c.listen_all.new.nodes ≡ true) A B (Answering T k y c.in_ok-due.field-0.due) (WithNode U k y) s c.send_some.new.queues c.listen_all.new.queues w w new (Err c.in_err-is_on.field-0.0) (broken_until _ _ _ _ _ _ c.in_err-is_on.ensures.counts) (broken_since _ _ _ _ _ _ c.in_ok-due.ensures.counts)
    c.in_err-is_on.ensures.silent
    (λ v. c.in_err-is_on.ensures.held who is k first v.moved.state v.far b there v.told v.moved.holds)
    (c.in_ok-due.ensures.held who k first s far w b told h))

pub returns-then-is_whole-clause-held : goal.returns-then-is_whole-clause-held
returns-then-is_whole-clause-held g c who is k first s far b there told h =
    let y = c.args.node in
    let A = g.A.Actor.stands c.args.actor.now in
    let B = g.A.Actor.stands c.listen_all.new.actor in
    let T = g.N.Nodes.tells c.send_some.new.nodes in
    let U = g.N.Nodes.tells c.listen_all.new.nodes in
    let w = Some (g.O.Sink.written c.args.out.now) in
    let new = Some (g.O.Sink.written c.listen_all.new.out) in
    visiting_on who (IsBroken (g.N.Nodes.faults c.args.nodes.now) (g.N.Nodes.faults c.listen_all.new.nodes) (g.N.Nodes.endings c.args.nodes.now) (g.N.Nodes.endings c.listen_all.new.nodes)) k first b {R = Bool} y (IsBroken (g.N.Nodes.faults c.args.nodes.now) (g.N.Nodes.faults c.send_some.new.nodes) (g.N.Nodes.endings c.args.nodes.now) (g.N.Nodes.endings c.send_some.new.nodes)) (IsBroken (g.N.Nodes.faults c.send_some.new.nodes) (g.N.Nodes.faults c.listen_all.new.nodes) (g.N.Nodes.endings c.send_some.new.nodes) (g.N.Nodes.endings c.listen_all.new.nodes)) (g.N.Nodes.silent c.send_some.new.nodes ≡ true) (g.N.Nodes.silent c.listen_all.new.nodes ≡ true) A B (Answering T k y c.in_ok-due.field-0.due) (WithNode U k y) s c.send_some.new.queues c.listen_all.new.queues w w new (Ok c.in_ok-is_on.is_on) (broken_until _ _ _ _ _ _ c.in_ok-is_on.ensures.counts) (broken_since _ _ _ _ _ _ c.in_ok-due.ensures.counts)
    c.in_ok-is_on.ensures.silent
    (λ v. c.in_ok-is_on.ensures.held who is k first v.moved.state v.far b there v.told v.moved.holds)
    (c.in_ok-due.ensures.held who k first s far w b told h)

pub returns-clause-held : goal.returns-clause-held
returns-clause-held g c who is k first s far b there told h =
    let y = c.args.node in
    let A = g.A.Actor.stands c.args.actor.now in
    let B = g.A.Actor.stands c.listen_all.new.actor in
    let T = g.N.Nodes.tells c.send_some.new.nodes in
    let U = g.N.Nodes.tells c.listen_all.new.nodes in
    let w = Some (g.O.Sink.written c.args.out.now) in
    let new = Some (g.O.Sink.written c.listen_all.new.out) in
    visiting_on who (IsBroken (g.N.Nodes.faults c.args.nodes.now) (g.N.Nodes.faults c.listen_all.new.nodes) (g.N.Nodes.endings c.args.nodes.now) (g.N.Nodes.endings c.listen_all.new.nodes)) k first b {R = Bool} y (IsBroken (g.N.Nodes.faults c.args.nodes.now) (g.N.Nodes.faults c.send_some.new.nodes) (g.N.Nodes.endings c.args.nodes.now) (g.N.Nodes.endings c.send_some.new.nodes)) (IsBroken (g.N.Nodes.faults c.send_some.new.nodes) (g.N.Nodes.faults c.listen_all.new.nodes) (g.N.Nodes.endings c.send_some.new.nodes) (g.N.Nodes.endings c.listen_all.new.nodes)) (g.N.Nodes.silent c.send_some.new.nodes ≡ true) (g.N.Nodes.silent c.listen_all.new.nodes ≡ true) A B (Answering T k y c.in_ok-due.field-0.due) (WithNode U k y) s c.send_some.new.queues c.listen_all.new.queues w w new (Ok c.in_ok-is_on.is_on) (broken_until _ _ _ _ _ _ c.in_ok-is_on.ensures.counts) (broken_since _ _ _ _ _ _ c.in_ok-due.ensures.counts)
    c.in_ok-is_on.ensures.silent
    (λ v. c.in_ok-is_on.ensures.held who is k first v.moved.state v.far b there v.told v.moved.holds)
    (c.in_ok-due.ensures.held who k first s far w b told h)
