use Rattle.std.proofs.Common.{◌≡◌, ◌+◌, List, [], arith, sym, subst, inl, inr, ⊎_elim, Ok, Err, Option, None, Some, Bool, true, ◌∙◌}
use Rattle.std.proofs.lemmas.Result.{err_from_is_err_and}
use Rattle.ld_msg.specs.declared.msg.Msg.{Msg}
use Rattle.ld_dial.specs.Far.{Far, Receives, IsNext, CountsEnding}
use Rattle.ld_rounds.specs.Telling.{AnswersOf, missed_by}
use Rattle.ld_rounds.specs.Listening.{still_due}
use Rattle.ld_rounds.specs.Endings.{EndsOff}
use Rattle.ld_rounds.specs.Drives.{IsBroken, WithNode, Answering, GoesOn}
use Rattle.ld_rounds.specs.Rounds.{IsDelivered, IsReminded, RemindEnd, Visiting, VisitEnd}
use Rattle.ld_rounds.proofs.Endings.{none_off, missed_off}
use Rattle.ld_rounds.proofs.Joining.{delivered_visits, reminded_joins}
use Rattle.ld_rounds.proofs.Going.{each_end, went_here, went_such, went_as, goes_as, then_on}
use Rattle.ld_rounds.proofs.Visiting.{rest_due, its_own, none_due, due_none, may_answer, drives_on, takes_is, ignored, unheard}
use Rattle.ld_rounds.proofs.visits.listen.Goals as goal

nothing_came : (far : Far) (T : Far → Type 0) (o : Option Msg) → o ≡ None → Receives far T (Ok o) → (far.answers ≡ []) × T far
nothing_came far T o h received = subst (λ x. Receives far T (Ok x)) h received

next_came : (far : Far) (T : Far → Type 0) (o : Option Msg) (m : Msg) → o ≡ Some m → Receives far T (Ok o) → IsNext far T m
next_came far T o m h received = subst (λ x. Receives far T (Ok x)) h received

pub returns-in-Err-clause-held : goal.returns-in-Err-clause-held
returns-in-Err-clause-held g c who is k first s far b there told h =
    let y = c.args.node in
    let T = g.N.Nodes.tells c.receive.new.self in
    let w = Some (g.O.Sink.written c.args.out.now) in
    inr (subst (λ r. GoesOn who (IsBroken (g.N.Nodes.faults c.args.nodes.now) (g.N.Nodes.faults c.receive.new.self) (g.N.Nodes.endings c.args.nodes.now) (g.N.Nodes.endings c.receive.new.self)) (Visiting k first y) (VisitEnd k first y) (g.A.Actor.stands c.args.actor.now) (Answering T k y (still_due c.args.due r)) k first s c.args.queues.now w w r) (sym c.missed.ensures.value)
    (unheard who (IsBroken (g.N.Nodes.faults c.args.nodes.now) (g.N.Nodes.faults c.receive.new.self) (g.N.Nodes.endings c.args.nodes.now) (g.N.Nodes.endings c.receive.new.self)) k first b (g.A.Actor.stands c.args.actor.now) (g.met.A.Actor.stands_apart c.args.actor.now) s y (T k) (Answering T k y (still_due c.args.due (missed_by c.in-Err.fault))) far c.args.queues.now w c.in-Err.fault (c.in-Err.ensures.received k far told.0)))

pub returns-in_default-clause-held : goal.returns-in_default-clause-held
returns-in_default-clause-held g c who is k first s far b there told h =
    let T = g.N.Nodes.tells c.receive.new.self in
    let none = nothing_came far (T k) c.in-Ok.next c.in_default.is (c.in-Ok.ensures.received k far told.0) in
    inr (went_here who (IsBroken (g.N.Nodes.faults c.args.nodes.now) (g.N.Nodes.faults c.receive.new.self) (g.N.Nodes.endings c.args.nodes.now) (g.N.Nodes.endings c.receive.new.self)) k first b (Visiting k first c.args.node) (g.A.Actor.stands c.args.actor.now) (Answering T k c.args.node 0) s far c.args.queues.now (Some (g.O.Sink.written c.args.out.now)) (tt, tt, tt) (none.1, told.1, due_none c.args.node 0 far.answers none.0) h)

pub returns-then-not-is_its-clause-held : goal.returns-then-not-is_its-clause-held
returns-then-not-is_its-clause-held g c who is k first s far b there told h =
    let a = c.args.actor.now in
    let y = c.args.node in
    let m = c.in-Some.answer in
    let n = c.args.due in
    let w = Some (g.O.Sink.written c.args.out.now) in
    let T = g.N.Nodes.tells c.receive.new.self in
    let next = next_came far (T k) c.in-Ok.next m c.in-Some.is (c.in-Ok.ensures.received k far told.0) in
    let due = subst (λ (ms : List Msg). AnswersOf y (n + 1) ms) next.first told.2 in
    inr (went_as who (IsBroken (g.N.Nodes.faults c.args.nodes.now) (g.N.Nodes.faults c.receive.new.self) (g.N.Nodes.endings c.args.nodes.now) (g.N.Nodes.endings c.receive.new.self)) k first b (Visiting k first y) ⊥ (g.A.Actor.stands a) (λ now. now ≡ record far { answers = next.rest }) (Answering T k y n) s c.args.queues.now w w (λ x. absurd x)
    (λ f e. subst (Answering T k y n) (sym e) (next.told, told.1, rest_due y n m next.rest due))
    (ignored who ⊥ k first b (g.A.Actor.stands a) (g.met.A.Actor.stands_apart a) s y far c.args.queues.now m next.rest w (its_own y (n + 1) m next.rest due) next.first
    (takes_is who.takes (g.A.Actor.own a) s m _ _ is.0 (c.is_its.ensures.taken k s h.actor (its_own y (n + 1) m next.rest due)) c.if-not-is_its.true) h))

pub returns-in_err-take-clause-held : goal.returns-in_err-take-clause-held
returns-in_err-take-clause-held g c who is k first s far b there told h =
    let p = err_from_is_err_and c.from_residual.result c.from_residual.ensures.1 in
    let new = c.take.new.actor in
    let y = c.args.node in
    let m = c.in-Some.answer in
    let n = c.args.due in
    let T = g.N.Nodes.tells c.receive.new.self in
    let next = next_came far (T k) c.in-Ok.next m c.in-Some.is (c.in-Ok.ensures.received k far told.0) in
    let due = subst (λ (ms : List Msg). AnswersOf y (n + 1) ms) next.first told.2 in
    let own = its_own y (n + 1) m next.rest due in
    let taken = takes_is who.takes (g.A.Actor.own c.args.actor.now) s m _ _ is.0 (c.is_its.ensures.taken k s h.actor own) c.if-not-is_its.false in
    rw (p.1, p.2) (inr (goes_as who (IsBroken (g.N.Nodes.faults c.args.nodes.now) (g.N.Nodes.faults c.receive.new.self) (g.N.Nodes.endings c.args.nodes.now) (g.N.Nodes.endings c.receive.new.self)) k first b {R = Bool} (IsDelivered first m) (VisitEnd k first y) ⊥ (g.A.Actor.stands new) (λ now. now ≡ record far { answers = next.rest }) (Answering T k y n) s c.take.new.queues (Some (g.O.Sink.written c.args.out.now)) (Some (g.O.Sink.written c.take.new.out)) (Err c.in_err-take.field-0.0) (λ x. absurd x)
    (λ f e. subst (Answering T k y n) (sym e) (next.told, told.1, rest_due y n m next.rest due))
    (c.in_err-take.ensures.held who y k first s far next.rest b own taken next.first h)))

pub returns-then-due-gt0-clause-held : goal.returns-then-due-gt0-clause-held
returns-then-due-gt0-clause-held g c who is k first s far b there told h =
    let new = c.take.new.actor in
    let y = c.args.node in
    let m = c.in-Some.answer in
    let n = c.args.due in
    let T = g.N.Nodes.tells c.receive.new.self in
    let next = next_came far (T k) c.in-Ok.next m c.in-Some.is (c.in-Ok.ensures.received k far told.0) in
    let due = subst (λ (ms : List Msg). AnswersOf y (n + 1) ms) next.first told.2 in
    let own = its_own y (n + 1) m next.rest due in
    let taken = takes_is who.takes (g.A.Actor.own c.args.actor.now) s m _ _ is.0 (c.is_its.ensures.taken k s h.actor own) c.if-not-is_its.false in
    inr (went_such who (IsBroken (g.N.Nodes.faults c.args.nodes.now) (g.N.Nodes.faults c.receive.new.self) (g.N.Nodes.endings c.args.nodes.now) (g.N.Nodes.endings c.receive.new.self)) k first b ⊥ (IsDelivered first m) (Visiting k first y) (g.A.Actor.stands new) (λ now. now ≡ record far { answers = next.rest }) (Answering T k y n) s c.take.new.queues (Some (g.O.Sink.written c.args.out.now)) (Some (g.O.Sink.written c.take.new.out)) (λ x. absurd x)
    (λ f e. subst (Answering T k y n) (sym e) (next.told, told.1, rest_due y n m next.rest due))
    (c.in_ok-take.ensures.held who y k first s far next.rest b own taken next.first h)
    (λ es e x. delivered_visits k first y m own s es x))

pub returns-clause-held : goal.returns-clause-held
returns-clause-held g c who is k first s far b there told h =
    let new = c.take.new.actor in
    let y = c.args.node in
    let m = c.in-Some.answer in
    let n = c.args.due in
    let T = g.N.Nodes.tells c.receive.new.self in
    let U = g.N.Nodes.tells c.remind.new.nodes in
    let w = Some (g.O.Sink.written c.take.new.out) in
    let broken = IsBroken (g.N.Nodes.faults c.args.nodes.now) (g.N.Nodes.faults c.remind.new.nodes) (g.N.Nodes.endings c.args.nodes.now) (g.N.Nodes.endings c.remind.new.nodes) in
    let next = next_came far (T k) c.in-Ok.next m c.in-Some.is (c.in-Ok.ensures.received k far told.0) in
    let due = subst (λ (ms : List Msg). AnswersOf y (n + 1) ms) next.first told.2 in
    let own = its_own y (n + 1) m next.rest due in
    let none : n ≡ 0 = omega arith in
    let taken = takes_is who.takes (g.A.Actor.own c.args.actor.now) s m _ _ is.0 (c.is_its.ensures.taken k s h.actor own) c.if-not-is_its.false in
    let went = went_as who ⊥ k first b (IsDelivered first m) ⊥ (g.A.Actor.stands new) (λ now. now ≡ record far { answers = next.rest }) (WithNode T k y) s c.take.new.queues (Some (g.O.Sink.written c.args.out.now)) w (λ x. x)
    (λ f e. subst (WithNode T k y) (sym e) ((next.told, none_due y n next.rest none (rest_due y n m next.rest due)), told.1))
    (c.in_ok-take.ensures.held who y k first s far next.rest b own taken next.first h) in
    then_on who broken k first b {R = Bool} (IsDelivered first m) (IsReminded y m) (Visiting k first y) (RemindEnd y m) (VisitEnd k first y) ⊥ ⊥ (g.N.Nodes.silent c.remind.new.nodes ≡ true) (g.N.Nodes.silent c.remind.new.nodes ≡ true) (g.A.Actor.stands new) (g.A.Actor.stands c.remind.new.actor) (WithNode T k y) (Answering U k y (still_due n c.remind.result)) s c.take.new.queues c.take.new.queues (Some (g.O.Sink.written c.args.out.now)) w w c.remind.result
    (reminded_joins k first y m own) (each_end c.remind.result (λ e. reminded_joins k first y m own)) (λ x. absurd x) (λ x. absurd x) (λ quiet. quiet)
    (λ v. ⊎_elim (λ quiet. inl quiet)
    (λ x. inr (goes_as who ⊥ k first b {R = Bool} (IsReminded y m) (RemindEnd y m) ⊥ (g.A.Actor.stands c.remind.new.actor) (WithNode U k y) (Answering U k y (still_due n c.remind.result)) v.moved.state c.take.new.queues w w c.remind.result (λ z. z) (λ f t. may_answer U k y (still_due n c.remind.result) f t) x))
    (c.remind.ensures.held who (drives_on who (g.A.Actor.own c.args.actor.now) (g.A.Actor.own new) is c.in_ok-take.ensures.itself) k first v.moved.state v.far c.take.new.queues w b there own v.told v.moved.holds)) (inr went)

pub returns-in_default-clause-broken : goal.returns-in_default-clause-broken
returns-in_default-clause-broken g c = λ e.
    inr (subst (λ (o : Option Msg). CountsEnding (g.N.Nodes.endings c.args.nodes.now) (g.N.Nodes.endings c.receive.new.self) (Ok o)) c.in_default.is c.in-Ok.ensures.ended).0

pub returns-in-Err-clause-since : goal.returns-in-Err-clause-since
returns-in-Err-clause-since g c = g.met.A.Actor.since_here c.args.actor.now

pub returns-in_default-clause-since : goal.returns-in_default-clause-since
returns-in_default-clause-since g c = g.met.A.Actor.since_here c.args.actor.now

pub returns-then-not-is_its-clause-since : goal.returns-then-not-is_its-clause-since
returns-then-not-is_its-clause-since g c = g.met.A.Actor.since_here c.args.actor.now

pub returns-clause-since : goal.returns-clause-since
returns-clause-since g c = g.met.A.Actor.since_on c.args.actor.now c.take.new.actor c.remind.new.actor c.in_ok-take.ensures.since c.remind.ensures.since

pub returns-clause-cause : goal.returns-clause-cause
returns-clause-cause g c = c.remind.ensures.cause (g.O.Sink.faults c.args.out.now) (g.O.Sink.faults c.take.new.out) (Some (g.O.Sink.written c.args.out.now)) (Some (g.O.Sink.written c.take.new.out))

pub returns-in_err-take-clause-off : goal.returns-in_err-take-clause-off
returns-in_err-take-clause-off g c =
    let p = err_from_is_err_and c.from_residual.result c.from_residual.ensures.1 in
    rw (p.1, p.2) (c.in_err-take.ensures.off (g.N.Nodes.off c.receive.new.self))

pub returns-in-Err-clause-ended : goal.returns-in-Err-clause-ended
returns-in-Err-clause-ended g c = λ none. subst (λ r. EndsOff (g.N.Nodes.off c.receive.new.self) r) (sym c.missed.ensures.value) (missed_off (g.N.Nodes.off c.args.nodes.now) (g.N.Nodes.off c.receive.new.self) c.in-Err.fault c.in-Err.ensures.off none)

pub returns-in_default-clause-ended : goal.returns-in_default-clause-ended
returns-in_default-clause-ended g c = λ none. none_off _ _ (c.in-Ok.ensures.off ∙ none)

pub returns-then-not-is_its-clause-ended : goal.returns-then-not-is_its-clause-ended
returns-then-not-is_its-clause-ended g c = λ none. none_off _ _ (c.in-Ok.ensures.off ∙ none)

pub returns-in_err-take-clause-ended : goal.returns-in_err-take-clause-ended
returns-in_err-take-clause-ended g c = λ none. none_off _ _ (c.in-Ok.ensures.off ∙ none)

pub returns-clause-ended : goal.returns-clause-ended
returns-clause-ended g c = λ none. c.remind.ensures.ended (c.in-Ok.ensures.off ∙ none)
