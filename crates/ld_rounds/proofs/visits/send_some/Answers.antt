use Rattle.std.proofs.Common.{◌≡◌, ◌≤◌, ◌⊎◌, ◌+◌, ◌∙◌, ℕ, List, Option, set, refl, arith, sym, subst, inr, Ok, Err, true}
use Rattle.std.specs.Prelude.{IfSome}
use Rattle.std.proofs.lemmas.Result.{err_from_is_err_and}
use Rattle.ld_msg.specs.declared.msg.Msg.{Msg}
use Rattle.ld_rounds.specs.Queued.{queue_of, behind}
use Rattle.ld_rounds.specs.Listening.{due_with}
use Rattle.ld_rounds.specs.Drives.{IsBroken, Went, GoesOn, Answering}
use Rattle.ld_rounds.specs.Rounds.{Visiting, VisitEnd}
use Rattle.ld_rounds.proofs.Queueing.{none_taken, taken_more, taken_within}
use Rattle.ld_rounds.proofs.Going.{went_here, visiting_on}
use Rattle.ld_rounds.proofs.Counting.{broken_since, broken_until, later_since}
use Rattle.ld_rounds.proofs.Visiting.{fronted, not_taken, may_answer}
use Rattle.ld_rounds.proofs.visits.send_some.Goals as goal

pub messages-init : goal.messages-init
messages-init g c = (
  λ who k first s far w b told h. inr (went_here who (IsBroken (g.N.Nodes.faults c.args.nodes.now) (g.N.Nodes.faults c.args.nodes.now) (g.N.Nodes.endings c.args.nodes.now) (g.N.Nodes.endings c.args.nodes.now)) k first b (Visiting k first c.args.node) (g.A.Actor.stands c.args.actor.now) (Answering (g.N.Nodes.tells c.args.nodes.now) k c.args.node 0) s far c.args.queues.now w (tt, tt, tt) (may_answer (g.N.Nodes.tells c.args.nodes.now) k c.args.node 0 far told) h),
  λ quiet. quiet,
  (omega arith, omega arith),
  refl,
  none_taken 0 c.args.node c.args.queues.now,
  omega arith,
)

pub messages-preserved : goal.messages-preserved
messages-preserved g c =
    let y = c.args.node in
    let A = g.A.Actor.stands c.args.actor.now in
    let T = g.N.Nodes.tells c.messages.nodes in
    let U = g.N.Nodes.tells c.send_one.new.nodes in
    let front = fronted (queue_of c.messages.queues y) c.in-Some.message (sym c.in-Some.is ∙ c.next.ensures.first) in
    let few = subst (λ (o : Option ℕ). IfSome o (λ n. n ≤ 1)) c.in-Some-2.is c.in_ok-answers.ensures.few in (
      λ who k first s far w b told h. subst (λ (o : Option ℕ). (g.N.Nodes.silent c.send_one.new.nodes ≡ true) ⊎ Went who (IsBroken (g.N.Nodes.faults c.args.nodes.now) (g.N.Nodes.faults c.send_one.new.nodes) (g.N.Nodes.endings c.args.nodes.now) (g.N.Nodes.endings c.send_one.new.nodes)) (Visiting k first y) A (Answering U k y (due_with c.messages.due (Ok o))) k first s c.next.new.self w w) c.in-Some-2.is
          (subst (λ (qs : List (List Msg)). (g.N.Nodes.silent c.send_one.new.nodes ≡ true) ⊎ Went who (IsBroken (g.N.Nodes.faults c.args.nodes.now) (g.N.Nodes.faults c.send_one.new.nodes) (g.N.Nodes.endings c.args.nodes.now) (g.N.Nodes.endings c.send_one.new.nodes)) (Visiting k first y) A (Answering U k y (due_with c.messages.due (Ok c.in_ok-answers.field-0))) k first s qs w w) (sym c.next.ensures.left)
          (visiting_on who (IsBroken (g.N.Nodes.faults c.args.nodes.now) (g.N.Nodes.faults c.send_one.new.nodes) (g.N.Nodes.endings c.args.nodes.now) (g.N.Nodes.endings c.send_one.new.nodes)) k first b {R = Option ℕ} y (IsBroken (g.N.Nodes.faults c.args.nodes.now) (g.N.Nodes.faults c.messages.nodes) (g.N.Nodes.endings c.args.nodes.now) (g.N.Nodes.endings c.messages.nodes)) (IsBroken (g.N.Nodes.faults c.messages.nodes) (g.N.Nodes.faults c.send_one.new.nodes) (g.N.Nodes.endings c.messages.nodes) (g.N.Nodes.endings c.send_one.new.nodes)) (g.N.Nodes.silent c.messages.nodes ≡ true) (g.N.Nodes.silent c.send_one.new.nodes ≡ true) A A (Answering T k y c.messages.due) (Answering U k y (due_with c.messages.due (Ok c.in_ok-answers.field-0))) s c.messages.queues (set c.messages.queues y (behind (queue_of c.messages.queues y))) w w w (Ok c.in_ok-answers.field-0) (broken_until _ _ _ _ _ _ c.in_ok-answers.ensures.counts) (broken_since _ _ _ _ _ _ c.messages.invariant.2)
          c.in_ok-answers.ensures.silent
          (λ v. c.in_ok-answers.ensures.held who k first v.moved.state v.far c.messages.queues (behind (queue_of c.messages.queues y)) c.messages.due w b v.told v.moved.holds front)
          (c.messages.invariant.0 who k first s far w b told h))),
      λ quiet. c.in_ok-answers.ensures.silent (c.messages.invariant.1 quiet),
      later_since _ _ _ _ _ _ c.messages.invariant.2 c.in_ok-answers.ensures.counts,
      c.in_ok-answers.ensures.same ∙ c.messages.invariant.3,
      taken_more c.messages.counter y c.args.queues.now c.messages.queues c.next.new.self c.messages.invariant.4 c.next.ensures.left,
      (let l = c.messages.invariant.5 in omega (arith, few, l)),
    )

pub returns-in_default-clause-held : goal.returns-in_default-clause-held
returns-in_default-clause-held g c who k first s far w b told h =
    subst (λ (qs : List (List Msg)). (g.N.Nodes.silent c.messages.nodes ≡ true) ⊎ Went who (IsBroken (g.N.Nodes.faults c.args.nodes.now) (g.N.Nodes.faults c.messages.nodes) (g.N.Nodes.endings c.args.nodes.now) (g.N.Nodes.endings c.messages.nodes)) (Visiting k first c.args.node) (g.A.Actor.stands c.args.actor.now) (Answering (g.N.Nodes.tells c.messages.nodes) k c.args.node c.messages.due) k first s qs w w)
    (sym (not_taken c.messages.queues c.next.new.self c.args.node (sym c.in_default.is ∙ c.next.ensures.first) c.next.ensures.left))
    (c.messages.invariant.0 who k first s far w b told h)

pub returns-in_default-clause-few : goal.returns-in_default-clause-few
returns-in_default-clause-few g c = taken_within (c.messages.counter + 1) c.args.most c.args.node c.args.queues.now c.next.new.self (omega arith) (taken_more c.messages.counter c.args.node c.args.queues.now c.messages.queues c.next.new.self c.messages.invariant.4 c.next.ensures.left)

pub returns-in_err-answers-clause-held : goal.returns-in_err-answers-clause-held
returns-in_err-answers-clause-held g c who k first s far w b told h =
    let p = err_from_is_err_and c.from_residual.result c.from_residual.ensures.1 in
    let y = c.args.node in
    let A = g.A.Actor.stands c.args.actor.now in
    let T = g.N.Nodes.tells c.messages.nodes in
    let U = g.N.Nodes.tells c.send_one.new.nodes in
    let front = fronted (queue_of c.messages.queues y) c.in-Some.message (sym c.in-Some.is ∙ c.next.ensures.first) in
    rw (p.1, p.2) (subst (λ (qs : List (List Msg)). (g.N.Nodes.silent c.send_one.new.nodes ≡ true) ⊎ GoesOn {T = Option ℕ} who (IsBroken (g.N.Nodes.faults c.args.nodes.now) (g.N.Nodes.faults c.send_one.new.nodes) (g.N.Nodes.endings c.args.nodes.now) (g.N.Nodes.endings c.send_one.new.nodes)) (Visiting k first y) (VisitEnd k first y) A (Answering U k y 0) k first s qs w w (Err c.in_err-answers.field-0.0)) (sym c.next.ensures.left)
    (visiting_on who (IsBroken (g.N.Nodes.faults c.args.nodes.now) (g.N.Nodes.faults c.send_one.new.nodes) (g.N.Nodes.endings c.args.nodes.now) (g.N.Nodes.endings c.send_one.new.nodes)) k first b {R = Option ℕ} y (IsBroken (g.N.Nodes.faults c.args.nodes.now) (g.N.Nodes.faults c.messages.nodes) (g.N.Nodes.endings c.args.nodes.now) (g.N.Nodes.endings c.messages.nodes)) (IsBroken (g.N.Nodes.faults c.messages.nodes) (g.N.Nodes.faults c.send_one.new.nodes) (g.N.Nodes.endings c.messages.nodes) (g.N.Nodes.endings c.send_one.new.nodes)) (g.N.Nodes.silent c.messages.nodes ≡ true) (g.N.Nodes.silent c.send_one.new.nodes ≡ true) A A (Answering T k y c.messages.due) (Answering U k y (due_with c.messages.due (Err c.in_err-answers.field-0.0))) s c.messages.queues (set c.messages.queues y (behind (queue_of c.messages.queues y))) w w w (Err c.in_err-answers.field-0.0) (broken_until _ _ _ _ _ _ c.in_err-answers.ensures.counts) (broken_since _ _ _ _ _ _ c.messages.invariant.2)
    c.in_err-answers.ensures.silent
    (λ v. c.in_err-answers.ensures.held who k first v.moved.state v.far c.messages.queues (behind (queue_of c.messages.queues y)) c.messages.due w b v.told v.moved.holds front)
    (c.messages.invariant.0 who k first s far w b told h)))

pub returns-in_err-answers-clause-few : goal.returns-in_err-answers-clause-few
returns-in_err-answers-clause-few g c = taken_within (c.messages.counter + 1) c.args.most c.args.node c.args.queues.now c.next.new.self (omega arith) (taken_more c.messages.counter c.args.node c.args.queues.now c.messages.queues c.next.new.self c.messages.invariant.4 c.next.ensures.left)

pub returns-in_err-answers-clause-cause : goal.returns-in_err-answers-clause-cause
returns-in_err-answers-clause-cause g c before now old new =
    let p = err_from_is_err_and c.from_residual.result c.from_residual.ensures.1 in
    rw (p.1, p.2) (c.in_err-answers.ensures.cause before now old new)

pub returns-in_default-2-clause-held : goal.returns-in_default-2-clause-held
returns-in_default-2-clause-held g c who k first s far w b told h =
    let y = c.args.node in
    let A = g.A.Actor.stands c.args.actor.now in
    let T = g.N.Nodes.tells c.messages.nodes in
    let U = g.N.Nodes.tells c.send_one.new.nodes in
    let front = fronted (queue_of c.messages.queues y) c.in-Some.message (sym c.in-Some.is ∙ c.next.ensures.first) in
    subst (λ (o : Option ℕ). (g.N.Nodes.silent c.send_one.new.nodes ≡ true) ⊎ Went who (IsBroken (g.N.Nodes.faults c.args.nodes.now) (g.N.Nodes.faults c.send_one.new.nodes) (g.N.Nodes.endings c.args.nodes.now) (g.N.Nodes.endings c.send_one.new.nodes)) (Visiting k first y) A (Answering U k y (due_with c.messages.due (Ok o))) k first s c.next.new.self w w) c.in_default-2.is
    (subst (λ (qs : List (List Msg)). (g.N.Nodes.silent c.send_one.new.nodes ≡ true) ⊎ Went who (IsBroken (g.N.Nodes.faults c.args.nodes.now) (g.N.Nodes.faults c.send_one.new.nodes) (g.N.Nodes.endings c.args.nodes.now) (g.N.Nodes.endings c.send_one.new.nodes)) (Visiting k first y) A (Answering U k y (due_with c.messages.due (Ok c.in_ok-answers.field-0))) k first s qs w w) (sym c.next.ensures.left)
    (visiting_on who (IsBroken (g.N.Nodes.faults c.args.nodes.now) (g.N.Nodes.faults c.send_one.new.nodes) (g.N.Nodes.endings c.args.nodes.now) (g.N.Nodes.endings c.send_one.new.nodes)) k first b {R = Option ℕ} y (IsBroken (g.N.Nodes.faults c.args.nodes.now) (g.N.Nodes.faults c.messages.nodes) (g.N.Nodes.endings c.args.nodes.now) (g.N.Nodes.endings c.messages.nodes)) (IsBroken (g.N.Nodes.faults c.messages.nodes) (g.N.Nodes.faults c.send_one.new.nodes) (g.N.Nodes.endings c.messages.nodes) (g.N.Nodes.endings c.send_one.new.nodes)) (g.N.Nodes.silent c.messages.nodes ≡ true) (g.N.Nodes.silent c.send_one.new.nodes ≡ true) A A (Answering T k y c.messages.due) (Answering U k y (due_with c.messages.due (Ok c.in_ok-answers.field-0))) s c.messages.queues (set c.messages.queues y (behind (queue_of c.messages.queues y))) w w w (Ok c.in_ok-answers.field-0) (broken_until _ _ _ _ _ _ c.in_ok-answers.ensures.counts) (broken_since _ _ _ _ _ _ c.messages.invariant.2)
    c.in_ok-answers.ensures.silent
    (λ v. c.in_ok-answers.ensures.held who k first v.moved.state v.far c.messages.queues (behind (queue_of c.messages.queues y)) c.messages.due w b v.told v.moved.holds front)
    (c.messages.invariant.0 who k first s far w b told h)))

pub returns-in_default-2-clause-few : goal.returns-in_default-2-clause-few
returns-in_default-2-clause-few g c = taken_within (c.messages.counter + 1) c.args.most c.args.node c.args.queues.now c.next.new.self (omega arith) (taken_more c.messages.counter c.args.node c.args.queues.now c.messages.queues c.next.new.self c.messages.invariant.4 c.next.ensures.left)
