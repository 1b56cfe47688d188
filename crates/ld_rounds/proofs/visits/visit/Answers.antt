use Rattle.std.proofs.Common.{◌≡◌, refl, ap, arith, sym, subst, inl, inr, ⊎_elim, ◌∙◌, List, Ok, Err, Bool, true, false, Some}
use Rattle.std.proofs.lemmas.Result.{err_from_is_err_and}
use Rattle.ld_msg.specs.declared.msg.Msg.{Msg}
use Rattle.ld_rounds.specs.Queued.{queue_of}
use Rattle.ld_rounds.specs.declared.ended.Ended.TheVariants as ends
use Rattle.ld_rounds.specs.Drives.{IsBroken, counted, Went, AllTaken, WithNode}
use Rattle.ld_rounds.proofs.Endings.{later_here, later_on, ending_since, none_off, goes_unoff, ends_as}
use Rattle.ld_rounds.specs.Rounds.{Visiting, VisitEnd}
use Rattle.ld_rounds.proofs.Going.{halted, went_here, went_as, goes_as, visiting_on, went_visit, visit_ends}
use Rattle.ld_rounds.proofs.Counting.{broken_since, broken_until, later_since}
use Rattle.ld_rounds.proofs.Visiting.{drives_on, unwaited, emptied, dialed, missed, dropped}
use Rattle.ld_rounds.proofs.visits.visit.Goals as goal

pub returns-then-not-has-clause-held : goal.returns-then-not-has-clause-held
returns-then-not-has-clause-held g c who is k first s far b there told h =
    let broken = IsBroken (g.N.Nodes.faults c.args.nodes.now) (g.N.Nodes.faults c.args.nodes.now) (g.N.Nodes.endings c.args.nodes.now) (g.N.Nodes.endings c.args.nodes.now) in
    let w = Some (g.O.Sink.written c.args.out.now) in
    inr (went_visit who broken k first b c.args.node (counted (g.N.Nodes.faults c.args.nodes.now) (g.N.Nodes.faults c.args.nodes.now) (g.N.Nodes.endings c.args.nodes.now) (g.N.Nodes.endings c.args.nodes.now)) (g.A.Actor.stands c.args.actor.now) (g.N.Nodes.tells c.args.nodes.now k) s c.args.queues.now w w (λ l. l) (unwaited (queue_of c.args.queues.now c.args.node) c.has.result c.has.ensures.waits c.if-not-has.true)
    (went_here who broken k first b (Visiting k first c.args.node) (g.A.Actor.stands c.args.actor.now) (AllTaken (g.N.Nodes.tells c.args.nodes.now k)) s far c.args.queues.now w (tt, tt, tt) told h))

pub returns-in-Err-clause-held : goal.returns-in-Err-clause-held
returns-in-Err-clause-held g c who is k first s far b there told h =
    let a = c.args.actor.now in
    let w = Some (g.O.Sink.written c.args.out.now) in
    let T = g.N.Nodes.tells c.dial.new.self k in
    let broken = IsBroken (g.N.Nodes.faults c.args.nodes.now) (g.N.Nodes.faults c.dial.new.self) (g.N.Nodes.endings c.args.nodes.now) (g.N.Nodes.endings c.dial.new.self) in
    inr (went_visit who broken k first b c.args.node (counted (g.N.Nodes.faults c.args.nodes.now) (g.N.Nodes.faults c.dial.new.self) (g.N.Nodes.endings c.args.nodes.now) (g.N.Nodes.endings c.dial.new.self)) (g.A.Actor.stands a) T s c.drop_all.new.self w w (λ l. l) (ap (λ (x : List (List Msg)). queue_of x c.args.node) c.drop_all.ensures.dropped ∙ emptied c.args.queues.now c.args.node)
    (subst (λ (x : List (List Msg)). Went who broken (Visiting k first c.args.node) (g.A.Actor.stands a) (AllTaken T) k first s x w w) (sym c.drop_all.ensures.dropped)
    (missed who (IsBroken (g.N.Nodes.faults c.args.nodes.now) (g.N.Nodes.faults c.dial.new.self) (g.N.Nodes.endings c.args.nodes.now) (g.N.Nodes.endings c.dial.new.self)) k first b (g.A.Actor.stands a) (g.met.A.Actor.stands_apart a) s (inl c.in-Err.ensures.cause.failed) (AllTaken T) far c.args.node c.args.queues.now w told.1 c.has.ensures.node h ((c.in-Err.ensures.dialed k far told.0).1, refl))))

pub frames-init : goal.frames-init
frames-init g c = (
  λ who is k first s far b there told h. inr (dialed who (IsBroken (g.N.Nodes.faults c.args.nodes.now) (g.N.Nodes.faults c.dial.new.self) (g.N.Nodes.endings c.args.nodes.now) (g.N.Nodes.endings c.dial.new.self)) k first b (g.A.Actor.stands c.args.actor.now) (g.met.A.Actor.stands_apart c.args.actor.now) s (g.N.Nodes.tells c.dial.new.self) far c.args.node c.args.queues.now (Some (g.O.Sink.written c.args.out.now)) told.1 h (c.in-Ok.ensures.dialed k far told.0).1),
  λ quiet. c.in-Ok.ensures.silent ∙ quiet,
  later_here _ _,
  (let l = c.in-Ok.ensures.cause.later in let e = c.in-Ok.ensures.endings in (l, omega (arith, e))),
  refl,
  g.met.A.Actor.since_here c.args.actor.now,
  c.in-Ok.ensures.off,
)

pub returns-then-not-waits-clause-held : goal.returns-then-not-waits-clause-held
returns-then-not-waits-clause-held g c who is k first s far b there told h =
    let T = g.N.Nodes.tells c.frames.nodes in
    let U = g.N.Nodes.tells c.exchange.new.nodes in
    let y = c.args.node in
    let B = g.A.Actor.stands c.exchange.new.actor in
    let old = Some (g.O.Sink.written c.args.out.now) in
    let new = Some (g.O.Sink.written c.exchange.new.out) in
    ⊎_elim (λ quiet. inl quiet)
    (λ v. inr (went_visit who (IsBroken (g.N.Nodes.faults c.args.nodes.now) (g.N.Nodes.faults c.exchange.new.nodes) (g.N.Nodes.endings c.args.nodes.now) (g.N.Nodes.endings c.exchange.new.nodes)) k first b y (counted (g.N.Nodes.faults c.args.nodes.now) (g.N.Nodes.faults c.exchange.new.nodes) (g.N.Nodes.endings c.args.nodes.now) (g.N.Nodes.endings c.exchange.new.nodes)) B (U k) s c.exchange.new.queues old new (λ l. l) (unwaited (queue_of c.exchange.new.queues y) c.has-waits.result c.has-waits.ensures.waits c.if-not-waits.true)
    (went_as who (IsBroken (g.N.Nodes.faults c.args.nodes.now) (g.N.Nodes.faults c.exchange.new.nodes) (g.N.Nodes.endings c.args.nodes.now) (g.N.Nodes.endings c.exchange.new.nodes)) k first b (Visiting k first y) (IsBroken (g.N.Nodes.faults c.args.nodes.now) (g.N.Nodes.faults c.exchange.new.nodes) (g.N.Nodes.endings c.args.nodes.now) (g.N.Nodes.endings c.exchange.new.nodes)) B (WithNode U k y) (AllTaken (U k)) s c.exchange.new.queues old new (λ l. l) (λ f t. t.0) v)))
    (visiting_on who (IsBroken (g.N.Nodes.faults c.args.nodes.now) (g.N.Nodes.faults c.exchange.new.nodes) (g.N.Nodes.endings c.args.nodes.now) (g.N.Nodes.endings c.exchange.new.nodes)) k first b {R = Bool} y (IsBroken (g.N.Nodes.faults c.args.nodes.now) (g.N.Nodes.faults c.frames.nodes) (g.N.Nodes.endings c.args.nodes.now) (g.N.Nodes.endings c.frames.nodes)) (IsBroken (g.N.Nodes.faults c.frames.nodes) (g.N.Nodes.faults c.exchange.new.nodes) (g.N.Nodes.endings c.frames.nodes) (g.N.Nodes.endings c.exchange.new.nodes)) (g.N.Nodes.silent c.frames.nodes ≡ true) (g.N.Nodes.silent c.exchange.new.nodes ≡ true) (g.A.Actor.stands c.frames.actor) B (WithNode T k y) (WithNode U k y) s
    c.frames.queues c.exchange.new.queues old (Some (g.O.Sink.written c.frames.out)) new (Ok true) (broken_until _ _ _ _ _ _ c.in_ok-exchange.ensures.counts) (broken_since _ _ _ _ _ _ c.frames.invariant.3)
    c.in_ok-exchange.ensures.silent
    (λ w. c.in_ok-exchange.ensures.held who (drives_on who (g.A.Actor.own c.args.actor.now) (g.A.Actor.own c.frames.actor) is c.frames.invariant.4) k first w.moved.state w.far b there w.told w.moved.holds)
    (c.frames.invariant.0 who is k first s far b there told h))

pub returns-then-not-waits-clause-later : goal.returns-then-not-waits-clause-later
returns-then-not-waits-clause-later g c = later_on _ _ _ _ _ _ c.frames.invariant.2 c.in_ok-exchange.ensures.later

pub returns-then-not-waits-clause-emptied : goal.returns-then-not-waits-clause-emptied
returns-then-not-waits-clause-emptied g c = unwaited (queue_of c.exchange.new.queues c.args.node) c.has-waits.result c.has-waits.ensures.waits c.if-not-waits.true

pub returns-then-not-waits-clause-since : goal.returns-then-not-waits-clause-since
returns-then-not-waits-clause-since g c = g.met.A.Actor.since_on c.args.actor.now c.frames.actor c.exchange.new.actor c.frames.invariant.5 c.in_ok-exchange.ensures.since

pub returns-then-not-waits-clause-ended : goal.returns-then-not-waits-clause-ended
returns-then-not-waits-clause-ended g c = λ none. none_off _ _ (goes_unoff _ c.in_ok-exchange.field-0 (c.in_ok-exchange.ensures.ended c.frames.invariant.6))

pub returns-in_err-exchange-clause-held : goal.returns-in_err-exchange-clause-held
returns-in_err-exchange-clause-held g c who is k first s far b there told h =
    let p = err_from_is_err_and c.from_residual.result c.from_residual.ensures.1 in
    let T = g.N.Nodes.tells c.frames.nodes in
    let U = g.N.Nodes.tells c.exchange.new.nodes in
    let y = c.args.node in
    let broken = IsBroken (g.N.Nodes.faults c.args.nodes.now) (g.N.Nodes.faults c.exchange.new.nodes) (g.N.Nodes.endings c.args.nodes.now) (g.N.Nodes.endings c.exchange.new.nodes) in
    rw (p.1, p.2) (⊎_elim (λ quiet. inl quiet)
    (λ v. inr (visit_ends who broken k first b y (counted (g.N.Nodes.faults c.args.nodes.now) (g.N.Nodes.faults c.exchange.new.nodes) (g.N.Nodes.endings c.args.nodes.now) (g.N.Nodes.endings c.exchange.new.nodes)) (g.A.Actor.stands c.exchange.new.actor) (AllTaken (U k)) s c.exchange.new.queues (Some (g.O.Sink.written c.args.out.now)) (Some (g.O.Sink.written c.exchange.new.out)) c.in_err-exchange.field-0.0 (λ l. l) v))
    (visiting_on who (IsBroken (g.N.Nodes.faults c.args.nodes.now) (g.N.Nodes.faults c.exchange.new.nodes) (g.N.Nodes.endings c.args.nodes.now) (g.N.Nodes.endings c.exchange.new.nodes)) k first b {R = Bool} c.args.node (IsBroken (g.N.Nodes.faults c.args.nodes.now) (g.N.Nodes.faults c.frames.nodes) (g.N.Nodes.endings c.args.nodes.now) (g.N.Nodes.endings c.frames.nodes)) (IsBroken (g.N.Nodes.faults c.frames.nodes) (g.N.Nodes.faults c.exchange.new.nodes) (g.N.Nodes.endings c.frames.nodes) (g.N.Nodes.endings c.exchange.new.nodes)) (g.N.Nodes.silent c.frames.nodes ≡ true) (g.N.Nodes.silent c.exchange.new.nodes ≡ true) (g.A.Actor.stands c.frames.actor) (g.A.Actor.stands c.exchange.new.actor) (WithNode T k y) (AllTaken (U k)) s
    c.frames.queues c.exchange.new.queues (Some (g.O.Sink.written c.args.out.now)) (Some (g.O.Sink.written c.frames.out)) (Some (g.O.Sink.written c.exchange.new.out)) (Err c.in_err-exchange.field-0.0) (broken_until _ _ _ _ _ _ c.in_err-exchange.ensures.counts) (broken_since _ _ _ _ _ _ c.frames.invariant.3)
    c.in_err-exchange.ensures.silent
    (λ w. ⊎_elim (λ quiet. inl quiet) (λ v. inr (goes_as who (IsBroken (g.N.Nodes.faults c.frames.nodes) (g.N.Nodes.faults c.exchange.new.nodes) (g.N.Nodes.endings c.frames.nodes) (g.N.Nodes.endings c.exchange.new.nodes)) k first b {R = Bool} (Visiting k first c.args.node) (VisitEnd k first c.args.node) (IsBroken (g.N.Nodes.faults c.frames.nodes) (g.N.Nodes.faults c.exchange.new.nodes) (g.N.Nodes.endings c.frames.nodes) (g.N.Nodes.endings c.exchange.new.nodes)) (g.A.Actor.stands c.exchange.new.actor) (WithNode U k y) (AllTaken (U k)) w.moved.state c.exchange.new.queues (Some (g.O.Sink.written c.frames.out)) (Some (g.O.Sink.written c.exchange.new.out)) (Err c.in_err-exchange.field-0.0) (λ l. l) (λ f t. t.0) v))
    (c.in_err-exchange.ensures.held who (drives_on who (g.A.Actor.own c.args.actor.now) (g.A.Actor.own c.frames.actor) is c.frames.invariant.4) k first w.moved.state w.far b there w.told w.moved.holds))
    (c.frames.invariant.0 who is k first s far b there told h)))

pub returns-in_err-exchange-clause-cause : goal.returns-in_err-exchange-clause-cause
returns-in_err-exchange-clause-cause g c =
    let p = err_from_is_err_and c.from_residual.result c.from_residual.ensures.1 in
    rw (p.1, p.2) (ending_since _ _ _ _ _ _ c.in_err-exchange.field-0.0 c.frames.invariant.2 c.in_err-exchange.ensures.cause)

pub returns-in_err-exchange-clause-later : goal.returns-in_err-exchange-clause-later
returns-in_err-exchange-clause-later g c = later_on _ _ _ _ _ _ c.frames.invariant.2 c.in_err-exchange.ensures.later

pub returns-then-not-branch-clause-held : goal.returns-then-not-branch-clause-held
returns-then-not-branch-clause-held g c who is k first s far b there told h =
    let T = g.N.Nodes.tells c.frames.nodes in
    let U = g.N.Nodes.tells c.exchange.new.nodes in
    let y = c.args.node in
    let B = g.A.Actor.stands c.exchange.new.actor in
    let old = Some (g.O.Sink.written c.args.out.now) in
    let new = Some (g.O.Sink.written c.exchange.new.out) in
    let went = visiting_on who (IsBroken (g.N.Nodes.faults c.args.nodes.now) (g.N.Nodes.faults c.exchange.new.nodes) (g.N.Nodes.endings c.args.nodes.now) (g.N.Nodes.endings c.exchange.new.nodes)) k first b {R = Bool} c.args.node (IsBroken (g.N.Nodes.faults c.args.nodes.now) (g.N.Nodes.faults c.frames.nodes) (g.N.Nodes.endings c.args.nodes.now) (g.N.Nodes.endings c.frames.nodes)) (IsBroken (g.N.Nodes.faults c.frames.nodes) (g.N.Nodes.faults c.exchange.new.nodes) (g.N.Nodes.endings c.frames.nodes) (g.N.Nodes.endings c.exchange.new.nodes)) (g.N.Nodes.silent c.frames.nodes ≡ true) (g.N.Nodes.silent c.exchange.new.nodes ≡ true) (g.A.Actor.stands c.frames.actor) B (WithNode T k y) (WithNode U k y) s
    c.frames.queues c.exchange.new.queues old (Some (g.O.Sink.written c.frames.out)) new (Ok false) (broken_until _ _ _ _ _ _ c.in_ok-exchange.ensures.counts) (broken_since _ _ _ _ _ _ c.frames.invariant.3)
    c.in_ok-exchange.ensures.silent
    (λ w. c.in_ok-exchange.ensures.held who (drives_on who (g.A.Actor.own c.args.actor.now) (g.A.Actor.own c.frames.actor) is c.frames.invariant.4) k first w.moved.state w.far b there w.told w.moved.holds)
    (c.frames.invariant.0 who is k first s far b there told h) in
    let broken = IsBroken (g.N.Nodes.faults c.args.nodes.now) (g.N.Nodes.faults c.exchange.new.nodes) (g.N.Nodes.endings c.args.nodes.now) (g.N.Nodes.endings c.exchange.new.nodes) in
    ⊎_elim (λ quiet. inl quiet) (λ v. inr (went_visit who broken k first b y (counted (g.N.Nodes.faults c.args.nodes.now) (g.N.Nodes.faults c.exchange.new.nodes) (g.N.Nodes.endings c.args.nodes.now) (g.N.Nodes.endings c.exchange.new.nodes)) B (U k) s c.drop_all-then-not-branch.new.self old new (λ l. l) (ap (λ (x : List (List Msg)). queue_of x y) c.drop_all-then-not-branch.ensures.dropped ∙ emptied c.exchange.new.queues y)
    (subst (λ (x : List (List Msg)). Went who broken (Visiting k first c.args.node) B (AllTaken (U k)) k first s x old new) (sym c.drop_all-then-not-branch.ensures.dropped)
    (dropped who (IsBroken (g.N.Nodes.faults c.args.nodes.now) (g.N.Nodes.faults c.exchange.new.nodes) (g.N.Nodes.endings c.args.nodes.now) (g.N.Nodes.endings c.exchange.new.nodes)) k first b B (g.met.A.Actor.stands_apart c.exchange.new.actor) s (broken_since _ _ _ _ _ _ c.frames.invariant.3 (c.in_ok-exchange.ensures.broken c.if-not-branch.true)) (AllTaken (U k)) c.exchange.new.queues y old new c.has.ensures.node
    (went_as who (IsBroken (g.N.Nodes.faults c.args.nodes.now) (g.N.Nodes.faults c.exchange.new.nodes) (g.N.Nodes.endings c.args.nodes.now) (g.N.Nodes.endings c.exchange.new.nodes)) k first b (Visiting k first c.args.node) (IsBroken (g.N.Nodes.faults c.args.nodes.now) (g.N.Nodes.faults c.exchange.new.nodes) (g.N.Nodes.endings c.args.nodes.now) (g.N.Nodes.endings c.exchange.new.nodes)) B (WithNode U k y) (AllTaken (U k)) s c.exchange.new.queues old new (λ l. l) (λ f t. t.0) v))))) went

pub returns-then-not-branch-clause-later : goal.returns-then-not-branch-clause-later
returns-then-not-branch-clause-later g c = later_on _ _ _ _ _ _ c.frames.invariant.2 c.in_ok-exchange.ensures.later

pub frames-preserved : goal.frames-preserved
frames-preserved g c =
    let T = g.N.Nodes.tells c.frames.nodes in
    let U = g.N.Nodes.tells c.exchange.new.nodes in
    let y = c.args.node in (
      λ who is k first s far b there told h. visiting_on who (IsBroken (g.N.Nodes.faults c.args.nodes.now) (g.N.Nodes.faults c.exchange.new.nodes) (g.N.Nodes.endings c.args.nodes.now) (g.N.Nodes.endings c.exchange.new.nodes)) k first b {R = Bool} c.args.node (IsBroken (g.N.Nodes.faults c.args.nodes.now) (g.N.Nodes.faults c.frames.nodes) (g.N.Nodes.endings c.args.nodes.now) (g.N.Nodes.endings c.frames.nodes)) (IsBroken (g.N.Nodes.faults c.frames.nodes) (g.N.Nodes.faults c.exchange.new.nodes) (g.N.Nodes.endings c.frames.nodes) (g.N.Nodes.endings c.exchange.new.nodes)) (g.N.Nodes.silent c.frames.nodes ≡ true) (g.N.Nodes.silent c.exchange.new.nodes ≡ true) (g.A.Actor.stands c.frames.actor) (g.A.Actor.stands c.exchange.new.actor) (WithNode T k y) (WithNode U k y) s
          c.frames.queues c.exchange.new.queues (Some (g.O.Sink.written c.args.out.now)) (Some (g.O.Sink.written c.frames.out)) (Some (g.O.Sink.written c.exchange.new.out)) (Ok true) (broken_until _ _ _ _ _ _ c.in_ok-exchange.ensures.counts) (broken_since _ _ _ _ _ _ c.frames.invariant.3)
          c.in_ok-exchange.ensures.silent
          (λ w. c.in_ok-exchange.ensures.held who (drives_on who (g.A.Actor.own c.args.actor.now) (g.A.Actor.own c.frames.actor) is c.frames.invariant.4) k first w.moved.state w.far b there w.told w.moved.holds)
          (c.frames.invariant.0 who is k first s far b there told h),
      λ quiet. c.in_ok-exchange.ensures.silent (c.frames.invariant.1 quiet),
      later_on _ _ _ _ _ _ c.frames.invariant.2 c.in_ok-exchange.ensures.later,
      later_since _ _ _ _ _ _ c.frames.invariant.3 c.in_ok-exchange.ensures.counts,
      c.in_ok-exchange.ensures.itself ∙ c.frames.invariant.4,
      g.met.A.Actor.since_on c.args.actor.now c.frames.actor c.exchange.new.actor c.frames.invariant.5 c.in_ok-exchange.ensures.since,
      goes_unoff _ c.in_ok-exchange.field-0 (c.in_ok-exchange.ensures.ended c.frames.invariant.6),
    )

pub returns-clause-held : goal.returns-clause-held
returns-clause-held g c who is k first s far b there told h =
    ⊎_elim (λ quiet. inl quiet) (λ w. inr (visit_ends who (IsBroken (g.N.Nodes.faults c.args.nodes.now) (g.N.Nodes.faults c.frames.nodes) (g.N.Nodes.endings c.args.nodes.now) (g.N.Nodes.endings c.frames.nodes)) k first b c.args.node (counted (g.N.Nodes.faults c.args.nodes.now) (g.N.Nodes.faults c.frames.nodes) (g.N.Nodes.endings c.args.nodes.now) (g.N.Nodes.endings c.frames.nodes)) (g.A.Actor.stands c.frames.actor) (AllTaken (g.N.Nodes.tells c.frames.nodes k)) s c.frames.queues (Some (g.O.Sink.written c.args.out.now)) (Some (g.O.Sink.written c.frames.out)) ends.NoMemory (λ l. l) (halted who (IsBroken (g.N.Nodes.faults c.args.nodes.now) (g.N.Nodes.faults c.frames.nodes) (g.N.Nodes.endings c.args.nodes.now) (g.N.Nodes.endings c.frames.nodes)) k first b (Visiting k first c.args.node) (g.A.Actor.stands c.frames.actor) (WithNode (g.N.Nodes.tells c.frames.nodes) k c.args.node) s c.frames.queues (Some (g.O.Sink.written c.args.out.now)) (Some (g.O.Sink.written c.frames.out)) w)))
    (c.frames.invariant.0 who is k first s far b there told h)

pub returns-then-not-has-clause-since : goal.returns-then-not-has-clause-since
returns-then-not-has-clause-since g c = g.met.A.Actor.since_here c.args.actor.now

pub returns-in-Err-clause-since : goal.returns-in-Err-clause-since
returns-in-Err-clause-since g c = g.met.A.Actor.since_here c.args.actor.now

pub returns-then-not-branch-clause-since : goal.returns-then-not-branch-clause-since
returns-then-not-branch-clause-since g c = g.met.A.Actor.since_on c.args.actor.now c.frames.actor c.exchange.new.actor c.frames.invariant.5 c.in_ok-exchange.ensures.since

pub returns-in_err-exchange-clause-since : goal.returns-in_err-exchange-clause-since
returns-in_err-exchange-clause-since g c = g.met.A.Actor.since_on c.args.actor.now c.frames.actor c.exchange.new.actor c.frames.invariant.5 c.in_err-exchange.ensures.since

pub returns-in-Err-clause-ended : goal.returns-in-Err-clause-ended
returns-in-Err-clause-ended g c = λ none. none_off _ _ c.in-Err.ensures.off

pub returns-in_err-exchange-clause-ended : goal.returns-in_err-exchange-clause-ended
returns-in_err-exchange-clause-ended g c =
    let p = err_from_is_err_and c.from_residual.result c.from_residual.ensures.1 in
    λ none. rw (p.1, p.2) (ends_as Bool (Unit {0}) _ c.in_err-exchange.field-0.0 (c.in_err-exchange.ensures.ended c.frames.invariant.6))

pub returns-then-not-branch-clause-ended : goal.returns-then-not-branch-clause-ended
returns-then-not-branch-clause-ended g c = λ none. none_off _ _ (goes_unoff _ c.in_ok-exchange.field-0 (c.in_ok-exchange.ensures.ended c.frames.invariant.6))

pub returns-clause-ended : goal.returns-clause-ended
returns-clause-ended g c = λ none. none_off _ _ c.frames.invariant.6

pub returns-then-not-has-clause-ended : goal.returns-then-not-has-clause-ended
returns-then-not-has-clause-ended g c = λ none. none_off _ _ none
