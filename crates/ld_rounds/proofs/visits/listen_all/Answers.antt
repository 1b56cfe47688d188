use Rattle.std.proofs.Common.{◌≡◌, ◌⊎◌, ◌+◌, ◌-◌, ◌∙◌, ℕ, Bool, Option, Some, Ok, Err, true, false, refl, arith, ap, sym, subst, inl, inr, ⊎_elim}
use Rattle.std.specs.Prelude.{IfErr, IfSome}
use Rattle.std.specs.declared.result.Result.{Result}
use Rattle.std.proofs.lemmas.Result.{err_from_is_err_and}
use Rattle.ld_rounds.specs.declared.ended.Ended.{Ended}
use Rattle.ld_rounds.specs.Endings.{IsEnding, IsOffAs, EndsOff}
use Rattle.ld_rounds.specs.Listening.{listens_on, still_due}
use Rattle.ld_rounds.specs.Drives.{IsBroken, Went, GoesOn, WithNode, Answering}
use Rattle.ld_rounds.specs.Rounds.{Visiting, VisitEnd}
use Rattle.ld_rounds.proofs.Endings.{later_here, later_on, ending_since}
use Rattle.ld_rounds.proofs.Going.{went_here, went_as, visiting_on}
use Rattle.ld_rounds.proofs.Counting.{broken_since, broken_until, later_since}
use Rattle.ld_rounds.proofs.Visiting.{drives_on, has_answered}
use Rattle.ld_rounds.proofs.Listening.{cut_off, on_due, off_due, HasEnded, ended_on, ended_cause, unoff_on, listened, listened_cut, ended_goes}
use Rattle.ld_rounds.proofs.visits.listen_all.Goals as goal

pub answers-init : goal.answers-init
answers-init g c = (
  λ who is k first s far b there told h. inr (went_here who (IsBroken (g.N.Nodes.faults c.args.nodes.now) (g.N.Nodes.faults c.args.nodes.now) (g.N.Nodes.endings c.args.nodes.now) (g.N.Nodes.endings c.args.nodes.now)) k first b (Visiting k first c.args.node) (g.A.Actor.stands c.args.actor.now) (Answering (g.N.Nodes.tells c.args.nodes.now) k c.args.node c.args.due) s far c.args.queues.now (Some (g.O.Sink.written c.args.out.now)) (tt, tt, tt) told h),
  λ quiet. quiet,
  later_here _ _,
  (omega arith, omega arith),
  refl,
  g.met.A.Actor.since_here c.args.actor.now,
  λ none. none,
  tt,
)

pub answers-preserved : goal.answers-preserved
answers-preserved g c =
    let y = c.args.node in
    let n = c.answers.left - 1 in
    let r = c.listen-listened.result in
    let A = g.A.Actor.stands c.answers.actor in
    let B = g.A.Actor.stands c.listen-listened.new.actor in
    let T = g.N.Nodes.tells c.answers.nodes in
    let U = g.N.Nodes.tells c.listen-listened.new.nodes in
    let old = Some (g.O.Sink.written c.args.out.now) in
    let mid = Some (g.O.Sink.written c.answers.out) in
    let new = Some (g.O.Sink.written c.listen-listened.new.out) in
    let more : c.answers.left ≡ n + 1 = omega arith in
    let on : listens_on r ≡ Ok true = sym c.in_ok-is_on.ensures.on ∙ ap (λ x. Ok x) c.if-not-is_on.false in (
      λ who is k first s far b there told h. subst (λ (m : ℕ). (g.N.Nodes.silent c.listen-listened.new.nodes ≡ true) ⊎ Went who (IsBroken (g.N.Nodes.faults c.args.nodes.now) (g.N.Nodes.faults c.listen-listened.new.nodes) (g.N.Nodes.endings c.args.nodes.now) (g.N.Nodes.endings c.listen-listened.new.nodes)) (Visiting k first y) B (Answering U k y m) k first s c.listen-listened.new.queues old new) (on_due n r on)
          (visiting_on who (IsBroken (g.N.Nodes.faults c.args.nodes.now) (g.N.Nodes.faults c.listen-listened.new.nodes) (g.N.Nodes.endings c.args.nodes.now) (g.N.Nodes.endings c.listen-listened.new.nodes)) k first b {R = Bool} y (IsBroken (g.N.Nodes.faults c.args.nodes.now) (g.N.Nodes.faults c.answers.nodes) (g.N.Nodes.endings c.args.nodes.now) (g.N.Nodes.endings c.answers.nodes)) (IsBroken (g.N.Nodes.faults c.answers.nodes) (g.N.Nodes.faults c.listen-listened.new.nodes) (g.N.Nodes.endings c.answers.nodes) (g.N.Nodes.endings c.listen-listened.new.nodes)) (g.N.Nodes.silent c.answers.nodes ≡ true) (g.N.Nodes.silent c.listen-listened.new.nodes ≡ true) A B (Answering T k y c.answers.left) (Answering U k y (still_due n r)) s c.answers.queues c.listen-listened.new.queues old mid new (Ok true) (broken_until _ _ _ _ _ _ c.listen-listened.ensures.counts) (broken_since _ _ _ _ _ _ c.answers.invariant.3)
          c.listen-listened.ensures.silent
          (λ v. listened who (IsBroken (g.N.Nodes.faults c.answers.nodes) (g.N.Nodes.faults c.listen-listened.new.nodes) (g.N.Nodes.endings c.answers.nodes) (g.N.Nodes.endings c.listen-listened.new.nodes)) k first y B v.moved.state c.listen-listened.new.queues mid new (g.N.Nodes.silent c.listen-listened.new.nodes ≡ true) (Answering U k y (still_due n r)) r (Ok true) on (c.listen-listened.ensures.held who (drives_on who (g.A.Actor.own c.args.actor.now) (g.A.Actor.own c.answers.actor) is c.answers.invariant.4) k first v.moved.state v.far b there (subst (λ (m : ℕ). Answering T k y m v.far) more v.told) v.moved.holds))
          (c.answers.invariant.0 who is k first s far b there told h)),
      λ quiet. c.listen-listened.ensures.silent (c.answers.invariant.1 quiet),
      later_on _ _ _ _ _ _ c.answers.invariant.2 c.listen-listened.ensures.later,
      later_since _ _ _ _ _ _ c.answers.invariant.3 c.listen-listened.ensures.counts,
      c.listen-listened.ensures.itself ∙ c.answers.invariant.4,
      g.met.A.Actor.since_on c.args.actor.now c.answers.actor c.listen-listened.new.actor c.answers.invariant.5 c.listen-listened.ensures.since,
      λ none. unoff_on (g.N.Nodes.off c.listen-listened.new.nodes) r true on (c.listen-listened.ensures.ended (c.answers.invariant.6 none)),
      subst (λ (o : Option Ended). IfSome o (HasEnded old new)) (sym c.in_ok-is_on.ensures.end) (ended_on (g.O.Sink.faults c.args.out.now) (g.O.Sink.faults c.answers.out) (g.O.Sink.faults c.listen-listened.new.out) old mid new c.answers.end r true on c.answers.invariant.7 c.answers.invariant.2 c.listen-listened.ensures.cause c.listen-listened.ensures.wrote),
    )

pub returns-then-not-is_on-clause-held : goal.returns-then-not-is_on-clause-held
returns-then-not-is_on-clause-held g c who is k first s far b there told h =
    let y = c.args.node in
    let n = c.answers.left - 1 in
    let r = c.listen-listened.result in
    let A = g.A.Actor.stands c.answers.actor in
    let B = g.A.Actor.stands c.listen-listened.new.actor in
    let T = g.N.Nodes.tells c.answers.nodes in
    let U = g.N.Nodes.tells c.listen-listened.new.nodes in
    let old = Some (g.O.Sink.written c.args.out.now) in
    let mid = Some (g.O.Sink.written c.answers.out) in
    let new = Some (g.O.Sink.written c.listen-listened.new.out) in
    let more : c.answers.left ≡ n + 1 = omega arith in
    let on : listens_on r ≡ Ok false = sym c.in_ok-is_on.ensures.on ∙ ap (λ x. Ok x) c.if-not-is_on.true in
    let ended = subst (λ (o : Option Ended). IfSome o (HasEnded old new)) (sym c.in_ok-is_on.ensures.end) (ended_on (g.O.Sink.faults c.args.out.now) (g.O.Sink.faults c.answers.out) (g.O.Sink.faults c.listen-listened.new.out) old mid new c.answers.end r false on c.answers.invariant.7 c.answers.invariant.2 c.listen-listened.ensures.cause c.listen-listened.ensures.wrote) in
    let went : (g.N.Nodes.silent c.listen-listened.new.nodes ≡ true) ⊎ Went who (IsBroken (g.N.Nodes.faults c.args.nodes.now) (g.N.Nodes.faults c.listen-listened.new.nodes) (g.N.Nodes.endings c.args.nodes.now) (g.N.Nodes.endings c.listen-listened.new.nodes)) (Visiting k first y) B (Answering U k y (still_due n r)) k first s c.listen-listened.new.queues old new =
    visiting_on who (IsBroken (g.N.Nodes.faults c.args.nodes.now) (g.N.Nodes.faults c.listen-listened.new.nodes) (g.N.Nodes.endings c.args.nodes.now) (g.N.Nodes.endings c.listen-listened.new.nodes)) k first b {R = Bool} y (IsBroken (g.N.Nodes.faults c.args.nodes.now) (g.N.Nodes.faults c.answers.nodes) (g.N.Nodes.endings c.args.nodes.now) (g.N.Nodes.endings c.answers.nodes)) (IsBroken (g.N.Nodes.faults c.answers.nodes) (g.N.Nodes.faults c.listen-listened.new.nodes) (g.N.Nodes.endings c.answers.nodes) (g.N.Nodes.endings c.listen-listened.new.nodes)) (g.N.Nodes.silent c.answers.nodes ≡ true) (g.N.Nodes.silent c.listen-listened.new.nodes ≡ true) A B (Answering T k y c.answers.left) (Answering U k y (still_due n r)) s c.answers.queues c.listen-listened.new.queues old mid new (Ok false) (broken_until _ _ _ _ _ _ c.listen-listened.ensures.counts) (broken_since _ _ _ _ _ _ c.answers.invariant.3)
    c.listen-listened.ensures.silent
    (λ v. listened who (IsBroken (g.N.Nodes.faults c.answers.nodes) (g.N.Nodes.faults c.listen-listened.new.nodes) (g.N.Nodes.endings c.answers.nodes) (g.N.Nodes.endings c.listen-listened.new.nodes)) k first y B v.moved.state c.listen-listened.new.queues mid new (g.N.Nodes.silent c.listen-listened.new.nodes ≡ true) (Answering U k y (still_due n r)) r (Ok false) on (c.listen-listened.ensures.held who (drives_on who (g.A.Actor.own c.args.actor.now) (g.A.Actor.own c.answers.actor) is c.answers.invariant.4) k first v.moved.state v.far b there (subst (λ (m : ℕ). Answering T k y m v.far) more v.told) v.moved.holds))
    (c.answers.invariant.0 who is k first s far b there told h) in
    ⊎_elim (λ quiet. inl quiet)
    (λ v. inr (subst (λ (z : Result Bool Ended). GoesOn who (IsBroken (g.N.Nodes.faults c.args.nodes.now) (g.N.Nodes.faults c.listen-listened.new.nodes) (g.N.Nodes.endings c.args.nodes.now) (g.N.Nodes.endings c.listen-listened.new.nodes)) (Visiting k first y) (VisitEnd k first y) B (WithNode U k y) k first s c.listen-listened.new.queues old new z) (sym c.ends_by.ensures)
    (ended_goes who (IsBroken (g.N.Nodes.faults c.args.nodes.now) (g.N.Nodes.faults c.listen-listened.new.nodes) (g.N.Nodes.endings c.args.nodes.now) (g.N.Nodes.endings c.listen-listened.new.nodes)) k first y B s c.listen-listened.new.queues old new (WithNode U k y) old new c.listens_on.new.end false ended
    (went_as who (IsBroken (g.N.Nodes.faults c.args.nodes.now) (g.N.Nodes.faults c.listen-listened.new.nodes) (g.N.Nodes.endings c.args.nodes.now) (g.N.Nodes.endings c.listen-listened.new.nodes)) k first b (Visiting k first y) (IsBroken (g.N.Nodes.faults c.args.nodes.now) (g.N.Nodes.faults c.listen-listened.new.nodes) (g.N.Nodes.endings c.args.nodes.now) (g.N.Nodes.endings c.listen-listened.new.nodes)) B (Answering U k y (still_due n r)) (WithNode U k y) s c.listen-listened.new.queues old new (λ l. l) (λ f t. has_answered U k y (still_due n r) f (off_due n r on) t) v)))) went

pub returns-then-not-is_on-clause-cause : goal.returns-then-not-is_on-clause-cause
returns-then-not-is_on-clause-cause g c =
    let y = c.args.node in
    let n = c.answers.left - 1 in
    let r = c.listen-listened.result in
    let A = g.A.Actor.stands c.answers.actor in
    let B = g.A.Actor.stands c.listen-listened.new.actor in
    let T = g.N.Nodes.tells c.answers.nodes in
    let U = g.N.Nodes.tells c.listen-listened.new.nodes in
    let old = Some (g.O.Sink.written c.args.out.now) in
    let mid = Some (g.O.Sink.written c.answers.out) in
    let new = Some (g.O.Sink.written c.listen-listened.new.out) in
    let more : c.answers.left ≡ n + 1 = omega arith in
    let on : listens_on r ≡ Ok false = sym c.in_ok-is_on.ensures.on ∙ ap (λ x. Ok x) c.if-not-is_on.true in
    let ended = subst (λ (o : Option Ended). IfSome o (HasEnded old new)) (sym c.in_ok-is_on.ensures.end) (ended_on (g.O.Sink.faults c.args.out.now) (g.O.Sink.faults c.answers.out) (g.O.Sink.faults c.listen-listened.new.out) old mid new c.answers.end r false on c.answers.invariant.7 c.answers.invariant.2 c.listen-listened.ensures.cause c.listen-listened.ensures.wrote) in
    subst (λ (z : Result Bool Ended). IfErr z (IsEnding (g.O.Sink.faults c.args.out.now) (g.O.Sink.faults c.listen-listened.new.out) old new)) (sym c.ends_by.ensures) (ended_cause (g.O.Sink.faults c.args.out.now) (g.O.Sink.faults c.listen-listened.new.out) old new c.listens_on.new.end false ended)

pub returns-in_err-is_on-clause-held : goal.returns-in_err-is_on-clause-held
returns-in_err-is_on-clause-held g c who is k first s far b there told h =
    let p = err_from_is_err_and c.from_residual.result c.from_residual.ensures.1 in
    let y = c.args.node in
    let n = c.answers.left - 1 in
    let r = c.listen-listened.result in
    let A = g.A.Actor.stands c.answers.actor in
    let B = g.A.Actor.stands c.listen-listened.new.actor in
    let T = g.N.Nodes.tells c.answers.nodes in
    let U = g.N.Nodes.tells c.listen-listened.new.nodes in
    let old = Some (g.O.Sink.written c.args.out.now) in
    let mid = Some (g.O.Sink.written c.answers.out) in
    let new = Some (g.O.Sink.written c.listen-listened.new.out) in
    let more : c.answers.left ≡ n + 1 = omega arith in
    let cut = cut_off r c.in_err-is_on.field-0.0 (sym c.in_err-is_on.ensures.on) in
    rw (p.1, p.2) (visiting_on who (IsBroken (g.N.Nodes.faults c.args.nodes.now) (g.N.Nodes.faults c.listen-listened.new.nodes) (g.N.Nodes.endings c.args.nodes.now) (g.N.Nodes.endings c.listen-listened.new.nodes)) k first b {R = Bool} y (IsBroken (g.N.Nodes.faults c.args.nodes.now) (g.N.Nodes.faults c.answers.nodes) (g.N.Nodes.endings c.args.nodes.now) (g.N.Nodes.endings c.answers.nodes)) (IsBroken (g.N.Nodes.faults c.answers.nodes) (g.N.Nodes.faults c.listen-listened.new.nodes) (g.N.Nodes.endings c.answers.nodes) (g.N.Nodes.endings c.listen-listened.new.nodes)) (g.N.Nodes.silent c.answers.nodes ≡ true) (g.N.Nodes.silent c.listen-listened.new.nodes ≡ true) A B (Answering T k y c.answers.left) (WithNode U k y) s c.answers.queues c.listen-listened.new.queues old mid new (Err c.in_err-is_on.field-0.0) (broken_until _ _ _ _ _ _ c.listen-listened.ensures.counts) (broken_since _ _ _ _ _ _ c.answers.invariant.3)
    c.listen-listened.ensures.silent
    (λ v. listened_cut who (IsBroken (g.N.Nodes.faults c.answers.nodes) (g.N.Nodes.faults c.listen-listened.new.nodes) (g.N.Nodes.endings c.answers.nodes) (g.N.Nodes.endings c.listen-listened.new.nodes)) k first y B v.moved.state c.listen-listened.new.queues mid new (g.N.Nodes.silent c.listen-listened.new.nodes ≡ true) (Answering U k y (still_due n r)) (WithNode U k y) r c.in_err-is_on.field-0.0 (sym c.in_err-is_on.ensures.on) cut.1 (c.listen-listened.ensures.held who (drives_on who (g.A.Actor.own c.args.actor.now) (g.A.Actor.own c.answers.actor) is c.answers.invariant.4) k first v.moved.state v.far b there (subst (λ (m : ℕ). Answering T k y m v.far) more v.told) v.moved.holds))
    (c.answers.invariant.0 who is k first s far b there told h))

pub returns-in_err-is_on-clause-cause : goal.returns-in_err-is_on-clause-cause
returns-in_err-is_on-clause-cause g c =
    let p = err_from_is_err_and c.from_residual.result c.from_residual.ensures.1 in
    let cut = cut_off c.listen-listened.result c.in_err-is_on.field-0.0 (sym c.in_err-is_on.ensures.on) in
    rw (p.1, p.2) (ending_since _ _ _ _ _ _ c.in_err-is_on.field-0.0 c.answers.invariant.2 (subst (λ (z : Result Bool Ended). IfErr z (IsEnding (g.O.Sink.faults c.answers.out) (g.O.Sink.faults c.listen-listened.new.out) (Some (g.O.Sink.written c.answers.out)) (Some (g.O.Sink.written c.listen-listened.new.out)))) cut.0 c.listen-listened.ensures.cause))

pub returns-in_err-is_on-clause-off : goal.returns-in_err-is_on-clause-off
returns-in_err-is_on-clause-off g c =
    let p = err_from_is_err_and c.from_residual.result c.from_residual.ensures.1 in
    let cut = cut_off c.listen-listened.result c.in_err-is_on.field-0.0 (sym c.in_err-is_on.ensures.on) in
    rw (p.1, p.2) (subst (λ (z : Result Bool Ended). IfErr z (IsOffAs (g.N.Nodes.off c.listen-listened.new.nodes))) cut.0 c.listen-listened.ensures.off)

pub returns-in_err-is_on-clause-ended : goal.returns-in_err-is_on-clause-ended
returns-in_err-is_on-clause-ended g c =
    let p = err_from_is_err_and c.from_residual.result c.from_residual.ensures.1 in
    let cut = cut_off c.listen-listened.result c.in_err-is_on.field-0.0 (sym c.in_err-is_on.ensures.on) in
    λ none. rw (p.1, p.2) (subst (λ (z : Result Bool Ended). EndsOff (g.N.Nodes.off c.listen-listened.new.nodes) z) cut.0 (c.listen-listened.ensures.ended (c.answers.invariant.6 none)))

pub returns-clause-held : goal.returns-clause-held
returns-clause-held g c who is k first s far b there told h =
    let y = c.args.node in
    let A = g.A.Actor.stands c.answers.actor in
    let T = g.N.Nodes.tells c.answers.nodes in
    let old = Some (g.O.Sink.written c.args.out.now) in
    let new = Some (g.O.Sink.written c.answers.out) in
    let none : c.answers.left ≡ 0 = omega arith in
    ⊎_elim (λ quiet. inl quiet)
    (λ v. inr (subst (λ (z : Result Bool Ended). GoesOn who (IsBroken (g.N.Nodes.faults c.args.nodes.now) (g.N.Nodes.faults c.answers.nodes) (g.N.Nodes.endings c.args.nodes.now) (g.N.Nodes.endings c.answers.nodes)) (Visiting k first y) (VisitEnd k first y) A (WithNode T k y) k first s c.answers.queues old new z) (sym c.ends_by-2.ensures)
    (ended_goes who (IsBroken (g.N.Nodes.faults c.args.nodes.now) (g.N.Nodes.faults c.answers.nodes) (g.N.Nodes.endings c.args.nodes.now) (g.N.Nodes.endings c.answers.nodes)) k first y A s c.answers.queues old new (WithNode T k y) old new c.answers.end true c.answers.invariant.7
    (went_as who (IsBroken (g.N.Nodes.faults c.args.nodes.now) (g.N.Nodes.faults c.answers.nodes) (g.N.Nodes.endings c.args.nodes.now) (g.N.Nodes.endings c.answers.nodes)) k first b (Visiting k first y) (IsBroken (g.N.Nodes.faults c.args.nodes.now) (g.N.Nodes.faults c.answers.nodes) (g.N.Nodes.endings c.args.nodes.now) (g.N.Nodes.endings c.answers.nodes)) A (Answering T k y c.answers.left) (WithNode T k y) s c.answers.queues old new (λ l. l) (λ f t. has_answered T k y c.answers.left f none t) v))))
    (c.answers.invariant.0 who is k first s far b there told h)
