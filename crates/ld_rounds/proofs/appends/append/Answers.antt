use Rattle.std.proofs.Common.{◌≡◌, ◌∙◌, ◌+◌, ◌==◌, ◌++◌, ℕ, [], sym, subst, refl, inl, inr, ⊎_elim, Ok, Err, true, arith, Some, Bool}
use Rattle.std.proofs.lemmas.Result.{err_from_is_err_and}
use Rattle.ld_ids.specs.Set.{members}
use Rattle.ld_rounds.specs.declared.ended.Ended.TheVariants as ends
use Rattle.ld_rounds.specs.Acts.{driver}
use Rattle.ld_rounds.specs.Drives.{AllTaken, IsBroken, counted}
use Rattle.ld_rounds.specs.Feeding.{upcoming, SameBehind}
use Rattle.ld_rounds.specs.Rounds.{Both, AreAppendRounds, IsAppendPart, Feeds, Rounds, RoundsUntil, Appends, AppendsUntil}
use Rattle.ld_rounds.proofs.Joining.{turned, chains_join, append_more, feeds_here, feeds_join, feeds_until, feeds_done, until_join, none_upcoming}
use Rattle.ld_rounds.proofs.Counting.{broken_since, broken_until, later_since}
use Rattle.ld_rounds.proofs.Endings.{later_here, later_on, none_off, goes_unoff, ends_as}
use Rattle.ld_rounds.proofs.Feeding.{append_since, same_here, same_on, over_later, all_done, has_come}
use Rattle.ld_rounds.proofs.Going.{went_here, went_such, then_on}
use Rattle.ld_rounds.proofs.appends.append.Goals as goal

pub rounds-init : goal.rounds-init
rounds-init g c = (
  λ k first s far b there told h. inr (went_here (driver c.args.name.now (g.A.Actor.own c.args.sequencer.now)) (IsBroken (g.N.Nodes.faults c.args.nodes.now) (g.N.Nodes.faults c.args.nodes.now) (g.N.Nodes.endings c.args.nodes.now) (g.N.Nodes.endings c.args.nodes.now)) k first b (Both (AreAppendRounds c.args.name.now k first (members c.args.set.now) 0 (counted (g.N.Nodes.faults c.args.nodes.now) (g.N.Nodes.faults c.args.nodes.now) (g.N.Nodes.endings c.args.nodes.now) (g.N.Nodes.endings c.args.nodes.now))) (Feeds k (g.P.Payloads.coming c.args.input.now) (upcoming c.new-feed.result.held (g.P.Payloads.coming c.args.input.now)))) (g.A.Actor.stands c.args.sequencer.now) (AllTaken (g.N.Nodes.tells c.args.nodes.now k)) s far c.args.queues.now (Some (g.O.Sink.written c.args.out.now)) (refl, subst (λ o. Feeds k (g.P.Payloads.coming c.args.input.now) (upcoming o (g.P.Payloads.coming c.args.input.now)) s []) (sym c.new-feed.ensures.held) (feeds_here k (g.P.Payloads.coming c.args.input.now) s)) told h),
  later_here _ _,
  (omega arith, omega arith),
  omega arith,
  refl,
  over_later _ _ _ c.new-feed.ensures.on,
  subst (λ o. SameBehind (g.P.Payloads.coming c.args.input.now) (upcoming o (g.P.Payloads.coming c.args.input.now))) (sym c.new-feed.ensures.held) (same_here (g.P.Payloads.coming c.args.input.now)),
  refl,
  g.met.A.Actor.since_here c.args.sequencer.now,
  λ none. none,
  λ some. absurd (omega (arith, some)),
  λ some. absurd (omega (arith, some)),
)

pub returns-in_err-turn-clause-held : goal.returns-in_err-turn-clause-held
returns-in_err-turn-clause-held g c k first s far b there told h =
    let p = err_from_is_err_and c.from_residual.result c.from_residual.ensures.1 in
    rw (p.1, p.2) (turned 0 c.args.rounds c.rounds.number (omega arith) (omega arith) (then_on (driver c.args.name.now (g.A.Actor.own c.args.sequencer.now)) (IsBroken (g.N.Nodes.faults c.args.nodes.now) (g.N.Nodes.faults c.turn.new.nodes) (g.N.Nodes.endings c.args.nodes.now) (g.N.Nodes.endings c.turn.new.nodes)) k first b {R = Bool} (Both (AreAppendRounds c.args.name.now k first (members c.args.set.now) c.rounds.number (counted (g.N.Nodes.faults c.args.nodes.now) (g.N.Nodes.faults c.rounds.nodes) (g.N.Nodes.endings c.args.nodes.now) (g.N.Nodes.endings c.rounds.nodes))) (Feeds k (g.P.Payloads.coming c.args.input.now) (upcoming c.rounds.feed.held (g.P.Payloads.coming c.rounds.input)))) (Rounds c.args.name.now k (Unit {0}) first (members c.args.set.now) (c.rounds.number == 0) (counted (g.N.Nodes.faults c.rounds.nodes) (g.N.Nodes.faults c.turn.new.nodes) (g.N.Nodes.endings c.rounds.nodes) (g.N.Nodes.endings c.turn.new.nodes)) (upcoming c.rounds.feed.held (g.P.Payloads.coming c.rounds.input)) (upcoming c.turn.new.feed.held (g.P.Payloads.coming c.turn.new.input))) (Both (AreAppendRounds c.args.name.now k first (members c.args.set.now) (c.rounds.number + 1) (counted (g.N.Nodes.faults c.args.nodes.now) (g.N.Nodes.faults c.turn.new.nodes) (g.N.Nodes.endings c.args.nodes.now) (g.N.Nodes.endings c.turn.new.nodes))) (Feeds k (g.P.Payloads.coming c.args.input.now) (upcoming c.turn.new.feed.held (g.P.Payloads.coming c.turn.new.input)))) (RoundsUntil c.args.name.now k first (members c.args.set.now) (c.rounds.number == 0) (counted (g.N.Nodes.faults c.rounds.nodes) (g.N.Nodes.faults c.turn.new.nodes) (g.N.Nodes.endings c.rounds.nodes) (g.N.Nodes.endings c.turn.new.nodes)) (upcoming c.rounds.feed.held (g.P.Payloads.coming c.rounds.input))) (λ e. AppendsUntil c.args.name.now k first (members c.args.set.now) (counted (g.N.Nodes.faults c.args.nodes.now) (g.N.Nodes.faults c.turn.new.nodes) (g.N.Nodes.endings c.args.nodes.now) (g.N.Nodes.endings c.turn.new.nodes)) (g.P.Payloads.coming c.args.input.now) e c.rounds.number) (IsBroken (g.N.Nodes.faults c.args.nodes.now) (g.N.Nodes.faults c.rounds.nodes) (g.N.Nodes.endings c.args.nodes.now) (g.N.Nodes.endings c.rounds.nodes)) (IsBroken (g.N.Nodes.faults c.rounds.nodes) (g.N.Nodes.faults c.turn.new.nodes) (g.N.Nodes.endings c.rounds.nodes) (g.N.Nodes.endings c.turn.new.nodes)) (g.N.Nodes.silent c.rounds.nodes ≡ true) (g.N.Nodes.silent c.turn.new.nodes ≡ true) (g.A.Actor.stands c.rounds.sequencer) (g.A.Actor.stands c.turn.new.sequencer) (AllTaken (g.N.Nodes.tells c.rounds.nodes k)) (AllTaken (g.N.Nodes.tells c.turn.new.nodes k)) s
    c.rounds.queues c.turn.new.queues (Some (g.O.Sink.written c.args.out.now)) (Some (g.O.Sink.written c.rounds.out)) (Some (g.O.Sink.written c.turn.new.out)) (Err c.in_err-turn.field-0.0)
    (λ t es fs x y. (append_more k c.args.name.now first (members c.args.set.now) c.rounds.number (g.N.Nodes.faults c.args.nodes.now) (g.N.Nodes.faults c.rounds.nodes) (g.N.Nodes.faults c.turn.new.nodes) (g.N.Nodes.endings c.args.nodes.now) (g.N.Nodes.endings c.rounds.nodes) (g.N.Nodes.endings c.turn.new.nodes) c.rounds.invariant.2 c.in_err-turn.ensures.counts t es fs x.0 y.0, feeds_join k (g.P.Payloads.coming c.args.input.now) (upcoming c.rounds.feed.held (g.P.Payloads.coming c.rounds.input)) (upcoming c.turn.new.feed.held (g.P.Payloads.coming c.turn.new.input)) t es fs x.1 y.1))
    (λ t es fs x y. (chains_join k (AreAppendRounds c.args.name.now k first (members c.args.set.now) c.rounds.number) (IsAppendPart c.args.name.now k first (members c.args.set.now) (c.rounds.number == 0)) (g.N.Nodes.faults c.args.nodes.now) (g.N.Nodes.faults c.rounds.nodes) (g.N.Nodes.faults c.turn.new.nodes) (g.N.Nodes.endings c.args.nodes.now) (g.N.Nodes.endings c.rounds.nodes) (g.N.Nodes.endings c.turn.new.nodes) c.rounds.invariant.2 c.in_err-turn.ensures.counts t es fs x.0 y.0, until_join k (g.P.Payloads.coming c.args.input.now) (upcoming c.rounds.feed.held (g.P.Payloads.coming c.rounds.input)) c.in_err-turn.field-0.0 t es fs x.1 y.1)) (broken_until _ _ _ _ _ _ c.in_err-turn.ensures.counts) (broken_since _ _ _ _ _ _ c.rounds.invariant.2)
    c.in_err-turn.ensures.silent
    (λ w. c.in_err-turn.ensures.held (g.A.Actor.own c.args.sequencer.now) c.rounds.invariant.7 k first w.moved.state w.far b there w.told w.moved.holds)
    (c.rounds.invariant.0 k first s far b there told h)))

pub returns-in_err-turn-clause-cause : goal.returns-in_err-turn-clause-cause
returns-in_err-turn-clause-cause g c =
    let p = err_from_is_err_and c.from_residual.result c.from_residual.ensures.1 in
    rw (p.1, p.2) (append_since _ _ _ _ _ _ _ _ _ _ _ c.in_err-turn.field-0.0 c.rounds.invariant.6 c.rounds.invariant.3 c.rounds.invariant.1 c.in_err-turn.ensures.cause)

pub returns-then-branch-clause-held : goal.returns-then-branch-clause-held
returns-then-branch-clause-held g c k first s far b there told h =
    turned 1 (c.args.rounds + 1) (c.rounds.number + 1) (omega arith) (omega arith) (then_on (driver c.args.name.now (g.A.Actor.own c.args.sequencer.now)) (IsBroken (g.N.Nodes.faults c.args.nodes.now) (g.N.Nodes.faults c.turn.new.nodes) (g.N.Nodes.endings c.args.nodes.now) (g.N.Nodes.endings c.turn.new.nodes)) k first b {R = Bool} (Both (AreAppendRounds c.args.name.now k first (members c.args.set.now) c.rounds.number (counted (g.N.Nodes.faults c.args.nodes.now) (g.N.Nodes.faults c.rounds.nodes) (g.N.Nodes.endings c.args.nodes.now) (g.N.Nodes.endings c.rounds.nodes))) (Feeds k (g.P.Payloads.coming c.args.input.now) (upcoming c.rounds.feed.held (g.P.Payloads.coming c.rounds.input)))) (Rounds c.args.name.now k (Unit {0}) first (members c.args.set.now) (c.rounds.number == 0) (counted (g.N.Nodes.faults c.rounds.nodes) (g.N.Nodes.faults c.turn.new.nodes) (g.N.Nodes.endings c.rounds.nodes) (g.N.Nodes.endings c.turn.new.nodes)) (upcoming c.rounds.feed.held (g.P.Payloads.coming c.rounds.input)) (upcoming c.turn.new.feed.held (g.P.Payloads.coming c.turn.new.input))) (Appends c.args.name.now k first (members c.args.set.now) (counted (g.N.Nodes.faults c.args.nodes.now) (g.N.Nodes.faults c.turn.new.nodes) (g.N.Nodes.endings c.args.nodes.now) (g.N.Nodes.endings c.turn.new.nodes)) (g.P.Payloads.coming c.args.input.now) ends.Done (c.rounds.number + 1)) (RoundsUntil c.args.name.now k first (members c.args.set.now) (c.rounds.number == 0) (counted (g.N.Nodes.faults c.rounds.nodes) (g.N.Nodes.faults c.turn.new.nodes) (g.N.Nodes.endings c.rounds.nodes) (g.N.Nodes.endings c.turn.new.nodes)) (upcoming c.rounds.feed.held (g.P.Payloads.coming c.rounds.input))) (λ e. AppendsUntil c.args.name.now k first (members c.args.set.now) (counted (g.N.Nodes.faults c.args.nodes.now) (g.N.Nodes.faults c.turn.new.nodes) (g.N.Nodes.endings c.args.nodes.now) (g.N.Nodes.endings c.turn.new.nodes)) (g.P.Payloads.coming c.args.input.now) e c.rounds.number) (IsBroken (g.N.Nodes.faults c.args.nodes.now) (g.N.Nodes.faults c.rounds.nodes) (g.N.Nodes.endings c.args.nodes.now) (g.N.Nodes.endings c.rounds.nodes)) (IsBroken (g.N.Nodes.faults c.rounds.nodes) (g.N.Nodes.faults c.turn.new.nodes) (g.N.Nodes.endings c.rounds.nodes) (g.N.Nodes.endings c.turn.new.nodes)) (g.N.Nodes.silent c.rounds.nodes ≡ true) (g.N.Nodes.silent c.turn.new.nodes ≡ true) (g.A.Actor.stands c.rounds.sequencer) (g.A.Actor.stands c.turn.new.sequencer) (AllTaken (g.N.Nodes.tells c.rounds.nodes k)) (AllTaken (g.N.Nodes.tells c.turn.new.nodes k)) s
    c.rounds.queues c.turn.new.queues (Some (g.O.Sink.written c.args.out.now)) (Some (g.O.Sink.written c.rounds.out)) (Some (g.O.Sink.written c.turn.new.out)) (Ok c.in_ok-turn.field-0)
    (λ t es fs x y. (append_more k c.args.name.now first (members c.args.set.now) c.rounds.number (g.N.Nodes.faults c.args.nodes.now) (g.N.Nodes.faults c.rounds.nodes) (g.N.Nodes.faults c.turn.new.nodes) (g.N.Nodes.endings c.args.nodes.now) (g.N.Nodes.endings c.rounds.nodes) (g.N.Nodes.endings c.turn.new.nodes) c.rounds.invariant.2 c.in_ok-turn.ensures.counts t es fs x.0 y.0, feeds_done k (g.P.Payloads.coming c.args.input.now) (upcoming c.turn.new.feed.held (g.P.Payloads.coming c.turn.new.input)) t (es ++ fs) (none_upcoming _ _ _ (all_done _ _ _ c.in_ok-turn.field-0 c.in_ok-turn.ensures.done c.if-branch.true).2 (c.in_ok-turn.ensures.over _ c.rounds.invariant.6 c.rounds.invariant.5)) (feeds_join k (g.P.Payloads.coming c.args.input.now) (upcoming c.rounds.feed.held (g.P.Payloads.coming c.rounds.input)) (upcoming c.turn.new.feed.held (g.P.Payloads.coming c.turn.new.input)) t es fs x.1 y.1)))
    tt (broken_until _ _ _ _ _ _ c.in_ok-turn.ensures.counts) (broken_since _ _ _ _ _ _ c.rounds.invariant.2)
    c.in_ok-turn.ensures.silent
    (λ w. c.in_ok-turn.ensures.held (g.A.Actor.own c.args.sequencer.now) c.rounds.invariant.7 k first w.moved.state w.far b there w.told w.moved.holds)
    (c.rounds.invariant.0 k first s far b there told h))

pub rounds-preserved : goal.rounds-preserved
rounds-preserved g c = (
  λ k first s far b there told h. then_on (driver c.args.name.now (g.A.Actor.own c.args.sequencer.now)) (IsBroken (g.N.Nodes.faults c.args.nodes.now) (g.N.Nodes.faults c.turn.new.nodes) (g.N.Nodes.endings c.args.nodes.now) (g.N.Nodes.endings c.turn.new.nodes)) k first b {R = Bool} (Both (AreAppendRounds c.args.name.now k first (members c.args.set.now) c.rounds.number (counted (g.N.Nodes.faults c.args.nodes.now) (g.N.Nodes.faults c.rounds.nodes) (g.N.Nodes.endings c.args.nodes.now) (g.N.Nodes.endings c.rounds.nodes))) (Feeds k (g.P.Payloads.coming c.args.input.now) (upcoming c.rounds.feed.held (g.P.Payloads.coming c.rounds.input)))) (Rounds c.args.name.now k (Unit {0}) first (members c.args.set.now) (c.rounds.number == 0) (counted (g.N.Nodes.faults c.rounds.nodes) (g.N.Nodes.faults c.turn.new.nodes) (g.N.Nodes.endings c.rounds.nodes) (g.N.Nodes.endings c.turn.new.nodes)) (upcoming c.rounds.feed.held (g.P.Payloads.coming c.rounds.input)) (upcoming c.turn.new.feed.held (g.P.Payloads.coming c.turn.new.input))) (Both (AreAppendRounds c.args.name.now k first (members c.args.set.now) (c.rounds.number + 1) (counted (g.N.Nodes.faults c.args.nodes.now) (g.N.Nodes.faults c.turn.new.nodes) (g.N.Nodes.endings c.args.nodes.now) (g.N.Nodes.endings c.turn.new.nodes))) (Feeds k (g.P.Payloads.coming c.args.input.now) (upcoming c.turn.new.feed.held (g.P.Payloads.coming c.turn.new.input)))) (RoundsUntil c.args.name.now k first (members c.args.set.now) (c.rounds.number == 0) (counted (g.N.Nodes.faults c.rounds.nodes) (g.N.Nodes.faults c.turn.new.nodes) (g.N.Nodes.endings c.rounds.nodes) (g.N.Nodes.endings c.turn.new.nodes)) (upcoming c.rounds.feed.held (g.P.Payloads.coming c.rounds.input))) (λ e. AppendsUntil c.args.name.now k first (members c.args.set.now) (counted (g.N.Nodes.faults c.args.nodes.now) (g.N.Nodes.faults c.turn.new.nodes) (g.N.Nodes.endings c.args.nodes.now) (g.N.Nodes.endings c.turn.new.nodes)) (g.P.Payloads.coming c.args.input.now) e c.rounds.number) (IsBroken (g.N.Nodes.faults c.args.nodes.now) (g.N.Nodes.faults c.rounds.nodes) (g.N.Nodes.endings c.args.nodes.now) (g.N.Nodes.endings c.rounds.nodes)) (IsBroken (g.N.Nodes.faults c.rounds.nodes) (g.N.Nodes.faults c.turn.new.nodes) (g.N.Nodes.endings c.rounds.nodes) (g.N.Nodes.endings c.turn.new.nodes)) (g.N.Nodes.silent c.rounds.nodes ≡ true) (g.N.Nodes.silent c.turn.new.nodes ≡ true) (g.A.Actor.stands c.rounds.sequencer) (g.A.Actor.stands c.turn.new.sequencer) (AllTaken (g.N.Nodes.tells c.rounds.nodes k)) (AllTaken (g.N.Nodes.tells c.turn.new.nodes k)) s
      c.rounds.queues c.turn.new.queues (Some (g.O.Sink.written c.args.out.now)) (Some (g.O.Sink.written c.rounds.out)) (Some (g.O.Sink.written c.turn.new.out)) (Ok c.in_ok-turn.field-0)
      (λ t es fs x y. (append_more k c.args.name.now first (members c.args.set.now) c.rounds.number (g.N.Nodes.faults c.args.nodes.now) (g.N.Nodes.faults c.rounds.nodes) (g.N.Nodes.faults c.turn.new.nodes) (g.N.Nodes.endings c.args.nodes.now) (g.N.Nodes.endings c.rounds.nodes) (g.N.Nodes.endings c.turn.new.nodes) c.rounds.invariant.2 c.in_ok-turn.ensures.counts t es fs x.0 y.0, feeds_join k (g.P.Payloads.coming c.args.input.now) (upcoming c.rounds.feed.held (g.P.Payloads.coming c.rounds.input)) (upcoming c.turn.new.feed.held (g.P.Payloads.coming c.turn.new.input)) t es fs x.1 y.1))
      tt (broken_until _ _ _ _ _ _ c.in_ok-turn.ensures.counts) (broken_since _ _ _ _ _ _ c.rounds.invariant.2)
      c.in_ok-turn.ensures.silent
      (λ w. c.in_ok-turn.ensures.held (g.A.Actor.own c.args.sequencer.now) c.rounds.invariant.7 k first w.moved.state w.far b there w.told w.moved.holds)
      (c.rounds.invariant.0 k first s far b there told h),
  later_on _ _ _ _ _ _ c.rounds.invariant.1 c.in_ok-turn.ensures.later,
  later_since _ _ _ _ _ _ c.rounds.invariant.2 c.in_ok-turn.ensures.counts,
  (let a = c.rounds.invariant.3 in let b = c.in_ok-turn.ensures.input_later in omega (arith, a, b)),
  c.in_ok-turn.ensures.itself ∙ c.rounds.invariant.4,
  c.in_ok-turn.ensures.over _ c.rounds.invariant.6 c.rounds.invariant.5,
  same_on _ _ _ c.rounds.invariant.6 c.in_ok-turn.ensures.behind,
  c.in_ok-turn.ensures.actor ∙ c.rounds.invariant.7,
  g.met.A.Actor.since_on c.args.sequencer.now c.rounds.sequencer c.turn.new.sequencer c.rounds.invariant.8 c.in_ok-turn.ensures.since,
  λ none. goes_unoff _ c.in_ok-turn.field-0 (c.in_ok-turn.ensures.ended (c.rounds.invariant.9 none)),
  λ some. sym c.in_ok-turn.ensures.done ∙ c.if-branch.false,
  λ some. c.in_ok-turn.ensures.asked,
)

pub returns-clause-held : goal.returns-clause-held
returns-clause-held g c k first s far b there told h =
    let broken = IsBroken (g.N.Nodes.faults c.args.nodes.now) (g.N.Nodes.faults c.rounds.nodes) (g.N.Nodes.endings c.args.nodes.now) (g.N.Nodes.endings c.rounds.nodes) in
    let all : c.rounds.number ≡ c.args.rounds = omega arith in
    ⊎_elim (λ quiet. inl quiet) (λ w. inr (went_such (driver c.args.name.now (g.A.Actor.own c.args.sequencer.now)) broken k first b broken (Both (AreAppendRounds c.args.name.now k first (members c.args.set.now) c.rounds.number (counted (g.N.Nodes.faults c.args.nodes.now) (g.N.Nodes.faults c.rounds.nodes) (g.N.Nodes.endings c.args.nodes.now) (g.N.Nodes.endings c.rounds.nodes))) (Feeds k (g.P.Payloads.coming c.args.input.now) (upcoming c.rounds.feed.held (g.P.Payloads.coming c.rounds.input)))) (Appends c.args.name.now k first (members c.args.set.now) (counted (g.N.Nodes.faults c.args.nodes.now) (g.N.Nodes.faults c.rounds.nodes) (g.N.Nodes.endings c.args.nodes.now) (g.N.Nodes.endings c.rounds.nodes)) (g.P.Payloads.coming c.args.input.now) ends.Rounds c.args.rounds) (g.A.Actor.stands c.rounds.sequencer) (AllTaken (g.N.Nodes.tells c.rounds.nodes k)) (AllTaken (g.N.Nodes.tells c.rounds.nodes k)) s c.rounds.queues (Some (g.O.Sink.written c.args.out.now)) (Some (g.O.Sink.written c.rounds.out)) (λ l. l) (λ f t. t) w
    (λ es o x. (subst (λ (n : ℕ). AreAppendRounds c.args.name.now k first (members c.args.set.now) n (counted (g.N.Nodes.faults c.args.nodes.now) (g.N.Nodes.faults c.rounds.nodes) (g.N.Nodes.endings c.args.nodes.now) (g.N.Nodes.endings c.rounds.nodes)) s es) all x.0, feeds_until k (g.P.Payloads.coming c.args.input.now) (upcoming c.rounds.feed.held (g.P.Payloads.coming c.rounds.input)) ends.Rounds s es tt x.1))))
    (c.rounds.invariant.0 k first s far b there told h)

pub returns-then-branch-clause-since : goal.returns-then-branch-clause-since
returns-then-branch-clause-since g c = g.met.A.Actor.since_on c.args.sequencer.now c.rounds.sequencer c.turn.new.sequencer c.rounds.invariant.8 c.in_ok-turn.ensures.since

pub returns-in_err-turn-clause-since : goal.returns-in_err-turn-clause-since
returns-in_err-turn-clause-since g c = g.met.A.Actor.since_on c.args.sequencer.now c.rounds.sequencer c.turn.new.sequencer c.rounds.invariant.8 c.in_err-turn.ensures.since

pub returns-then-branch-clause-settled : goal.returns-then-branch-clause-settled
returns-then-branch-clause-settled g c =
    let all = all_done _ _ _ c.in_ok-turn.field-0 c.in_ok-turn.ensures.done c.if-branch.true in
    λ done. (all.0, all.1)

pub returns-in_err-turn-clause-ended : goal.returns-in_err-turn-clause-ended
returns-in_err-turn-clause-ended g c =
    let p = err_from_is_err_and c.from_residual.result c.from_residual.ensures.1 in
    λ none. rw (p.1, p.2) (ends_as Bool Bool _ c.in_err-turn.field-0.0 (c.in_err-turn.ensures.ended (c.rounds.invariant.9 none)))

pub returns-then-branch-clause-ended : goal.returns-then-branch-clause-ended
returns-then-branch-clause-ended g c = λ none. none_off _ _ (goes_unoff _ c.in_ok-turn.field-0 (c.in_ok-turn.ensures.ended (c.rounds.invariant.9 none)))

pub returns-clause-ended : goal.returns-clause-ended
returns-clause-ended g c = λ none. none_off _ _ (c.rounds.invariant.9 none)

pub returns-clause-undone : goal.returns-clause-undone
returns-clause-undone g c = λ some undone idle. has_come (g.P.Payloads.coming c.args.input.now) c.rounds.feed.held (g.P.Payloads.coming c.rounds.input) _ _ c.rounds.feed.is_over c.rounds.invariant.6 (c.rounds.invariant.10 (omega (arith, some))) (c.rounds.invariant.11 (omega (arith, some))) idle

pub returns-then-branch-clause-later : goal.returns-then-branch-clause-later
returns-then-branch-clause-later g c = later_on _ _ _ _ _ _ c.rounds.invariant.1 c.in_ok-turn.ensures.later

pub returns-in_err-turn-clause-later : goal.returns-in_err-turn-clause-later
returns-in_err-turn-clause-later g c = later_on _ _ _ _ _ _ c.rounds.invariant.1 c.in_err-turn.ensures.later
