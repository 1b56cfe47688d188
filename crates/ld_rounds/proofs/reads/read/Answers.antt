use Rattle.std.proofs.Common.{◌≡◌, ◌∙◌, ◌+◌, refl, arith, inr, Ok, Err, true, Some, sym, Bool}
use Rattle.std.proofs.lemmas.Result.{err_from_is_err_and}
use Rattle.ld_ids.specs.Set.{members}
use Rattle.ld_rounds.specs.Acts.{driver}
use Rattle.ld_rounds.specs.Drives.{AllTaken, IsBroken, counted}
use Rattle.ld_rounds.specs.Rounds.{AreReadRounds, IsReadRound, IsReadPart, ReadsUntil}
use Rattle.ld_rounds.proofs.Joining.{chains_join, read_more, turned}
use Rattle.ld_rounds.proofs.Counting.{broken_since, broken_until, later_since}
use Rattle.ld_rounds.proofs.Endings.{later_here, later_on, ending_since, none_off, goes_unoff, ends_as}
use Rattle.ld_rounds.proofs.Going.{went_here, then_on}
use Rattle.ld_rounds.proofs.reads.read.Goals as goal

pub rounds-init : goal.rounds-init
rounds-init g c = (
  λ k first s far b there told h. inr (went_here (driver c.args.name.now (g.R.Actor.own c.args.reader.now)) (IsBroken (g.N.Nodes.faults c.args.nodes.now) (g.N.Nodes.faults c.args.nodes.now) (g.N.Nodes.endings c.args.nodes.now) (g.N.Nodes.endings c.args.nodes.now)) k first b (AreReadRounds c.args.is_sparing c.args.name.now k first (members c.args.set.now) 0 (counted (g.N.Nodes.faults c.args.nodes.now) (g.N.Nodes.faults c.args.nodes.now) (g.N.Nodes.endings c.args.nodes.now) (g.N.Nodes.endings c.args.nodes.now))) (g.R.Actor.stands c.args.reader.now) (AllTaken (g.N.Nodes.tells c.args.nodes.now k)) s far c.args.queues.now (Some (g.O.Sink.written c.args.out.now)) refl told h),
  later_here _ _,
  (omega arith, omega arith),
  refl,
  g.met.R.Actor.since_here c.args.reader.now,
  λ none. none,
  λ some. absurd (omega (arith, some)),
)

pub returns-in_err-read_turn-clause-held : goal.returns-in_err-read_turn-clause-held
returns-in_err-read_turn-clause-held g c k first s far b there told h =
    let p = err_from_is_err_and c.from_residual.result c.from_residual.ensures.1 in
    rw (p.1, p.2) (turned 0 c.args.rounds c.rounds.number (omega arith) (omega arith) (then_on (driver c.args.name.now (g.R.Actor.own c.args.reader.now)) (IsBroken (g.N.Nodes.faults c.args.nodes.now) (g.N.Nodes.faults c.read_turn.new.nodes) (g.N.Nodes.endings c.args.nodes.now) (g.N.Nodes.endings c.read_turn.new.nodes)) k first b {R = Unit {0}} (AreReadRounds c.args.is_sparing c.args.name.now k first (members c.args.set.now) c.rounds.number (counted (g.N.Nodes.faults c.args.nodes.now) (g.N.Nodes.faults c.rounds.nodes) (g.N.Nodes.endings c.args.nodes.now) (g.N.Nodes.endings c.rounds.nodes))) (IsReadRound c.args.is_sparing c.args.name.now k first (members c.args.set.now) (counted (g.N.Nodes.faults c.rounds.nodes) (g.N.Nodes.faults c.read_turn.new.nodes) (g.N.Nodes.endings c.rounds.nodes) (g.N.Nodes.endings c.read_turn.new.nodes))) (AreReadRounds c.args.is_sparing c.args.name.now k first (members c.args.set.now) (c.rounds.number + 1) (counted (g.N.Nodes.faults c.args.nodes.now) (g.N.Nodes.faults c.read_turn.new.nodes) (g.N.Nodes.endings c.args.nodes.now) (g.N.Nodes.endings c.read_turn.new.nodes))) (λ e. IsReadPart c.args.is_sparing c.args.name.now k first (members c.args.set.now) (counted (g.N.Nodes.faults c.rounds.nodes) (g.N.Nodes.faults c.read_turn.new.nodes) (g.N.Nodes.endings c.rounds.nodes) (g.N.Nodes.endings c.read_turn.new.nodes))) (λ e. ReadsUntil c.args.is_sparing c.args.name.now k first (members c.args.set.now) c.rounds.number (counted (g.N.Nodes.faults c.args.nodes.now) (g.N.Nodes.faults c.read_turn.new.nodes) (g.N.Nodes.endings c.args.nodes.now) (g.N.Nodes.endings c.read_turn.new.nodes))) (IsBroken (g.N.Nodes.faults c.args.nodes.now) (g.N.Nodes.faults c.rounds.nodes) (g.N.Nodes.endings c.args.nodes.now) (g.N.Nodes.endings c.rounds.nodes)) (IsBroken (g.N.Nodes.faults c.rounds.nodes) (g.N.Nodes.faults c.read_turn.new.nodes) (g.N.Nodes.endings c.rounds.nodes) (g.N.Nodes.endings c.read_turn.new.nodes)) (g.N.Nodes.silent c.rounds.nodes ≡ true) (g.N.Nodes.silent c.read_turn.new.nodes ≡ true) (g.R.Actor.stands c.rounds.reader) (g.R.Actor.stands c.read_turn.new.reader) (AllTaken (g.N.Nodes.tells c.rounds.nodes k)) (AllTaken (g.N.Nodes.tells c.read_turn.new.nodes k)) s
    c.rounds.queues c.read_turn.new.queues (Some (g.O.Sink.written c.args.out.now)) (Some (g.O.Sink.written c.rounds.out)) (Some (g.O.Sink.written c.read_turn.new.out)) (Err c.in_err-read_turn.field-0.0) (read_more k c.args.is_sparing c.args.name.now first (members c.args.set.now) c.rounds.number (g.N.Nodes.faults c.args.nodes.now) (g.N.Nodes.faults c.rounds.nodes) (g.N.Nodes.faults c.read_turn.new.nodes) (g.N.Nodes.endings c.args.nodes.now) (g.N.Nodes.endings c.rounds.nodes) (g.N.Nodes.endings c.read_turn.new.nodes) c.rounds.invariant.2 c.in_err-read_turn.ensures.counts) (chains_join k (AreReadRounds c.args.is_sparing c.args.name.now k first (members c.args.set.now) c.rounds.number) (IsReadPart c.args.is_sparing c.args.name.now k first (members c.args.set.now)) (g.N.Nodes.faults c.args.nodes.now) (g.N.Nodes.faults c.rounds.nodes) (g.N.Nodes.faults c.read_turn.new.nodes) (g.N.Nodes.endings c.args.nodes.now) (g.N.Nodes.endings c.rounds.nodes) (g.N.Nodes.endings c.read_turn.new.nodes) c.rounds.invariant.2 c.in_err-read_turn.ensures.counts) (broken_until _ _ _ _ _ _ c.in_err-read_turn.ensures.counts) (broken_since _ _ _ _ _ _ c.rounds.invariant.2)
    c.in_err-read_turn.ensures.silent
    (λ w. c.in_err-read_turn.ensures.held (g.R.Actor.own c.args.reader.now) c.rounds.invariant.3 k first w.moved.state w.far b there w.told w.moved.holds)
    (c.rounds.invariant.0 k first s far b there told h)))

pub returns-in_err-read_turn-clause-cause : goal.returns-in_err-read_turn-clause-cause
returns-in_err-read_turn-clause-cause g c =
    let p = err_from_is_err_and c.from_residual.result c.from_residual.ensures.1 in
    rw (p.1, p.2) (ending_since _ _ _ _ _ _ c.in_err-read_turn.field-0.0 c.rounds.invariant.1 c.in_err-read_turn.ensures.cause)

pub returns-in_err-read_turn-clause-later : goal.returns-in_err-read_turn-clause-later
returns-in_err-read_turn-clause-later g c = later_on _ _ _ _ _ _ c.rounds.invariant.1 c.in_err-read_turn.ensures.later

pub returns-then-is_done-clause-held : goal.returns-then-is_done-clause-held
returns-then-is_done-clause-held g c k first s far b there told h =
    turned 1 (c.args.rounds + 1) (c.rounds.number + 1) (omega arith) (omega arith) (then_on (driver c.args.name.now (g.R.Actor.own c.args.reader.now)) (IsBroken (g.N.Nodes.faults c.args.nodes.now) (g.N.Nodes.faults c.read_turn.new.nodes) (g.N.Nodes.endings c.args.nodes.now) (g.N.Nodes.endings c.read_turn.new.nodes)) k first b {R = Unit {0}} (AreReadRounds c.args.is_sparing c.args.name.now k first (members c.args.set.now) c.rounds.number (counted (g.N.Nodes.faults c.args.nodes.now) (g.N.Nodes.faults c.rounds.nodes) (g.N.Nodes.endings c.args.nodes.now) (g.N.Nodes.endings c.rounds.nodes))) (IsReadRound c.args.is_sparing c.args.name.now k first (members c.args.set.now) (counted (g.N.Nodes.faults c.rounds.nodes) (g.N.Nodes.faults c.read_turn.new.nodes) (g.N.Nodes.endings c.rounds.nodes) (g.N.Nodes.endings c.read_turn.new.nodes))) (AreReadRounds c.args.is_sparing c.args.name.now k first (members c.args.set.now) (c.rounds.number + 1) (counted (g.N.Nodes.faults c.args.nodes.now) (g.N.Nodes.faults c.read_turn.new.nodes) (g.N.Nodes.endings c.args.nodes.now) (g.N.Nodes.endings c.read_turn.new.nodes))) (λ e. IsReadPart c.args.is_sparing c.args.name.now k first (members c.args.set.now) (counted (g.N.Nodes.faults c.rounds.nodes) (g.N.Nodes.faults c.read_turn.new.nodes) (g.N.Nodes.endings c.rounds.nodes) (g.N.Nodes.endings c.read_turn.new.nodes))) (λ e. ReadsUntil c.args.is_sparing c.args.name.now k first (members c.args.set.now) c.rounds.number (counted (g.N.Nodes.faults c.args.nodes.now) (g.N.Nodes.faults c.read_turn.new.nodes) (g.N.Nodes.endings c.args.nodes.now) (g.N.Nodes.endings c.read_turn.new.nodes))) (IsBroken (g.N.Nodes.faults c.args.nodes.now) (g.N.Nodes.faults c.rounds.nodes) (g.N.Nodes.endings c.args.nodes.now) (g.N.Nodes.endings c.rounds.nodes)) (IsBroken (g.N.Nodes.faults c.rounds.nodes) (g.N.Nodes.faults c.read_turn.new.nodes) (g.N.Nodes.endings c.rounds.nodes) (g.N.Nodes.endings c.read_turn.new.nodes)) (g.N.Nodes.silent c.rounds.nodes ≡ true) (g.N.Nodes.silent c.read_turn.new.nodes ≡ true) (g.R.Actor.stands c.rounds.reader) (g.R.Actor.stands c.read_turn.new.reader) (AllTaken (g.N.Nodes.tells c.rounds.nodes k)) (AllTaken (g.N.Nodes.tells c.read_turn.new.nodes k)) s
    c.rounds.queues c.read_turn.new.queues (Some (g.O.Sink.written c.args.out.now)) (Some (g.O.Sink.written c.rounds.out)) (Some (g.O.Sink.written c.read_turn.new.out)) (Ok tt) (read_more k c.args.is_sparing c.args.name.now first (members c.args.set.now) c.rounds.number (g.N.Nodes.faults c.args.nodes.now) (g.N.Nodes.faults c.rounds.nodes) (g.N.Nodes.faults c.read_turn.new.nodes) (g.N.Nodes.endings c.args.nodes.now) (g.N.Nodes.endings c.rounds.nodes) (g.N.Nodes.endings c.read_turn.new.nodes) c.rounds.invariant.2 c.in_ok-read_turn.ensures.counts) tt (broken_until _ _ _ _ _ _ c.in_ok-read_turn.ensures.counts) (broken_since _ _ _ _ _ _ c.rounds.invariant.2)
    c.in_ok-read_turn.ensures.silent
    (λ w. c.in_ok-read_turn.ensures.held (g.R.Actor.own c.args.reader.now) c.rounds.invariant.3 k first w.moved.state w.far b there w.told w.moved.holds)
    (c.rounds.invariant.0 k first s far b there told h))

pub returns-then-is_done-clause-later : goal.returns-then-is_done-clause-later
returns-then-is_done-clause-later g c = later_on _ _ _ _ _ _ c.rounds.invariant.1 c.in_ok-read_turn.ensures.later

pub rounds-preserved : goal.rounds-preserved
rounds-preserved g c = (
  λ k first s far b there told h. then_on (driver c.args.name.now (g.R.Actor.own c.args.reader.now)) (IsBroken (g.N.Nodes.faults c.args.nodes.now) (g.N.Nodes.faults c.read_turn.new.nodes) (g.N.Nodes.endings c.args.nodes.now) (g.N.Nodes.endings c.read_turn.new.nodes)) k first b {R = Unit {0}} (AreReadRounds c.args.is_sparing c.args.name.now k first (members c.args.set.now) c.rounds.number (counted (g.N.Nodes.faults c.args.nodes.now) (g.N.Nodes.faults c.rounds.nodes) (g.N.Nodes.endings c.args.nodes.now) (g.N.Nodes.endings c.rounds.nodes))) (IsReadRound c.args.is_sparing c.args.name.now k first (members c.args.set.now) (counted (g.N.Nodes.faults c.rounds.nodes) (g.N.Nodes.faults c.read_turn.new.nodes) (g.N.Nodes.endings c.rounds.nodes) (g.N.Nodes.endings c.read_turn.new.nodes))) (AreReadRounds c.args.is_sparing c.args.name.now k first (members c.args.set.now) (c.rounds.number + 1) (counted (g.N.Nodes.faults c.args.nodes.now) (g.N.Nodes.faults c.read_turn.new.nodes) (g.N.Nodes.endings c.args.nodes.now) (g.N.Nodes.endings c.read_turn.new.nodes))) (λ e. IsReadPart c.args.is_sparing c.args.name.now k first (members c.args.set.now) (counted (g.N.Nodes.faults c.rounds.nodes) (g.N.Nodes.faults c.read_turn.new.nodes) (g.N.Nodes.endings c.rounds.nodes) (g.N.Nodes.endings c.read_turn.new.nodes))) (λ e. ReadsUntil c.args.is_sparing c.args.name.now k first (members c.args.set.now) c.rounds.number (counted (g.N.Nodes.faults c.args.nodes.now) (g.N.Nodes.faults c.read_turn.new.nodes) (g.N.Nodes.endings c.args.nodes.now) (g.N.Nodes.endings c.read_turn.new.nodes))) (IsBroken (g.N.Nodes.faults c.args.nodes.now) (g.N.Nodes.faults c.rounds.nodes) (g.N.Nodes.endings c.args.nodes.now) (g.N.Nodes.endings c.rounds.nodes)) (IsBroken (g.N.Nodes.faults c.rounds.nodes) (g.N.Nodes.faults c.read_turn.new.nodes) (g.N.Nodes.endings c.rounds.nodes) (g.N.Nodes.endings c.read_turn.new.nodes)) (g.N.Nodes.silent c.rounds.nodes ≡ true) (g.N.Nodes.silent c.read_turn.new.nodes ≡ true) (g.R.Actor.stands c.rounds.reader) (g.R.Actor.stands c.read_turn.new.reader) (AllTaken (g.N.Nodes.tells c.rounds.nodes k)) (AllTaken (g.N.Nodes.tells c.read_turn.new.nodes k)) s
      c.rounds.queues c.read_turn.new.queues (Some (g.O.Sink.written c.args.out.now)) (Some (g.O.Sink.written c.rounds.out)) (Some (g.O.Sink.written c.read_turn.new.out)) (Ok tt) (read_more k c.args.is_sparing c.args.name.now first (members c.args.set.now) c.rounds.number (g.N.Nodes.faults c.args.nodes.now) (g.N.Nodes.faults c.rounds.nodes) (g.N.Nodes.faults c.read_turn.new.nodes) (g.N.Nodes.endings c.args.nodes.now) (g.N.Nodes.endings c.rounds.nodes) (g.N.Nodes.endings c.read_turn.new.nodes) c.rounds.invariant.2 c.in_ok-read_turn.ensures.counts) tt (broken_until _ _ _ _ _ _ c.in_ok-read_turn.ensures.counts) (broken_since _ _ _ _ _ _ c.rounds.invariant.2)
      c.in_ok-read_turn.ensures.silent
      (λ w. c.in_ok-read_turn.ensures.held (g.R.Actor.own c.args.reader.now) c.rounds.invariant.3 k first w.moved.state w.far b there w.told w.moved.holds)
      (c.rounds.invariant.0 k first s far b there told h),
  later_on _ _ _ _ _ _ c.rounds.invariant.1 c.in_ok-read_turn.ensures.later,
  later_since _ _ _ _ _ _ c.rounds.invariant.2 c.in_ok-read_turn.ensures.counts,
  c.in_ok-read_turn.ensures.itself ∙ c.rounds.invariant.3,
  g.met.R.Actor.since_on c.args.reader.now c.rounds.reader c.read_turn.new.reader c.rounds.invariant.4 c.in_ok-read_turn.ensures.since,
  λ none. goes_unoff _ tt (c.in_ok-read_turn.ensures.ended (c.rounds.invariant.5 none)),
  λ some. sym c.is_finished-is_done.ensures ∙ c.if-is_done.false,
)

pub returns-in_err-read_turn-clause-since : goal.returns-in_err-read_turn-clause-since
returns-in_err-read_turn-clause-since g c = g.met.R.Actor.since_on c.args.reader.now c.rounds.reader c.read_turn.new.reader c.rounds.invariant.4 c.in_err-read_turn.ensures.since

pub returns-then-is_done-clause-since : goal.returns-then-is_done-clause-since
returns-then-is_done-clause-since g c = g.met.R.Actor.since_on c.args.reader.now c.rounds.reader c.read_turn.new.reader c.rounds.invariant.4 c.in_ok-read_turn.ensures.since

pub returns-in_err-read_turn-clause-ended : goal.returns-in_err-read_turn-clause-ended
returns-in_err-read_turn-clause-ended g c =
    let p = err_from_is_err_and c.from_residual.result c.from_residual.ensures.1 in
    λ none. rw (p.1, p.2) (ends_as (Unit {0}) Bool _ c.in_err-read_turn.field-0.0 (c.in_err-read_turn.ensures.ended (c.rounds.invariant.5 none)))

pub returns-then-is_done-clause-ended : goal.returns-then-is_done-clause-ended
returns-then-is_done-clause-ended g c = λ none. none_off _ _ (goes_unoff _ tt (c.in_ok-read_turn.ensures.ended (c.rounds.invariant.5 none)))

pub returns-clause-ended : goal.returns-clause-ended
returns-clause-ended g c = λ none. none_off _ _ (c.rounds.invariant.5 none)

pub returns-clause-unfinished : goal.returns-clause-unfinished
returns-clause-unfinished g c = λ some undone. c.rounds.invariant.6 (omega (arith, some))
