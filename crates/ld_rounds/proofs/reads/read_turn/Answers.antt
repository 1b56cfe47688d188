use Rattle.std.proofs.Common.{◌∙◌, sym, subst, inl, inr, ⊎_elim, Ok, Err, arith, Some}
use Rattle.std.proofs.lemmas.Result.{err_from_is_err_and}
use Rattle.ld_ids.specs.Set.{members}
use Rattle.ld_rounds.specs.Acts.{driver}
use Rattle.ld_rounds.specs.Drives.{AllTaken, IsBroken, CallCounts, counted}
use Rattle.ld_rounds.specs.Rounds.{IsReadRound, IsReadPart}
use Rattle.ld_rounds.proofs.Counting.{counted_as, broken_since, later_since}
use Rattle.ld_rounds.proofs.Endings.{none_off, goes_unoff}
use Rattle.ld_rounds.proofs.Going.{goes_such}
use Rattle.ld_rounds.proofs.reads.read_turn.Goals as goal

pub returns-in_err-read_round-clause-held : goal.returns-in_err-read_round-clause-held
returns-in_err-read_round-clause-held g c own is k first s far b there told h =
    let p = err_from_is_err_and c.from_residual.result c.from_residual.ensures.1 in
    let name = c.args.name.now in
    let ys = members c.args.set.now in
    let less = IsBroken (g.N.Nodes.faults c.rest.new.nodes) (g.N.Nodes.faults c.read_round.new.nodes) (g.N.Nodes.endings c.rest.new.nodes) (g.N.Nodes.endings c.read_round.new.nodes) in
    let broken = IsBroken (g.N.Nodes.faults c.args.nodes.now) (g.N.Nodes.faults c.read_round.new.nodes) (g.N.Nodes.endings c.args.nodes.now) (g.N.Nodes.endings c.read_round.new.nodes) in
    let T = AllTaken (g.N.Nodes.tells c.read_round.new.nodes k) in
    let x = c.rest.ensures.faults in
    let y = c.rest.ensures.endings in
    let here = counted (g.N.Nodes.faults c.rest.new.nodes) (g.N.Nodes.faults c.read_round.new.nodes) (g.N.Nodes.endings c.rest.new.nodes) (g.N.Nodes.endings c.read_round.new.nodes) in
    let counts = counted (g.N.Nodes.faults c.args.nodes.now) (g.N.Nodes.faults c.read_round.new.nodes) (g.N.Nodes.endings c.args.nodes.now) (g.N.Nodes.endings c.read_round.new.nodes) in
    let same = counted_as _ _ (g.N.Nodes.faults c.read_round.new.nodes) _ _ (g.N.Nodes.endings c.read_round.new.nodes) (sym x) (sym y) in
    rw (p.1, p.2) (⊎_elim (λ quiet. inl quiet)
    (λ w. inr (goes_such (driver name own) broken k first b {R = Unit {0}} (IsReadRound c.args.is_sparing name k first ys here) (IsReadRound c.args.is_sparing name k first ys counts) (λ e. IsReadPart c.args.is_sparing name k first ys here) (λ e. IsReadPart c.args.is_sparing name k first ys counts) less (g.R.Actor.stands c.read_round.new.reader) T T s c.read_round.new.queues (Some (g.O.Sink.written c.args.out.now)) (Some (g.O.Sink.written c.read_round.new.out)) (Err c.in_err-read_round.field-0.0)
    (broken_since _ _ _ _ _ _ (omega (arith, x), omega (arith, y))) (λ f t. t) (λ es z. subst (λ (n : CallCounts). IsReadRound c.args.is_sparing name k first ys n s es) (sym same) z)
    (λ es z. subst (λ (n : CallCounts). IsReadPart c.args.is_sparing name k first ys n s es) (sym same) z) w))
    (c.in_err-read_round.ensures.held own is k first s far b there (c.rest.ensures.rested k far told.0, told.1) h))

pub returns-clause-held : goal.returns-clause-held
returns-clause-held g c own is k first s far b there told h =
    let name = c.args.name.now in
    let ys = members c.args.set.now in
    let less = IsBroken (g.N.Nodes.faults c.rest.new.nodes) (g.N.Nodes.faults c.read_round.new.nodes) (g.N.Nodes.endings c.rest.new.nodes) (g.N.Nodes.endings c.read_round.new.nodes) in
    let broken = IsBroken (g.N.Nodes.faults c.args.nodes.now) (g.N.Nodes.faults c.read_round.new.nodes) (g.N.Nodes.endings c.args.nodes.now) (g.N.Nodes.endings c.read_round.new.nodes) in
    let T = AllTaken (g.N.Nodes.tells c.read_round.new.nodes k) in
    let x = c.rest.ensures.faults in
    let y = c.rest.ensures.endings in
    let here = counted (g.N.Nodes.faults c.rest.new.nodes) (g.N.Nodes.faults c.read_round.new.nodes) (g.N.Nodes.endings c.rest.new.nodes) (g.N.Nodes.endings c.read_round.new.nodes) in
    let counts = counted (g.N.Nodes.faults c.args.nodes.now) (g.N.Nodes.faults c.read_round.new.nodes) (g.N.Nodes.endings c.args.nodes.now) (g.N.Nodes.endings c.read_round.new.nodes) in
    let same = counted_as _ _ (g.N.Nodes.faults c.read_round.new.nodes) _ _ (g.N.Nodes.endings c.read_round.new.nodes) (sym x) (sym y) in
    ⊎_elim (λ quiet. inl quiet)
    (λ w. inr (goes_such (driver name own) broken k first b {R = Unit {0}} (IsReadRound c.args.is_sparing name k first ys here) (IsReadRound c.args.is_sparing name k first ys counts) (λ e. IsReadPart c.args.is_sparing name k first ys here) (λ e. IsReadPart c.args.is_sparing name k first ys counts) less (g.R.Actor.stands c.read_round.new.reader) T T s c.read_round.new.queues (Some (g.O.Sink.written c.args.out.now)) (Some (g.O.Sink.written c.read_round.new.out)) (Ok tt)
    (broken_since _ _ _ _ _ _ (omega (arith, x), omega (arith, y))) (λ f t. t) (λ es z. subst (λ (n : CallCounts). IsReadRound c.args.is_sparing name k first ys n s es) (sym same) z) tt w))
    (c.in_ok-read_round.ensures.held own is k first s far b there (c.rest.ensures.rested k far told.0, told.1) h)

pub returns-in_err-read_round-clause-silent : goal.returns-in_err-read_round-clause-silent
returns-in_err-read_round-clause-silent g c = λ quiet. c.in_err-read_round.ensures.silent (c.rest.ensures.silent ∙ quiet)

pub returns-clause-silent : goal.returns-clause-silent
returns-clause-silent g c = λ quiet. c.in_ok-read_round.ensures.silent (c.rest.ensures.silent ∙ quiet)

pub returns-in_err-read_round-clause-ended : goal.returns-in_err-read_round-clause-ended
returns-in_err-read_round-clause-ended g c =
    let p = err_from_is_err_and c.from_residual.result c.from_residual.ensures.1 in
    λ none. rw (p.1, p.2) (c.in_err-read_round.ensures.ended (c.rest.ensures.off ∙ none))

pub returns-clause-ended : goal.returns-clause-ended
returns-clause-ended g c = λ none. none_off _ _ (goes_unoff _ tt (c.in_ok-read_round.ensures.ended (c.rest.ensures.off ∙ none)))

pub returns-in_err-read_round-clause-counts : goal.returns-in_err-read_round-clause-counts
returns-in_err-read_round-clause-counts g c =
    let x = c.rest.ensures.faults in
    let y = c.rest.ensures.endings in
    later_since _ _ _ _ _ _ (omega (arith, x), omega (arith, y)) c.in_err-read_round.ensures.counts

pub returns-clause-counts : goal.returns-clause-counts
returns-clause-counts g c =
    let x = c.rest.ensures.faults in
    let y = c.rest.ensures.endings in
    later_since _ _ _ _ _ _ (omega (arith, x), omega (arith, y)) c.in_ok-read_round.ensures.counts
