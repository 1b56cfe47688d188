use Rattle.std.proofs.Common.{◌≡◌, ◌⊎◌, ◌∙◌, [], refl, sym, subst, inr, Err, true, Some}
use Rattle.std.proofs.lemmas.Result.{err_from_is_err_and}
use Rattle.ld_ids.specs.Set.{members}
use Rattle.ld_rounds.specs.Acts.{driver}
use Rattle.ld_rounds.specs.Drives.{AllTaken, IsBroken, counted}
use Rattle.ld_rounds.specs.Rounds.{AreVisits, VisitsEnd, IsPolled, IsReadRound, IsReadPart}
use Rattle.ld_rounds.proofs.Joining.{splits_join, part_begun}
use Rattle.ld_rounds.proofs.Visiting.{drives_on}
use Rattle.ld_rounds.proofs.Endings.{later_on, cause_since, none_off}
use Rattle.ld_rounds.proofs.Going.{each_end, went_as, goes_such, then_on}
use Rattle.ld_rounds.proofs.reads.read_round.Goals as goal

pub returns-in_err-begin-clause-held : goal.returns-in_err-begin-clause-held
returns-in_err-begin-clause-held g c own is k first s far b there told h =
    let p = err_from_is_err_and c.from_residual.result c.from_residual.ensures.1 in
    let B = g.R.Actor.stands c.begin.new.reader in
    let T = AllTaken (g.N.Nodes.tells c.args.nodes.now k) in
    let name = c.args.name.now in
    let P = IsPolled c.args.is_sparing name first (members c.args.set.now) in
    rw (p.1, p.2) (inr (goes_such (driver c.args.name.now own) (IsBroken (g.N.Nodes.faults c.args.nodes.now) (g.N.Nodes.faults c.args.nodes.now) (g.N.Nodes.endings c.args.nodes.now) (g.N.Nodes.endings c.args.nodes.now)) k first b {R = Unit {0}} P P (λ e t es. (es ≡ []) ⊎ P t es) (λ e. IsReadPart c.args.is_sparing name k first (members c.args.set.now) (counted (g.N.Nodes.faults c.args.nodes.now) (g.N.Nodes.faults c.args.nodes.now) (g.N.Nodes.endings c.args.nodes.now) (g.N.Nodes.endings c.args.nodes.now))) ⊥ B (λ now. now ≡ far) T s c.begin.new.queues (Some (g.O.Sink.written c.args.out.now)) (Some (g.O.Sink.written c.begin.new.out)) (Err c.in_err-begin.field-0.0) (λ x. absurd x) (λ f e. subst T (sym e) told)
    (λ es x. x) (λ es x. part_begun k c.args.is_sparing name first (members c.args.set.now) (counted (g.N.Nodes.faults c.args.nodes.now) (g.N.Nodes.faults c.args.nodes.now) (g.N.Nodes.endings c.args.nodes.now) (g.N.Nodes.endings c.args.nodes.now)) s es x) (c.in_err-begin.ensures.held own k first s far b there h)))

pub returns-clause-held : goal.returns-clause-held
returns-clause-held g c own is k first s far b there told h =
    let B = g.R.Actor.stands c.begin.new.reader in
    let C = g.R.Actor.stands c.round.new.actor in
    let T = AllTaken (g.N.Nodes.tells c.args.nodes.now k) in
    let U = AllTaken (g.N.Nodes.tells c.round.new.nodes k) in
    let name = c.args.name.now in
    let ys = members c.args.set.now in
    let P = IsPolled c.args.is_sparing name first ys in
    let broken = IsBroken (g.N.Nodes.faults c.args.nodes.now) (g.N.Nodes.faults c.round.new.nodes) (g.N.Nodes.endings c.args.nodes.now) (g.N.Nodes.endings c.round.new.nodes) in
    let counts = counted (g.N.Nodes.faults c.args.nodes.now) (g.N.Nodes.faults c.round.new.nodes) (g.N.Nodes.endings c.args.nodes.now) (g.N.Nodes.endings c.round.new.nodes) in
    let w = went_as (driver c.args.name.now own) broken k first b P ⊥ B (λ now. now ≡ far) T s c.begin.new.queues (Some (g.O.Sink.written c.args.out.now)) (Some (g.O.Sink.written c.begin.new.out)) (λ x. absurd x) (λ f e. subst T (sym e) told) (c.in_ok-begin.ensures.held own k first s far b there h) in
    then_on (driver c.args.name.now own) broken k first b {R = Unit {0}} P (AreVisits k first ys counts) (IsReadRound c.args.is_sparing name k first ys counts) (VisitsEnd k first ys counts) (λ e. IsReadPart c.args.is_sparing name k first ys counts) broken broken (g.N.Nodes.silent c.round.new.nodes ≡ true) (g.N.Nodes.silent c.round.new.nodes ≡ true) B C T U s c.begin.new.queues c.round.new.queues (Some (g.O.Sink.written c.args.out.now)) (Some (g.O.Sink.written c.begin.new.out)) (Some (g.O.Sink.written c.round.new.out)) c.round.result
    (splits_join k P (AreVisits k first ys counts)) (each_end c.round.result (λ e t es fs x y. inr (record { front = es; rest = fs; whole = refl; came = x; goes = y }))) (λ l. l) (λ l. l)
    (λ quiet. quiet) (λ v. c.round.ensures.held (driver c.args.name.now own) (drives_on (driver c.args.name.now own) own (g.R.Actor.own c.begin.new.reader) (refl, refl) (c.in_ok-begin.ensures.itself ∙ is)) k first v.moved.state v.far b there v.told v.moved.holds) (inr w)

pub returns-clause-cause : goal.returns-clause-cause
returns-clause-cause g c = cause_since _ _ _ _ _ _ c.round.result c.in_ok-begin.ensures.later c.round.ensures.cause

pub returns-clause-later : goal.returns-clause-later
returns-clause-later g c = later_on _ _ _ _ _ _ c.in_ok-begin.ensures.later c.round.ensures.later

pub returns-clause-since : goal.returns-clause-since
returns-clause-since g c = g.met.R.Actor.since_on c.args.reader.now c.begin.new.reader c.round.new.actor c.in_ok-begin.ensures.since c.round.ensures.since

pub returns-in_err-begin-clause-off : goal.returns-in_err-begin-clause-off
returns-in_err-begin-clause-off g c =
    let p = err_from_is_err_and c.from_residual.result c.from_residual.ensures.1 in
    rw (p.1, p.2) (c.in_err-begin.ensures.off (g.N.Nodes.off c.args.nodes.now))

pub returns-in_err-begin-clause-ended : goal.returns-in_err-begin-clause-ended
returns-in_err-begin-clause-ended g c = λ none. none_off _ _ none

pub returns-clause-ended : goal.returns-clause-ended
returns-clause-ended g c = c.round.ensures.ended
