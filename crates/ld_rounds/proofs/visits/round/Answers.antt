use Rattle.std.proofs.Common.{◌≡◌, ◌⊎◌, ◌≤◌, ℕ, List, None, Some, length, slice_get, inl, ◌∙◌, ◌+◌, ◌∷◌, ◌++◌, [], ap, subst, take, drop, append_assoc, refl, sym, inr, Ok, Err, true, arith}
use Rattle.std.proofs.lemmas.Result.{err_from_is_err_and}
use Rattle.std.proofs.lemmas.Option.{slice_get_within, slice_get_cases, get_or_from_slice_get}
use Rattle.std.proofs.lemmas.List.{take_more, take_all, take-append-drop}
use Rattle.ld_ids.specs.Set.{members}
use Rattle.ld_ids.proofs.Members.{count_bound}
use Rattle.ld_machine.specs.Config.{has_node}
use Rattle.ld_bounds.proofs.Alls.{all-slice_get}
use Rattle.ld_rounds.specs.Drives.{AllTaken, IsBroken, counted, Went}
use Rattle.ld_rounds.specs.Rounds.{IsVisiting, IsVisit, AreVisits, ArePartVisits, VisitsEnd}
use Rattle.ld_rounds.proofs.Joining.{Joins, visits_push, visits_part}
use Rattle.ld_rounds.proofs.Counting.{broken_since, broken_until, later_since}
use Rattle.ld_rounds.proofs.Visiting.{drives_on}
use Rattle.ld_rounds.proofs.Endings.{later_here, later_on, ending_since, none_off, goes_unoff}
use Rattle.ld_rounds.proofs.Going.{went_here, then_on}
use Rattle.ld_rounds.proofs.visits.round.Goals as goal

none_past : (xs : List ℕ) (i : ℕ) → slice_get xs i ≡ None → length xs ≤ i
none_past xs i h = elim ((slice_get_cases xs i).1) [
  | inl w ↦ (let e : None ≡ Some w.0 = sym h ∙ w.2 in absurd cc)
  | inr w ↦ w.0
]

split_at : (ms : List ℕ) (i y : ℕ) → slice_get ms i ≡ Some y → take i ms ++ y ∷ drop (i + 1) ms ≡ ms
split_at ms i y h =
    let more = take_more ms i y (slice_get_within ms i y h) ∙ ap (λ z. take i ms ++ z ∷ []) (get_or_from_slice_get ms i y y h) in
    sym (append_assoc (take i ms) (y ∷ []) (drop (i + 1) ms)) ∙ (ap (λ l. l ++ drop (i + 1) ms) (sym more) ∙ take-append-drop (i + 1) ms)

pub nodes-init : goal.nodes-init
nodes-init g c = (
  λ who is k first s far b there told h. inr (went_here who (IsBroken (g.N.Nodes.faults c.args.nodes.now) (g.N.Nodes.faults c.args.nodes.now) (g.N.Nodes.endings c.args.nodes.now) (g.N.Nodes.endings c.args.nodes.now)) k first b (AreVisits k first (take 0 (members c.args.set.now)) (counted (g.N.Nodes.faults c.args.nodes.now) (g.N.Nodes.faults c.args.nodes.now) (g.N.Nodes.endings c.args.nodes.now) (g.N.Nodes.endings c.args.nodes.now))) (g.A.Actor.stands c.args.actor.now) (AllTaken (g.N.Nodes.tells c.args.nodes.now k)) s far c.args.queues.now (Some (g.O.Sink.written c.args.out.now)) refl told h),
  λ quiet. quiet,
  later_here _ _,
  (omega arith, omega arith),
  omega arith,
  refl,
  g.met.A.Actor.since_here c.args.actor.now,
  λ none. none,
)

pub returns-in_err-visit-clause-held : goal.returns-in_err-visit-clause-held
returns-in_err-visit-clause-held g c who is k first s far b there told h =
    let p = err_from_is_err_and c.from_residual.result c.from_residual.ensures.1 in
    let ms : List ℕ = members c.args.set.now in
    let ys : List ℕ = take c.nodes.place ms in
    rw (p.1, p.2) (then_on who (IsBroken (g.N.Nodes.faults c.args.nodes.now) (g.N.Nodes.faults c.visit.new.nodes) (g.N.Nodes.endings c.args.nodes.now) (g.N.Nodes.endings c.visit.new.nodes)) k first b {R = Unit {0}} (AreVisits k first ys (counted (g.N.Nodes.faults c.args.nodes.now) (g.N.Nodes.faults c.nodes.nodes) (g.N.Nodes.endings c.args.nodes.now) (g.N.Nodes.endings c.nodes.nodes))) (IsVisit k first c.in-Some.node (counted (g.N.Nodes.faults c.nodes.nodes) (g.N.Nodes.faults c.visit.new.nodes) (g.N.Nodes.endings c.nodes.nodes) (g.N.Nodes.endings c.visit.new.nodes))) (AreVisits k first (ys ++ c.in-Some.node ∷ []) (counted (g.N.Nodes.faults c.args.nodes.now) (g.N.Nodes.faults c.visit.new.nodes) (g.N.Nodes.endings c.args.nodes.now) (g.N.Nodes.endings c.visit.new.nodes))) (λ e. IsVisiting k first c.in-Some.node (counted (g.N.Nodes.faults c.nodes.nodes) (g.N.Nodes.faults c.visit.new.nodes) (g.N.Nodes.endings c.nodes.nodes) (g.N.Nodes.endings c.visit.new.nodes))) (VisitsEnd k first ms (counted (g.N.Nodes.faults c.args.nodes.now) (g.N.Nodes.faults c.visit.new.nodes) (g.N.Nodes.endings c.args.nodes.now) (g.N.Nodes.endings c.visit.new.nodes))) (IsBroken (g.N.Nodes.faults c.args.nodes.now) (g.N.Nodes.faults c.nodes.nodes) (g.N.Nodes.endings c.args.nodes.now) (g.N.Nodes.endings c.nodes.nodes)) (IsBroken (g.N.Nodes.faults c.nodes.nodes) (g.N.Nodes.faults c.visit.new.nodes) (g.N.Nodes.endings c.nodes.nodes) (g.N.Nodes.endings c.visit.new.nodes)) (g.N.Nodes.silent c.nodes.nodes ≡ true) (g.N.Nodes.silent c.visit.new.nodes ≡ true) (g.A.Actor.stands c.nodes.actor) (g.A.Actor.stands c.visit.new.actor) (AllTaken (g.N.Nodes.tells c.nodes.nodes k)) (AllTaken (g.N.Nodes.tells c.visit.new.nodes k)) s
    c.nodes.queues c.visit.new.queues (Some (g.O.Sink.written c.args.out.now)) (Some (g.O.Sink.written c.nodes.out)) (Some (g.O.Sink.written c.visit.new.out)) (Err c.in_err-visit.field-0.0) (visits_push k first ys c.in-Some.node (g.N.Nodes.faults c.args.nodes.now) (g.N.Nodes.faults c.nodes.nodes) (g.N.Nodes.faults c.visit.new.nodes) (g.N.Nodes.endings c.args.nodes.now) (g.N.Nodes.endings c.nodes.nodes) (g.N.Nodes.endings c.visit.new.nodes) c.nodes.invariant.3 c.in_err-visit.ensures.counts)
    (subst (λ (zs : List ℕ). Joins k (AreVisits k first ys (counted (g.N.Nodes.faults c.args.nodes.now) (g.N.Nodes.faults c.nodes.nodes) (g.N.Nodes.endings c.args.nodes.now) (g.N.Nodes.endings c.nodes.nodes))) (IsVisiting k first c.in-Some.node (counted (g.N.Nodes.faults c.nodes.nodes) (g.N.Nodes.faults c.visit.new.nodes) (g.N.Nodes.endings c.nodes.nodes) (g.N.Nodes.endings c.visit.new.nodes))) (ArePartVisits k first zs (counted (g.N.Nodes.faults c.args.nodes.now) (g.N.Nodes.faults c.visit.new.nodes) (g.N.Nodes.endings c.args.nodes.now) (g.N.Nodes.endings c.visit.new.nodes)))) (split_at ms c.nodes.place c.in-Some.node (sym c.in-Some.ensures.node))
    (visits_part k first ys (drop (c.nodes.place + 1) ms) c.in-Some.node (g.N.Nodes.faults c.args.nodes.now) (g.N.Nodes.faults c.nodes.nodes) (g.N.Nodes.faults c.visit.new.nodes) (g.N.Nodes.endings c.args.nodes.now) (g.N.Nodes.endings c.nodes.nodes) (g.N.Nodes.endings c.visit.new.nodes) c.nodes.invariant.3 c.in_err-visit.ensures.counts)) (broken_until _ _ _ _ _ _ c.in_err-visit.ensures.counts) (broken_since _ _ _ _ _ _ c.nodes.invariant.3)
    c.in_err-visit.ensures.silent
    (λ w. c.in_err-visit.ensures.held who (drives_on who (g.A.Actor.own c.args.actor.now) (g.A.Actor.own c.nodes.actor) is c.nodes.invariant.5) k first w.moved.state w.far b (all-slice_get (λ y. has_node k y ≡ true) (members c.args.set.now) c.nodes.place c.in-Some.node there (sym c.in-Some.ensures.node)) w.told w.moved.holds)
    (c.nodes.invariant.0 who is k first s far b there told h))

pub returns-in_err-visit-clause-cause : goal.returns-in_err-visit-clause-cause
returns-in_err-visit-clause-cause g c =
    let p = err_from_is_err_and c.from_residual.result c.from_residual.ensures.1 in
    rw (p.1, p.2) (ending_since _ _ _ _ _ _ c.in_err-visit.field-0.0 c.nodes.invariant.2 c.in_err-visit.ensures.cause)

pub returns-in_err-visit-clause-later : goal.returns-in_err-visit-clause-later
returns-in_err-visit-clause-later g c = later_on _ _ _ _ _ _ c.nodes.invariant.2 c.in_err-visit.ensures.later

pub overflow_add-place : goal.overflow_add-place
overflow_add-place g c =
    let w = slice_get_within (members c.args.set.now) c.nodes.place c.in-Some.node (sym c.in-Some.ensures.node) in
    omega (arith, count_bound 1 c.args.set.now, c.nth.ensures.set)

pub nodes-smaller : goal.nodes-smaller
nodes-smaller g c =
    let w = slice_get_within (members c.args.set.now) c.nodes.place c.in-Some.node (sym c.in-Some.ensures.node) in
    omega arith

pub nodes-preserved : goal.nodes-preserved
nodes-preserved g c =
    let ms = members c.args.set.now in
    let within = slice_get_within (members c.args.set.now) c.nodes.place c.in-Some.node (sym c.in-Some.ensures.node) in
    let more = take_more ms c.nodes.place c.in-Some.node within ∙ ap (λ y. take c.nodes.place ms ++ y ∷ []) (get_or_from_slice_get ms c.nodes.place c.in-Some.node c.in-Some.node (sym c.in-Some.ensures.node)) in (
      λ who is k first s far b there told h. let ys : List ℕ = take c.nodes.place ms in
          then_on who (IsBroken (g.N.Nodes.faults c.args.nodes.now) (g.N.Nodes.faults c.visit.new.nodes) (g.N.Nodes.endings c.args.nodes.now) (g.N.Nodes.endings c.visit.new.nodes)) k first b {R = Unit {0}} (AreVisits k first ys (counted (g.N.Nodes.faults c.args.nodes.now) (g.N.Nodes.faults c.nodes.nodes) (g.N.Nodes.endings c.args.nodes.now) (g.N.Nodes.endings c.nodes.nodes))) (IsVisit k first c.in-Some.node (counted (g.N.Nodes.faults c.nodes.nodes) (g.N.Nodes.faults c.visit.new.nodes) (g.N.Nodes.endings c.nodes.nodes) (g.N.Nodes.endings c.visit.new.nodes))) (AreVisits k first (take (c.nodes.place + 1) ms) (counted (g.N.Nodes.faults c.args.nodes.now) (g.N.Nodes.faults c.visit.new.nodes) (g.N.Nodes.endings c.args.nodes.now) (g.N.Nodes.endings c.visit.new.nodes))) (λ e. IsVisiting k first c.in-Some.node (counted (g.N.Nodes.faults c.nodes.nodes) (g.N.Nodes.faults c.visit.new.nodes) (g.N.Nodes.endings c.nodes.nodes) (g.N.Nodes.endings c.visit.new.nodes))) (VisitsEnd k first ms (counted (g.N.Nodes.faults c.args.nodes.now) (g.N.Nodes.faults c.visit.new.nodes) (g.N.Nodes.endings c.args.nodes.now) (g.N.Nodes.endings c.visit.new.nodes))) (IsBroken (g.N.Nodes.faults c.args.nodes.now) (g.N.Nodes.faults c.nodes.nodes) (g.N.Nodes.endings c.args.nodes.now) (g.N.Nodes.endings c.nodes.nodes)) (IsBroken (g.N.Nodes.faults c.nodes.nodes) (g.N.Nodes.faults c.visit.new.nodes) (g.N.Nodes.endings c.nodes.nodes) (g.N.Nodes.endings c.visit.new.nodes)) (g.N.Nodes.silent c.nodes.nodes ≡ true) (g.N.Nodes.silent c.visit.new.nodes ≡ true) (g.A.Actor.stands c.nodes.actor) (g.A.Actor.stands c.visit.new.actor) (AllTaken (g.N.Nodes.tells c.nodes.nodes k)) (AllTaken (g.N.Nodes.tells c.visit.new.nodes k)) s
          c.nodes.queues c.visit.new.queues (Some (g.O.Sink.written c.args.out.now)) (Some (g.O.Sink.written c.nodes.out)) (Some (g.O.Sink.written c.visit.new.out)) (Ok tt)
          (subst (λ (zs : List ℕ). Joins k (AreVisits k first ys (counted (g.N.Nodes.faults c.args.nodes.now) (g.N.Nodes.faults c.nodes.nodes) (g.N.Nodes.endings c.args.nodes.now) (g.N.Nodes.endings c.nodes.nodes))) (IsVisit k first c.in-Some.node (counted (g.N.Nodes.faults c.nodes.nodes) (g.N.Nodes.faults c.visit.new.nodes) (g.N.Nodes.endings c.nodes.nodes) (g.N.Nodes.endings c.visit.new.nodes))) (AreVisits k first zs (counted (g.N.Nodes.faults c.args.nodes.now) (g.N.Nodes.faults c.visit.new.nodes) (g.N.Nodes.endings c.args.nodes.now) (g.N.Nodes.endings c.visit.new.nodes)))) (sym more) (visits_push k first ys c.in-Some.node (g.N.Nodes.faults c.args.nodes.now) (g.N.Nodes.faults c.nodes.nodes) (g.N.Nodes.faults c.visit.new.nodes) (g.N.Nodes.endings c.args.nodes.now) (g.N.Nodes.endings c.nodes.nodes) (g.N.Nodes.endings c.visit.new.nodes) c.nodes.invariant.3 c.in_ok-visit.ensures.counts)) tt
          (broken_until _ _ _ _ _ _ c.in_ok-visit.ensures.counts) (broken_since _ _ _ _ _ _ c.nodes.invariant.3) c.in_ok-visit.ensures.silent
          (λ w. c.in_ok-visit.ensures.held who (drives_on who (g.A.Actor.own c.args.actor.now) (g.A.Actor.own c.nodes.actor) is c.nodes.invariant.5) k first w.moved.state w.far b (all-slice_get (λ y. has_node k y ≡ true) (members c.args.set.now) c.nodes.place c.in-Some.node there (sym c.in-Some.ensures.node)) w.told w.moved.holds)
          (c.nodes.invariant.0 who is k first s far b there told h),
      λ quiet. c.in_ok-visit.ensures.silent (c.nodes.invariant.1 quiet),
      later_on _ _ _ _ _ _ c.nodes.invariant.2 c.in_ok-visit.ensures.later,
      later_since _ _ _ _ _ _ c.nodes.invariant.3 c.in_ok-visit.ensures.counts,
      omega arith,
      c.in_ok-visit.ensures.itself ∙ c.nodes.invariant.5,
      g.met.A.Actor.since_on c.args.actor.now c.nodes.actor c.visit.new.actor c.nodes.invariant.6 c.in_ok-visit.ensures.since,
      λ none. goes_unoff _ tt (c.in_ok-visit.ensures.ended (c.nodes.invariant.7 none)),
    )

pub returns-in_err-visit-clause-counts : goal.returns-in_err-visit-clause-counts
returns-in_err-visit-clause-counts g c = later_since _ _ _ _ _ _ c.nodes.invariant.3 c.in_err-visit.ensures.counts

pub returns-clause-held : goal.returns-clause-held
returns-clause-held g c who is k first s far b there told h =
    let ms = members c.args.set.now in
    let all = take_all c.nodes.place ms (none_past ms c.nodes.place (sym c.in_default.ensures.node)) in
    subst (λ (ys : List ℕ). (g.N.Nodes.silent c.nodes.nodes ≡ true) ⊎ Went who (IsBroken (g.N.Nodes.faults c.args.nodes.now) (g.N.Nodes.faults c.nodes.nodes) (g.N.Nodes.endings c.args.nodes.now) (g.N.Nodes.endings c.nodes.nodes)) (AreVisits k first ys (counted (g.N.Nodes.faults c.args.nodes.now) (g.N.Nodes.faults c.nodes.nodes) (g.N.Nodes.endings c.args.nodes.now) (g.N.Nodes.endings c.nodes.nodes))) (g.A.Actor.stands c.nodes.actor) (AllTaken (g.N.Nodes.tells c.nodes.nodes k)) k first s c.nodes.queues (Some (g.O.Sink.written c.args.out.now)) (Some (g.O.Sink.written c.nodes.out))) all
    (c.nodes.invariant.0 who is k first s far b there told h)

pub returns-in_err-visit-clause-since : goal.returns-in_err-visit-clause-since
returns-in_err-visit-clause-since g c = g.met.A.Actor.since_on c.args.actor.now c.nodes.actor c.visit.new.actor c.nodes.invariant.6 c.in_err-visit.ensures.since

pub returns-in_err-visit-clause-ended : goal.returns-in_err-visit-clause-ended
returns-in_err-visit-clause-ended g c =
    let p = err_from_is_err_and c.from_residual.result c.from_residual.ensures.1 in
    λ none. rw (p.1, p.2) (c.in_err-visit.ensures.ended (c.nodes.invariant.7 none))

pub returns-clause-ended : goal.returns-clause-ended
returns-clause-ended g c = λ none. none_off _ _ (c.nodes.invariant.7 none)
