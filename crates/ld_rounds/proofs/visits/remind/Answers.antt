use Rattle.std.proofs.Common.{◌≡◌, ◌⊎◌, ◌∙◌, ◌+◌, ap, refl, sym, subst, inl, inr, ⊎_elim, Some, true, false, arith}
use Rattle.std.specs.Prelude.{IfOk}
use Rattle.ld_rounds.specs.Drives.{IsBroken, WithNode, GoesOn}
use Rattle.ld_rounds.specs.Reminding.{reminded}
use Rattle.ld_rounds.specs.Rounds.{IsReminded, RemindEnd}
use Rattle.ld_rounds.proofs.Endings.{none_off}
use Rattle.ld_rounds.proofs.Going.{halted, went_by}
use Rattle.ld_rounds.proofs.Counting.{later_since}
use Rattle.ld_rounds.proofs.Visiting.{drives_on, sent_later}
use Rattle.ld_rounds.proofs.Reminding.{Open, open_first, open_last, open_next, open_off, reminder_to, broken_off}
use Rattle.ld_rounds.proofs.visits.remind.Goals as goal

pub epochs-init : goal.epochs-init
epochs-init g c = (
  λ who is k first s far queues written b there of told h. inr (open_first who k first b (g.A.Actor.stands c.args.actor.now) (g.met.A.Actor.stands_apart c.args.actor.now) s queues written c.args.node c.args.answer.now (g.N.Nodes.tells c.args.nodes.now) far told h),
  λ quiet. quiet,
  (omega arith, omega arith),
  refl,
  g.met.A.Actor.since_here c.args.actor.now,
  refl,
)

pub returns-in_default-clause-held : goal.returns-in_default-clause-held
returns-in_default-clause-held g c who is k first s far queues written b there of told h =
    ⊎_elim (λ quiet. inl quiet)
    (λ w. inr (halted who ⊥ k first b (IsReminded c.args.node c.args.answer.now) (g.A.Actor.stands c.epochs.actor) (Open (g.N.Nodes.tells c.epochs.nodes) k who.ticks c.args.node (c.epochs.before + 1)) s queues written written w))
    (c.epochs.invariant.0 who is k first s far queues written b there of told h)

pub returns-in_default-clause-silent : goal.returns-in_default-clause-silent
returns-in_default-clause-silent g c = c.epochs.invariant.1

pub returns-in_default-clause-itself : goal.returns-in_default-clause-itself
returns-in_default-clause-itself g c = c.reminder.ensures.itself ∙ c.epochs.invariant.3

pub returns-in_default-clause-since : goal.returns-in_default-clause-since
returns-in_default-clause-since g c = g.met.A.Actor.since_on c.args.actor.now c.epochs.actor c.reminder.new.self c.epochs.invariant.4 c.reminder.ensures.since

pub returns-in_default-clause-counts : goal.returns-in_default-clause-counts
returns-in_default-clause-counts g c = c.epochs.invariant.2

pub returns-in_default-next-clause-held : goal.returns-in_default-next-clause-held
returns-in_default-next-clause-held g c who is k first s far queues written b there of told h =
    let A = g.A.Actor.stands c.epochs.actor in
    let B = g.A.Actor.stands c.reminder.new.self in
    let T = g.N.Nodes.tells c.epochs.nodes in
    let y = c.args.node in
    let m = c.args.answer.now in
    ⊎_elim (λ quiet. inl quiet)
    (λ w. inr (open_last who k first b B (g.met.A.Actor.stands_apart c.reminder.new.self) s queues written y m T T (c.epochs.before + 1) m
    (went_by who ⊥ k first b (IsReminded y m) A B (Open T k who.ticks y (c.epochs.before + 1)) s queues written written w (c.in-Ok.ensures.told k w.moved.state w.moved.holds.actor).1)))
    (c.epochs.invariant.0 who is k first s far queues written b there of told h)

pub returns-in_default-next-clause-silent : goal.returns-in_default-next-clause-silent
returns-in_default-next-clause-silent g c = c.epochs.invariant.1

pub returns-in_default-next-clause-itself : goal.returns-in_default-next-clause-itself
returns-in_default-next-clause-itself g c = c.reminder.ensures.itself ∙ c.epochs.invariant.3

pub returns-in_default-next-clause-since : goal.returns-in_default-next-clause-since
returns-in_default-next-clause-since g c = g.met.A.Actor.since_on c.args.actor.now c.epochs.actor c.reminder.new.self c.epochs.invariant.4 c.reminder.ensures.since

pub returns-in_default-next-clause-counts : goal.returns-in_default-next-clause-counts
returns-in_default-next-clause-counts g c = c.epochs.invariant.2

pub returns-in-Err-clause-held : goal.returns-in-Err-clause-held
returns-in-Err-clause-held g c who is k first s far queues written b there of told h =
    let A = g.A.Actor.stands c.epochs.actor in
    let B = g.A.Actor.stands c.reminder.new.self in
    let T = g.N.Nodes.tells c.epochs.nodes in
    let U = g.N.Nodes.tells c.send.new.self in
    let y = c.args.node in
    let m = c.args.answer.now in
    let e = c.epochs.before + 1 in
    let own = drives_on who (g.A.Actor.own c.args.actor.now) (g.A.Actor.own c.epochs.actor) is c.epochs.invariant.3 in
    ⊎_elim (λ quiet. inl (c.send.ensures.silent quiet))
    (λ w. let said = c.in-Ok.ensures.told k w.moved.state w.moved.holds.actor in
    let v = went_by who ⊥ k first b (IsReminded y m) A B (Open T k who.ticks y e) s queues written written w said.1 in
    let one : Some c.in-Some.reminder ≡ reminded who.ticks w.moved.state.register e m = sym c.in-Some.is ∙ (said.0 ∙ ap (λ o. reminded o w.moved.state.register e m) (sym own.1)) in
    subst (λ r. (g.N.Nodes.silent c.send.new.self ≡ true) ⊎ GoesOn who ⊥ (IsReminded y m) (RemindEnd y m) B (WithNode U k y) k first s queues written written r) (sym c.missed.ensures.value)
    (open_off who k first b B (g.met.A.Actor.stands_apart c.reminder.new.self) s queues written y m T U e c.in-Some.reminder v (g.N.Nodes.silent c.send.new.self) c.in-Err.fault (c.in-Err.ensures.sent k v.far v.told.0.0.0 y v.told.0.1 (reminder_to who.ticks w.moved.state.register e y m c.in-Some.reminder of one))))
    (c.epochs.invariant.0 who is k first s far queues written b there of told h)

pub returns-in-Err-clause-silent : goal.returns-in-Err-clause-silent
returns-in-Err-clause-silent g c = λ quiet. c.send.ensures.silent (c.epochs.invariant.1 quiet)

pub returns-in-Err-clause-itself : goal.returns-in-Err-clause-itself
returns-in-Err-clause-itself g c = c.reminder.ensures.itself ∙ c.epochs.invariant.3

pub returns-in-Err-clause-since : goal.returns-in-Err-clause-since
returns-in-Err-clause-since g c = g.met.A.Actor.since_on c.args.actor.now c.epochs.actor c.reminder.new.self c.epochs.invariant.4 c.reminder.ensures.since

pub returns-in-Err-clause-counts : goal.returns-in-Err-clause-counts
returns-in-Err-clause-counts g c = later_since _ _ _ _ _ _ c.epochs.invariant.2 (sent_later _ _ _ _ c.send.result c.send.ensures.counts c.send.ensures.endings)

pub returns-in-Err-clause-broken : goal.returns-in-Err-clause-broken
returns-in-Err-clause-broken g c =
    subst (λ r. IfOk r (λ on. on ≡ false → IsBroken (g.N.Nodes.faults c.args.nodes.now) (g.N.Nodes.faults c.send.new.self) (g.N.Nodes.endings c.args.nodes.now) (g.N.Nodes.endings c.send.new.self))) (sym c.missed.ensures.value)
    (broken_off _ _ _ _ _ _ c.in-Err.fault c.epochs.invariant.2 c.in-Err.ensures.counts)

pub epochs-preserved : goal.epochs-preserved
epochs-preserved g c = (
  λ who is k first s far queues written b there of told h.
      let A = g.A.Actor.stands c.epochs.actor in
      let B = g.A.Actor.stands c.reminder.new.self in
      let T = g.N.Nodes.tells c.epochs.nodes in
      let U = g.N.Nodes.tells c.send.new.self in
      let y = c.args.node in
      let m = c.args.answer.now in
      let e = c.epochs.before + 1 in
      let own = drives_on who (g.A.Actor.own c.args.actor.now) (g.A.Actor.own c.epochs.actor) is c.epochs.invariant.3 in
      ⊎_elim (λ quiet. inl (c.send.ensures.silent quiet))
      (λ w. let said = c.in-Ok.ensures.told k w.moved.state w.moved.holds.actor in
      let v = went_by who ⊥ k first b (IsReminded y m) A B (Open T k who.ticks y e) s queues written written w said.1 in
      let one : Some c.in-Some.reminder ≡ reminded who.ticks w.moved.state.register e m = sym c.in-Some.is ∙ (said.0 ∙ ap (λ o. reminded o w.moved.state.register e m) (sym own.1)) in
      inr (open_next who k first b B (g.met.A.Actor.stands_apart c.reminder.new.self) s queues written y m T U e c.in-Some.reminder v there of one
      (c.in-Ok-send.ensures.sent k v.far v.told.0.0.0 y v.told.0.1 (reminder_to who.ticks w.moved.state.register e y m c.in-Some.reminder of one))))
      (c.epochs.invariant.0 who is k first s far queues written b there of told h),
  λ quiet. c.send.ensures.silent (c.epochs.invariant.1 quiet),
  later_since _ _ _ _ _ _ c.epochs.invariant.2 (sent_later _ _ _ _ c.send.result c.send.ensures.counts c.send.ensures.endings),
  c.reminder.ensures.itself ∙ c.epochs.invariant.3,
  g.met.A.Actor.since_on c.args.actor.now c.epochs.actor c.reminder.new.self c.epochs.invariant.4 c.reminder.ensures.since,
  c.send.ensures.off ∙ c.epochs.invariant.5,
)

pub returns-clause-held : goal.returns-clause-held
returns-clause-held g c who is k first s far queues written b there of told h =
    let A = g.A.Actor.stands c.epochs.actor in
    let T = g.N.Nodes.tells c.epochs.nodes in
    let m = c.args.answer.now in
    ⊎_elim (λ quiet. inl quiet)
    (λ w. inr (open_last who k first b A (g.met.A.Actor.stands_apart c.epochs.actor) s queues written c.args.node m T T (c.epochs.before + 1) m w))
    (c.epochs.invariant.0 who is k first s far queues written b there of told h)

pub returns-clause-silent : goal.returns-clause-silent
returns-clause-silent g c = c.epochs.invariant.1

pub returns-clause-itself : goal.returns-clause-itself
returns-clause-itself g c = c.epochs.invariant.3

pub returns-clause-since : goal.returns-clause-since
returns-clause-since g c = c.epochs.invariant.4

pub returns-clause-counts : goal.returns-clause-counts
returns-clause-counts g c = c.epochs.invariant.2

pub returns-in_default-clause-ended : goal.returns-in_default-clause-ended
returns-in_default-clause-ended g c = λ none. none_off _ _ (c.epochs.invariant.5 ∙ none)

pub returns-in_default-next-clause-ended : goal.returns-in_default-next-clause-ended
returns-in_default-next-clause-ended g c = λ none. none_off _ _ (c.epochs.invariant.5 ∙ none)

pub returns-clause-ended : goal.returns-clause-ended
returns-clause-ended g c = λ none. none_off _ _ (c.epochs.invariant.5 ∙ none)

pub returns-in-Err-clause-ended : goal.returns-in-Err-clause-ended
returns-in-Err-clause-ended g c = λ none. none_off _ _ (c.send.ensures.off ∙ (c.epochs.invariant.5 ∙ none))
