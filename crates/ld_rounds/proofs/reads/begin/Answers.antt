use Rattle.std.proofs.Common.{◌≡◌, ◌⊎◌, ◌∙◌, [], ◌∷◌, true, false, refl, inl, inr, ⊎_elim, Some}
use Rattle.ld_ids.specs.Set.{members}
use Rattle.ld_schedule.specs.declared.event.Event.TheVariants.{Poll}
use Rattle.ld_rounds.specs.Acts.{driver}
use Rattle.ld_rounds.specs.Rounds.{IsOne, IsBegun, IsPolled, polls}
use Rattle.ld_rounds.proofs.Polling.{waits_so, polls_not, polls_alone, polls_always}
use Rattle.ld_rounds.proofs.Going.{each_end, went_here, goes_such}
use Rattle.ld_rounds.proofs.reads.begin.Goals as goal
use Rattle.ld_rounds.proofs.reads.begin.Goals.{else-is_sparing-via-then-is_sparing+else-any, else-is_sparing-via-else-is_sparing}

pub returns-then-any-clause-held : goal.returns-then-any-clause-held
returns-then-any-clause-held g c own k first s far b there h =
    let A = g.R.Actor.stands c.args.reader.now in
    let ys = members c.args.set.now in
    went_here (driver c.args.name.now own) ⊥ k first b (IsPolled c.args.is_sparing c.args.name.now first ys) A (λ now. now ≡ far) s far c.args.queues.now (Some (g.O.Sink.written c.args.out.now))
    (polls_not c.args.is_sparing c.args.name.now first ys s c.if-is_sparing.true (waits_so A k b first s far c.args.queues.now ys c.any.result true there h c.any.ensures c.if-any.true)) refl h

pub returns-clause-held : goal.returns-clause-held
returns-clause-held g c own k first s far b there h =
    let A = g.R.Actor.stands c.args.reader.now in
    let ys = members c.args.set.now in
    let name = c.args.name.now in
    let P = IsPolled c.args.is_sparing name first ys in
    let e : Poll name ∷ [] ≡ polls c.args.is_sparing name first ys s = elim c.else-is_sparing.branch [
      | else-is_sparing-via-then-is_sparing+else-any w ↦ polls_alone c.args.is_sparing name first ys s (waits_so A k b first s far c.args.queues.now ys w.any.result false there h w.any.ensures w.if-any.false)
      | else-is_sparing-via-else-is_sparing w ↦ polls_always c.args.is_sparing name first ys s w.if-is_sparing.false
    ] in
    goes_such (driver name own) ⊥ k first b {R = Unit {0}} (IsOne (Poll name)) P (λ x. IsBegun (Poll name)) (λ x t es. (es ≡ []) ⊎ P t es) ⊥ (g.R.Actor.stands c.ask.new.reader) (λ now. now ≡ far) (λ now. now ≡ far) s c.ask.new.queues (Some (g.O.Sink.written c.args.out.now)) (Some (g.O.Sink.written c.ask.new.out)) c.ask.result (λ x. x) (λ f t. t)
    (λ es x. x ∙ e) (each_end c.ask.result (λ x es y. ⊎_elim (λ z. inl z) (λ z. inr (z ∙ e)) y)) (c.ask.ensures.held own k first s far b h)
