use Rattle.std.proofs.Common.{◌≡◌, ◌∙◌, ap, subst, sym, true, take, ◌++◌, ◌∷◌, [], arith}
use Rattle.std.proofs.lemmas.List.{take_more}
use Rattle.ld_op.specs.Places.{has_place}
use Rattle.ld_op.specs.Room.{have_places}
use Rattle.ld_op.proofs.HavePlaces.{have_places-append, have_places_stay}
use Rattle.ld_op.proofs.entries.EntryMap.reserve_all.Goals as goal

placed : (c : goal.In_ok-reserve) → has_place c.entry-item.result.number c.reserve.new.self ≡ true
placed c = subst (λ k. has_place k c.reserve.new.self ≡ true) c.value.ensures c.in_ok-reserve.ensures.place

pub loop-entry-preserved : goal.loop-entry-preserved
loop-entry-preserved c = (
  c.reserve.ensures.same ∙ c.loop-entry.invariant.0,
  subst (λ es. have_places es c.reserve.new.self ≡ true)
      (sym (take_more c.args.entries.now c.loop-entry.entry-index c.entry-item.result (omega arith) ∙ ap (λ e. take c.loop-entry.entry-index c.args.entries.now ++ e ∷ []) (sym c.entry-item.is)))
      (have_places-append (take c.loop-entry.entry-index c.args.entries.now) c.entry-item.result c.reserve.new.self
      (have_places_stay (take c.loop-entry.entry-index c.args.entries.now) c.loop-entry.self c.reserve.new.self c.reserve.ensures.places c.loop-entry.invariant.1) (placed c)),
)
