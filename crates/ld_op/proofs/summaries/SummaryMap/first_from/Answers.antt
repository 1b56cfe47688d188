use Rattle.std.proofs.Common.{◌∙◌, ap, sym, map, refl}
use Rattle.std.specs.Map.Iter.{deref_pair}
use Rattle.ld_op.specs.Places.{filled}
use Rattle.ld_op.proofs.Pages.{walk_on, walk_at, walk_end, map_on}
use Rattle.ld_op.proofs.Walks.{filled-one_more, first_found, none_found, head_is}
use Rattle.ld_op.proofs.summaries.SummaryMap.first_from.Goals as goal

pub places-init : goal.places-init
unfolding filled
places-init c = record { all = refl; none = refl }

pub returns-in-Some-place : goal.returns-in-Some-place
returns-in-Some-place c = sym (first_found c.into_iter-clean-iterator.result (map deref_pair c.places.yielded) c.next.new.self (deref_pair (c.in-Some.clean, c.in-Some.place)) c.in-Some-place.summary
    (walk_at deref_pair c.places.yielded (c.in-Some.clean, c.in-Some.place) c.places.clean-iterator c.next.new.self c.into_iter-clean-iterator.result c.places.invariant.all c.in-Some.ensures.steps) c.places.invariant.none c.in-Some-place.is)
    ∙ head_is c.args.epoch c.self.inside.map.entries c.args.self.now c.range-clean-items.result c.into_iter-clean-iterator.result c.into_iter-clean-iterator.ensures.into_iter_gives (c.range-clean-items.ensures.between tt) c.self.view_is

pub places-preserved : goal.places-preserved
places-preserved c = record {
  all = walk_on deref_pair c.places.yielded (c.in-Some.clean, c.in-Some.place) c.places.clean-iterator c.next.new.self _ c.places.invariant.all c.in-Some.ensures.steps;
  none = ap filled (map_on deref_pair c.places.yielded (c.in-Some.clean, c.in-Some.place)) ∙ filled-one_more (map deref_pair c.places.yielded) (deref_pair (c.in-Some.clean, c.in-Some.place)) c.places.invariant.none c.in_default.is;
}

pub returns : goal.returns
returns c = sym (none_found c.into_iter-clean-iterator.result (map deref_pair c.places.yielded)
    (walk_end deref_pair c.places.yielded c.places.clean-iterator c.into_iter-clean-iterator.result c.places.invariant.all c.in-None.ensures.steps.0) c.places.invariant.none)
    ∙ head_is c.args.epoch c.self.inside.map.entries c.args.self.now c.range-clean-items.result c.into_iter-clean-iterator.result c.into_iter-clean-iterator.ensures.into_iter_gives (c.range-clean-items.ensures.between tt) c.self.view_is
