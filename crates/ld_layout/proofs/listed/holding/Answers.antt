use Rattle.std.proofs.Common.{◌∙◌}
use Rattle.std.specs.Map.Iter.{deref_pair}
use Rattle.ld_table.specs.Words.{any_of}
use Rattle.ld_layout.specs.Areas.{is_inside}
use Rattle.ld_layout.proofs.Copies.{picking_starts, picking_on, picking_ends}
use Rattle.ld_layout.proofs.listed.holding.Goals as goal

pub areas-init : goal.areas-init
areas-init c = picking_starts (λ a. any_of (λ k. is_inside a k) c.args.starts.now) c.new-found.result c.into_iter-place-iterator.result c.args.areas.now c.new-found.ensures (c.into_iter-place-iterator.ensures.into_iter_gives.0 ∙ c.all-place-items.ensures.entries) c.all-place-items.ensures.ordered

pub areas-preserved : goal.areas-preserved
areas-preserved c = picking_on (λ a. any_of (λ k. is_inside a k) c.args.starts.now) c.areas.found c.areas.place-iterator c.next.new.self c.args.areas.now _ (deref_pair (c.in-Some.place, c.in-Some.length)) c.holds_one-holds.result c.holds_one-holds.ensures c.areas.invariant c.in-Some.ensures.steps c.in_ok-add_if.ensures

pub returns : goal.returns
returns c = picking_ends (λ a. any_of (λ k. is_inside a k) c.args.starts.now) c.areas.found c.areas.place-iterator c.args.areas.now c.areas.invariant c.in-None.ensures.steps.0
