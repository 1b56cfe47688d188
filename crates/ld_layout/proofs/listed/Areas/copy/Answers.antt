use Rattle.std.specs.Map.Iter.{deref_pair}
use Rattle.ld_layout.proofs.Copies.{copy_on, copied}
use Rattle.ld_layout.proofs.listed.Areas.copy.Goals as goal

pub areas-preserved : goal.areas-preserved
areas-preserved c = copy_on c.areas.areas c.areas.place-iterator c.next.new.self c.args.self.now _ (deref_pair (c.in-Some.place, c.in-Some.length)) c.all-place-items.ensures.ordered c.in-Some.ensures.steps c.areas.invariant c.in_ok-add.ensures

pub returns : goal.returns
returns c = copied c.areas.areas c.areas.place-iterator c.args.self.now c.in-None.ensures.steps.0 c.areas.invariant
