use Rattle.std.proofs.Common.{arith}
use Rattle.ld_recovery.proofs.Settling.{all_place, places_then}
use Rattle.ld_recovery.proofs.Marking.{first_again}
use Rattle.ld_recovery.proofs.storing.settle_first.Goals as goal

pub returns-then-count-done-clause-items : goal.returns-then-count-done-clause-items
returns-then-count-done-clause-items c = first_again c.args.count c.args.done c.args.node c.args.items.now.items c.if-count-done.true c.requires.done

pub items-init : goal.items-init
items-init c = record { items = first_again c.args.done c.args.done c.args.node c.args.items.now.items (omega arith) c.requires.done; left = omega arith; fresh = omega arith; few = omega arith; few_fresh = omega arith }

pub settle_at-gain-requires : goal.settle_at-gain-requires
settle_at-gain-requires c = all_place c.items.place c.args.count c.args.node c.args.items.now.items c.items.items.items c.items.invariant.items c.items-test.true c.requires.count

pub items-preserved : goal.items-preserved
items-preserved c = record {
  items = places_then c.items.place c.args.node c.args.items.now.items c.items.items.items c.settle_at-gain.new.items.items c.items.invariant.items c.settle_at-gain.ensures.items;
  left = omega (arith, c.items.invariant.left, c.settle_at-gain.ensures.left);
  fresh = omega (arith, c.items.invariant.fresh, c.settle_at-gain.ensures.fresh);
  few = omega (arith, c.items.invariant.few, c.settle_at-gain.ensures.one);
  few_fresh = omega (arith, c.items.invariant.few_fresh, c.settle_at-gain.ensures.one_fresh);
}
