use Rattle.std.proofs.Common.{◌==◌, arith}
use Rattle.ld_recovery.proofs.Settling.{stay_from}
use Rattle.ld_recovery.proofs.Marking.{marked_still}
use Rattle.ld_recovery.proofs.Counting.{counted_more, count_fits}
use Rattle.ld_recovery.proofs.storing.Storing.store.Goals as goal

pub invariant_of-self : goal.invariant_of-self
invariant_of-self c =
    let a = c.self.inside in
    record {
      numbers = stay_from (λ s. s == c.args.number) c.args.node a.first a.items.items c.settle_number-gain.new.items.items c.self.invariant.numbers c.settle_number-gain.ensures.items;
      lack = omega (arith, c.self.invariant.lack, c.settle_number-gain.ensures.left);
      good = c.self.invariant.good;
      some = c.self.invariant.some;
      marked = marked_still (λ s. s == c.args.number) c.args.node a.trimmed a.items.items c.settle_number-gain.new.items.items c.self.invariant.marked c.settle_number-gain.ensures.items;
      counted = counted_more (λ s. s == c.args.number) c.args.node c.settle_number-gain.result.fresh a.settled c.add.new.self a.items.items c.settle_number-gain.new.items.items c.self.invariant.counted c.settle_number-gain.ensures.items c.settle_number-gain.ensures.fresh c.add.ensures;
    }

pub add-requires : goal.add-requires
add-requires c =
    let v = c.settle_number-gain.new.items in
    omega (arith, count_fits c.args.node c.settle_number-gain.result.fresh c.self.inside.settled c.self.inside.items.items v.items c.number.ensures.bounds.0 c.self.invariant.counted c.settle_number-gain.ensures.fresh, v.ok, v.small)
