use Rattle.std.proofs.Common.{refl, take, arith}
use Rattle.std.proofs.lemmas.List.{length-take}
use Rattle.ld_ids.specs.Set.{members_from}
use Rattle.ld_ids.proofs.Members.{count_bound, count-more}
use Rattle.ld_ids.proofs.set.NodeSet.len.Goals as goal
use Rattle.ld_ids.proofs.set.NodeSet.len.Goals.{then-there, else-there}

pub loop-there-init : goal.loop-there-init
unfolding members_from
loop-there-init c = refl

pub overflow_add-count : goal.overflow_add-count
overflow_add-count c =
    omega (arith, c.self.invariant, count_bound 1 (take c.loop-there.there-index c.self.inside.has), length-take c.loop-there.there-index c.self.inside.has)

pub loop-there-preserved : goal.loop-there-preserved
loop-there-preserved c =
    let more = count-more c.self.inside.has c.loop-there.there-index (omega (arith, c.self.invariant, c.loop-there-test.true)) in
    elim c.if-there.branch [
      | then-there w ↦ let now = rw w.if-there.true at more in omega (arith, w.count-is, now, c.loop-there.invariant)
      | else-there w ↦ let now = rw w.if-there.false at more in omega (arith, w.count-is, now, c.loop-there.invariant)
    ]

pub returns-clause-bound : goal.returns-clause-bound
returns-clause-bound c =
    omega (arith, c.self.invariant, count_bound 1 (take c.loop-there.there-index c.self.inside.has), length-take c.loop-there.there-index c.self.inside.has)
