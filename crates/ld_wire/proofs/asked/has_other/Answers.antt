use Rattle.std.proofs.Common.{arith, sym}
use Rattle.std.proofs.lemmas.Grind.{common_steps}
use Rattle.ld_ids.specs.Set.{members}
use Rattle.ld_table.proofs.Places.{drop_at_place, there_is}
use Rattle.ld_wire.proofs.asked.has_other.Goals as goal
use Rattle.ld_wire.proofs.asked.has_other.Goals.{in-Some+else-not-has, in_default}

pub returns-then-not-has : goal.returns-then-not-has
returns-then-not-has c =
    let e = drop_at_place (members c.args.set.now) c.loop-place.place c.in-Some.node (sym c.in-Some.ensures.node) in
    grind (arith, common_steps)

pub loop-place-preserved : goal.loop-place-preserved
loop-place-preserved c = elim c.match-nth.branch [
  | in-Some+else-not-has w ↦
      let e = drop_at_place (members c.args.set.now) c.loop-place.place w.in-Some.node (sym w.in-Some.ensures.node) in
      grind (arith, common_steps)
  | in_default w ↦ absurd (there_is (members c.args.set.now) c.loop-place.place (omega arith) (sym w.in_default.ensures.node))
]
