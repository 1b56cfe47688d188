use Rattle.std.proofs.Common.{arith, sym}
use Rattle.std.proofs.lemmas.Grind.{common_steps}
use Rattle.ld_ids.specs.Set.{members}
use Rattle.ld_table.proofs.Places.{drop_at_place, there_is}
use Rattle.ld_rounds.proofs.queues.Queues.any.Goals as goal
use Rattle.ld_rounds.proofs.queues.Queues.any.Goals.{in-Some+else-has, in_default}

pub returns-then-has : goal.returns-then-has
returns-then-has c =
    let e = drop_at_place (members c.args.set.now) c.nodes.place c.in-Some.node (sym c.in-Some.ensures.node) in
    grind (arith, common_steps)

pub nodes-preserved : goal.nodes-preserved
nodes-preserved c = elim c.match-nth.branch [
  | in-Some+else-has w ↦
      let e = drop_at_place (members c.args.set.now) c.nodes.place w.in-Some.node (sym w.in-Some.ensures.node) in
      grind (arith, common_steps)
  | in_default w ↦ absurd (there_is (members c.args.set.now) c.nodes.place (omega arith) (sym w.in_default.ensures.node))
]
