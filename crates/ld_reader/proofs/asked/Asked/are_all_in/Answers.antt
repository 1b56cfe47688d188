use Rattle.std.proofs.Common.{arith, sym}
use Rattle.std.proofs.lemmas.Grind.{common_steps}
use Rattle.ld_ids.specs.Set.{members}
use Rattle.ld_table.specs.Words.{is_in}
use Rattle.ld_reader.proofs.Keys.{all_keys}
use Rattle.ld_table.proofs.Places.{drop_at_place, there_is}
use Rattle.ld_reader.proofs.asked.Asked.are_all_in.Goals as goal
use Rattle.ld_reader.proofs.asked.Asked.are_all_in.Goals.{in-Some+else-not-contains, in_default}

pub returns-then-not-contains : goal.returns-then-not-contains
returns-then-not-contains c =
    let e = drop_at_place (members c.nodes-nodes.result) c.loop-place.place c.in-Some.node (sym c.in-Some.ensures.node) in
    let k = all_keys (λ y. is_in y c.args.told.now) c.args.self.now.lost in
    grind (arith, common_steps)

pub loop-place-preserved : goal.loop-place-preserved
loop-place-preserved c = elim c.match-nth.branch [
  | in-Some+else-not-contains w ↦
      let e = drop_at_place (members c.nodes-nodes.result) c.loop-place.place w.in-Some.node (sym w.in-Some.ensures.node) in
      grind (arith, common_steps)
  | in_default w ↦ absurd (there_is (members c.nodes-nodes.result) c.loop-place.place (omega arith) (sym w.in_default.ensures.node))
]

pub returns : goal.returns
returns c = let k = all_keys (λ y. is_in y c.args.told.now) c.args.self.now.lost in grind (arith, common_steps)
