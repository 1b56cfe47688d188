use Rattle.std.proofs.Common.{◌∙◌, sym, arith}
use Rattle.ld_ids.specs.Set.{members}
use Rattle.ld_table.proofs.Places.{there_is}
use Rattle.ld_recovery.proofs.Posting.{lost_one, found_one}
use Rattle.ld_recovery.proofs.storing.count_left.Goals as goal
use Rattle.ld_recovery.proofs.storing.count_left.Goals.{in-Some+then-not-has, in-Some+else-not-has, in_default}

pub nodes-preserved : goal.nodes-preserved
nodes-preserved c = elim c.match-nth.branch [
  | in-Some+then-not-has w ↦
      let more = found_one c.args.lost.now (members c.args.set.now) c.nodes.place w.in-Some.node (sym w.in-Some.ensures.node) (sym w.has.ensures ∙ w.if-not-has.true) in
      (omega (arith, w.count-is, more, c.nodes.invariant.0), omega (arith, w.count-is, c.nodes.invariant.1))
  | in-Some+else-not-has w ↦
      let more = lost_one c.args.lost.now (members c.args.set.now) c.nodes.place w.in-Some.node (sym w.in-Some.ensures.node) (sym w.has.ensures ∙ w.if-not-has.false) in
      (omega (arith, w.count-is, more, c.nodes.invariant.0), omega (arith, w.count-is, c.nodes.invariant.1))
  | in_default w ↦ absurd (there_is (members c.args.set.now) c.nodes.place (omega (arith, c.nodes-test.true, c.len-place-end.ensures.count)) (sym w.in_default.ensures.node))
]
