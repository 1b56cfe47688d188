use Rattle.std.proofs.Common.{◌∙◌, sym, arith}
use Rattle.ld_ids.proofs.Members.{node_is, nth_here, nth_later, nth_past, nth_skips}
use Rattle.ld_ids.proofs.set.NodeSet.nth.Goals as goal
use Rattle.ld_ids.proofs.set.NodeSet.nth.Goals.{then-self-from+else-left-eq0, else-self-from}

pub returns-then-left-eq0-clause-node : goal.returns-then-left-eq0-clause-node
returns-then-left-eq0-clause-node c =
    let up = rw c.from.ensures at c.if-self-from.true in
    node_is c.new.result _ c.new.ensures.some c.new.ensures.none (omega arith, omega arith)
    ∙ sym (c.loop-index.invariant ∙ nth_here c.loop-index.index _ _ (omega (arith, c.self.invariant)) up c.if-left-eq0.true)

pub loop-index-preserved : goal.loop-index-preserved
loop-index-preserved c =
    elim c.if-self-from.branch [
      | then-self-from+else-left-eq0 w ↦
          let up = rw c.from.ensures at w.if-self-from.true in
          rw w.left-is (c.loop-index.invariant ∙ nth_later c.loop-index.index _ _ (omega (arith, c.self.invariant)) up w.if-left-eq0.false)
      | else-self-from w ↦
          let down = rw c.from.ensures at w.if-self-from.false in
          rw w.left-is (c.loop-index.invariant ∙ nth_skips c.loop-index.index _ _ (omega (arith, c.self.invariant)) down)
    ]

pub returns-clause-node : goal.returns-clause-node
returns-clause-node c = sym (c.loop-index.invariant ∙ nth_past c.loop-index.index _ _ (omega (arith, c.self.invariant)))
