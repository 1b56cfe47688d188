use Rattle.std.proofs.Common.{◌∙◌, sym, arith}
use Rattle.ld_ids.proofs.Members.{share_here, share_skips, share_later, share_past}
use Rattle.ld_ids.proofs.set.NodeSet.meets.Goals as goal
use Rattle.ld_ids.proofs.set.NodeSet.meets.Goals.{else-self-index-via-then-self-index+else-other-index, else-self-index-via-else-self-index}

pub returns-then-other-index : goal.returns-then-other-index
returns-then-other-index c =
    sym (c.loop-index.invariant ∙ share_here c.loop-index.index _ _ (omega (arith, c.self.invariant)) c.if-self-index.true c.if-other-index.true)

pub loop-index-preserved : goal.loop-index-preserved
loop-index-preserved c =
    elim c.else-self-index.branch [
      | else-self-index-via-then-self-index+else-other-index w ↦ c.loop-index.invariant ∙ share_later c.loop-index.index _ _ (omega (arith, c.self.invariant)) w.if-other-index.false
      | else-self-index-via-else-self-index w ↦ c.loop-index.invariant ∙ share_skips c.loop-index.index _ _ (omega (arith, c.self.invariant)) w.if-self-index.false
    ]

pub returns : goal.returns
returns c = sym (c.loop-index.invariant ∙ share_past c.loop-index.index _ _ (omega (arith, c.self.invariant)))
