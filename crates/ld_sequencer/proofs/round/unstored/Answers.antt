use Rattle.std.proofs.Common.{◌+◌, ◌++◌, drop, ap, sym, ◌∙◌, arith}
use Rattle.ld_table.specs.Words.{without}
use Rattle.ld_table.proofs.Places.{there_is}
use Rattle.ld_sequencer.proofs.Sends.{kept_one, is_new}
use Rattle.ld_sequencer.proofs.round.unstored.Goals as goal
use Rattle.ld_sequencer.proofs.round.unstored.Goals.{in-Some, in_default}

pub add_unstored-requires : goal.add_unstored-requires
add_unstored-requires c = is_new c.args.pending.now.append.stored c.args.nodes.now c.nodes.left c.nodes.place c.in-Some.node c.nth.ensures.distinct c.nodes.invariant (sym c.nth.ensures.node ∙ c.in-Some.is)

pub nodes-preserved : goal.nodes-preserved
nodes-preserved c = elim c.match-nth.branch [
  | in-Some w ↦
      let xs = c.args.pending.now.append.stored in
      ap (λ l. l ++ without xs (drop (c.nodes.place + 1) c.args.nodes.now)) (w.left-is ∙ w.add_unstored.ensures)
      ∙ (kept_one xs c.args.nodes.now c.nodes.place w.in-Some.node c.nodes.left (sym c.nth.ensures.node ∙ w.in-Some.is) ∙ c.nodes.invariant)
  | in_default w ↦ absurd (there_is c.args.nodes.now c.nodes.place (let a = c.len-place-end.ensures.count in omega arith) (sym c.nth.ensures.node ∙ w.in_default.is))
]
