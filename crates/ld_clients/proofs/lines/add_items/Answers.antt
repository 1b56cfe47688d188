use Rattle.std.proofs.Common.{arith, append_assoc}
use Rattle.ld_clients.proofs.Items.{given_lines_more}
use Rattle.ld_clients.proofs.lines.add_items.Goals as goal

pub loop-given-preserved : goal.loop-given-preserved
loop-given-preserved c = rw (c.in_ok-add_item.ensures, c.loop-given.invariant, given_lines_more c.args.style c.args.name.now c.args.items.now c.loop-given.given-index c.given-item.result (omega arith) c.given-item.is, append_assoc)
