use Rattle.ld_op.proofs.Rising.{summary_behind}
use Rattle.ld_op.proofs.index_read.read_based_summary.Goals as goal

pub overflow_sub-next : goal.overflow_sub-next
overflow_sub-next c = summary_behind c.args.bytes.now c.in_ok-epoch.epoch c.in_ok-epoch.at_summary c.in_ok-summary.summary c.in_ok-summary.next c.in_ok-summary.ensures.ok
