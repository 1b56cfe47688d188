use Rattle.std.proofs.Common.{arith}
use Rattle.ld_sequencer.proofs.Waves.{raised_more}
use Rattle.ld_sequencer.proofs.row.raise_all.Goals as goal

pub waiting-preserved : goal.waiting-preserved
waiting-preserved c = raised_more c.args.waiting.now.items c.waiting.waiting.items c.raise_at.new.waiting.items c.waiting.place (let a = c.len-place-end.ensures in omega arith) c.waiting.invariant c.raise_at.ensures.items
