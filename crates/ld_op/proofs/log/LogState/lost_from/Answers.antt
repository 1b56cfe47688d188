use Rattle.std.proofs.Common.{sym, arith}
use Rattle.ld_op.proofs.Nexts.{next_of, last_of, last_none}
use Rattle.ld_op.proofs.log.LogState.lost_from.Goals as goal

pub returns-then-epoch-lost_to-clause-found : goal.returns-then-epoch-lost_to-clause-found
returns-then-epoch-lost_to-clause-found c = next_of c.args.self.now.log c.args.from (c.in-Some.epoch, c.in-Some.summary) c.summaries_rise.ensures.ordered (sym c.in-Some.ensures) (let t = c.if-epoch-lost_to.true in let l = c.lost_to.ensures in omega arith)

pub returns-else-epoch-lost_to-clause-none : goal.returns-else-epoch-lost_to-clause-none
returns-else-epoch-lost_to-clause-none c = last_of c.args.self.now.log c.args.from (c.in-Some.epoch, c.in-Some.summary) c.summaries_rise.ensures.ordered (sym c.in-Some.ensures) (let t = c.if-epoch-lost_to.false in let l = c.lost_to.ensures in omega arith)

pub returns-in-None-clause-none : goal.returns-in-None-clause-none
returns-in-None-clause-none c = last_none c.args.self.now.log c.args.from (sym c.in-None.ensures)
