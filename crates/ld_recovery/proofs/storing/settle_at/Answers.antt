use Rattle.std.proofs.Common.{◌∙◌, ap}
use Rattle.ld_table.specs.Words.{is_in}
use Rattle.ld_recovery.proofs.Settling.{settles_at, counts_at}
use Rattle.ld_recovery.proofs.Counting.{fresh_at}
use Rattle.ld_recovery.proofs.storing.settle_at.Goals as goal

pub returns-clause-items : goal.returns-clause-items
returns-clause-items c = settles_at c.args.place c.args.node c.args.items.now.items c.index_mut-item.result.now c.settle.new.self c.requires c.index_mut-item.ensures.value c.settle.ensures

pub returns-clause-left : goal.returns-clause-left
returns-clause-left c = counts_at c.args.factor c.args.place c.args.node c.one_if.result c.args.items.now.items c.index_mut-item.result.now c.settle.new.self c.lacks-lacked.result c.lacks-lacks.result c.requires c.index_mut-item.ensures.value c.settle.ensures c.one_if.ensures.value c.lacks-lacked.ensures c.lacks-lacks.ensures

pub returns-clause-fresh : goal.returns-clause-fresh
returns-clause-fresh c = fresh_at c.args.place c.args.node c.one_if-2.result c.args.items.now.items c.index_mut-item.result.now c.settle.new.self c.has-had.result c.requires c.index_mut-item.ensures.value c.settle.ensures (c.has-had.ensures ∙ ap (is_in c.args.node) c.settled.ensures) c.one_if-2.ensures.value
