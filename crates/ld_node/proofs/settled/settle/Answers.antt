use Rattle.std.proofs.lemmas.Result.{err_from_is_err_and}
use Rattle.ld_store.specs.Open.{disk_of}
use Rattle.ld_node.proofs.Refusals.{disk_or, disk_same}
use Rattle.ld_node.proofs.Filled.{nothing_op, nothing_answer, whole_op, whole_answer, page_op, page_answer}
use Rattle.ld_node.proofs.ByIndex.{for_nothing, for_whole, for_page}
use Rattle.ld_node.proofs.settled.settle.Goals as goal

pub returns-in-Nothing-clause-op : goal.returns-in-Nothing-clause-op
returns-in-Nothing-clause-op g c = nothing_op (g.D.Disk.seen (disk_of c.args.store.now)) c.args.msg.now c.args.handled.op c.args.handled.answer c.in-Nothing.is

pub returns-in-Nothing-clause-answer : goal.returns-in-Nothing-clause-answer
returns-in-Nothing-clause-answer g c = nothing_answer (g.D.Disk.seen (disk_of c.args.store.now)) c.args.msg.now c.args.handled.op c.args.handled.answer c.in-Nothing.is

pub returns-in-Whole-clause-op : goal.returns-in-Whole-clause-op
returns-in-Whole-clause-op g c = whole_op (g.D.Disk.seen (disk_of c.args.store.now)) c.args.msg.now c.args.handled.op c.args.handled.answer c.in-Whole.body c.in-Whole.is

pub returns-in-Whole-clause-answer : goal.returns-in-Whole-clause-answer
returns-in-Whole-clause-answer g c = whole_answer (g.D.Disk.seen (disk_of c.args.store.now)) c.args.msg.now c.args.handled.op c.args.handled.answer c.in-Whole.body c.in-Whole.is

pub returns-in_ok-filled-in-Page-clause-op : goal.returns-in_ok-filled-in-Page-clause-op
returns-in_ok-filled-in-Page-clause-op g c = page_op (g.D.Disk.seen (disk_of c.args.store.now)) c.args.msg.now c.args.handled.op c.args.handled.answer c.in-Page.page c.in-Page.is

pub returns-in_ok-filled-in-Page-clause-answer : goal.returns-in_ok-filled-in-Page-clause-answer
returns-in_ok-filled-in-Page-clause-answer g c = page_answer (g.D.Disk.seen (disk_of c.args.store.now)) c.args.msg.now c.args.handled.op c.args.handled.answer c.in-Page.page c.in_ok-filled-in-Page.filled c.in-Page.is c.in_ok-filled-in-Page.ensures.filled

pub returns-in_err-filled-in-Page-clause-ahead : goal.returns-in_err-filled-in-Page-clause-ahead
returns-in_err-filled-in-Page-clause-ahead g c p holds =
    let q = err_from_is_err_and c.from_residual.result c.from_residual.ensures.1 in
    rw (q.1, q.2) (disk_or c.in_err-filled-in-Page.field-0.0 _ (c.in_err-filled-in-Page.ensures.ahead p holds))

pub returns-in_err-there-in-Compare-clause-ahead : goal.returns-in_err-there-in-Compare-clause-ahead
returns-in_err-there-in-Compare-clause-ahead g c p holds =
    let q = err_from_is_err_and c.from_residual-in_err-there-in-Compare.result c.from_residual-in_err-there-in-Compare.ensures.1 in
    rw (q.1, q.2) (disk_same c.in_err-there-in-Compare.field-0.0 _ (c.in_err-there-in-Compare.ensures.ahead p holds))

pub returns-in-Nothing-clause-some : goal.returns-in-Nothing-clause-some
returns-in-Nothing-clause-some g c = for_nothing c.args.msg.now c.args.handled.op c.args.handled.answer c.in-Nothing.is

pub returns-in-Whole-clause-some : goal.returns-in-Whole-clause-some
returns-in-Whole-clause-some g c = for_whole c.args.msg.now c.args.handled.op c.args.handled.answer c.in-Whole.body c.in-Whole.is

pub returns-in_ok-filled-in-Page-clause-some : goal.returns-in_ok-filled-in-Page-clause-some
returns-in_ok-filled-in-Page-clause-some g c = for_page c.args.msg.now c.args.handled.op c.args.handled.answer c.in-Page.page c.in-Page.is
