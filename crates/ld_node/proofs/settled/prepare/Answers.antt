use Rattle.std.proofs.Common.{inr, ⊎_elim, ◌∙◌, sym, ap, subst}
use Rattle.ld_op.specs.Handles.{answer_message}
use Rattle.ld_node_bounds.specs.Messages.{AreMessages}
use Rattle.ld_store.specs.Open.{disk_of, index_of}
use Rattle.ld_node.specs.declared.fault.NodeFault.TheVariants as nodes
use Rattle.ld_node.proofs.Filled.{settled_op, settled_answer, none_past, passed_from}
use Rattle.ld_store.proofs.Ahead.{told_bytes, told_inside}
use Rattle.ld_node.proofs.Lengths.{answer_too}
use Rattle.ld_node.proofs.ByIndex.{by_index}
use Rattle.ld_node.proofs.settled.prepare.Goals as goal

pub returns-clause-op : goal.returns-clause-op
returns-clause-op g c holds =
    let store = c.args.store.now in
    settled_op (g.D.Disk.seen (disk_of store)) _ c.args.msg.now c.args.id c.args.known.now c.args.released.now.entries (index_of store) c.index.result.now.state c.in_ok-handled.handled
    holds.rests.bytes_are c.index.ensures.state c.in_ok-handled.ensures.handled _ c.in_ok-settled.ensures.op

pub returns-clause-replies : goal.returns-clause-replies
returns-clause-replies g c holds =
    let store = c.args.store.now in
    c.in_ok-replies.ensures ∙ ap (answer_message c.args.id c.args.msg.now)
    (settled_answer (g.D.Disk.seen (disk_of store)) _ c.args.msg.now c.args.id c.args.known.now c.args.released.now.entries (index_of store) c.index.result.now.state c.in_ok-handled.handled
    holds.rests.bytes_are c.index.ensures.state c.in_ok-handled.ensures.handled _ c.in_ok-settled.ensures.answer)

pub returns-clause-messages : goal.returns-clause-messages
returns-clause-messages g c =
    subst (λ r. AreMessages r) (sym c.in_ok-replies.ensures)
    (answer_too (λ _. 0) c.args.id c.args.msg.now _ _ c.in_ok-settled.ensures.lengths c.in_ok-handled.ensures.messages)

pub returns-in_err-settled-clause-damaged : goal.returns-in_err-settled-clause-damaged
returns-in_err-settled-clause-damaged g c place holds is =
    let store = c.args.store.now in
    none_past (g.D.Disk.seen (disk_of store)) _ (index_of store) c.index.result.now.state c.in_ok-handled.handled.answer holds.rests.bytes_are c.index.ensures.state holds.inside c.in_ok-handled.ensures.stays
    (c.in_err-settled.ensures.damaged place (passed_from c.from_residual-in_err-settled.result c.in_err-settled.field-0.0 (nodes.Damaged place) c.from_residual-in_err-settled.ensures is))

pub returns-clause-op_staged : goal.returns-clause-op_staged
returns-clause-op_staged g c p holds =
    let store = c.args.store.now in
    settled_op (g.D.Disk.seen (disk_of store)) _ c.args.msg.now c.args.id c.args.known.now c.args.released.now.entries (index_of store) c.index.result.now.state c.in_ok-handled.handled
    (told_bytes g.D.Disk.seen g.D.Disk.may_leave store p holds).1 c.index.ensures.state c.in_ok-handled.ensures.handled _ c.in_ok-settled.ensures.op

pub returns-clause-replies_staged : goal.returns-clause-replies_staged
returns-clause-replies_staged g c p holds =
    let store = c.args.store.now in
    c.in_ok-replies.ensures ∙ ap (answer_message c.args.id c.args.msg.now)
    (settled_answer (g.D.Disk.seen (disk_of store)) _ c.args.msg.now c.args.id c.args.known.now c.args.released.now.entries (index_of store) c.index.result.now.state c.in_ok-handled.handled
    (told_bytes g.D.Disk.seen g.D.Disk.may_leave store p holds).1 c.index.ensures.state c.in_ok-handled.ensures.handled _ c.in_ok-settled.ensures.answer)

pub returns-in_err-settled-clause-damaged_staged : goal.returns-in_err-settled-clause-damaged_staged
returns-in_err-settled-clause-damaged_staged g c p place holds is =
    let store = c.args.store.now in
    none_past (g.D.Disk.seen (disk_of store)) _ (index_of store) c.index.result.now.state c.in_ok-handled.handled.answer (told_bytes g.D.Disk.seen g.D.Disk.may_leave store p holds).1 c.index.ensures.state
    (told_inside g.D.Disk.seen g.D.Disk.may_leave store p holds) c.in_ok-handled.ensures.stays
    (c.in_err-settled.ensures.damaged place (passed_from c.from_residual-in_err-settled.result c.in_err-settled.field-0.0 (nodes.Damaged place) c.from_residual-in_err-settled.ensures is))

pub returns-in_err-replies-clause-ahead : goal.returns-in_err-replies-clause-ahead
returns-in_err-replies-clause-ahead g c p holds = ⊎_elim (λ e. absurd (cc e)) (λ still. inr still) (c.in_ok-settled.ensures.ahead p holds)

pub returns-clause-by_index : goal.returns-clause-by_index
returns-clause-by_index g c =
    by_index c.args.id c.args.known.now c.args.released.now.entries (index_of c.args.store.now) c.index.result.now.state c.args.msg.now c.in_ok-handled.handled _ _ _ c.index.ensures.state c.in_ok-handled.ensures.handled
    c.in_ok-settled.ensures.some c.in_ok-settled.ensures.lengths c.in_ok-replies.ensures

pub returns-clause-held_staged : goal.returns-clause-held_staged
returns-clause-held_staged g c p holds = ⊎_elim (λ e. absurd (cc e)) (λ still. still) (c.in_ok-settled.ensures.ahead p holds)

pub returns-clause-ahead : goal.returns-clause-ahead
returns-clause-ahead g c p holds = ⊎_elim (λ e. absurd (cc e)) (λ still. inr still) (c.in_ok-settled.ensures.ahead p holds)
