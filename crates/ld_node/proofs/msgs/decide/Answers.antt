use Rattle.std.proofs.Common.{◌≡◌, ◌∙◌, refl, sym, ap, subst, None}
use Rattle.std.proofs.lemmas.Bool.{and_parts}
use Rattle.ld_table.specs.Words.{is_in}
use Rattle.ld_op.specs.Plain.{log_of}
use Rattle.ld_op.specs.Cells.{each_log}
use Rattle.ld_op.specs.Handles.{handled_by}
use Rattle.ld_msg.specs.Bounds.{Fits, ballot_of}
use Rattle.ld_node_bounds.specs.States.{last_carried}
use Rattle.ld_node_bounds.proofs.Ops.{summaries_are}
use Rattle.ld_node.specs.Changes.{AreChanges}
use Rattle.ld_node.specs.Handling.{reply_in}
use Rattle.ld_node.specs.Msgs.{is_node}
use Rattle.ld_node.proofs.Told.{itself, log_is}
use Rattle.ld_node.proofs.Changes.{handled_change}
use Rattle.ld_node.proofs.Quiet.{changes_of, told_number, number_keeps_none}
use Rattle.ld_node.proofs.Either.{either_of, accept_changes, accept_none, by_index, decided, decided_nowhere}
use Rattle.ld_node.proofs.Sends.{sends_are, goes_to}
use Rattle.ld_node.proofs.msgs.decide.Goals as goal

pub returns-then-not-is_for-clause-handled : goal.returns-then-not-is_for-clause-handled
returns-then-not-is_for-clause-handled c f = decided_nowhere f c.args.msg.now _ c.args.id c.args.known.now c.args.released.now.entries c.args.plain.now.state (sym c.is_for.ensures ∙ c.if-not-is_for.true) refl refl

pub returns-clause-handled : goal.returns-clause-handled
returns-clause-handled c f = decided f c.args.msg.now c.in_ok-handled.handled c.args.id c.args.known.now c.args.released.now.entries c.args.plain.now.state c.released_in-before.result (sym c.is_for.ensures ∙ c.if-not-is_for.false) c.released_in-before.ensures.value (c.in_ok-handled.ensures.handled f)

pub returns-clause-change : goal.returns-clause-change
returns-clause-change c op is =
    let m = c.args.msg.now in
    let p = c.args.plain.now.state in
    let done = c.in_ok-handled.handled in
    let known = c.args.known.now in
    let to = goes_to c.args.id m.to (and_parts (is_node c.args.id m.to) (is_in m.log known.logs) (sym c.is_for.ensures ∙ c.if-not-is_for.false)).0 in
    let fits = subst (λ w. Fits m.from w m.body) to c.requires.msg.fits in
    let with_index = c.in_ok-handled.ensures.handled itself in
    either_of itself m (λ o. AreChanges o) done.op op done.answer is
    (subst (λ o. AreChanges o) (sym with_index.op) (changes_of _ (λ o same. handled_change (log_of p m.log) (λ e y there. summaries_are last_carried p m.log e y c.requires.well there) c.args.id p.generation m.log c.released_in-before.result m.from m.body o c.requires.msg.log fits
    (ap (λ g. (handled_by c.args.id p.generation g m.log (ballot_of m.from) c.released_in-before.result m.body).op) (sym (log_is (log_of p m.log))) ∙ same))))
    tt
    (accept_changes m.log c.args.id m.from m.body c.requires.msg.log fits)

pub returns-clause-messages : goal.returns-clause-messages
returns-clause-messages c =
    let m = c.args.msg.now in
    let p = c.args.plain.now.state in
    let done = c.in_ok-handled.handled in
    sends_are c.args.id c.args.known.now c.released_in-before.result p m (reply_in m done.answer) c.number-node.ensures.bounds c.released_in-before.ensures.bound c.requires.well c.requires.msg
    (sym c.is_for.ensures ∙ c.if-not-is_for.false) (by_index m done c.args.id p.generation m.log (ballot_of m.from) c.released_in-before.result (log_of p m.log) (c.in_ok-handled.ensures.handled itself))

pub returns-clause-released : goal.returns-clause-released
returns-clause-released c op y is number =
    let m = c.args.msg.now in
    let p = c.args.plain.now.state in
    let done = c.in_ok-handled.handled in
    let told = told_number c.args.id c.args.known.now m y number in
    either_of itself m (λ o. o ≡ None) done.op op done.answer is
    ((c.in_ok-handled.ensures.handled itself).op ∙ number_keeps_none c.args.id p.generation (each_log itself (log_of p m.log)) m.log (ballot_of m.from) c.released_in-before.result m.body y told)
    refl (accept_none m.log (ballot_of m.from) m.body y told)
