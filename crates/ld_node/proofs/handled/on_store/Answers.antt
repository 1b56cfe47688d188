use Rattle.std.proofs.Common.{◌∙◌, sym, ap}
use Rattle.ld_op.proofs.Cells.{log_same}
use Rattle.ld_msg.specs.Bounds.{ballot_of}
use Rattle.ld_seal.specs.Decided.{told, store_in}
use Rattle.ld_store.specs.Open.{within}
use Rattle.ld_node.specs.Handling.{number_of, store_reply}
use Rattle.ld_node.proofs.Compared.{compared_is, compared_stays}
use Rattle.ld_node.proofs.Handles.{store_handled, store_stays}
use Rattle.ld_node.proofs.handled.on_store.Goals as goal

pub returns-clause-handled : goal.returns-clause-handled
returns-clause-handled c f id released =
    let m = c.args.msg.now in
    let p = c.args.plain.now.state in
    let d = c.on_store-decision.result in
    store_handled f m id p.generation released _ d _ c.requires
    (ap (λ g. told p.generation (store_in g (ballot_of m.from) m.body)) (sym (log_same f p m.log)) ∙ compared_is f p m d (c.on_store-decision.ensures.other f) (λ place is. c.on_store-decision.ensures.compare place is f))
    c.in_ok-op.ensures (c.reply_to_store.ensures ∙ ap (λ n. store_reply n d) c.number_stored.ensures)

pub returns-clause-stays : goal.returns-clause-stays
returns-clause-stays c count stays =
    let m = c.args.msg.now in
    let d = c.on_store-decision.result in
    store_stays (within count) d (number_of m.body) _ (c.reply_to_store.ensures ∙ ap (λ n. store_reply n d) c.number_stored.ensures)
    (λ place is. compared_stays c.args.plain.now.state m place (λ f. c.on_store-decision.ensures.compare place is f) (c.on_store-decision.ensures.length place is) count stays)
