use Rattle.std.proofs.Common.{◌≡◌, ◌∙◌, [], ◌∷◌, sym, ap, subst, Err}
use Rattle.ld_schedule.specs.Reading.{IsRead, IsText}
use Rattle.ld_schedule.specs.Grammar.{nodes_text}
use Rattle.ld_schedule.specs.Rising.{AreAbove}
use Rattle.ld_ids.specs.Set.{with_node}
use Rattle.ld_schedule.proofs.Rising.{flags_of}
use Rattle.ld_schedule.proofs.Lists.{one_read, fault_number, fault_front, fault_last, fault_later, more_read}
use Rattle.ld_schedule.proofs.nodes.+nodes_above.Goals as goal

pub returns-in-Ok : goal.returns-in-Ok
returns-in-Ok t c =
    let set : c.with.result ≡ flags_of (c.in-Ok.node ∷ []) = c.with.ensures.flags ∙ ap (with_node c.in-Ok.node) c.empty.ensures in
    subst (IsText (AreAbove c.args.low) nodes_text c.args.line.now) (sym set) (one_read c.args.low c.in-Ok.node c.args.line.now c.in-Ok.ensures)

pub returns-in-Err : goal.returns-in-Err
returns-in-Err t c = fault_number c.args.low c.args.line.now c.in-Err.fault c.in_default.ensures.none c.in-Err.ensures

pub returns-in-Err-node_above : goal.returns-in-Err-node_above
returns-in-Err-node_above t c = fault_front c.args.low c.args.line.now c.in-Some.front.now c.in-Some.rest.now c.in-Err-node_above.fault c.in-Some.ensures.found.1 c.in-Some.ensures.found.0 c.in-Err-node_above.ensures

pub returns-then-number-eq16 : goal.returns-then-number-eq16
returns-then-number-eq16 t c =
    fault_last c.args.low c.in-Ok-node_above.node c.args.line.now c.in-Some.front.now c.in-Some.rest.now c.in-Some.ensures.found.1 c.in-Some.ensures.found.0 c.in-Ok-node_above.ensures (sym c.number.ensures.value ∙ c.if-number-eq16.true)

pub returns-in-Ok-nodes_above : goal.returns-in-Ok-nodes_above
returns-in-Ok-nodes_above t c =
    let others = subst (λ n. IsText (AreAbove n) nodes_text c.in-Some.rest.now c.in-Ok-nodes_above.set) c.number-2.ensures.value c.in-Ok-nodes_above.ensures in
    subst (IsText (AreAbove c.args.low) nodes_text c.args.line.now) (sym c.with-in-Ok-nodes_above.ensures.flags)
    (more_read c.args.low c.in-Ok-node_above.node c.args.line.now c.in-Some.front.now c.in-Some.rest.now c.in-Ok-nodes_above.set c.in-Some.ensures.found.1 c.in-Ok-node_above.ensures others)

pub returns-in-Err-nodes_above : goal.returns-in-Err-nodes_above
returns-in-Err-nodes_above t c =
    let others = subst (λ n. IsRead (AreAbove n) nodes_text c.in-Some.rest.now (Err c.in-Err-nodes_above.fault)) c.number-2.ensures.value c.in-Err-nodes_above.ensures in
    subst (λ f. IsRead (AreAbove c.args.low) nodes_text c.args.line.now (Err f)) (sym c.further.ensures)
    (fault_later c.args.low c.in-Ok-node_above.node c.args.line.now c.in-Some.front.now c.in-Some.rest.now c.in-Err-nodes_above.fault c.in-Some.ensures.found.1 c.in-Some.ensures.found.0 c.in-Ok-node_above.ensures others)
