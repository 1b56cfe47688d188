use Rattle.std.proofs.Common.{◌∙◌, ◌++◌, [], sym, ap, subst, nat_lt}
use Rattle.std.specs.Option.{is_some}
use Rattle.ld_ids.specs.Set.{members}
use Rattle.ld_msg.specs.Network.{posted}
use Rattle.ld_msg.specs.declared.msg.Who.TheVariants as whos
use Rattle.ld_op.specs.Plain.{log_of}
use Rattle.ld_op.specs.Ticks.{refill_tick, refill_asks}
use Rattle.ld_node.specs.Looks.{IsStep}
use Rattle.ld_node.specs.declared.tick.Ticked.TheVariants as answers
use Rattle.ld_node_bounds.specs.Messages.{AreMessages}
use Rattle.ld_node.proofs.Sends.{asks_are}
use Rattle.ld_node.proofs.Looks.{asked, asked_op, nothing_missing}
use Rattle.ld_node.proofs.tick.refill.Goals as goal

pub returns-then-is_none-clause-step : goal.returns-then-is_none-clause-step
returns-then-is_none-clause-step c =
    let g = log_of c.args.plain.now.state c.args.log in
    let nodes = members c.args.nodes.now in
    let lost = sym c.is_lost.ensures ∙ c.if-not-is_lost.false in
    subst (λ t. IsStep c.args.id c.args.log nodes c.refilled.result t)
    ((λ i. refill_tick (nat_lt (c.lost_to.ensures i) (c.requires.lowest i)) [])
    ∙ nothing_missing c.args.id c.args.log nodes g lost (sym (ap is_some c.first_missing.ensures) ∙ c.if-is_none.ensures))
    (c.refilled.ensures.step c.args.id nodes)

pub returns-clause-step : goal.returns-clause-step
returns-clause-step c =
    let g = log_of c.args.plain.now.state c.args.log in
    let nodes = members c.args.nodes.now in
    let lost = sym c.is_lost.ensures ∙ c.if-not-is_lost.false in
    let some = sym (ap is_some c.first_missing.ensures) ∙ c.if-is_none.ensures in
    let sent = c.new.ensures ∙ (c.into_vec.ensures ∙ (c.in_ok-asks.ensures.ok ∙ ap (λ r. r ++ posted (whos.Node c.args.id) c.args.log (refill_asks c.args.id nodes g)) c.empty-asks.ensures)) in
    record {
      op = asked_op c.args.id c.args.log nodes g lost some;
      answer = ap (λ r. answers.Asked r) sent ∙ asked c.args.id c.args.log nodes g lost some;
    }

pub returns-clause-messages : goal.returns-clause-messages
returns-clause-messages c =
    let p = c.args.plain.now.state in
    let g = log_of p c.args.log in
    let nodes = members c.args.nodes.now in
    let sent = c.new.ensures ∙ (c.into_vec.ensures ∙ (c.in_ok-asks.ensures.ok ∙ ap (λ r. r ++ posted (whos.Node c.args.id) c.args.log (refill_asks c.args.id nodes g)) c.empty-asks.ensures)) in
    subst (λ r. AreMessages r) (sym sent) (asks_are p c.args.id c.args.log c.args.nodes.now c.requires.well c.number-node.ensures.bounds c.requires.log c.has-there.ensures.set)
