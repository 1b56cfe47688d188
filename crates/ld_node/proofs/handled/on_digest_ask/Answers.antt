use Rattle.std.proofs.Common.{refl}
use Rattle.ld_op.specs.Plain.{log_of}
use Rattle.ld_readnode.specs.Answered.{digest_answered}
use Rattle.ld_store.specs.Open.{within}
use Rattle.ld_node.specs.Handling.{asked_from}
use Rattle.ld_node.proofs.Handles.{digest_handled, digest_stays, same_log}
use Rattle.ld_node.proofs.handled.on_digest_ask.Goals as goal

pub returns-clause-handled : goal.returns-clause-handled
returns-clause-handled c f id released =
    let m = c.args.msg.now in
    let p = c.args.plain.now.state in
    digest_handled f m id p.generation released (log_of p m.log) c.on_digest-decision.result (digest_answered p m) _ c.requires refl c.on_digest-decision.ensures c.seal.ensures c.in_ok-answer.ensures

pub returns-clause-stays : goal.returns-clause-stays
returns-clause-stays c count stays =
    let m = c.args.msg.now in
    let p = c.args.plain.now.state in
    digest_stays (within count) (log_of p m.log) m (asked_from m.body) (digest_answered p m) c.on_digest-decision.result _ c.requires c.in_ok-answer.ensures refl (same_log (within count) p m.log stays)
