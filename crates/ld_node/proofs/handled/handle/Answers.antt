use Rattle.std.proofs.Common.{refl, ap}
use Rattle.ld_op.specs.Plain.{log_of}
use Rattle.ld_store.specs.Open.{within}
use Rattle.ld_node.proofs.Handles.{read_handled, one_handled, clean_handled, trim_handled, page_handled, read_stays, one_stays, same_log}
use Rattle.ld_node.proofs.handled.handle.Goals as goal

pub returns-in_ok-page-in-ReadAsk-clause-handled : goal.returns-in_ok-page-in-ReadAsk-clause-handled
returns-in_ok-page-in-ReadAsk-clause-handled c f =
    let p = c.args.plain.now.state in
    read_handled f c.args.msg.now c.args.id p.generation c.args.released (log_of p c.args.msg.now.log) _ _ _ c.in_ok-page-in-ReadAsk.page c.in-ReadAsk.is refl refl (ap (λ x. x.body) c.in_ok-page-in-ReadAsk.ensures)

pub returns-in_ok-page-in-ReadAsk-clause-stays : goal.returns-in_ok-page-in-ReadAsk-clause-stays
returns-in_ok-page-in-ReadAsk-clause-stays c count stays =
    let p = c.args.plain.now.state in
    read_stays (within count) p.generation c.args.released (log_of p c.args.msg.now.log) c.args.msg.now.body _ _ c.in_ok-page-in-ReadAsk.page c.in-ReadAsk.is (ap (λ x. x.body) c.in_ok-page-in-ReadAsk.ensures) (same_log (within count) p c.args.msg.now.log stays)

pub returns-in_ok-share-in-ReadOne-clause-handled : goal.returns-in_ok-share-in-ReadOne-clause-handled
returns-in_ok-share-in-ReadOne-clause-handled c f =
    let p = c.args.plain.now.state in
    one_handled f c.args.msg.now c.args.id p.generation c.args.released (log_of p c.args.msg.now.log) _ _ _ _ _ c.in_ok-share-in-ReadOne.share c.in-ReadOne.is refl refl (ap (λ x. x.body) c.in_ok-share-in-ReadOne.ensures.answer)

pub returns-in_ok-share-in-ReadOne-clause-stays : goal.returns-in_ok-share-in-ReadOne-clause-stays
returns-in_ok-share-in-ReadOne-clause-stays c count stays =
    let p = c.args.plain.now.state in
    one_stays (within count) c.args.id p.generation c.args.released (log_of p c.args.msg.now.log) c.args.msg.now.body _ _ _ _ c.in_ok-share-in-ReadOne.share c.in-ReadOne.is (ap (λ x. x.body) c.in_ok-share-in-ReadOne.ensures.answer) (same_log (within count) p c.args.msg.now.log stays)

pub returns-in-Clean-clause-handled : goal.returns-in-Clean-clause-handled
returns-in-Clean-clause-handled c f =
    let p = c.args.plain.now.state in
    clean_handled f c.args.msg.now c.args.id p.generation c.args.released (log_of p c.args.msg.now.log) _ c.in-Clean.epoch c.in-Clean.summary c.in-Clean.is c.clean.ensures refl

pub returns-in-Trim-clause-handled : goal.returns-in-Trim-clause-handled
returns-in-Trim-clause-handled c f =
    let p = c.args.plain.now.state in
    trim_handled f c.args.msg.now c.args.id p.generation c.args.released (log_of p c.args.msg.now.log) _ c.in-Trim.trim c.in-Trim.is c.trim.ensures refl

pub returns-in_ok-op-in_default : goal.returns-in_ok-op-in_default
returns-in_ok-op-in_default c =
    let m = c.args.msg.now in
    let p = c.args.plain.now.state in
    let no = c.in_default in
    record {
      handled = λ f. page_handled f m c.args.id p.generation c.args.released (log_of p m.log) _ no.not-Store no.not-DigestAsk no.not-Clean no.not-Trim no.not-ReadAsk no.not-ReadOne c.in_ok-op-in_default.ensures refl;
      stays = λ count stays. tt;
    }
