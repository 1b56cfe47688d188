use Rattle.std.proofs.Common.{subst}
use Rattle.ld_ids.specs.declared.set.Spec.{Spec}
use Rattle.ld_register.specs.Bounds.{IsSpecFor}
use Rattle.ld_sequencer.specs.Looks.{shows}
use Rattle.ld_sequencer.specs.Whole.{joined, IsActive}
use Rattle.ld_sequencer.proofs.Starting.{started_active}
use Rattle.ld_sequencer.proofs.Telling.{fixed_is}
use Rattle.ld_sequencer.proofs.whole.Sequencer.start.Goals as goal

pub returns-clause-active : goal.returns-clause-active
returns-clause-active c =
    let next = c.unwrap_or-next.result in
    let is = fixed_is (IsSpecFor c.args.spec.now.log) c.args.origin.now.first c.requires.first c.args.grant.next next c.unwrap_or-next.ensures c.requires.grant.next in
    subst (λ (x : Spec). IsActive c.args.origin.now c.args.spec.now (shows x) c.args.grant (joined c.in_ok-own.own c.in_ok-recovery.recovery) c.args.out.now c.send_all.new.out) c.unwrap_or-next.ensures
    (started_active c.args.origin.now c.args.spec.now next c.args.grant c.in_ok-own.own c.in_ok-recovery.recovery c.empty-asks.result c.next_recovery.new.out c.args.out.now c.send_all.new.out is.log c.in_ok-own.ensures c.in_ok-recovery.ensures.value c.empty-asks.ensures c.in_ok-recovery.ensures.sent c.in_ok-send_all.ensures.sent)
