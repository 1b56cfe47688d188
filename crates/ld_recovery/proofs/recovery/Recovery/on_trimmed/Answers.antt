use Rattle.std.proofs.Common.{◌≡◌, nat_le, [], false, ap, sym, subst, ◌∙◌}
use Rattle.ld_table.specs.Words.{is_in}
use Rattle.ld_ids.specs.Choice.{nodes_of}
use Rattle.ld_lsn.specs.Number.{epoch_of}
use Rattle.ld_msg.specs.declared.msg.Body.TheVariants.{TrimmedHere}
use Rattle.ld_recovery.specs.Recovering.{Recovering, Goes, replied, reply_messages}
use Rattle.ld_recovery.specs.States.{shown_ending}
use Rattle.ld_sequencer_bounds.specs.Sequencers.{IsStage}
use Rattle.ld_recovery.proofs.Bounded.{settling_is}
use Rattle.ld_recovery.proofs.Replies.{trimmed_here, trimmed_elsewhere, trimmed_by_stranger}
use Rattle.ld_recovery.proofs.Holding.{held, settle_value}
use Rattle.ld_recovery.proofs.recovery.Recovery.on_trimmed.Goals as goal

pub invariant_of-self : goal.invariant_of-self
invariant_of-self c = (
  c.trim.ensures.of c.self.inside.spec c.self.inside.epoch c.self.invariant.0,
  c.self.invariant.1,
  c.self.invariant.2,
  c.self.invariant.3,
  c.self.invariant.4,
  c.self.invariant.5,
  subst (IsStage c.self.inside.epoch) (sym c.trim.ensures.shown) (settling_is c.self.inside.epoch c.self.inside.ballot c.self.invariant.2 c.self.invariant.3 c.self.invariant.4 c.self.inside.lost (λ s. nat_le s c.args.trim) c.args.node c.self.inside.stage c.self.invariant.6),
  c.self.invariant.7,
)

pub returns-then-epoch-self-clause-value : goal.returns-then-epoch-self-clause-value
returns-then-epoch-self-clause-value c =
    let a = c.self.inside in
    let w = held a.spec a.epoch a.ballot a.lost a.stage a.ending in
    let h : shown_ending a.ending ≡ Goes = ap (λ (r : Recovering). r.ending) c.self.view_is ∙ c.requires in
    subst (λ (r : Recovering). held a.spec a.epoch a.ballot a.lost c.trim.new.self a.ending ≡ replied r c.args.node (TrimmedHere c.args.number c.args.trim)) c.self.view_is
    (settle_value a.spec a.epoch a.ballot a.lost a.stage c.trim.new.self a.ending (λ s. nat_le s c.args.trim) c.args.node (TrimmedHere c.args.number c.args.trim) h c.self.invariant.0 c.trim.ensures.shown
    (trimmed_here w c.args.node c.args.number c.args.trim h (sym c.has.ensures.member ∙ c.if-not-has.false) (sym c.epoch.ensures ∙ c.if-epoch-self.true)))

pub returns-then-epoch-self-clause-quiet : goal.returns-then-epoch-self-clause-quiet
returns-then-epoch-self-clause-quiet c =
    let a = c.self.inside in
    let w = held a.spec a.epoch a.ballot a.lost a.stage a.ending in
    let h : shown_ending a.ending ≡ Goes = ap (λ (r : Recovering). r.ending) c.self.view_is ∙ c.requires in
    subst (λ (r : Recovering). reply_messages r c.args.node (TrimmedHere c.args.number c.args.trim) ≡ []) c.self.view_is
    (trimmed_here w c.args.node c.args.number c.args.trim h (sym c.has.ensures.member ∙ c.if-not-has.false) (sym c.epoch.ensures ∙ c.if-epoch-self.true)).sent

elsewhere : (c : goal.Else-epoch-self) → epoch_of c.args.number ≡ c.args.self.now.recovery.epoch → ⊥
elsewhere c e = c.if-epoch-self.false (c.epoch.ensures ∙ (e ∙ sym (ap (λ (r : Recovering). r.recovery.epoch) c.self.view_is)))

pub returns-else-epoch-self-clause-value : goal.returns-else-epoch-self-clause-value
returns-else-epoch-self-clause-value c = sym (trimmed_elsewhere c.args.self.now c.args.node c.args.number c.args.trim c.requires (elsewhere c)).value

pub returns-else-epoch-self-clause-quiet : goal.returns-else-epoch-self-clause-quiet
returns-else-epoch-self-clause-quiet c = (trimmed_elsewhere c.args.self.now c.args.node c.args.number c.args.trim c.requires (elsewhere c)).sent

stranger : (c : goal.Then-not-has) → is_in c.args.node (nodes_of c.args.self.now.recovery.spec) ≡ false
stranger c = sym (ap (λ (r : Recovering). is_in c.args.node (nodes_of r.recovery.spec)) c.self.view_is) ∙ (sym c.has.ensures.member ∙ c.if-not-has.true)

pub returns-then-not-has-clause-value : goal.returns-then-not-has-clause-value
returns-then-not-has-clause-value c = sym (trimmed_by_stranger c.args.self.now c.args.node c.args.number c.args.trim c.requires (stranger c)).value

pub returns-then-not-has-clause-quiet : goal.returns-then-not-has-clause-quiet
returns-then-not-has-clause-quiet c = (trimmed_by_stranger c.args.self.now c.args.node c.args.number c.args.trim c.requires (stranger c)).sent
