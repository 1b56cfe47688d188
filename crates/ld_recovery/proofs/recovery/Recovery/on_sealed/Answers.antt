use Rattle.std.proofs.Common.{◌≡◌, ap, sym, subst, ◌∙◌, arith}
use Rattle.ld_msg.specs.declared.msg.Body.TheVariants.{SealedHere}
use Rattle.ld_recovery.specs.Recovering.{Recovering, Goes, replied}
use Rattle.ld_recovery.specs.States.{shown_ending}
use Rattle.ld_recovery.proofs.Replies.{sealed_above, sealed_below, preempted}
use Rattle.ld_recovery.proofs.Holding.{held}
use Rattle.ld_recovery.proofs.recovery.Recovery.on_sealed.Goals as goal

pub returns-then-self-sealed-clause-value : goal.returns-then-self-sealed-clause-value
returns-then-self-sealed-clause-value c =
    let a = c.self.inside in
    let w = held a.spec a.epoch a.ballot a.lost a.stage a.ending in
    let h : shown_ending a.ending ≡ Goes = ap (λ (r : Recovering). r.ending) c.self.view_is ∙ c.requires in
    subst (λ (r : Recovering). preempted w c.args.sealed ≡ replied r c.args.node (SealedHere c.args.number c.args.sealed)) c.self.view_is
    (sym (sealed_above w c.args.node c.args.number c.args.sealed h c.if-self-sealed.true).value)

pub returns-then-self-sealed-clause-quiet : goal.returns-then-self-sealed-clause-quiet
returns-then-self-sealed-clause-quiet c = (sealed_above c.args.self.now c.args.node c.args.number c.args.sealed c.requires (omega (arith, c.if-self-sealed.true, ap (λ (r : Recovering). r.ballot) c.self.view_is))).sent

pub returns-else-self-sealed-clause-value : goal.returns-else-self-sealed-clause-value
returns-else-self-sealed-clause-value c = sym (sealed_below c.args.self.now c.args.node c.args.number c.args.sealed c.requires (omega (arith, c.if-self-sealed.false, ap (λ (r : Recovering). r.ballot) c.self.view_is))).value

pub returns-else-self-sealed-clause-quiet : goal.returns-else-self-sealed-clause-quiet
returns-else-self-sealed-clause-quiet c = (sealed_below c.args.self.now c.args.node c.args.number c.args.sealed c.requires (omega (arith, c.if-self-sealed.false, ap (λ (r : Recovering). r.ballot) c.self.view_is))).sent
