use Rattle.std.proofs.Common.{◌≡◌, ◌∙◌, ap, sym, subst, true, ◌==◌}
use Rattle.std.proofs.lemmas.Bool.{eq-eqb}
use Rattle.ld_lsn.specs.Number.{epoch_of, home_epoch}
use Rattle.ld_msg.specs.declared.msg.Body.{Body}
use Rattle.ld_msg.specs.declared.msg.Body.TheVariants.{LostHere, DigestPage}
use Rattle.ld_recovery.specs.Recovering.{Recovering, Goes, spends}
use Rattle.ld_recovery.specs.States.{shown_ending}
use Rattle.ld_recovery.proofs.Replies.{lost_spends, page_spends_if}
use Rattle.ld_recovery.proofs.Holding.{held}
use Rattle.ld_recovery.proofs.recovery.Recovery.spent_by.Goals as goal

pub returns-then-self-epoch : goal.returns-then-self-epoch
returns-then-self-epoch c = λ g.
    let a = c.self.inside in
    let b = c.in-LostHere in
    let w = held a.spec a.epoch a.ballot a.lost a.stage a.ending in
    let h : shown_ending a.ending ≡ Goes = ap (λ (r : Recovering). r.ending) c.self.view_is ∙ g in
    let here : (a.epoch == home_epoch b.number) ≡ true = eq-eqb a.epoch (home_epoch b.number) (c.if-self-epoch.true ∙ c.home-epoch.ensures.epoch) in
    sym (ap (λ (x : Body). spends c.args.self.now c.args.node x) b.is
    ∙ subst (λ (r : Recovering). spends r c.args.node (LostHere b.number b.round b.generation b.end) ≡ c.spent_by_loss.result) c.self.view_is
    (lost_spends w c.args.node b.number b.round b.generation b.end c.spent_by_loss.result h here (sym (c.spent_by_loss.ensures a.epoch a.ballot c.self.invariant.0))))

pub returns-then-self-epoch-2 : goal.returns-then-self-epoch-2
returns-then-self-epoch-2 c = λ g.
    let a = c.self.inside in
    let b = c.in-DigestPage in
    let w = held a.spec a.epoch a.ballot a.lost a.stage a.ending in
    let h : shown_ending a.ending ≡ Goes = ap (λ (r : Recovering). r.ending) c.self.view_is ∙ g in
    let here : (a.epoch == epoch_of b.from) ≡ true = eq-eqb a.epoch (epoch_of b.from) (c.if-self-epoch-2.true ∙ c.epoch.ensures) in
    sym (ap (λ (x : Body). spends c.args.self.now c.args.node x) b.is
    ∙ subst (λ (r : Recovering). spends r c.args.node (DigestPage b.from b.upto b.trim b.lng b.entries) ≡ c.spent_by_page.result) c.self.view_is
    (page_spends_if w c.args.node b.from b.upto b.trim b.lng b.entries c.spent_by_page.result h here (sym (c.spent_by_page.ensures a.epoch a.ballot b.trim b.lng b.entries c.self.invariant.0))))
