use Rattle.std.proofs.Common.{ℕ, ◌+◌, ◌∙◌, inl, inr, ap, sym, subst, refl}
use Rattle.ld_msg.specs.Register.{View}
use Rattle.ld_msg.specs.Sequencer.{Acts}
use Rattle.ld_register.specs.Bounds.{IsSpecFor}
use Rattle.ld_sequencer.specs.Whole.{Whole, looks_of, recovery_acts}
use Rattle.ld_sequencer.proofs.Serving.{first_of}
use Rattle.ld_sequencer.proofs.Spending.{again_is, again_so, spent_tries, look_exact, look_acted, look_changed}
use Rattle.ld_sequencer.proofs.whole.Sequencer.look_again.Goals as goal

pub returns-clause-exact : goal.returns-clause-exact
returns-clause-exact g c = λ r h.
    let w = c.args.self.now in let o = c.self.inside.own in let m = c.self.inside.recovery in let j = c.self.view_is in let v = c.self.invariant in
    let own = c.epoch-own.result in let first = c.origin.result.now.first in let log = c.spec.result.now.log in let epoch = c.lce.result + 1 in
    let fi = ap (λ o. o.first) c.origin.ensures ∙ ap (λ (z : Whole). z.origin.first) j in
    let l = ap (λ s. s.log) c.spec.ensures ∙ ap (λ (z : Whole). z.sequencer.log) j in
    let a = ap (λ n. n + 1) (c.lce.ensures ∙ ap (λ (z : Whole). z.sequencer.lce) j) in
    let e = c.epoch-own.ensures ∙ ap (λ (z : Whole). z.sequencer.epoch) j in
    let s = c.requires in let f : (ℕ → View) → Acts = λ looks. recovery_acts looks w in let u = again_is w s in
    let x = c.in_ok-seen.seen in
    let k = c.in_ok-seen.ensures.exact r h in
    look_exact w o m j v f u first log epoch own fi l a e w c.learn.new.self c.in_ok-learn.field-0 c.args.out.now c.args.out.now c.learn.new.out refl x (λ h. again_so w s) (λ h. refl) (c.in_ok-learn.ensures.acted first) r (g.G.Register.tells c.see.new.reg) k.0 k.2

pub returns-clause-acted : goal.returns-clause-acted
returns-clause-acted g c =
    let w = c.args.self.now in let o = c.self.inside.own in let m = c.self.inside.recovery in let j = c.self.view_is in let v = c.self.invariant in
    let own = c.epoch-own.result in let first = c.origin.result.now.first in let log = c.spec.result.now.log in let epoch = c.lce.result + 1 in
    let fi = ap (λ o. o.first) c.origin.ensures ∙ ap (λ (z : Whole). z.origin.first) j in
    let l = ap (λ s. s.log) c.spec.ensures ∙ ap (λ (z : Whole). z.sequencer.log) j in
    let a = ap (λ n. n + 1) (c.lce.ensures ∙ ap (λ (z : Whole). z.sequencer.lce) j) in
    let e = c.epoch-own.ensures ∙ ap (λ (z : Whole). z.sequencer.epoch) j in
    let s = c.requires in let f : (ℕ → View) → Acts = λ looks. recovery_acts looks w in let u = again_is w s in
    let x = c.in_ok-seen.seen in
    look_acted w o m j v f u first log epoch own fi l a e w c.learn.new.self c.in_ok-learn.field-0 c.args.out.now c.args.out.now c.learn.new.out refl x (λ h. again_so w s) (λ h. refl) (c.in_ok-learn.ensures.acted first) (subst (IsSpecFor w.sequencer.log) (sym fi) (first_of w o m j v)) c.in_ok-seen.ensures.bounds

pub returns-clause-held : goal.returns-clause-held
returns-clause-held g c = λ r h.
    let w = c.args.self.now in let o = c.self.inside.own in let m = c.self.inside.recovery in let j = c.self.view_is in let v = c.self.invariant in
    let own = c.epoch-own.result in let first = c.origin.result.now.first in let log = c.spec.result.now.log in let epoch = c.lce.result + 1 in
    let fi = ap (λ o. o.first) c.origin.ensures ∙ ap (λ (z : Whole). z.origin.first) j in
    let l = ap (λ s. s.log) c.spec.ensures ∙ ap (λ (z : Whole). z.sequencer.log) j in
    let a = ap (λ n. n + 1) (c.lce.ensures ∙ ap (λ (z : Whole). z.sequencer.lce) j) in
    let e = c.epoch-own.ensures ∙ ap (λ (z : Whole). z.sequencer.epoch) j in
    let s = c.requires in let f : (ℕ → View) → Acts = λ looks. recovery_acts looks w in let u = again_is w s in
    let x = c.in_ok-seen.seen in
    let k = c.in_ok-seen.ensures.held r h in
    inr (look_exact w o m j v f u first log epoch own fi l a e w c.learn.new.self c.in_ok-learn.field-0 c.args.out.now c.args.out.now c.learn.new.out refl x (λ h. again_so w s) (λ h. refl) (c.in_ok-learn.ensures.acted first) r (g.G.Register.holds c.see.new.reg) k.0 k.1)

pub returns-clause-room : goal.returns-clause-room
returns-clause-room g c = λ r h.
    let w = c.args.self.now in
    let s = c.requires in let f : (ℕ → View) → Acts = λ looks. recovery_acts looks w in let u = again_is w s in
    inl (spent_tries w f u (looks_of w r))

pub returns-clause-done_or_not : goal.returns-clause-done_or_not
returns-clause-done_or_not g c = λ looks z.
    let w = c.args.self.now in
    let s = c.requires in let f : (ℕ → View) → Acts = λ looks. recovery_acts looks w in let u = again_is w s in
    look_changed w f u looks (g.G.Register.may_hold c.args.reg.now) (g.G.Register.may_hold c.see.new.reg) c.see.ensures.same
