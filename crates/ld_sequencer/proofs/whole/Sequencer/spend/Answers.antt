use Rattle.std.proofs.Common.{◌≡◌, ℕ, ◌⊎◌, ◌+◌, ◌∙◌, inl, inr, ap, sym, subst}
use Rattle.ld_msg.specs.Register.{View, look}
use Rattle.ld_msg.specs.Sequencer.{Acts}
use Rattle.ld_register.specs.Bounds.{IsSpecFor}
use Rattle.ld_sequencer.specs.declared.fault.SequencerFault.TheVariants as faults
use Rattle.ld_sequencer.specs.Looks.{is_counted, IsSeen, MayBeSeen}
use Rattle.ld_sequencer.specs.Register.{MayCome}
use Rattle.ld_sequencer.specs.Whole.{Whole, looks_of, reply_acts}
use Rattle.ld_sequencer.proofs.Serving.{first_of}
use Rattle.ld_sequencer.proofs.Spending.{spends_is, spent_tries, counted_so, look_exact, look_acted, look_failed, look_changed, ok_at, err_at}
use Rattle.ld_sequencer.proofs.whole.Sequencer.spend.Goals as goal

pub returns-in_ok-learn-in-Ok-clause-exact : goal.returns-in_ok-learn-in-Ok-clause-exact
returns-in_ok-learn-in-Ok-clause-exact g c = λ r h.
    let w = c.args.self.now in let o = c.self.inside.own in let m = c.self.inside.recovery in let j = c.self.view_is in let v = c.self.invariant in
    let own = c.epoch-own.result in let first = c.origin.result.now.first in let log = c.spec.result.now.log in let epoch = c.lce.result + 1 in
    let fi = ap (λ o. o.first) c.origin.ensures ∙ ap (λ (z : Whole). z.origin.first) j in
    let l = ap (λ s. s.log) c.spec.ensures ∙ ap (λ (z : Whole). z.sequencer.log) j in
    let a = ap (λ n. n + 1) (c.lce.ensures ∙ ap (λ (z : Whole). z.sequencer.lce) j) in
    let e = c.epoch-own.ensures ∙ ap (λ (z : Whole). z.sequencer.epoch) j in
    let who = c.args.msg.now.from in let b = c.args.msg.now.body in let s = c.requires.spends in
    let f : (ℕ → View) → Acts = λ looks. reply_acts looks w who b in let u = spends_is w o m who b j v s in
    let x = c.in-Ok.seen in
    let k = c.see-seen.ensures.exact r h in
    look_exact w o m j v f u first log epoch own fi l a e c.count.new.self c.learn.new.self c.in_ok-learn-in-Ok.field-0 c.args.out.now c.count.new.out c.learn.new.out c.in_ok-count.ensures.unsent x (λ h. c.in_ok-count.ensures.now (c.is_counted.ensures ∙ (ap (is_counted own) c.in-Ok.is ∙ h)) ∙ counted_so w o m who b j v s) (λ h. c.in_ok-count.ensures.idle (c.is_counted.ensures ∙ (ap (is_counted own) c.in-Ok.is ∙ h))) (c.in_ok-learn-in-Ok.ensures.acted first) r (g.G.Register.tells c.see-seen.new.reg) (ok_at c.see-seen.result x (IsSeen (look first r log) epoch own) c.in-Ok.is k.0) k.2

pub returns-in_ok-learn-in-Ok-clause-acted : goal.returns-in_ok-learn-in-Ok-clause-acted
returns-in_ok-learn-in-Ok-clause-acted g c =
    let w = c.args.self.now in let o = c.self.inside.own in let m = c.self.inside.recovery in let j = c.self.view_is in let v = c.self.invariant in
    let own = c.epoch-own.result in let first = c.origin.result.now.first in let log = c.spec.result.now.log in let epoch = c.lce.result + 1 in
    let fi = ap (λ o. o.first) c.origin.ensures ∙ ap (λ (z : Whole). z.origin.first) j in
    let l = ap (λ s. s.log) c.spec.ensures ∙ ap (λ (z : Whole). z.sequencer.log) j in
    let a = ap (λ n. n + 1) (c.lce.ensures ∙ ap (λ (z : Whole). z.sequencer.lce) j) in
    let e = c.epoch-own.ensures ∙ ap (λ (z : Whole). z.sequencer.epoch) j in
    let who = c.args.msg.now.from in let b = c.args.msg.now.body in let s = c.requires.spends in
    let f : (ℕ → View) → Acts = λ looks. reply_acts looks w who b in let u = spends_is w o m who b j v s in
    let x = c.in-Ok.seen in
    look_acted w o m j v f u first log epoch own fi l a e c.count.new.self c.learn.new.self c.in_ok-learn-in-Ok.field-0 c.args.out.now c.count.new.out c.learn.new.out c.in_ok-count.ensures.unsent x (λ h. c.in_ok-count.ensures.now (c.is_counted.ensures ∙ (ap (is_counted own) c.in-Ok.is ∙ h)) ∙ counted_so w o m who b j v s) (λ h. c.in_ok-count.ensures.idle (c.is_counted.ensures ∙ (ap (is_counted own) c.in-Ok.is ∙ h))) (c.in_ok-learn-in-Ok.ensures.acted first) (subst (IsSpecFor w.sequencer.log) (sym fi) (first_of w o m j v)) (ok_at c.see-seen.result x (MayBeSeen log epoch) c.in-Ok.is c.see-seen.ensures.bounds)

pub returns-in_ok-learn-in-Ok-clause-held : goal.returns-in_ok-learn-in-Ok-clause-held
returns-in_ok-learn-in-Ok-clause-held g c = λ r h.
    let w = c.args.self.now in let o = c.self.inside.own in let m = c.self.inside.recovery in let j = c.self.view_is in let v = c.self.invariant in
    let own = c.epoch-own.result in let first = c.origin.result.now.first in let log = c.spec.result.now.log in let epoch = c.lce.result + 1 in
    let fi = ap (λ o. o.first) c.origin.ensures ∙ ap (λ (z : Whole). z.origin.first) j in
    let l = ap (λ s. s.log) c.spec.ensures ∙ ap (λ (z : Whole). z.sequencer.log) j in
    let a = ap (λ n. n + 1) (c.lce.ensures ∙ ap (λ (z : Whole). z.sequencer.lce) j) in
    let e = c.epoch-own.ensures ∙ ap (λ (z : Whole). z.sequencer.epoch) j in
    let who = c.args.msg.now.from in let b = c.args.msg.now.body in let s = c.requires.spends in
    let f : (ℕ → View) → Acts = λ looks. reply_acts looks w who b in let u = spends_is w o m who b j v s in
    let x = c.in-Ok.seen in
    let k = ok_at c.see-seen.result x (λ z. IsSeen (look first r log) epoch own z × g.G.Register.holds c.see-seen.new.reg r) c.in-Ok.is (c.see-seen.ensures.held r h) in
    inr (look_exact w o m j v f u first log epoch own fi l a e c.count.new.self c.learn.new.self c.in_ok-learn-in-Ok.field-0 c.args.out.now c.count.new.out c.learn.new.out c.in_ok-count.ensures.unsent x (λ h. c.in_ok-count.ensures.now (c.is_counted.ensures ∙ (ap (is_counted own) c.in-Ok.is ∙ h)) ∙ counted_so w o m who b j v s) (λ h. c.in_ok-count.ensures.idle (c.is_counted.ensures ∙ (ap (is_counted own) c.in-Ok.is ∙ h))) (c.in_ok-learn-in-Ok.ensures.acted first) r (g.G.Register.holds c.see-seen.new.reg) k.0 k.1)

pub returns-in_ok-learn-in-Ok-clause-room : goal.returns-in_ok-learn-in-Ok-clause-room
returns-in_ok-learn-in-Ok-clause-room g c = λ r h.
    let w = c.args.self.now in let o = c.self.inside.own in let m = c.self.inside.recovery in let j = c.self.view_is in let v = c.self.invariant in
    let who = c.args.msg.now.from in let b = c.args.msg.now.body in let s = c.requires.spends in
    let f : (ℕ → View) → Acts = λ looks. reply_acts looks w who b in let u = spends_is w o m who b j v s in
    inl (spent_tries w f u (looks_of w r))

pub returns-in_ok-learn-in-Ok-clause-done_or_not : goal.returns-in_ok-learn-in-Ok-clause-done_or_not
returns-in_ok-learn-in-Ok-clause-done_or_not g c = λ looks z.
    let w = c.args.self.now in let o = c.self.inside.own in let m = c.self.inside.recovery in let j = c.self.view_is in let v = c.self.invariant in
    let who = c.args.msg.now.from in let b = c.args.msg.now.body in let s = c.requires.spends in
    let f : (ℕ → View) → Acts = λ looks. reply_acts looks w who b in let u = spends_is w o m who b j v s in
    look_changed w f u looks (g.G.Register.may_hold c.args.reg.now) (g.G.Register.may_hold c.see-seen.new.reg) c.see-seen.ensures.same

pub returns-in-Err-clause-refused : goal.returns-in-Err-clause-refused
returns-in-Err-clause-refused g c =
    let w = c.args.self.now in let o = c.self.inside.own in let m = c.self.inside.recovery in let j = c.self.view_is in let v = c.self.invariant in
    let who = c.args.msg.now.from in let b = c.args.msg.now.body in let s = c.requires.spends in
    let f : (ℕ → View) → Acts = λ looks. reply_acts looks w who b in let u = spends_is w o m who b j v s in
    let own = c.epoch-own.result in
    inr (look_failed w f u c.count.new.self c.in-Err.fault c.args.out.now c.count.new.out c.in_ok-count.ensures.unsent (c.in_ok-count.ensures.now (c.is_counted.ensures ∙ ap (is_counted own) c.in-Err.is) ∙ counted_so w o m who b j v s)
    (err_at c.see-seen.result c.in-Err.fault (λ z. (z ≡ faults.NoMemory) ⊎ MayCome z) c.in-Err.is c.see-seen.ensures.free))

pub returns-in-Err-clause-done_or_not : goal.returns-in-Err-clause-done_or_not
returns-in-Err-clause-done_or_not g c = λ looks z.
    let w = c.args.self.now in let o = c.self.inside.own in let m = c.self.inside.recovery in let j = c.self.view_is in let v = c.self.invariant in
    let who = c.args.msg.now.from in let b = c.args.msg.now.body in let s = c.requires.spends in
    let f : (ℕ → View) → Acts = λ looks. reply_acts looks w who b in let u = spends_is w o m who b j v s in
    look_changed w f u looks (g.G.Register.may_hold c.args.reg.now) (g.G.Register.may_hold c.see-seen.new.reg) c.see-seen.ensures.same
