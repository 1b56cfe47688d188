use Rattle.std.proofs.Common.{◌≡◌, ◌∙◌, ap, sym, subst, false}
use Rattle.ld_msg.specs.Register.{is_crowded}
use Rattle.ld_register.specs.Bounds.{IsSpecFor}
use Rattle.ld_sequencer.specs.Whole.{Whole, looks_of}
use Rattle.ld_sequencer.proofs.Alike.{one_shown}
use Rattle.ld_sequencer.proofs.Passing.{exact_by, held_by_look, passed_refused, passed_room, passed_changed}
use Rattle.ld_sequencer.proofs.whole.Sequencer.on_reply.Goals as goal

pub returns-clause-exact : goal.returns-clause-exact
returns-clause-exact g c = λ x h.
    let w = c.args.self.now in let who = c.args.msg.now.from in let b = c.args.msg.now.body in let u = sym c.spends.ensures ∙ c.if-spends.false in
    let f = ap (λ o. o.first) c.origin.ensures ∙ ap (λ (z : Whole). z.origin.first) c.self.view_is in
    let l = ap (λ s. s.log) c.spec.ensures ∙ ap (λ (z : Whole). z.sequencer.log) c.self.view_is in
    let s = c.in_ok-next.ensures.exact x h in
    exact_by w c.take.new.self c.args.out.now c.take.new.out who b c.in_ok-next.next u x c.origin.result.now.first c.spec.result.now.log c.epoch_begun-epoch.result f l c.epoch_begun-epoch.ensures s.0 c.take.result (g.G.Register.tells c.take.new.reg) (c.take.ensures.exact x s.2)

pub returns-clause-held : goal.returns-clause-held
returns-clause-held g c = λ x h.
    let w = c.args.self.now in let who = c.args.msg.now.from in let b = c.args.msg.now.body in let u = sym c.spends.ensures ∙ c.if-spends.false in
    let f = ap (λ o. o.first) c.origin.ensures ∙ ap (λ (z : Whole). z.origin.first) c.self.view_is in
    let l = ap (λ s. s.log) c.spec.ensures ∙ ap (λ (z : Whole). z.sequencer.log) c.self.view_is in
    let s = c.in_ok-next.ensures.held x h in
    held_by_look w c.take.new.self c.args.out.now c.take.new.out who b c.in_ok-next.next u x c.origin.result.now.first c.spec.result.now.log c.epoch_begun-epoch.result f l c.epoch_begun-epoch.ensures s.0 c.take.result (g.G.Register.holds c.take.new.reg) (c.take.ensures.held x s.1)

pub returns-clause-acted : goal.returns-clause-acted
returns-clause-acted g c =
    let l = ap (λ s. s.log) c.spec.ensures ∙ ap (λ (z : Whole). z.sequencer.log) c.self.view_is in
    one_shown c.args.self.now c.take.new.self c.take.result c.args.out.now c.take.new.out c.args.msg.now.from c.args.msg.now.body c.in_ok-next.next (sym c.spends.ensures ∙ c.if-spends.false) (subst (λ m. IsSpecFor m c.in_ok-next.next) l c.in_ok-next.ensures.next) c.take.ensures.acted

pub returns-clause-refused : goal.returns-clause-refused
returns-clause-refused g c = passed_refused c.args.self.now c.take.new.self c.args.out.now c.take.new.out c.args.msg.now.from c.args.msg.now.body c.in_ok-next.next (sym c.spends.ensures ∙ c.if-spends.false) c.take.result c.take.ensures.refused

pub returns-clause-room : goal.returns-clause-room
returns-clause-room g c = λ x h.
    let w = c.args.self.now in
    passed_room w c.take.new.self c.args.out.now c.take.new.out c.args.msg.now.from c.args.msg.now.body c.in_ok-next.next (sym c.spends.ensures ∙ c.if-spends.false) c.take.result (looks_of w x) (is_crowded x w.sequencer.log ≡ false) (c.take.ensures.room x (c.in_ok-next.ensures.exact x h).2)

pub returns-clause-done_or_not : goal.returns-clause-done_or_not
returns-clause-done_or_not g c = λ looks t.
    passed_changed c.args.self.now c.take.new.self c.args.out.now c.take.new.out c.args.msg.now.from c.args.msg.now.body c.in_ok-next.next (sym c.spends.ensures ∙ c.if-spends.false) looks (g.G.Register.may_hold c.args.reg.now) (g.G.Register.may_hold c.look_at.new.reg) (g.G.Register.may_hold c.take.new.reg)
    c.look_at.ensures.same (c.take.ensures.done_or_not (c.look_at.ensures.told t))
