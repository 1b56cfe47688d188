use Rattle.std.proofs.Common.{◌∙◌, ap}
use Rattle.ld_sequencer.specs.Whole.{Whole}
use Rattle.ld_sequencer.proofs.Closing.{closed_exact, closed_held}
use Rattle.ld_sequencer.proofs.whole.Sequencer.close.Goals as goal

pub returns-clause-exact : goal.returns-clause-exact
returns-clause-exact g c = λ x h.
    let f = ap (λ o. o.first) c.origin.ensures ∙ ap (λ (z : Whole). z.origin.first) c.self.view_is in
    let l = ap (λ s. s.log) c.spec.ensures ∙ ap (λ (z : Whole). z.sequencer.log) c.self.view_is in
    closed_exact c.args.self.now c.after_close.new.self c.in_ok-after_close.field-0 c.args.out.now c.after_close.new.out c.args.due.now c.in_ok-tried.tried x c.origin.result.now.first c.spec.result.now.log f l (g.G.Register.tells c.close.new.reg) c.in_ok-after_close.ensures.acted (c.in_ok-tried.ensures.exact x h)

pub returns-clause-held : goal.returns-clause-held
returns-clause-held g c = λ x h.
    let f = ap (λ o. o.first) c.origin.ensures ∙ ap (λ (z : Whole). z.origin.first) c.self.view_is in
    let l = ap (λ s. s.log) c.spec.ensures ∙ ap (λ (z : Whole). z.sequencer.log) c.self.view_is in
    closed_held c.args.self.now c.after_close.new.self c.in_ok-after_close.field-0 c.args.out.now c.after_close.new.out c.args.due.now c.in_ok-tried.tried x c.origin.result.now.first c.spec.result.now.log f l (g.G.Register.holds c.close.new.reg) c.in_ok-after_close.ensures.acted (c.in_ok-tried.ensures.held x h)
