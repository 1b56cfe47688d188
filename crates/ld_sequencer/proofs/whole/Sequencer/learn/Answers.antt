use Rattle.std.proofs.Common.{◌≡◌, ◌==◌, ◌∙◌, false, ap, sym, subst, arith}
use Rattle.std.proofs.lemmas.Bool.Decides.{nat_tests}
use Rattle.ld_sequencer.specs.Looks.{looks_with}
use Rattle.ld_sequencer.specs.Whole.{Whole, Acted, looked_acts}
use Rattle.ld_sequencer.proofs.Spending.{yielded_acted}
use Rattle.ld_sequencer.proofs.whole.Sequencer.learn.Goals as goal

pub returns-else-kept-epoch-clause-acted : goal.returns-else-kept-epoch-clause-acted
returns-else-kept-epoch-clause-acted c = λ first.
    let w = c.args.self.now in
    let e = c.epoch.ensures ∙ ap (λ (z : Whole). z.sequencer.epoch) c.self.view_is in
    let n = c.if-kept-epoch.false in
    let k : (c.in-Open.kept == w.sequencer.epoch) ≡ false = grind (arith, nat_tests) in
    subst (λ s. Acted w c.give_way.new.self c.give_way.result c.args.out.now c.args.out.now (looked_acts (looks_with first s) w)) (sym c.in-Open.is)
    (yielded_acted w c.give_way.new.self c.give_way.result c.in-Open.kept first c.args.out.now c.requires.recovery k (c.give_way.ensures.acted c.args.out.now))
