use Rattle.std.proofs.Common.{◌+◌, ◌∙◌, ap}
use Rattle.ld_sequencer.specs.Whole.{Whole}
use Rattle.ld_sequencer.proofs.Spending.{passed_acted}
use Rattle.ld_sequencer.proofs.whole.Sequencer.pass.Goals as goal

pub returns-clause-acted : goal.returns-clause-acted
returns-clause-acted c =
    passed_acted c.args.self.now c.go_on_behind.new.self c.self.inside.own c.self.inside.recovery c.args.summary.now c.args.next.now (c.lce-epoch.result + 1) c.released-before.result c.risen.result c.args.out.now c.tell_clean.new.out c.go_on_behind.new.out
    c.self.view_is c.self.invariant c.requires.recovery (ap (λ n. n + 1) (c.lce-epoch.ensures ∙ ap (λ (z : Whole). z.sequencer.lce) c.self.view_is)) c.released-before.ensures c.in_ok-tell_clean.ensures.sent c.in_ok-go_on_behind.ensures.now c.in_ok-go_on_behind.ensures.out c.risen.ensures
