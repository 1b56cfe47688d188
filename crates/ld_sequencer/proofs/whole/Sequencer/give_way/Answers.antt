use Rattle.std.proofs.Common.{ap}
use Rattle.ld_sequencer.specs.Whole.{joined}
use Rattle.ld_sequencer.proofs.Doing.{gives_way}
use Rattle.ld_sequencer.proofs.whole.Sequencer.give_way.Goals as goal

pub returns-clause-acted : goal.returns-clause-acted
returns-clause-acted c = λ out. gives_way c.args.self.now _ c.self.inside.own c.self.inside.recovery c.args.by out c.self.view_is (ap (λ o. joined o c.self.inside.recovery) c.preempt.ensures)
