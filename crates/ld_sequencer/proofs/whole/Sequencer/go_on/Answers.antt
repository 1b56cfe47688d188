use Rattle.ld_sequencer.proofs.Doing.{go_sent}
use Rattle.ld_sequencer.proofs.whole.Sequencer.go_on.Goals as goal

pub returns-in-Ok-clause-out : goal.returns-in-Ok-clause-out
returns-in-Ok-clause-out c = go_sent c.args.self.now c.self.inside.own c.close_through.new.self c.self.inside.recovery c.args.next.now c.epoch.result c.args.lce c.args.out.now c.close_through.new.out c.next_recovery.new.out c.self.view_is c.close_through.ensures.now c.requires.next.log c.epoch.ensures c.in_ok-close_through.ensures.out c.in-Ok.ensures.sent
