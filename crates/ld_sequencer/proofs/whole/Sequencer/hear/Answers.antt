use Rattle.ld_sequencer.specs.Looks.{shows}
use Rattle.ld_sequencer.proofs.Owning.{is_fresh, own_one, own_acted}
use Rattle.ld_sequencer.proofs.whole.Sequencer.hear.Goals as goal

pub returns-then-is_for_recovery-clause-fresh : goal.returns-then-is_for_recovery-clause-fresh
returns-then-is_for_recovery-clause-fresh c = is_fresh (shows c.args.next.now) c.args.self.now c.self.inside.own c.self.inside.recovery c.args.msg.now.from c.args.msg.now.to c.args.msg.now.body c.self.view_is c.self.invariant c.requires.message.fits c.requires.quiet

pub invariant_of-self : goal.invariant_of-self
invariant_of-self c = own_one c.self.inside.own c.on_reply.new.self c.self.inside.recovery c.self.invariant c.on_reply.ensures.kept

pub returns-in_err-learnt-clause-fresh : goal.returns-in_err-learnt-clause-fresh
returns-in_err-learnt-clause-fresh c = is_fresh (shows c.args.next.now) c.args.self.now c.self.inside.own c.self.inside.recovery c.args.msg.now.from c.args.msg.now.to c.args.msg.now.body c.self.view_is c.self.invariant c.requires.message.fits c.requires.quiet

pub invariant_of-self-2 : goal.invariant_of-self-2
invariant_of-self-2 c = own_one c.self.inside.own c.on_reply.new.self c.self.inside.recovery c.self.invariant c.on_reply.ensures.kept

pub returns-clause-acted : goal.returns-clause-acted
returns-clause-acted c =
    own_acted (shows c.args.next.now) c.args.self.now c.self.inside.own c.on_reply.new.self c.self.inside.recovery c.in_ok-learnt.learnt c.args.msg.now.from c.args.msg.now.to c.args.msg.now.body c.is_for_recovery.result c.released-before.result c.risen.result c.args.out.now c.on_reply.new.out
    c.self.view_is c.requires.message.fits c.is_for_recovery.ensures c.if-is_for_recovery.false c.in_ok-learnt.ensures.does c.in_ok-learnt.ensures.out c.released-before.ensures c.risen.ensures

pub returns-clause-fresh : goal.returns-clause-fresh
returns-clause-fresh c = is_fresh (shows c.args.next.now) c.args.self.now c.self.inside.own c.self.inside.recovery c.args.msg.now.from c.args.msg.now.to c.args.msg.now.body c.self.view_is c.self.invariant c.requires.message.fits c.requires.quiet
