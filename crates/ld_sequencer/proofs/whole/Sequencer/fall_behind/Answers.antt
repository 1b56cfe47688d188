use Rattle.std.proofs.Common.{ap, arith}
use Rattle.ld_sequencer.specs.Looks.{shows}
use Rattle.ld_sequencer.specs.Whole.{Whole}
use Rattle.ld_sequencer.proofs.Doing.{late_acted, gone_acted}
use Rattle.ld_sequencer.proofs.whole.Sequencer.fall_behind.Goals as goal

pub returns-then-epoch-lce-clause-acted : goal.returns-then-epoch-lce-clause-acted
returns-then-epoch-lce-clause-acted c =
    let e = c.epoch.ensures in let f = ap (λ (w : Whole). w.sequencer.epoch) c.self.view_is in let t = c.if-epoch-lce.true in
    late_acted (shows c.args.next.now) c.args.self.now c.give_way.new.self c.args.due.now.epoch c.args.lce c.args.due.now.summary c.give_way.result c.args.out.now (omega arith) (c.give_way.ensures.acted c.args.out.now)

pub returns-clause-acted : goal.returns-clause-acted
returns-clause-acted c =
    let e = c.epoch.ensures in let f = ap (λ (w : Whole). w.sequencer.epoch) c.self.view_is in let t = c.if-epoch-lce.false in
    gone_acted (shows c.args.next.now) c.args.self.now c.go_on.new.self c.self.inside.own c.self.inside.recovery c.args.due.now.epoch c.args.lce c.released-before.result c.args.due.now.summary c.risen.result c.args.out.now c.go_on.new.out (omega arith) c.released-before.ensures c.in_ok-go_on.ensures.now c.in_ok-go_on.ensures.out c.risen.ensures
