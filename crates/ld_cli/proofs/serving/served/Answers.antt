use Rattle.std.proofs.Common.{◌⊎◌}
use Rattle.std.specs.Prelude.{⊤}
use Rattle.ld_node.specs.Known.{known_in}
use Rattle.ld_serve.specs.Complete.{IsFaultOrLimit}
use Rattle.ld_serve.specs.Whole.{HasServed, HasStopped, HasTold, HasToldUntil, IsNotOpened}
use Rattle.ld_cli.proofs.StatusOf.{ends_so}
use Rattle.ld_cli.proofs.serving.served.Goals as goal

pub returns-in-Err-clause-served : goal.returns-in-Err-clause-served
returns-in-Err-clause-served g c = λ start told.
    let known = known_in c.args.node.now.config in
    ends_so
    (HasServed (g.D.Disk.seen c.args.disk.now) (g.D.Disk.may_leave c.serve.new.disk) (g.G.Register.holds c.args.reg.now) (g.G.Register.holds c.serve.new.reg) c.args.node.now.id known
    c.args.node.now.format start (g.L.Link.peers c.serve.new.link) c.args.node.now.turns)
    (λ stop.
    IsNotOpened (g.D.Disk.faults c.args.disk.now) (g.D.Disk.faults c.serve.new.disk) (g.D.Disk.seen c.args.disk.now) (g.D.Disk.seen c.serve.new.disk)
    (g.D.Disk.may_leave c.args.disk.now) (g.D.Disk.may_leave c.serve.new.disk) (g.G.Register.faults c.args.reg.now) (g.G.Register.faults c.serve.new.reg)
    (g.G.Register.told c.args.reg.now) (g.G.Register.holds c.args.reg.now) (g.G.Register.holds c.serve.new.reg) (g.G.Register.damaged c.args.reg.now) c.args.node.now.id c.args.node.now.format
    c.args.link.now c.serve.new.link stop
    ⊎ HasStopped (g.D.Disk.seen c.args.disk.now) (g.D.Disk.may_leave c.serve.new.disk) (g.G.Register.holds c.args.reg.now) (g.G.Register.holds c.serve.new.reg) c.args.node.now.id known
    c.args.node.now.format start (g.L.Link.peers c.serve.new.link) stop)
    c.in-Err.stop c.status_of.result c.status_of.ensures (c.in-Err.ensures.stopped start told)

pub returns-in-Err-clause-complete : goal.returns-in-Err-clause-complete
returns-in-Err-clause-complete g c = λ start bytes told spoken is may.
    ends_so ⊤ IsFaultOrLimit c.in-Err.stop c.status_of.result c.status_of.ensures (c.in-Err.ensures.complete start bytes told spoken is may)

pub returns-in-Err-clause-told : goal.returns-in-Err-clause-told
returns-in-Err-clause-told g c =
    let known = known_in c.args.node.now.config in
    ends_so
    (HasTold (g.D.Disk.seen c.args.disk.now) (g.D.Disk.may_leave c.serve.new.disk) (g.G.Register.holds c.args.reg.now) (g.G.Register.holds c.serve.new.reg) c.args.node.now.id known
    c.args.node.now.format (g.L.Link.did c.args.link.now) (g.L.Link.did c.serve.new.link) c.args.node.now.turns)
    (λ stop.
    IsNotOpened (g.D.Disk.faults c.args.disk.now) (g.D.Disk.faults c.serve.new.disk) (g.D.Disk.seen c.args.disk.now) (g.D.Disk.seen c.serve.new.disk)
    (g.D.Disk.may_leave c.args.disk.now) (g.D.Disk.may_leave c.serve.new.disk) (g.G.Register.faults c.args.reg.now) (g.G.Register.faults c.serve.new.reg)
    (g.G.Register.told c.args.reg.now) (g.G.Register.holds c.args.reg.now) (g.G.Register.holds c.serve.new.reg) (g.G.Register.damaged c.args.reg.now) c.args.node.now.id c.args.node.now.format
    c.args.link.now c.serve.new.link stop
    ⊎ HasToldUntil (g.D.Disk.seen c.args.disk.now) (g.D.Disk.may_leave c.serve.new.disk) (g.G.Register.holds c.args.reg.now) (g.G.Register.holds c.serve.new.reg) c.args.node.now.id known
    c.args.node.now.format (g.L.Link.did c.args.link.now) (g.L.Link.did c.serve.new.link) c.args.node.now.turns stop)
    c.in-Err.stop c.status_of.result c.status_of.ensures c.in-Err.ensures.told
