use Rattle.ld_cli.proofs.Trimming.{told_trims, driven_undone}
use Rattle.ld_cli.proofs.trims.trimmed.Goals as goal

pub returns-in-Done : goal.returns-in-Done
returns-in-Done g c =
    let m = told_trims g.N.Nodes.faults g.N.Nodes.endings g.N.Nodes.tells g.N.Nodes.silent g.N.Nodes.off
    g.G.Register.faults g.G.Register.told g.G.Register.damaged g.G.Register.holds g.G.Register.may_hold g.G.Register.tells g.O.Sink.faults g.O.Sink.written
    c.args.nodes.now c.drive.new.nodes c.tell_trims-told.new.nodes c.args.reg.now c.drive.new.reg c.args.out.now c.drive.new.out c.tell_trims-told.new.out c.args.words.now
    c.failures-before.result c.failures-now.result c.tell_trims-told.result c.status_of_told.result c.failures-before.ensures c.failures-now.ensures c.status_of_told.ensures
    c.in-Done.ensures c.tell_trims-told.ensures.trims c.tell_trims-told.ensures.cause in
    record { trimmed = m.0; usage = m.1; read = m.2; disk = m.3; off = m.4; write = m.5 }

pub returns-in_default : goal.returns-in_default
returns-in_default g c =
    let m = driven_undone g.N.Nodes.faults g.N.Nodes.endings g.N.Nodes.tells g.N.Nodes.silent g.N.Nodes.off
    g.G.Register.faults g.G.Register.told g.G.Register.damaged g.G.Register.holds g.G.Register.may_hold g.G.Register.tells g.O.Sink.faults g.O.Sink.written
    c.args.nodes.now c.drive.new.nodes c.args.reg.now c.drive.new.reg c.args.out.now c.drive.new.out c.args.words.now
    c.failures-before.result c.failures-now-in_default.result c.drive.result c.status_of.result c.failures-before.ensures c.failures-now-in_default.ensures c.status_of.ensures
    c.in_default.not-Done c.drive.ensures in
    record { trimmed = m.0; usage = m.1; read = m.2; disk = m.3; off = m.4; write = m.5 }
