use Rattle.ld_cli.proofs.Stopping.{replaced_so, disk_so}
use Rattle.ld_cli.proofs.stopped.replaced.Goals as goal

pub returns : goal.returns
returns g c =
    let e = c.replace_in-ended.ensures in
    let m = replaced_so g.D.Disk.faults g.D.Disk.seen g.D.Disk.may_leave g.O.Sink.faults g.O.Sink.written
    g.G.Register.faults g.G.Register.told g.G.Register.damaged g.G.Register.holds g.G.Register.may_hold g.G.Register.tells
    c.args.disk.now c.replace_in-ended.new.disk c.args.reg.now c.replace_in-ended.new.reg c.args.out.now c.replace_in-ended.new.out c.args.words.now c.replace_in-ended.result c.status_of_done.result c.status_of_done.ensures
    e.replaces e.formatted e.cause e.unwritten e.same e.leaves e.told in
    record {
      replaced = m.0;
      usage = m.1;
      read = m.2;
      write = m.3;
      disk = disk_so (g.D.Disk.faults c.args.disk.now) (g.D.Disk.faults c.replace_in-ended.new.disk) c.replace_in-ended.result c.status_of_done.result c.status_of_done.ensures e.disk_counts;
      link = m.4;
    }
