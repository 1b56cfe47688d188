use Rattle.ld_cli.proofs.Stopping.{mended_so, mended_disk}
use Rattle.ld_cli.proofs.stopped.mended.Goals as goal

pub returns : goal.returns
returns g c =
    let e = c.mend_store-ended.ensures in
    let m = mended_so g.D.Disk.faults g.D.Disk.seen g.D.Disk.may_leave g.O.Sink.faults g.O.Sink.written
    g.G.Register.faults g.G.Register.told g.G.Register.damaged g.G.Register.holds g.G.Register.may_hold g.G.Register.tells g.G.Register.identity
    g.N.Nodes.faults g.N.Nodes.tells g.N.Nodes.silent g.N.Nodes.off
    c.args.disk.now c.mend_store-ended.new.disk c.args.reg.now c.mend_store-ended.new.reg c.args.nodes.now c.mend_store-ended.new.nodes c.args.out.now c.mend_store-ended.new.out c.args.words.now
    c.failures-before.result c.failures-now.result c.mend_store-ended.result c.status_of_mend.result c.failures-before.ensures c.failures-now.ensures c.status_of_mend.ensures
    e.mended e.formatted e.cause e.told in
    record {
      mended = m.0;
      usage = m.1;
      read = m.2;
      write = m.3;
      disk = mended_disk (g.N.Nodes.faults c.args.nodes.now) (g.N.Nodes.faults c.mend_store-ended.new.nodes) c.failures-before.result c.failures-now.result (g.D.Disk.faults c.args.disk.now) (g.D.Disk.faults c.mend_store-ended.new.disk)
          c.mend_store-ended.result c.status_of_mend.result c.failures-before.ensures c.failures-now.ensures c.status_of_mend.ensures e.disk_counts;
    }
