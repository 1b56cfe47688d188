use Rattle.ld_cli.proofs.Stopping.{shown_so, disk_so}
use Rattle.ld_cli.proofs.stopped.shown.Goals as goal

pub returns : goal.returns
returns g c =
    let e = c.show_store-ended.ensures in
    let m = shown_so g.D.Disk.faults g.D.Disk.seen g.D.Disk.may_leave g.O.Sink.faults g.O.Sink.written
    c.args.disk.now c.show_store-ended.new.disk c.args.out.now c.show_store-ended.new.out c.args.words.now c.show_store-ended.result c.status_of_done.result c.status_of_done.ensures
    e.shown e.formatted e.cause e.unwritten e.same e.leaves in
    record {
      shown = m.0;
      usage = m.1;
      read = m.2;
      write = m.3;
      disk = disk_so (g.D.Disk.faults c.args.disk.now) (g.D.Disk.faults c.show_store-ended.new.disk) c.show_store-ended.result c.status_of_done.result c.status_of_done.ensures e.disk_counts;
      register = m.4;
      link = m.5;
    }
