use Rattle.std.specs.Prelude.{⊤}
use Rattle.ld_node.specs.Known.{known_in}
use Rattle.ld_serve.specs.Many.{HasServedCrowd}
use Rattle.ld_cli.specs.Crowds.{IsCrowdEnd, IsCrowdOpening}
use Rattle.ld_cli.proofs.StatusOf.{ends_so, link_so}
use Rattle.ld_cli.proofs.crowding.crowded.Goals as goal

pub returns-in-Err-clause-crowded : goal.returns-in-Err-clause-crowded
returns-in-Err-clause-crowded g c =
    let disk = c.args.disk.now in
    let disk_now = c.serve_many.new.disk in
    let reg = c.args.reg.now in
    let reg_now = c.serve_many.new.reg in
    let crowd = c.args.crowd.now in
    let crowd_now = c.serve_many.new.crowd in
    let did = g.C.Crowd.did crowd_now in
    let w = c.args.words.now in
    record {
      served = ends_so
          (HasServedCrowd (g.D.Disk.seen disk) (g.D.Disk.may_leave disk_now) (g.G.Register.holds reg) (g.G.Register.holds reg_now) w.node.id (known_in w.node.config) w.node.format did w.node.turns)
          (IsCrowdEnd (g.D.Disk.faults disk) (g.D.Disk.faults disk_now) (g.D.Disk.seen disk) (g.D.Disk.seen disk_now) (g.D.Disk.may_leave disk) (g.D.Disk.may_leave disk_now)
          (g.G.Register.faults reg) (g.G.Register.faults reg_now) (g.G.Register.told reg) (g.G.Register.holds reg) (g.G.Register.holds reg_now) (g.G.Register.may_hold reg) (g.G.Register.may_hold reg_now)
          (g.G.Register.damaged reg) (g.C.Crowd.faults crowd) (g.C.Crowd.faults crowd_now) did crowd crowd_now w)
          c.in-Err.stop c.status_of.result c.status_of.ensures c.in-Err.ensures.stopped;
      opening = ends_so ⊤
          (IsCrowdOpening (g.D.Disk.faults disk) (g.D.Disk.faults disk_now) (g.D.Disk.seen disk) (g.D.Disk.seen disk_now) (g.D.Disk.may_leave disk) (g.D.Disk.may_leave disk_now)
          (g.G.Register.faults reg) (g.G.Register.faults reg_now) (g.G.Register.told reg) (g.G.Register.holds reg) (g.G.Register.holds reg_now) (g.G.Register.may_hold reg) (g.G.Register.may_hold reg_now)
          (g.G.Register.damaged reg) (g.C.Crowd.faults crowd) (g.C.Crowd.faults crowd_now) did crowd crowd_now w)
          c.in-Err.stop c.status_of.result c.status_of.ensures c.in-Err.ensures.opening;
      unasked = c.serve_many.ensures.unasked;
      formatted = c.serve_many.ensures.formatted;
      drawn = c.serve_many.ensures.drawn;
      faults = link_so (g.C.Crowd.faults crowd) (g.C.Crowd.faults crowd_now) c.in-Err.stop c.status_of.result c.status_of.ensures c.in-Err.ensures.crowd_counts;
    }
