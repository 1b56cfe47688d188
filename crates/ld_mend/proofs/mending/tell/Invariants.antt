use Rattle.std.proofs.Common.{◌≡◌, ℕ, List, Option, false, take, length}
use Rattle.ld_msg.specs.declared.msg.Msg.{Msg}
use Rattle.ld_msg.specs.Register.{Register}
use Rattle.ld_machine.specs.Disk.{Node}
use Rattle.ld_node.specs.Known.{known_in}
use Rattle.ld_node.specs.Node.{disk_of, must_load, is_blank}
use Rattle.ld_mend.specs.Standing.{IsThere, at_of, Told, logs_of}
use Rattle.ld_mend.specs.Stops.{AreLater, counts}
use Rattle.ld_mend.proofs.mending.tell.Given as goal

abbrev pub invariant-logs : goal.invariant-logs
invariant-logs g l = (l.place-end ≡ length l.config.logs) × record {
  formatted : is_blank l.node ≡ false;
  works : must_load l.node ≡ false;
  moved : (r : Register) (asked : List Msg) (far : Option (List (ℕ × Node)))
      → IsThere g.D.Disk.seen g.D.Disk.may_leave l.id (known_in l.config) l.fn.node → g.G.Register.holds l.fn.reg r
      → IsThere g.D.Disk.seen g.D.Disk.may_leave l.id (known_in l.config) l.node × g.G.Register.holds l.reg r × Told l.id (known_in l.config) l.config r (at_of l.fn.node asked far) (λ last. at_of l.node last far) (take l.place (logs_of l.config.logs)) l.mended (g.O.Sink.written l.fn.out) (g.O.Sink.written l.out);
  later : AreLater (counts (g.D.Disk.faults (disk_of l.fn.node)) (g.G.Register.faults l.fn.reg) (g.O.Sink.faults l.fn.out)) (counts (g.D.Disk.faults (disk_of l.node)) (g.G.Register.faults l.reg) (g.O.Sink.faults l.out));
  told : g.G.Register.told l.fn.reg → g.G.Register.told l.reg;
  itself : g.G.Register.identity l.reg ≡ g.G.Register.identity l.fn.reg;
  disk : g.D.Disk.faults (disk_of l.node) ≡ g.D.Disk.faults (disk_of l.fn.node);
  lent : g.D.Disk.identity (disk_of l.node) ≡ g.D.Disk.identity (disk_of l.fn.node);
}
