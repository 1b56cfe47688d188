use Rattle.std.proofs.Common.{◌≡◌, ℕ, List, [], Option, true, false}
use Rattle.ld_table.specs.Words.{is_in}
use Rattle.ld_config.specs.declared.config.Config.{Config}
use Rattle.ld_msg.specs.declared.msg.Msg.{Msg}
use Rattle.ld_msg.specs.Register.{Register}
use Rattle.ld_machine.specs.Disk.{Node}
use Rattle.ld_node.specs.Known.{Known}
use Rattle.ld_node.specs.Node.{disk_of, must_load, is_blank}
use Rattle.ld_mend.specs.Course.{Moved}
use Rattle.ld_mend.specs.Standing.{IsThere, at_of}
use Rattle.ld_mend.specs.Stops.{AreLater, counts}
use Rattle.ld_mend.proofs.ticking.settle.Given as goal

abbrev pub invariant-ticks : goal.invariant-ticks
invariant-ticks g l = record {
  formatted : is_blank l.node ≡ false;
  works : must_load l.node ≡ false;
  moved : (known : Known) (c : Config) (r : Register) (asked : List Msg) (far : Option (List (ℕ × Node)))
      → IsThere g.D.Disk.seen g.D.Disk.may_leave l.id known l.fn.node → is_in l.log known.logs ≡ true → g.G.Register.holds l.fn.reg r
      → IsThere g.D.Disk.seen g.D.Disk.may_leave l.id known l.node × g.G.Register.holds l.reg r
      × ((last : List Msg) × Moved l.id known c r (at_of l.fn.node asked far) (at_of l.node last far) [] (g.O.Sink.written l.fn.out) (g.O.Sink.written l.out));
  later : AreLater (counts (g.D.Disk.faults (disk_of l.fn.node)) (g.G.Register.faults l.fn.reg) (g.O.Sink.faults l.fn.out)) (counts (g.D.Disk.faults (disk_of l.node)) (g.G.Register.faults l.reg) (g.O.Sink.faults l.out));
  told : g.G.Register.told l.fn.reg → g.G.Register.told l.reg;
  itself : g.G.Register.identity l.reg ≡ g.G.Register.identity l.fn.reg;
  disk : g.D.Disk.faults (disk_of l.node) ≡ g.D.Disk.faults (disk_of l.fn.node);
  lent : g.D.Disk.identity (disk_of l.node) ≡ g.D.Disk.identity (disk_of l.fn.node);
}
