use Rattle.std.proofs.Common.{◌≡◌, ◌⊎◌, ◌≤◌, ℕ, List, [], Option, true, false}
use Rattle.ld_config.specs.declared.config.Config.{Config}
use Rattle.ld_msg.specs.Register.{Register}
use Rattle.ld_machine.specs.Disk.{Node}
use Rattle.ld_node.specs.Known.{Known}
use Rattle.ld_node.specs.Node.{disk_of, must_load, is_blank}
use Rattle.ld_mend.specs.Course.{ToldAs, IsHushed}
use Rattle.ld_mend.specs.Standing.{IsThere, at_of, Drove, AreFrom}
use Rattle.ld_mend.proofs.carrying.carry.Given as goal

abbrev pub invariant-asks : goal.invariant-asks
invariant-asks g l = record {
  formatted : is_blank l.node ≡ false;
  works : must_load l.node ≡ false;
  moved : (known : Known) (c : Config) (r : Register) (far : Option (List (ℕ × Node))) (written : List ℕ)
      → IsThere g.D.Disk.seen g.D.Disk.may_leave l.id known l.fn.node → AreFrom l.id l.asks → ToldAs (g.N.Nodes.tells l.fn.nodes c) far
      → IsHushed (g.N.Nodes.silent l.nodes) far ⊎ Drove (IsThere g.D.Disk.seen g.D.Disk.may_leave l.id known l.node) (g.N.Nodes.tells l.nodes c) l.id known c r (at_of l.fn.node l.asks far) (at_of l.node l.asks) [] written written;
  silent : g.N.Nodes.silent l.fn.nodes ≡ true → g.N.Nodes.silent l.nodes ≡ true;
  later : g.D.Disk.faults (disk_of l.fn.node) ≤ g.D.Disk.faults (disk_of l.node);
  disk : g.D.Disk.faults (disk_of l.node) ≡ g.D.Disk.faults (disk_of l.fn.node);
  lent : g.D.Disk.identity (disk_of l.node) ≡ g.D.Disk.identity (disk_of l.fn.node);
}
