use Rattle.std.proofs.Common.{◌≡◌, ◌≤◌, ◌+◌, ◌-◌, true, false, length, take}
use Rattle.ld_ids.specs.Set.{members}
use Rattle.ld_operate.specs.Heard.{AreLater, IsBroken, HeardAll}
use Rattle.ld_operate.proofs.nodes.show_nodes.Given as goal

abbrev pub invariant-loop-place : goal.invariant-loop-place
invariant-loop-place g l = (l.place-end ≡ length (members l.set)) × record {
  heard : HeardAll l.json (g.N.Nodes.tells l.fn.nodes) (g.N.Nodes.tells l.nodes) (g.N.Nodes.silent l.nodes) l.log l.first (l.last + 1 - l.first) (take l.place (members l.set)) (g.O.Sink.written l.fn.out) (g.O.Sink.written l.out) l.whole;
  broken : l.whole ≡ false → IsBroken (g.N.Nodes.faults l.fn.nodes) (g.N.Nodes.faults l.nodes) (g.N.Nodes.endings l.fn.nodes) (g.N.Nodes.endings l.nodes);
  later : AreLater (g.N.Nodes.faults l.fn.nodes) (g.N.Nodes.faults l.nodes) (g.N.Nodes.endings l.fn.nodes) (g.N.Nodes.endings l.nodes);
  output : g.O.Sink.faults l.fn.out ≤ g.O.Sink.faults l.out;
  quiet : g.N.Nodes.silent l.fn.nodes ≡ true → g.N.Nodes.silent l.nodes ≡ true;
}
