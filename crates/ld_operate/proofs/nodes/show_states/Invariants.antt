use Rattle.std.proofs.Common.{◌≡◌, ◌≤◌, ◌-◌, max, true}
use Rattle.ld_operate.specs.Heard.{AreLater, HeardStates}
use Rattle.ld_operate.proofs.nodes.show_states.Given as goal

abbrev pub invariant-loop-epoch : goal.invariant-loop-epoch
invariant-loop-epoch g l = record {
  heard : HeardStates l.json (g.N.Nodes.tells l.fn.nodes) (g.N.Nodes.tells l.nodes) (g.N.Nodes.silent l.nodes) l.log l.node l.trim l.first (l.epoch - l.first) (g.O.Sink.written l.fn.out) (g.O.Sink.written l.out) true;
  later : AreLater (g.N.Nodes.faults l.fn.nodes) (g.N.Nodes.faults l.nodes) (g.N.Nodes.endings l.fn.nodes) (g.N.Nodes.endings l.nodes);
  output : g.O.Sink.faults l.fn.out ≤ g.O.Sink.faults l.out;
  quiet : g.N.Nodes.silent l.fn.nodes ≡ true → g.N.Nodes.silent l.nodes ≡ true;
  most : l.epoch ≤ max l.first l.epoch-end;
}
