use Rattle.std.proofs.Common.{◌≡◌, ◌≤◌, true, length, take}
use Rattle.ld_ids.specs.Set.{members}
use Rattle.ld_operate.specs.Heard.{AreLater, IsBroken}
use Rattle.ld_operate.specs.Trims.{HeardTrims}
use Rattle.ld_operate.proofs.trims.tell_trims.Given as goal

abbrev pub invariant-loop-place : goal.invariant-loop-place
invariant-loop-place g l = (l.place-end ≡ length (members l.config.nodes)) × record {
  heard : HeardTrims (g.N.Nodes.tells l.fn.nodes) (g.N.Nodes.tells l.nodes) (g.N.Nodes.silent l.nodes) (IsBroken (g.N.Nodes.faults l.fn.nodes) (g.N.Nodes.faults l.nodes) (g.N.Nodes.endings l.fn.nodes) (g.N.Nodes.endings l.nodes)) l.log l.upto (take l.place (members l.config.nodes)) (g.O.Sink.written l.fn.out) (g.O.Sink.written l.out) l.done;
  later : AreLater (g.N.Nodes.faults l.fn.nodes) (g.N.Nodes.faults l.nodes) (g.N.Nodes.endings l.fn.nodes) (g.N.Nodes.endings l.nodes);
  output : g.O.Sink.faults l.fn.out ≤ g.O.Sink.faults l.out;
  quiet : g.N.Nodes.silent l.fn.nodes ≡ true → g.N.Nodes.silent l.nodes ≡ true;
}
