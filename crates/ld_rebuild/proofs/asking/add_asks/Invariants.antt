use Rattle.std.proofs.Common.{◌≡◌, ◌≤◌, ◌++◌, drop, take, length}
use Rattle.std.specs.List.{All}
use Rattle.ld_ids.specs.Set.{members}
use Rattle.ld_msg.specs.Bounds.{IsMessage}
use Rattle.ld_rebuild.specs.Lacks.{asks_of}
use Rattle.ld_rebuild.proofs.asking.add_asks.Given as goal

abbrev pub invariant-loop-place : goal.invariant-loop-place
invariant-loop-place l = record {
  all : l.list.items ++ asks_of l.ask.id l.ask.log l.ask.from (drop l.place (members l.nodes)) ≡ l.initial.list.items ++ asks_of l.ask.id l.ask.log l.ask.from (members l.nodes);
  longer : length l.initial.list.items ≤ length l.list.items;
  front : take (length l.initial.list.items) l.list.items ≡ l.initial.list.items;
  messages : All IsMessage l.initial.list.items → All IsMessage l.list.items;
}
