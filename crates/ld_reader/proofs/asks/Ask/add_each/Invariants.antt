use Rattle.std.proofs.Common.{◌≡◌, ◌≤◌, ◌++◌, ℕ, drop, take, length}
use Rattle.std.specs.List.{All}
use Rattle.ld_ids.specs.Set.{members}
use Rattle.ld_msg.specs.Bounds.{IsMessage}
use Rattle.ld_reader.specs.Following.{messages_from}
use Rattle.ld_reader.specs.Rounds.{asks_once}
use Rattle.ld_reader.proofs.asks.Ask.add_each.Given as goal

abbrev pub invariant-loop-place : goal.invariant-loop-place
invariant-loop-place l = record {
  all : l.list.items ++ messages_from l.self.reader l.self.log (asks_once l.self.senders l.round l.self.from (drop l.place (members l.nodes))) ≡ l.initial.list.items ++ messages_from l.self.reader l.self.log (asks_once l.self.senders l.round l.self.from (members l.nodes));
  longer : length l.initial.list.items ≤ length l.list.items;
  front : (n : ℕ) → n ≤ length l.initial.list.items → take n l.list.items ≡ take n l.initial.list.items;
  messages : All IsMessage l.initial.list.items → All IsMessage l.list.items;
}
