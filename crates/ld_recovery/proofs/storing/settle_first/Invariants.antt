use Rattle.std.proofs.Common.{◌≡◌, ◌≤◌, ◌+◌}
use Rattle.ld_table.specs.Words.{how_many}
use Rattle.ld_recovery.specs.Planning.{settle_first, lacks, has_settled}
use Rattle.ld_recovery.proofs.storing.settle_first.Given as goal

abbrev pub invariant-items : goal.invariant-items
invariant-items l = record {
  items : l.items.items ≡ settle_first l.place l.node l.initial.items.items;
  left : how_many (lacks l.factor) l.initial.items.items ≡ how_many (lacks l.factor) l.items.items + l.filled;
  fresh : how_many (has_settled l.node) l.items.items ≡ how_many (has_settled l.node) l.initial.items.items + l.fresh;
  few : l.filled ≤ l.place;
  few_fresh : l.fresh ≤ l.place;
}
