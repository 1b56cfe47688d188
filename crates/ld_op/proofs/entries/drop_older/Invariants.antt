use Rattle.std.proofs.Common.{◌≡◌, ◌≤◌, btree_map_len}
use Rattle.ld_table.specs.Table.{keep}
use Rattle.ld_op.specs.Places.{place_passes}
use Rattle.ld_op.specs.Older.{stands_between}
use Rattle.ld_op.proofs.entries.drop_older.Given as goal

abbrev pub invariant-taken : goal.invariant-taken
invariant-taken l = record {
  ahead : l.above ≤ l.last;
  same : keep (place_passes (stands_between l.ballot l.above l.last)) l.map.entries ≡ keep (place_passes (stands_between l.ballot l.fn.above l.last)) l.fn.map.entries;
}

abbrev pub decreases-taken : goal.decreases-taken
decreases-taken l = btree_map_len l.map
