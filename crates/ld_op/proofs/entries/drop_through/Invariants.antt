use Rattle.std.proofs.Common.{◌≡◌, nat_lt, btree_map_len}
use Rattle.ld_table.specs.Table.{keep_keys}
use Rattle.ld_op.proofs.entries.drop_through.Given as goal

abbrev pub invariant-taken : goal.invariant-taken
invariant-taken l = keep_keys (λ s. nat_lt l.number s) l.map.entries ≡ keep_keys (λ s. nat_lt l.number s) l.fn.map.entries

abbrev pub decreases-taken : goal.decreases-taken
decreases-taken l = btree_map_len l.map
