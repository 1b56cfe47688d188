use Rattle.std.proofs.Common.{◌≡◌, ◌-◌, drop}
use Rattle.ld_ids.specs.Set.{set_bits}
use Rattle.ld_ids.proofs.set.NodeSet.bits.Given as goal

abbrev pub invariant-loop-index : goal.invariant-loop-index
invariant-loop-index l = l.bits ≡ set_bits (drop (16 - l.index) l.self-inside.has)
