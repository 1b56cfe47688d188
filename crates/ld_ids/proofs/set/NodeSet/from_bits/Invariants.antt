use Rattle.std.proofs.Common.{◌≡◌, ◌-◌, ◌++◌, length, take}
use Rattle.ld_ids.specs.Set.{bits_set, bits_flags}
use Rattle.ld_ids.proofs.set.NodeSet.from_bits.Given as goal

abbrev pub invariant-loop-index : goal.invariant-loop-index
invariant-loop-index l = (length l.has ≡ 16) × (bits_set l.initial.bits ≡ take l.index l.has ++ bits_flags (16 - l.index) l.left)
