use Rattle.std.proofs.Common.{◌≡◌, ◌++◌, length, take}
use Rattle.ld_ids.specs.Set.{members, numbers_text}
use Rattle.ld_operate.proofs.parts.nodes.Given as goal

abbrev pub invariant-loop-place : goal.invariant-loop-place
invariant-loop-place l = (l.place-end ≡ length (members l.set)) × (l.out.items ≡ l.initial.out.items ++ numbers_text (take l.place (members l.set)))
