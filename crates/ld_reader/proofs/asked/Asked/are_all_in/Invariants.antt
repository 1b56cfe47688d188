use Rattle.std.proofs.Common.{◌≡◌, drop}
use Rattle.ld_table.specs.Words.{all_of, is_in}
use Rattle.ld_ids.specs.Set.{members}
use Rattle.ld_reader.proofs.asked.Asked.are_all_in.Given as goal

abbrev pub invariant-loop-place : goal.invariant-loop-place
invariant-loop-place l = all_of (λ y. is_in y l.told) (drop l.place (members l.nodes)) ≡ all_of (λ y. is_in y l.told) (members l.nodes)
