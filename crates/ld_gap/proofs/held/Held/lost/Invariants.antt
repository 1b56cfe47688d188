use Rattle.std.proofs.Common.{◌≡◌, ◌<◌, ◌+◌, ℕ, None, get_or, length}
use Rattle.ld_table.specs.Words.{is_in}
use Rattle.ld_ids.specs.Set.{members}
use Rattle.ld_gap.specs.Slots.{generation_within}
use Rattle.ld_gap.proofs.held.Held.lost.Given as goal

abbrev pub invariant-loop-place : goal.invariant-loop-place
invariant-loop-place l = (length l.generations ≡ 16) × ((j : ℕ) → j < l.place → get_or l.generations j None ≡ generation_within (is_in (j + 1) (members l.set)) l.number (get_or l.slot-items j None))
