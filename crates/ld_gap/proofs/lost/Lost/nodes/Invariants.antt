use Rattle.std.proofs.Common.{◌≡◌, ◌<◌, ◌≤◌, ℕ, None, false, is_some, get_or, length}
use Rattle.ld_gap.proofs.lost.Lost.nodes.Given as goal

abbrev pub invariant-loop-place : goal.invariant-loop-place
invariant-loop-place l = (length l.nodes ≡ 16) × ((j : ℕ) → j < l.place → get_or l.nodes j false ≡ is_some (get_or l.slot-items j None)) × ((j : ℕ) → l.place ≤ j → get_or l.nodes j false ≡ false)
