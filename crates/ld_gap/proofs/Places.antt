-- A list after a write at a place.
use Rattle.std.proofs.Common.{◌≡◌, ℕ, ◌+◌, ◌<◌, List, length, get_or, set, arith, below_more}
use Rattle.std.proofs.lemmas.Grind.{common_steps}

-- what holds of the first places holds of one more after a write there
pub set_more : {Y : Type 0} (f : ℕ → Y) (xs : List Y) (i : ℕ) (x d : Y) → i < length xs → ((j : ℕ) → j < i → get_or xs j d ≡ f j) → x ≡ f i → (j : ℕ) → j < i + 1 → get_or (set xs i x) j d ≡ f j
set_more f xs i x d inside before here = below_more _ i
    (λ j lt. let other : j ≡ i → ⊥ = (λ e. omega arith) in grind (arith, before j lt, common_steps))
    (grind (arith, common_steps))
