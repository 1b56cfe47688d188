-- The keys of a table.
use Rattle.std.proofs.Common.{◌≡◌, ℕ, List, [], ◌∷◌, Bool, refl, ap}
use Rattle.std.specs.Prelude.{◌&&◌}
use Rattle.ld_table.specs.Words.{all_of}
use Rattle.ld_msg.specs.Reader.{keys}

pub all_keys : (p : ℕ → Bool) (m : List (ℕ × ℕ)) → all_of (λ k. p k.0) m ≡ all_of p (keys m)
all_keys p [] = refl
all_keys p (k ∷ m) = ap (λ b. p k.0 && b) (all_keys p m)
