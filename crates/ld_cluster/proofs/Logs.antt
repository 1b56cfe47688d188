-- Logs that the configuration lacks.
use Rattle.std.proofs.Common.{◌≡◌, ℕ, Bool, true, false, ◌||◌, ◌==◌, List, [], ◌∷◌, refl, if◌then◌else◌}
use Rattle.ld_table.specs.Words.{any_of}
use Rattle.ld_ids.specs.declared.set.Spec.{Spec}
use Rattle.ld_machine.specs.Config.{no_spec, spec_in}

missing_by : (b d : Bool) (s t u : Spec) → (b || d) ≡ false → (d ≡ false → t ≡ u) → (if b then s else t) ≡ u
missing_by true d s t u h k = absurd cc
missing_by false d s t u h k = k h

pub no_spec_in : (l : ℕ) (ss : List Spec) → any_of (λ s. s.log == l) ss ≡ false → spec_in l ss ≡ no_spec l
no_spec_in l [] h = refl
no_spec_in l (s ∷ ss) h = missing_by (s.log == l) (any_of (λ x. x.log == l) ss) s (spec_in l ss) (no_spec l) h (λ k. no_spec_in l ss k)
