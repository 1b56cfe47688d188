-- What is said of a log.
use Rattle.std.proofs.Common.{◌≡◌, ℕ, Bool, true, false, ◌==◌, List, [], ◌∷◌, refl, if◌then◌else◌}
use Rattle.std.proofs.lemmas.Bool.{eqb-true}
use Rattle.ld_ids.specs.declared.set.Spec.{Spec}
use Rattle.ld_machine.specs.Config.{spec_in}

log_step : (b : Bool) (l : ℕ) (s t : Spec) → (s.log == l) ≡ b → t.log ≡ l → (if b then s else t).log ≡ l
log_step true l s t e h = eqb-true s.log l e
log_step false l s t e h = h

pub spec_log : (l : ℕ) (ss : List Spec) → (spec_in l ss).log ≡ l
spec_log l [] = refl
spec_log l (s ∷ ss) = log_step (s.log == l) l s (spec_in l ss) refl (spec_log l ss)
