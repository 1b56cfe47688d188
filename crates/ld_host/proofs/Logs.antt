-- A node knows the logs of the configuration.
use Rattle.std.proofs.Common.{◌≡◌, ℕ, List, [], ◌∷◌, true, ◌==◌, ◌||◌, refl, ◌∙◌, ap}
use Rattle.ld_table.specs.Words.{is_in, any_of}
use Rattle.ld_ids.specs.declared.set.Spec.{Spec}
use Rattle.ld_config.specs.declared.config.Config.{Config}
use Rattle.ld_machine.specs.Config.{has_log}
use Rattle.ld_node.specs.Known.{logs_in, known_in}

pub logs_known : (l : ℕ) (ss : List Spec) → is_in l (logs_in ss) ≡ any_of (λ s. s.log == l) ss
logs_known l [] = refl
logs_known l (s ∷ ss) = ap (λ b. (s.log == l) || b) (logs_known l ss)

pub log_is_known : (c : Config) (l : ℕ) → has_log c l ≡ true → is_in l (known_in c).logs ≡ true
log_is_known c l has = logs_known l c.logs ∙ has
