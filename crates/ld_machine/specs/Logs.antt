-- The logs of a configuration, and the nodes, factor and extras of each.
use Rattle.std.specs.Prelude.{ℕ, List, [], ◌∷◌, ◌==◌, Bool, if◌then◌else◌}
use Rattle.ld_table.specs.Words.{any_of}
use Rattle.ld_ids.specs.Set.{no_nodes}
use Rattle.ld_ids.specs.declared.set.Spec.{Spec}
use Rattle.ld_config.specs.declared.config.Config.{Config}

-- a log that the configuration lacks
abbrev pub no_spec : ℕ → Spec
no_spec l = record { log = l; set = no_nodes; r = 0; extras = 0 }

abbrev pub spec_in : ℕ → List Spec → Spec
spec_in l [] = no_spec l
spec_in l (s ∷ ss) = if s.log == l then s else spec_in l ss

-- the nodes, factor and extras that count for a log as long as nothing else is set
abbrev pub first_spec : Config → ℕ → Spec
first_spec c l = spec_in l c.logs

abbrev pub has_log : Config → ℕ → Bool
has_log c l = any_of (λ s. s.log == l) c.logs
