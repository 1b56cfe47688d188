-- What holds of the nodes, factor and extras that are set or fixed for a log.
use Rattle.std.specs.Prelude.{ℕ, ◌≡◌, true}
use Rattle.ld_ids.specs.declared.set.Spec.{Spec}
use Rattle.ld_config.specs.declared.config.Config.{Config}
use Rattle.ld_config.specs.Bounds.{IsSpecOf}
use Rattle.ld_machine.specs.Config.{has_log}

-- they are within the configuration's bounds, and are this log's
pub record IsSpecFor (c : Config) (l : ℕ) (spec : Spec) : Type 0 where
  pub fits : IsSpecOf c.nodes spec
  pub log : spec.log ≡ l

-- what was set for later activations of a log of the configuration
pub record IsSetFor (c : Config) (s : ℕ × Spec) : Type 0 where
  pub log : has_log c s.0 ≡ true
  pub spec : IsSpecFor c s.0 s.1
