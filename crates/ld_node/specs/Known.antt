-- What a node knows of the configuration: all nodes and the logs.
use Rattle.std.specs.Prelude.{ℕ, List, [], ◌∷◌}
use Rattle.ld_ids.specs.Set.{members}
use Rattle.ld_ids.specs.declared.set.Spec.{Spec}
use Rattle.ld_config.specs.declared.config.Config.{Config}

pub record Known : Type 0 where
  pub nodes : List ℕ
  pub logs : List ℕ

abbrev pub logs_in : List Spec → List ℕ
logs_in [] = []
logs_in (s ∷ ss) = s.log ∷ logs_in ss

abbrev pub known_in : Config → Known
known_in c = record { nodes = members c.nodes; logs = logs_in c.logs }
