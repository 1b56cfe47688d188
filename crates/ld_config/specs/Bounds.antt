-- What holds of each configuration that is read.
use Rattle.std.specs.Prelude.{length, ◌≡◌, ◌≤◌, Bool, false, List, [], ◌∷◌}
use Rattle.ld_ids.specs.Set.{members, IsSet, IsSubset}
use Rattle.ld_ids.specs.Id.{IsLog}
use Rattle.ld_ids.specs.declared.set.Spec.{Spec}
use Rattle.ld_config.specs.Config.{is_used}
use Rattle.ld_config.specs.declared.config.Config.{Config}

-- a log's nodes are some of the nodes, a record is stored on at least one of them and at most all, and few more are asked
pub record IsSpecOf (nodes : List Bool) (spec : Spec) : Type 0 where
  pub log : IsLog spec.log
  pub set : IsSet spec.set
  pub within : IsSubset spec.set nodes
  pub least : 1 ≤ spec.r
  pub most : spec.r ≤ length (members spec.set)
  pub few : spec.extras ≤ 3

-- each log is such a one, and is named once
abbrev pub AreSpecsOf : List Bool → List Spec → Type 0
AreSpecsOf nodes [] = Unit {0}
AreSpecsOf nodes (spec ∷ specs) = IsSpecOf nodes spec × (is_used spec.log specs ≡ false) × AreSpecsOf nodes specs

-- there is some node, and there are 1 to 64 logs
pub record IsInBounds (config : Config) : Type 0 where
  pub nodes : IsSet config.nodes
  pub some_node : 1 ≤ length (members config.nodes)
  pub some_log : 1 ≤ length config.logs
  pub few_logs : length config.logs ≤ 64
  pub specs : AreSpecsOf config.nodes config.logs
