-- What a calm of a cluster is for.
use Rattle.std.specs.Prelude.{ℕ, ◌≡◌, ◌≤◌, length, true}
use Rattle.ld_machine.specs.Config.{has_log}
use Rattle.ld_machine.specs.Calm.{calms, calm_bound, calm_moves}
use Rattle.ld_calm.specs.Ends.{IsCalm}
use Rattle.ld_served.specs.Served.{AllWell, IsServed, NoLimit}
use Rattle.ld_cluster.specs.declared.cluster.Cluster.{Cluster}
use Rattle.ld_cluster.specs.Standing.{config_of, state_of}

-- the steps were all there are, and at most as many as the bound; and where all was well before, and no limit was met, each log of the configuration is served after
pub record HasServed (old new : Cluster) : Type 0 where
  pub ends : IsCalm (config_of old) (state_of old) (calm_moves (config_of old) (state_of old))
  pub few : length (calm_moves (config_of old) (state_of old)) ≤ calm_bound (config_of old) (state_of old)
  pub served : AllWell (config_of old) (state_of old) → NoLimit (calms (config_of old) (state_of old)) → (l : ℕ) → has_log (config_of old) l ≡ true → IsServed (config_of old) (state_of new) l
