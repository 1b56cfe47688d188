-- One event more.
use Rattle.std.specs.Prelude.{◌≡◌}
use Rattle.ld_schedule.specs.declared.event.Event.{Event}
use Rattle.ld_machine.specs.Run.{step}
use Rattle.ld_cluster.specs.Standing.{config_of, state_of, IsReached}
use Rattle.ld_cluster.specs.declared.cluster.Cluster.{Cluster}

-- the cluster took the machine's step, and represents the state that its steps lead to
pub record IsTaken (old : Cluster) (event : Event) (new : Cluster) : Type 0 where
  pub config : config_of new ≡ config_of old
  pub state : state_of new ≡ (step (config_of old) (state_of old) event).state
  pub reached : IsReached new
