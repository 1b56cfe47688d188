-- What a cluster represents: a state of the machine.
use Rattle.std.specs.Prelude.{◌≡◌, List, [], ◌∷◌, map}
use Rattle.ld_config.specs.declared.config.Config.{Config}
use Rattle.ld_config.specs.Bounds.{IsInBounds}
use Rattle.ld_machine.specs.State.{State, start}
use Rattle.ld_machine.specs.Calm.{Move, Takes, Calms, moved}
use Rattle.ld_bounds.specs.Sound.{IsSound}
use Rattle.ld_register.specs.Arming.{Foresees}
use Rattle.ld_host.specs.Standing.{AreHosts}
use Rattle.ld_clients.specs.Acting.{AreSequencers}
use Rattle.ld_clients.specs.Reads.{AreReaders}
use Rattle.ld_cluster.specs.declared.cluster.Cluster.{Cluster}
use Rattle.ld_cluster.specs.declared.past.Step.{Step}
use Rattle.ld_cluster.specs.declared.past.Step.TheVariants as steps

-- its configuration
abbrev pub config_of : Cluster → Config
config_of k = k.config

-- a step that was taken
abbrev pub as_move : Step → Move
as_move (steps.Takes e) = Takes e
as_move (steps.Calms name) = Calms name

-- the steps that it took; of a flow each delivery is one, and of a calm each of its steps
abbrev pub past_of : Cluster → List Move
past_of k = map as_move k.past.items

-- the state that some steps lead to
abbrev pub state_by : Config → State → List Move → State
state_by c s [] = s
state_by c s (m ∷ ms) = state_by c (moved c s m).state ms

-- the state that its steps lead to
abbrev pub state_of : Cluster → State
state_of k = state_by (config_of k) (start (config_of k)) (past_of k)

-- each part is what the state says of it: each node with the bytes of its own disk, and the register with those of its own
pub record Parts (k : Cluster) (s : State) : Type 0 where
  pub nodes : AreHosts k.config k.hosts s.nodes
  pub register : Foresees k.register s.register
  pub network : s.network ≡ k.network
  pub sequencers : AreSequencers k.config s k.sequencers
  pub readers : AreReaders k.config s k.readers
  pub specs : s.specs ≡ k.specs

-- it represents a state that a run of its configuration may reach
pub record Stands (k : Cluster) (s : State) : Type 0 where
  pub parts : Parts k s
  pub bounds : IsInBounds (config_of k)
  pub sound : IsSound (config_of k) s

-- it represents the state that its steps lead to
abbrev pub IsReached : Cluster → Type 0
IsReached k = Stands k (state_of k)
