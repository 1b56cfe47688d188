-- What holds of the register: its logs are some of the configuration's, and its numbers are in their bounds.
use Rattle.std.specs.Prelude.{ℕ, ◌≡◌, ◌≤◌, ◌<◌, ◌-◌, ◌^◌, true, IfSome}
use Rattle.std.specs.List.{AllByRecursion}
use Rattle.ld_table.specs.Table.{Ordered}
use Rattle.ld_ids.specs.Id.{IsNode}
use Rattle.ld_ids.specs.declared.set.Spec.{Spec}
use Rattle.ld_config.specs.declared.config.Config.{Config}
use Rattle.ld_msg.specs.declared.msg.Summary.{Summary}
use Rattle.ld_msg.specs.Bounds.{Is32, IsEpoch, IsSummary}
use Rattle.ld_msg.specs.Register.{Register, Epochs, View}
use Rattle.ld_machine.specs.Config.{has_log}
use Rattle.ld_node_bounds.specs.States.{IsClosed}
use Rattle.ld_bounds.specs.Specs.{IsSpecFor}

-- a summary of an epoch up to the last closed one
pub record IsClosedBy (lce : ℕ) (y : ℕ × Summary) : Type 0 where
  pub closed : y.0 ≤ lce
  pub summary : IsClosed y

-- what is fixed for an epoch of the log up to the greatest one that was handed out, or what swaps left of it
pub record IsFixed (c : Config) (l epoch : ℕ) (s : ℕ × Spec) : Type 0 where
  pub from_one : 1 ≤ s.0
  pub handed_out : s.0 ≤ epoch
  pub spec : IsSpecFor c l s.1

-- the epochs of a log
pub record IsEpochs (c : Config) (l : ℕ) (v : Epochs) : Type 0 where
  pub epoch : IsEpoch v.epoch
  pub lce : v.lce < v.epoch
  pub specs : AllByRecursion (IsFixed c l v.epoch) v.specs
  pub swapped : AllByRecursion (IsFixed c l v.epoch) v.swapped
  pub summaries : AllByRecursion (IsClosedBy v.lce) v.summaries

-- a log of the configuration, with its epochs
pub record IsKnownLog (c : Config) (l : ℕ × Epochs) : Type 0 where
  pub log : has_log c l.0 ≡ true
  pub epochs : IsEpochs c l.0 l.1

-- the last generation of a node
pub record IsGeneration (g : ℕ × ℕ) : Type 0 where
  pub node : IsNode g.0
  pub generation : Is32 g.1

pub record IsRegister (c : Config) (r : Register) : Type 0 where
  pub rise : Ordered r.logs
  pub logs : AllByRecursion (IsKnownLog c) r.logs
  pub generations : AllByRecursion IsGeneration r.generations

-- what a look at an epoch of a log shows
pub record IsLook (c : Config) (l e : ℕ) (w : View) : Type 0 where
  pub of_epoch : w.at ≡ e
  pub most : w.epoch ≤ 2 ^ 32 - 2
  pub summary : IfSome w.summary (IsSummary e)
  pub spec : IsSpecFor c l w.spec
