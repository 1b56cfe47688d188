-- What holds of each sequencer: what it may send under its numbers is in its bounds.
use Rattle.std.specs.Prelude.{ℕ, ◌≡◌, ◌≤◌, ◌<◌, ◌+◌, ◌-◌, ◌^◌, true, List, [], ◌∷◌, length, Option, Some, None}
use Rattle.std.specs.List.{AllByRecursion}
use Rattle.ld_lsn.specs.Number.{numbered}
use Rattle.ld_config.specs.declared.config.Config.{Config}
use Rattle.ld_msg.specs.Bounds.{Is32, IsEpoch, IsSummary}
use Rattle.ld_msg.specs.Register.{Register, epochs_of}
use Rattle.ld_msg.specs.Sequencer.{Sequencer, Append, Stage, Seals, Stores, Closes, Recovery, last_wave}
use Rattle.ld_machine.specs.Config.{has_log}
use Rattle.ld_sequencer_bounds.specs.Sequencers.{IsAppend, IsTold, IsStoring}
use Rattle.ld_bounds.specs.Specs.{IsSpecFor}

-- the wave that an append was sent in last
abbrev pub IsInWave : ℕ × Append → Type 0
IsInWave p = p.1.wave ≤ last_wave

abbrev pub IsStage : ℕ → Stage → Type 0
IsStage epoch (Seals d) = AllByRecursion (IsTold epoch) d
IsStage epoch (Stores g) = IsStoring epoch g × (g.wave ≤ last_wave)
IsStage epoch (Closes y short) = IsSummary epoch y

-- the recovery of an epoch before the sequencer's own
pub record IsRecovery (c : Config) (l own : ℕ) (v : Recovery) : Type 0 where
  pub from_one : 1 ≤ v.epoch
  pub before : v.epoch < own
  pub spec : IsSpecFor c l v.spec
  pub stage : IsStage v.epoch v.stage

abbrev pub MayRecover : Config → ℕ → ℕ → Option Recovery → Type 0
MayRecover c l own None = Unit {0}
MayRecover c l own (Some v) = IsRecovery c l own v

abbrev pub MayBePreempted : Option ℕ → Type 0
MayBePreempted None = Unit {0}
MayBePreempted (Some k) = Is32 k

-- under consecutive numbers from one on
abbrev pub AreNumbered : {X : Type 0} → ℕ → List (ℕ × X) → Type 0
AreNumbered from [] = Unit {0}
AreNumbered from (p ∷ ps) = (p.0 ≡ from) × AreNumbered (from + 1) ps

-- its log is one of the configuration's, and the register handed its epoch out
pub record IsSequencer (c : Config) (r : Register) (q : Sequencer) : Type 0 where
  pub log : has_log c q.log ≡ true
  pub epoch : IsEpoch q.epoch
  pub handed_out : q.epoch ≤ (epochs_of r q.log).epoch
  pub spec : IsSpecFor c q.log q.spec
  pub lce : q.lce < q.epoch
  pub numbers : q.lng + length q.appends ≤ 2 ^ 32 - 2
  pub appends : AllByRecursion (IsAppend q.epoch) q.appends
  pub waves : AllByRecursion IsInWave q.appends
  pub rows : AreNumbered (numbered q.epoch (q.lng + 1)) q.appends
  pub recovery : MayRecover c q.log q.epoch q.recovery
  pub preempted : MayBePreempted q.preempted

-- a sequencer under its name
abbrev pub IsNamedSequencer : Config → Register → List ℕ × Sequencer → Type 0
IsNamedSequencer c r q = IsSequencer c r q.1
