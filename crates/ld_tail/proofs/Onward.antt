-- A reader that begins in a state to which a run leads.
use Rattle.std.proofs.Common.{◌⊎◌, inl, inr, ℕ, ◌<◌, List, Option}
use Rattle.ld_config.specs.declared.config.Config.{Config}
use Rattle.ld_config.specs.Bounds.{IsInBounds}
use Rattle.ld_schedule.specs.declared.event.Event.{Event}
use Rattle.ld_msg.specs.Register.{Register}
use Rattle.ld_machine.specs.State.{State}
use Rattle.ld_machine.specs.Run.{history}
use Rattle.ld_machine.specs.Safe.{Safe}
use Rattle.ld_safety.proofs.LostJoined.{every_run_is_safe}
use Rattle.ld_dial.specs.Far.{Far}
use Rattle.ld_rounds.specs.declared.ended.Ended.{Ended}
use Rattle.ld_rounds.specs.declared.ended.Ended.TheVariants as ends
use Rattle.ld_rounds.specs.Drives.{CallCounts, HasBroken}
use Rattle.ld_rounds.specs.Onward.{reached}
use Rattle.ld_rounds.proofs.Onward.{reached_on, stopped_on}
use Rattle.ld_tail.specs.Tails.{Wanted, tailing, IsFinished, AreSteps, EndAt, IsTailed, EndsTail}

module _ (w : Wanted) (counts : CallCounts) (rounds : ℕ) (tells : Config → Far → Type 0) (registered : Register → Type 0) (c : Config) (b : IsInBounds c) (before : List Event) (old new : Option (List ℕ)) where
  abbrev s : State
  s = reached c before

  safe : (es : List Event) → Safe c (history c es)
  safe es = every_run_is_safe c es b

  abbrev steps : ℕ → State → List Event → Type 0
  steps n = AreSteps w c s.network.count n counts

  abbrev at : State → List Event → Type 0
  at = EndAt w c s.network.count rounds counts

  pub run_on : (e : Ended) → IsTailed w counts rounds tells registered c s old new e → EndsTail w (HasBroken counts) c before old new e
  run_on ends.Done h = reached_on (tailing w) (HasBroken counts) c before safe (steps h.rounds) (tells c) old new (λ t. registered t.register × IsFinished w.name t) h.goes
  run_on ends.Rounds h = reached_on (tailing w) (HasBroken counts) c before safe (steps rounds) (tells c) old new (λ t. registered t.register × (0 < rounds → IsFinished w.name t → ⊥)) h
  run_on (ends.BadFrame fault) h = h
  run_on ends.NoMemory h = stopped_on (tailing w) (HasBroken counts) c before safe at old new h
  run_on ends.Write h = stopped_on (tailing w) (HasBroken counts) c before safe at old new h
  run_on ends.LogLimit h = stopped_on (tailing w) (HasBroken counts) c before safe at old new h
  run_on (ends.Preempted by) h = stopped_on (tailing w) (HasBroken counts) c before safe at old new h
  run_on ends.EpochLimit h = stopped_on (tailing w) (HasBroken counts) c before safe at old new h
  run_on ends.EpochFull h = stopped_on (tailing w) (HasBroken counts) c before safe at old new h
  run_on (ends.Register refusal) h = stopped_on (tailing w) (HasBroken counts) c before safe at old new h
  run_on (ends.BadLine line place) h = stopped_on (tailing w) (HasBroken counts) c before safe at old new h
  run_on ends.Read h = stopped_on (tailing w) (HasBroken counts) c before safe at old new h

  -- where it isn't silent
  pub run_loud : (Y : Type 0) (e : Ended) → Y ⊎ IsTailed w counts rounds tells registered c s old new e → Y ⊎ EndsTail w (HasBroken counts) c before old new e
  run_loud Y e (inl y) = inl y
  run_loud Y e (inr h) = inr (run_on e h)
