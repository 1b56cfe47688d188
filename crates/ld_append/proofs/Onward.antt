-- An append that begins in a state to which a run leads.
use Rattle.std.proofs.Common.{◌⊎◌, inl, inr, ℕ, Bool, true, false, List, Option, Ok, Err}
use Rattle.std.specs.declared.result.Result.{Result}
use Rattle.ld_config.specs.declared.config.Config.{Config}
use Rattle.ld_config.specs.Bounds.{IsInBounds}
use Rattle.ld_schedule.specs.declared.event.Event.{Event}
use Rattle.ld_msg.specs.Register.{Register}
use Rattle.ld_machine.specs.State.{State}
use Rattle.ld_machine.specs.Run.{history}
use Rattle.ld_machine.specs.Safe.{Safe}
use Rattle.ld_safety.proofs.LostJoined.{every_run_is_safe}
use Rattle.ld_dial.specs.Far.{Far}
use Rattle.ld_rounds.specs.declared.ended.Ended.{Ended}
use Rattle.ld_rounds.specs.declared.ended.Ended.TheVariants as ends
use Rattle.ld_rounds.specs.Input.{Input}
use Rattle.ld_rounds.specs.Drives.{CallCounts, HasBroken}
use Rattle.ld_rounds.specs.Onward.{reached, EndsRun}
use Rattle.ld_rounds.proofs.Onward.{reached_on, stopped_on}
use Rattle.ld_append.specs.Appends.{AreSteps, EndAt, IsAppended, DroveAppend, IsSettled, sequencing, taken_end}
use Rattle.ld_append.proofs.Appending.{rounds_end}

abbrev pub ended_by : Bool → Result Bool Ended → Ended
ended_by shut (Ok true) = ends.Done
ended_by shut (Ok false) = taken_end shut
ended_by shut (Err e) = e

module _ (name : List ℕ) (log : ℕ) (counts : CallCounts) (coming : Option Input) (rounds : ℕ) (tells : Config → Far → Type 0) (registered : Register → Type 0) (c : Config) (b : IsInBounds c) (before : List Event) (old new : Option (List ℕ)) where
  abbrev s : State
  s = reached c before

  safe : (es : List Event) → Safe c (history c es)
  safe es = every_run_is_safe c es b

  abbrev at : Ended → State → List Event → Type 0
  at e = EndAt name log c s.network.count counts coming rounds e

  abbrev steps : Ended → ℕ → State → List Event → Type 0
  steps e n = AreSteps name log c s.network.count counts coming e n

  pub run_on : (e : Ended) → IsAppended name log counts coming rounds tells registered c s old new e → EndsRun (sequencing name) (HasBroken counts) c before old new e
  run_on ends.Done h = reached_on (sequencing name) (HasBroken counts) c before safe (steps ends.Done h.rounds) (tells c) old new (λ t. registered t.register × IsSettled name c s.network.count t) h.goes
  run_on ends.Rounds h = reached_on (sequencing name) (HasBroken counts) c before safe (steps ends.Rounds rounds) (tells c) old new (λ t. registered t.register) h
  run_on ends.NoMemory h = stopped_on (sequencing name) (HasBroken counts) c before safe (at ends.NoMemory) old new h
  run_on ends.Write h = stopped_on (sequencing name) (HasBroken counts) c before safe (at ends.Write) old new h
  run_on ends.LogLimit h = reached_on (sequencing name) (HasBroken counts) c before safe (λ t es. steps ends.Rounds rounds t es ⊎ at ends.LogLimit t es) (tells c) old new (λ t. registered t.register) h
  run_on (ends.Preempted by) h = reached_on (sequencing name) (HasBroken counts) c before safe (at (ends.Preempted by)) (tells c) old new (λ t. registered t.register) h
  run_on ends.EpochLimit h = reached_on (sequencing name) (HasBroken counts) c before safe (at ends.EpochLimit) (tells c) old new (λ t. registered t.register) h
  run_on ends.EpochFull h = reached_on (sequencing name) (HasBroken counts) c before safe (at ends.EpochFull) (tells c) old new (λ t. registered t.register) h
  run_on (ends.Register refusal) h = reached_on (sequencing name) (HasBroken counts) c before safe (at (ends.Register refusal)) (tells c) old new (λ t. registered t.register) h
  run_on (ends.BadFrame fault) h = h
  run_on (ends.BadLine line place) h = reached_on (sequencing name) (HasBroken counts) c before safe (at (ends.BadLine line place)) (tells c) old new (λ t. registered t.register) h
  run_on ends.Read h = reached_on (sequencing name) (HasBroken counts) c before safe (at ends.Read) (tells c) old new (λ t. registered t.register) h

  -- where it isn't silent
  pub run_loud : (Y : Type 0) (e : Ended) → Y ⊎ IsAppended name log counts coming rounds tells registered c s old new e → Y ⊎ EndsRun (sequencing name) (HasBroken counts) c before old new e
  run_loud Y e (inl y) = inl y
  run_loud Y e (inr h) = inr (run_on e h)

  -- by how the rounds went
  pub drove_on : (Y : Type 0) (shut : Bool) (r : Result Bool Ended) → Y ⊎ DroveAppend name log counts coming rounds tells registered c s old new r → Y ⊎ EndsRun (sequencing name) (HasBroken counts) c before old new (ended_by shut r)
  drove_on Y shut r (inl y) = inl y
  drove_on Y shut (Ok true) (inr h) = inr (run_on ends.Done h)
  drove_on Y shut (Ok false) (inr h) = inr (run_on (taken_end shut) (rounds_end name log counts coming rounds tells registered c b s old new shut h))
  drove_on Y shut (Err e) (inr h) = inr (run_on e h)
