-- How `trim` ends, by its status.
use Rattle.std.specs.Prelude.{ℕ, ◌≡◌, ◌≤◌, ◌<◌, ◌⊎◌, if◌then◌else◌, codes, List, [], ◌∷◌, Bool, true, false, Option, None, Some, Result, Ok, Err}
use Rattle.ld_config.specs.declared.config.Config.{Config}
use Rattle.ld_config.specs.Bounds.{IsInBounds}
use Rattle.ld_schedule.specs.declared.event.Event.{Event}
use Rattle.ld_msg.specs.Register.{Register as Contents}
use Rattle.ld_wire.specs.declared.fault.WireFault.{WireFault}
use Rattle.ld_machine.specs.Config.{first_spec}
use Rattle.ld_machine.specs.State.{State}
use Rattle.ld_machine.specs.Step.{spec_set}
use Rattle.ld_dial.specs.Far.{Far}
use Rattle.ld_operate.specs.declared.stop.LookStop.TheVariants as looks
use Rattle.ld_operate.specs.declared.stop.StatusStop.{StatusStop}
use Rattle.ld_operate.specs.declared.stop.StatusStop.TheVariants as stops
use Rattle.ld_operate.specs.Heard.{IsBroken, IsNodeStop}
use Rattle.ld_operate.specs.Trims.{HasTrims}
use Rattle.ld_words.specs.declared.command.TrimWords.{TrimWords}
use Rattle.ld_rounds.specs.Drives.{counted, HasBroken}
use Rattle.ld_rounds.specs.Endings.{IsOffAs, IsEndedOff}
use Rattle.ld_rounds.specs.Input.{Input, all_taken}
use Rattle.ld_rounds.specs.Onward.{reached, EndsRun}
use Rattle.ld_rounds.specs.Reaching.{Begins}
use Rattle.ld_rounds.specs.declared.request.Request.TheVariants as asks
use Rattle.ld_rounds.specs.declared.ended.Ended.{Ended}
use Rattle.ld_rounds.specs.declared.ended.Ended.TheVariants as ends
use Rattle.ld_append.specs.Acting.{HoldsSome, LacksRoom, MayCrowd}
use Rattle.ld_append.specs.Appends.{HasNone, sequencing, IsAppended, IsEndOfAppend, IsRefused}
use Rattle.ld_cli.specs.declared.status.Status.{Status}
use Rattle.ld_cli.specs.declared.status.Status.TheVariants as statuses
use Rattle.ld_cli.specs.Clients.{EndsDrive}
use Rattle.ld_cli.specs.Looks.{status_of_nodes}

-- ---- what is asked for ----

-- the trim up to this number, and nothing behind it; or nothing any more
abbrev pub trim_coming : Option ℕ → Input
trim_coming None = all_taken
trim_coming (Some upto) = record { requests = asks.Trim upto ∷ []; off = None }

-- ---- its status ----

-- it ended so, and isn't done
abbrev pub Undone : (Ended → Type 0) → Ended → Type 0
Undone P ends.Done = ⊥
Undone P ended = P ended

-- whether each node has trimmed as far; where one hasn't, the status tells whether the nodes' count of failures rose
abbrev pub status_told : Result Bool StatusStop → Bool → Status
status_told (Ok true) risen = statuses.Ok
status_told (Ok false) risen = if risen then statuses.Link else statuses.NotDone
status_told (Err stop) risen = status_of_nodes stop

-- each status has what was told of the nodes, or why that stopped, and no other status comes; the nodes' count of failures before and now
abbrev pub EndsTold : ℕ → ℕ → (Bool → Type 0) → (StatusStop → Type 0) → Status → Type 0
EndsTold before now told stopped statuses.Ok = told true
EndsTold before now told stopped statuses.Link = told false × (before < now)
EndsTold before now told stopped statuses.NotDone = told false × (now ≤ before)
EndsTold before now told stopped statuses.NoMemory = stopped (stops.Look looks.NoMemory)
EndsTold before now told stopped statuses.Write = stopped (stops.Look looks.Write)
EndsTold before now told stopped (statuses.BadFrame fault) = stopped (stops.BadFrame fault)
EndsTold before now told stopped _ = ⊥

-- where it ends by what begins no frame, that is why the nodes say so
abbrev pub IsOffTrim : Option WireFault → Status → Type 0
IsOffTrim off (statuses.BadFrame fault) = off ≡ Some fault
IsOffTrim off _ = Unit {0}

-- of nodes: their counts of failures and of ends, what they tell, whether they are silent, and which bytes begin no frame
module _ {N G O : Type 0} (faults endings : N → ℕ) (tells : N → Config → Far → Type 0) (silent : N → Bool) (off : N → Option WireFault)
    -- of a register: its count of faults, whether it tells, where it is damaged, what it holds, what a crash may leave, and what it tells
    (fails : G → ℕ) (told : G → Type 0) (damaged : G → ℕ → Type 0) (holds may_hold shows : G → Contents → Type 0)
    -- of an output: its count of faults, and what was written
    (misses : O → ℕ) (written : O → List ℕ) where
  -- from any sound state of the written machine that they tell of, as an append of that one trim goes
  abbrev pub Goes : N → N → G → G → O → O → TrimWords → Ended → Type 0
  Goes nodes now reg reg_now out out_now w ended = (s : State) (far : Far) → tells nodes w.of.config far → Begins (HasNone (codes "s") (shows reg)) w.of.config s far → spec_set w.of.config s w.of.log ≡ first_spec w.of.config w.of.log
      → (silent now ≡ true) ⊎ IsAppended (codes "s") w.of.log (counted (faults nodes) (faults now) (endings nodes) (endings now)) (Some (trim_coming (Some w.upto))) w.of.rounds (tells now) (shows reg_now) w.of.config s (Some (written out)) (Some (written out_now)) ended

  -- where a run leads to such a state, it goes on by the drive, and is safe as a whole
  abbrev pub RunsOn : N → N → G → G → O → O → TrimWords → Ended → Type 0
  RunsOn nodes now reg reg_now out out_now w ended = (before : List Event) (far : Far) → IsInBounds w.of.config → tells nodes w.of.config far → Begins (HasNone (codes "s") (shows reg)) w.of.config (reached w.of.config before) far
      → spec_set w.of.config (reached w.of.config before) w.of.log ≡ first_spec w.of.config w.of.log
      → (silent now ≡ true) ⊎ EndsRun (sequencing (codes "s")) (HasBroken (counted (faults nodes) (faults now) (endings nodes) (endings now))) w.of.config before (Some (written out)) (Some (written out_now)) ended

  -- the drive went so, and why it ended
  pub record HasDriven (nodes now : N) (reg reg_now : G) (out out_now : O) (w : TrimWords) (ended : Ended) : Type 0 where
    pub goes : Goes nodes now reg reg_now out out_now w ended
    pub runs : RunsOn nodes now reg reg_now out out_now w ended
    pub cause : IsEndOfAppend (told reg → MayCrowd (may_hold reg) w.of.log) (λ place. told reg → damaged reg place) (Some (trim_coming (Some w.upto))) 0 0 (misses out) (misses out_now) (Some (written out)) (Some (written out_now)) ended
    pub refused : IsRefused (λ place. told reg → damaged reg place) (told reg → HoldsSome (holds reg) × LacksRoom (holds reg_now)) (fails reg) (fails reg_now) ended
    pub off_as : IsOffAs (off now) ended
    pub ended_off : IsEndedOff (off nodes) (off now) ended
    pub later : misses out ≤ misses out_now

  -- the drive was done with these nodes and this output, and that is so from there on
  pub record Behind (T : N → O → Type 0) (nodes : N) (reg reg_now : G) (out : O) (w : TrimWords) : Type 0 where
    pub middle : N
    pub output : O
    pub done : HasDriven nodes middle reg reg_now out output w ends.Done
    pub follows : T middle output

  -- the lines of how far each node has trimmed were written, and whether that is as far as was asked for
  abbrev pub IsTold : N → O → TrimWords → Bool → N → O → Type 0
  IsTold now out_now w whole nodes out = HasTrims (tells nodes) (tells now) (silent now) (IsBroken (faults nodes) (faults now) (endings nodes) (endings now)) w.of.config w.of.log w.upto (written out) (written out_now) whole

  -- why that stopped
  abbrev pub IsUntold : N → O → StatusStop → N → O → Type 0
  IsUntold now out_now stop nodes out = IsNodeStop (misses out) (misses out_now) (off now) stop

  -- the drive ended, and wasn't done; or it was done, and behind it was told how far each node has trimmed
  abbrev pub IsTrimmed : N → N → G → G → O → O → TrimWords → Status → Type 0
  IsTrimmed nodes now reg reg_now out out_now w status = EndsDrive (faults nodes) (faults now) (Undone (HasDriven nodes now reg reg_now out out_now w)) status
      ⊎ EndsTold (faults nodes) (faults now) (λ whole. Behind (IsTold now out_now w whole) nodes reg reg_now out w) (λ stop. Behind (IsUntold now out_now stop) nodes reg reg_now out w) status
