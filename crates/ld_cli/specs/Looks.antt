-- How `register` and `status` end, by their status.
use Rattle.std.specs.Prelude.{◌≡◌, ◌++◌, ℕ, List, Bool, true, false}
use Rattle.ld_msg.specs.Register.{Register as Contents}
use Rattle.ld_serve.specs.declared.stop.Which.TheVariants as journals
use Rattle.ld_operate.specs.declared.stop.LookStop.{LookStop}
use Rattle.ld_operate.specs.declared.stop.LookStop.TheVariants as stops
use Rattle.ld_operate.specs.declared.stop.StatusStop.{StatusStop}
use Rattle.ld_operate.specs.declared.stop.StatusStop.TheVariants.{Look, BadFrame}
use Rattle.ld_operate.specs.Looking.{IsStop}
use Rattle.ld_operate.specs.Output.{WritesPart}
use Rattle.ld_operate.specs.Shown.{register_text}
use Rattle.ld_words.specs.declared.command.RegisterWords.{RegisterWords}
use Rattle.ld_cli.specs.declared.status.Status.{Status}
use Rattle.ld_cli.specs.declared.status.Status.TheVariants as statuses

-- the status of a stop: each stop has one of its own
abbrev pub status_of : LookStop → Status
status_of stops.NoMemory = statuses.NoMemory
status_of stops.Register = statuses.Register
status_of stops.Write = statuses.Write
status_of (stops.Damaged place) = statuses.Damaged journals.Register place

-- at the status Ok all was written, at another one it has stopped so; it ends with no other status
abbrev pub EndsLook : Type 0 → (LookStop → Type 0) → Status → Type 0
EndsLook done stopped statuses.Ok = done
EndsLook done stopped statuses.NoMemory = stopped stops.NoMemory
EndsLook done stopped statuses.Register = stopped stops.Register
EndsLook done stopped statuses.Write = stopped stops.Write
EndsLook done stopped (statuses.Damaged journals.Register place) = stopped (stops.Damaged place)
EndsLook done stopped _ = ⊥

-- of a register that may have held these contents, and of an output: all of the text was written, or a part of it from the front
abbrev pub WritesAll : (Contents → Type 0) → List ℕ → List ℕ → RegisterWords → Type 0
WritesAll holds old new r = (c : Contents) → holds c → new ≡ old ++ register_text r.json c r.log r.from

abbrev pub WritesSome : (Contents → Type 0) → List ℕ → List ℕ → RegisterWords → Type 0
WritesSome holds old new r = (c : Contents) → holds c → WritesPart old new (register_text r.json c r.log r.from)

-- whether the register tells, where it is damaged, its counts of faults, and those of the output
module _ (Told : Type 0) (damaged : ℕ → Type 0) (register_before register_now before now : ℕ) (holds : Contents → Type 0) (old new : List ℕ) where
  abbrev pub IsRegisterStop : RegisterWords → LookStop → Type 0
  IsRegisterStop r stop = IsStop (λ place. Told → damaged place) register_before register_now before now stop × WritesSome holds old new r

  -- the text of what the register holds was written; or a part of it, and why it stopped
  abbrev pub EndsRegister : RegisterWords → Status → Type 0
  EndsRegister r status = EndsLook (WritesAll holds old new r) (IsRegisterStop r) status

-- ---- with nodes ----

abbrev pub status_of_nodes : StatusStop → Status
status_of_nodes (Look stop) = status_of stop
status_of_nodes (BadFrame fault) = statuses.BadFrame fault

-- at the status Ok all was written and each node told all, at Link all was written and one was silent, at another one it has stopped so; it ends with no other status
abbrev pub EndsStatus : (Bool → Type 0) → Type 0 → (StatusStop → Type 0) → Status → Type 0
EndsStatus done broken stopped statuses.Ok = done true
EndsStatus done broken stopped statuses.Link = done false × broken
EndsStatus done broken stopped statuses.NoMemory = stopped (Look stops.NoMemory)
EndsStatus done broken stopped statuses.Register = stopped (Look stops.Register)
EndsStatus done broken stopped statuses.Write = stopped (Look stops.Write)
EndsStatus done broken stopped (statuses.Damaged journals.Register place) = stopped (Look (stops.Damaged place))
EndsStatus done broken stopped (statuses.BadFrame fault) = stopped (BadFrame fault)
EndsStatus done broken stopped _ = ⊥
