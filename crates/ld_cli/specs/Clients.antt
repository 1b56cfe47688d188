-- How `append` and `tail` end, by their status.
use Rattle.std.specs.Prelude.{ℕ, ◌≤◌, ◌<◌, List, Bool, if◌then◌else◌}
use Rattle.ld_serve.specs.declared.stop.Which.TheVariants as journals
use Rattle.ld_words.specs.declared.command.Command.{Command}
use Rattle.ld_words.specs.declared.command.Command.TheVariants.{Crowd, Append, Tail, Register as Told, Status as Asked, Mend, Replace, Show, Trim, Copy}
use Rattle.ld_words.specs.Meaning.{Asks}
use Rattle.clap.specs.Walk.{Text}
use Rattle.ld_msg.specs.Register.{Register}
use Rattle.ld_rounds.specs.declared.ended.Refusal.TheVariants as refusals
use Rattle.ld_rounds.specs.declared.ended.Ended.{Ended}
use Rattle.ld_rounds.specs.declared.ended.Ended.TheVariants as ends
use Rattle.ld_cli.specs.declared.status.Status.{Status}
use Rattle.ld_cli.specs.declared.status.Status.TheVariants as statuses

-- the command drives a sequencer or a reader against nodes
abbrev pub Drives : Command → Type 0
Drives (Append w) = Unit {0}
Drives (Tail t) = Unit {0}
Drives _ = ⊥

-- the command looks at the register as a sequencer, a reader, a stopped node or an operator does
abbrev pub Looks : Command → Type 0
Looks (Append w) = Unit {0}
Looks (Tail t) = Unit {0}
Looks (Told r) = Unit {0}
Looks (Asked s) = Unit {0}
Looks (Mend m) = Unit {0}
Looks (Replace r) = Unit {0}
Looks (Trim t) = Unit {0}
Looks _ = ⊥

-- the command tells what stands in the register
abbrev pub Shows : Command → Type 0
Shows (Told r) = Unit {0}
Shows (Asked s) = Unit {0}
Shows _ = ⊥

-- the command has peers at once
abbrev pub Gathers : Command → Type 0
Gathers (Crowd w) = Unit {0}
Gathers _ = ⊥

-- the command's peers are others than those of the link
abbrev pub Calls : Command → Type 0
Calls (Append w) = Unit {0}
Calls (Tail t) = Unit {0}
Calls (Crowd w) = Unit {0}
Calls (Asked s) = Unit {0}
Calls (Mend m) = Unit {0}
Calls (Trim t) = Unit {0}
Calls _ = ⊥

-- the command dials nodes
abbrev pub Dials : Command → Type 0
Dials (Append w) = Unit {0}
Dials (Tail t) = Unit {0}
Dials (Asked s) = Unit {0}
Dials (Mend m) = Unit {0}
Dials (Trim t) = Unit {0}
Dials _ = ⊥

-- the command is over a stopped node's store, or trims a log, or copies a register
abbrev pub Operates : Command → Type 0
Operates (Mend m) = Unit {0}
Operates (Replace r) = Unit {0}
Operates (Show s) = Unit {0}
Operates (Trim t) = Unit {0}
Operates (Copy c) = Unit {0}
Operates _ = ⊥

-- the arguments ask for no such command
abbrev pub AskForNone : (Command → Type 0) → List Text → Type 0
AskForNone Is words = (command : Command) → Asks words command → Is command → ⊥

-- the status of an end; after the last round it tells whether the nodes' count of failures rose
abbrev pub status_of : Ended → Bool → Status
status_of ends.Done risen = statuses.Ok
status_of ends.Rounds risen = if risen then statuses.Link else statuses.NotDone
status_of (ends.Preempted by) risen = statuses.Preempted by
status_of ends.LogLimit risen = statuses.LogLimit
status_of ends.EpochLimit risen = statuses.EpochLimit
status_of ends.EpochFull risen = statuses.EpochFull
status_of (ends.Register refusals.Failed) risen = statuses.Register
status_of (ends.Register refusals.Full) risen = statuses.JournalFull journals.Register
status_of (ends.Register (refusals.Damaged place)) risen = statuses.Damaged journals.Register place
status_of (ends.BadFrame fault) risen = statuses.BadFrame fault
status_of (ends.BadLine line place) risen = statuses.BadSchedule line place
status_of ends.Read risen = statuses.Read
status_of ends.Write risen = statuses.Write
status_of ends.NoMemory risen = statuses.NoMemory

-- each status has its end, and no other status comes; the nodes' count of failures before and now
abbrev pub EndsDrive : ℕ → ℕ → (Ended → Type 0) → Status → Type 0
EndsDrive before now P statuses.Ok = P ends.Done
EndsDrive before now P statuses.Link = P ends.Rounds × (before < now)
EndsDrive before now P statuses.NotDone = P ends.Rounds × (now ≤ before)
EndsDrive before now P (statuses.Preempted by) = P (ends.Preempted by)
EndsDrive before now P statuses.LogLimit = P ends.LogLimit
EndsDrive before now P statuses.EpochLimit = P ends.EpochLimit
EndsDrive before now P statuses.EpochFull = P ends.EpochFull
EndsDrive before now P statuses.Register = P (ends.Register refusals.Failed)
EndsDrive before now P (statuses.JournalFull journals.Register) = P (ends.Register refusals.Full)
EndsDrive before now P (statuses.Damaged journals.Register place) = P (ends.Register (refusals.Damaged place))
EndsDrive before now P (statuses.BadFrame fault) = P (ends.BadFrame fault)
EndsDrive before now P (statuses.BadSchedule line place) = P (ends.BadLine line place)
EndsDrive before now P statuses.Read = P ends.Read
EndsDrive before now P statuses.Write = P ends.Write
EndsDrive before now P statuses.NoMemory = P ends.NoMemory
EndsDrive before now P _ = ⊥

-- a register still tells what it holds, and a crash leaves nothing of it that it mightn't have left before
abbrev pub OnlyLooks : Type 0 → Type 0 → (Register → Type 0) → (Register → Type 0) → Type 0
OnlyLooks told_before told_now may_before may_now = (told_before → told_now) × ((c : Register) → may_now c → may_before c)
