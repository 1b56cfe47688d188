-- A register's answers as a sequencer passes them on, and what its closes leave.
use Rattle.std.specs.Prelude.{ℕ, ◌≡◌, ◌+◌, ◌-◌, ◌^◌, List, [], ◌∷◌, Option, Some, None, Bool, true, nat_le}
use Rattle.ld_ids.specs.declared.set.Spec.{Spec}
use Rattle.ld_msg.specs.Register.{Register, Answer, Changed, Granted, AtLimit, Behind, Overtaken, Fails, View, close, look}
use Rattle.ld_msg.specs.Sequencer.{Attempt}
use Rattle.ld_register.specs.Calls.{after_close}
use Rattle.ld_register.specs.declared.fault.RegisterFault.{RegisterFault}
use Rattle.ld_register.specs.declared.fault.RegisterFault.TheVariants as registers
use Rattle.ld_sequencer.specs.Looks.{shows, AreAlike}
use Rattle.ld_sequencer.specs.declared.close.Due.{Due}
use Rattle.ld_sequencer.specs.declared.close.Tried.{Tried}
use Rattle.ld_sequencer.specs.declared.close.Tried.TheVariants as tried
use Rattle.ld_sequencer.specs.declared.fault.CloseFault.{CloseFault}
use Rattle.ld_sequencer.specs.declared.fault.SequencerFault.{SequencerFault}
use Rattle.ld_sequencer.specs.declared.fault.SequencerFault.TheVariants as sequencers

-- running out of memory passes as such
abbrev pub of_register : RegisterFault → SequencerFault
of_register registers.NoMemory = sequencers.NoMemory
of_register registers.Failed = sequencers.Register registers.Failed
of_register (registers.Damaged place) = sequencers.Register (registers.Damaged place)
of_register registers.LogLimit = sequencers.Register registers.LogLimit
of_register (registers.Behind lce next) = sequencers.Register (registers.Behind lce next)
of_register (registers.Overtaken kept) = sequencers.Register (registers.Overtaken kept)
of_register registers.EpochLimit = sequencers.Register registers.EpochLimit
of_register registers.GenLimit = sequencers.Register registers.GenLimit
of_register registers.SwapLimit = sequencers.Register registers.SwapLimit
of_register registers.Full = sequencers.Register registers.Full

-- a fault that may come whatever the register holds
abbrev pub MayCome : SequencerFault → Type 0
MayCome (sequencers.Register registers.Failed) = Unit {0}
MayCome (sequencers.Register (registers.Damaged place)) = Unit {0}
MayCome _ = ⊥

-- these contents after the close of a log's epoch that a call tries, where it tries one
abbrev pub after_tries : Register → ℕ → List Attempt → Register
after_tries c log [] = c
after_tries c log (t ∷ ts) = after_close c log t.epoch t.summary t.short

-- ---- the answer to a close ----

-- the close of the log's epoch that is due, tried in a register with these contents
abbrev pub closes_due : Register → ℕ → Due → Changed
closes_due c log d = close c log d.epoch d.summary d.short

-- and what that leaves
abbrev pub left_by_due : Register → ℕ → Due → Register
left_by_due c log d = after_close c log d.epoch d.summary d.short

abbrev pub answer_of : Tried → Answer
answer_of (tried.Taken next) = Granted
answer_of (tried.Behind lce next) = Behind lce
answer_of (tried.Overtaken kept) = Overtaken kept
answer_of (tried.Unclosed fault) = Fails

-- why the close isn't known to be made
abbrev pub fault_in : Tried → Option CloseFault
fault_in (tried.Taken next) = None
fault_in (tried.Behind lce next) = None
fault_in (tried.Overtaken kept) = None
fault_in (tried.Unclosed fault) = Some fault

-- a last closed epoch is at most the greatest epoch
abbrev pub is_epoch_answer : Tried → Bool
is_epoch_answer (tried.Taken next) = true
is_epoch_answer (tried.Behind lce next) = nat_le lce (2 ^ 32 - 2)
is_epoch_answer (tried.Overtaken kept) = true
is_epoch_answer (tried.Unclosed fault) = true

-- what it tells of the epoch behind the last closed one, or else this
abbrev pub next_in : Spec → Tried → Spec
next_in first (tried.Taken next) = next
next_in first (tried.Behind lce next) = next
next_in first (tried.Overtaken kept) = first
next_in first (tried.Unclosed fault) = first

-- it tells the same as looks, where an epoch is to be closed and the answer is this
abbrev pub Tells : (ℕ → View) → ℕ → Spec → Answer → Type 0
Tells looks epoch next Granted = AreAlike (shows next) looks (epoch + 1)
Tells looks epoch next AtLimit = Unit {0}
Tells looks epoch next (Behind lce) = AreAlike (shows next) looks (lce + 1)
Tells looks epoch next (Overtaken kept) = Unit {0}
Tells looks epoch next Fails = Unit {0}

-- it is what these contents answer, and tells what they show
pub record IsAnswer (first : Spec) (c : Register) (log : ℕ) (t : Due) (d : Tried) : Type 0 where
  pub answer : answer_of d ≡ (closes_due c log t).answer
  pub next : Tells (look first c log) t.epoch (next_in first d) (answer_of d)
