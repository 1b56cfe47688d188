-- What is written of a sequencer's call, and how the drive ends by it.
use Rattle.std.specs.Prelude.{ℕ, ◌≡◌, List, [], Option, None, Some, Bool, true, false}
use Rattle.std.specs.declared.result.Result.{Result}
use Rattle.std.specs.declared.result.Result.TheVariants.{Ok, Err}
use Rattle.ld_transcript.specs.declared.line.Line.{Line}
use Rattle.ld_register.specs.declared.fault.RegisterFault.{RegisterFault}
use Rattle.ld_register.specs.declared.fault.RegisterFault.TheVariants as registers
use Rattle.ld_sequencer.specs.declared.fault.CloseFault.{CloseFault}
use Rattle.ld_sequencer.specs.declared.fault.CloseFault.TheVariants as unclosed
use Rattle.ld_sequencer.specs.declared.fault.SequencerFault.{SequencerFault}
use Rattle.ld_sequencer.specs.declared.fault.SequencerFault.TheVariants as faults
use Rattle.ld_sequencer.specs.declared.report.Report.{Report}
use Rattle.ld_clients.specs.Refusing.{told_lines}
use Rattle.ld_rounds.specs.declared.ended.Refusal.TheVariants as refusals
use Rattle.ld_rounds.specs.declared.ended.Ended.{Ended}
use Rattle.ld_rounds.specs.declared.ended.Ended.TheVariants as ends
use Rattle.ld_rounds.specs.Ends.{IsSaid}

abbrev pub close_end : Option CloseFault → Option Ended
close_end None = None
close_end (Some unclosed.Failed) = Some (ends.Register refusals.Failed)
close_end (Some unclosed.Full) = Some (ends.Register refusals.Full)

-- a preemption comes before the register's refusal
abbrev pub report_end : Option ℕ → Option CloseFault → Option Ended
report_end (Some by) fault = Some (ends.Preempted by)
report_end None fault = close_end fault

-- what no call of a sequencer is refused with ends nothing
abbrev pub register_end : RegisterFault → Option Ended
register_end registers.LogLimit = Some ends.LogLimit
register_end registers.EpochLimit = Some ends.EpochLimit
register_end registers.Full = Some (ends.Register refusals.Full)
register_end (registers.Damaged place) = Some (ends.Register (refusals.Damaged place))
register_end registers.Failed = Some (ends.Register refusals.Failed)
register_end _ = None

abbrev pub is_log_limit : RegisterFault → Bool
is_log_limit registers.LogLimit = true
is_log_limit _ = false

abbrev pub is_window : SequencerFault → Bool
is_window faults.WindowFull = true
is_window _ = false

-- a payload that is too long, a full window and a number above what is released end nothing
abbrev pub fault_end : SequencerFault → Option Ended
fault_end (faults.Preempted by) = Some (ends.Preempted by)
fault_end faults.EpochFull = Some ends.EpochFull
fault_end (faults.Register fault) = register_end fault
fault_end _ = None

abbrev pub end_by : Result Report SequencerFault → Option Ended
end_by (Ok report) = report_end report.preempted report.register
end_by (Err fault) = fault_end fault

-- a register that holds as many other logs as may be has no line
abbrev pub lines_by : List ℕ → Result Report SequencerFault → List Line
lines_by name (Err (faults.Register registers.LogLimit)) = []
lines_by name answer = told_lines name answer

-- the lines say why, unless the register holds as many other logs as may be
abbrev pub IsTold : List Line → Ended → Type 0
IsTold ls ends.LogLimit = Unit {0}
IsTold ls ended = IsSaid ls ended

-- a damaged register has no line at the activation
abbrev pub start_lines : List ℕ → SequencerFault → List Line
start_lines name (faults.Register (registers.Damaged place)) = []
start_lines name fault = lines_by name (Err fault)

-- the lines say why the activation was refused, unless the register holds as many other logs as may be or is damaged
abbrev pub IsStartTold : List Line → Ended → Type 0
IsStartTold ls ends.LogLimit = ls ≡ []
IsStartTold ls (ends.Register (refusals.Damaged place)) = ls ≡ []
IsStartTold ls ended = IsSaid ls ended

-- the drive goes on where the register holds as many other logs as may be
abbrev pub going : Option Ended → Option Ended
going (Some ends.LogLimit) = None
going end = end

-- why the register refused, where that is kept; else it is when out of memory
abbrev pub kept_end : Option Ended → Ended
kept_end (Some (ends.Register refusal)) = ends.Register refusal
kept_end _ = ends.NoMemory

-- where a round ended since the register refused, it is told why
abbrev pub round_end : Option Ended → Result Bool Ended → Result Bool Ended
round_end kept (Err (ends.Register refusal)) = Err (kept_end kept)
round_end kept driven = driven
