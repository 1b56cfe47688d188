-- The lines of a sequencer's refusals.
use Rattle.std.specs.Prelude.{ℕ, List, [], ◌∷◌, Ok, Err}
use Rattle.std.specs.declared.result.Result.{Result}
use Rattle.ld_transcript.specs.declared.line.Line.{Line}
use Rattle.ld_transcript.specs.declared.line.Line.TheVariants as lines
use Rattle.ld_register.specs.declared.fault.RegisterFault.TheVariants as registers
use Rattle.ld_sequencer.specs.declared.fault.SequencerFault.{SequencerFault}
use Rattle.ld_sequencer.specs.declared.fault.SequencerFault.TheVariants as faults
use Rattle.ld_sequencer.specs.declared.report.Report.{Report}
use Rattle.ld_clients.specs.Acting.{report_lines}

-- of the register's refusals the end of the epochs has a line of its own
abbrev pub fault_lines : List ℕ → SequencerFault → List Line
fault_lines name (faults.PayloadTooLong n) = lines.RefusedLong name n ∷ []
fault_lines name (faults.Preempted by) = lines.RefusedPreempted name by ∷ []
fault_lines name faults.EpochFull = lines.RefusedEpochFull name ∷ []
fault_lines name faults.WindowFull = lines.RefusedWindowFull name ∷ []
fault_lines name (faults.PastReleased released) = lines.RefusedPast name released ∷ []
fault_lines name (faults.Register registers.EpochLimit) = lines.RefusedEpochLimit name ∷ []
fault_lines name (faults.Register _) = lines.RefusedRegister name ∷ []
fault_lines name faults.NoMemory = []

abbrev pub told_lines : List ℕ → Result Report SequencerFault → List Line
told_lines name (Ok report) = report_lines name report
told_lines name (Err fault) = fault_lines name fault
