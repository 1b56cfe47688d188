-- The lines of a call say how the drive ends by it.
use Rattle.std.proofs.Common.{◌≡◌, ◌≢◌, ℕ, List, [], ◌∷◌, ◌++◌, Option, Some, None, Ok, Err, Bool, refl, ap, sym, ◌∙◌, subst, arith, is_some, IfSome, true, false, nat_lt, if◌then◌else◌}
use Rattle.std.specs.List.{Contains}
use Rattle.std.specs.declared.result.Result.{Result}
use Rattle.ld_transcript.specs.declared.line.Line.{Line}
use Rattle.ld_transcript.specs.declared.line.Line.TheVariants as lines
use Rattle.ld_register.specs.declared.fault.RegisterFault.{RegisterFault}
use Rattle.ld_register.specs.declared.fault.RegisterFault.TheVariants as registers
use Rattle.ld_sequencer.specs.declared.fault.CloseFault.{CloseFault}
use Rattle.ld_sequencer.specs.declared.fault.CloseFault.TheVariants as unclosed
use Rattle.ld_sequencer.specs.declared.fault.SequencerFault.{SequencerFault}
use Rattle.ld_sequencer.specs.declared.fault.SequencerFault.TheVariants as faults
use Rattle.ld_sequencer.specs.declared.report.Report.{Report}
use Rattle.ld_msg.specs.Sequencer as sequencer
use Rattle.ld_msg.specs.Sequencer.{Appending}
use Rattle.ld_sequencer.specs.Own.{listed, append_fault, trim_fault}
use Rattle.ld_machine.specs.Step.{numbered_lines, when}
use Rattle.ld_clients.specs.Refusing.{told_lines}
use Rattle.ld_rounds.specs.declared.ended.Refusal.TheVariants as refusals
use Rattle.ld_rounds.specs.declared.ended.Ended.{Ended}
use Rattle.ld_rounds.specs.declared.ended.Ended.TheVariants as ends
use Rattle.ld_rounds.specs.Rounds.{tells_full}
use Rattle.ld_rounds.specs.Ends.{IsSaid, tells_by, is_final}
use Rattle.ld_append.specs.Refusing.{report_end, register_end, fault_end, end_by, going, is_window, lines_by, start_lines, IsTold, IsStartTold}

first_there : (l : Line) (ls : List Line) → Contains (l ∷ ls) l
first_there l ls = (0, omega arith, refl)

told_report : (name : List ℕ) (p : Option ℕ) (f : Option CloseFault) (rest : List Line)
    → IfSome (report_end p f) (IsTold (numbered_lines (lines.RefusedPreempted name) (listed p) ++ (when (is_some f) (lines.RefusedRegister name) ++ rest)))
told_report name (Some by) f rest = record { name = name; there = first_there _ _ }
told_report name None None rest = tt
told_report name None (Some unclosed.Failed) rest = record { name = name; there = first_there _ _ }
told_report name None (Some unclosed.Full) rest = record { name = name; there = first_there _ _ }

told_register : (name : List ℕ) (f : RegisterFault) → IfSome (register_end f) (IsTold (lines_by name (Err (faults.Register f))))
told_register name registers.Failed = record { name = name; there = first_there (lines.RefusedRegister name) [] }
told_register name (registers.Damaged place) = record { name = name; there = first_there (lines.RefusedRegister name) [] }
told_register name registers.LogLimit = tt
told_register name (registers.Behind lce next) = tt
told_register name (registers.Overtaken kept) = tt
told_register name registers.EpochLimit = record { name = name; there = first_there (lines.RefusedEpochLimit name) [] }
told_register name registers.GenLimit = tt
told_register name registers.SwapLimit = tt
told_register name registers.Full = record { name = name; there = first_there (lines.RefusedRegister name) [] }
told_register name registers.NoMemory = tt

told_fault : (name : List ℕ) (f : SequencerFault) → IfSome (fault_end f) (IsTold (lines_by name (Err f)))
told_fault name (faults.PayloadTooLong n) = tt
told_fault name (faults.Preempted by) = record { name = name; there = first_there (lines.RefusedPreempted name by) [] }
told_fault name faults.EpochFull = record { name = name; there = first_there (lines.RefusedEpochFull name) [] }
told_fault name faults.WindowFull = tt
told_fault name (faults.PastReleased released) = tt
told_fault name (faults.Register f) = told_register name f
told_fault name faults.NoMemory = tt

pub told_by : (name : List ℕ) (answer : Result Report SequencerFault) → IfSome (end_by answer) (IsTold (lines_by name answer))
told_by name (Ok report) = told_report name report.preempted report.register _
told_by name (Err f) = told_fault name f

-- as written and as defined
pub told_is : (name : List ℕ) (answer : Result Report SequencerFault) (end : Option Ended) (ls : List Line) → end ≡ end_by answer → ls ≡ lines_by name answer → IfSome end (IsTold ls)
told_is name answer end ls e l = subst (λ (x : Option Ended). IfSome x (IsTold ls)) (sym e) (subst (λ (x : List Line). IfSome (end_by answer) (IsTold x)) (sym l) (told_by name answer))

-- all but a crowded register has its lines
pub has_lines : (name : List ℕ) (answer : Result Report SequencerFault) → (answer ≢ Err (faults.Register registers.LogLimit)) → lines_by name answer ≡ told_lines name answer
has_lines name (Ok report) n = refl
has_lines name (Err (faults.PayloadTooLong k)) n = refl
has_lines name (Err (faults.Preempted by)) n = refl
has_lines name (Err faults.EpochFull) n = refl
has_lines name (Err faults.WindowFull) n = refl
has_lines name (Err (faults.PastReleased released)) n = refl
has_lines name (Err (faults.Register registers.Failed)) n = refl
has_lines name (Err (faults.Register (registers.Damaged place))) n = refl
has_lines name (Err (faults.Register registers.LogLimit)) n = absurd (n refl)
has_lines name (Err (faults.Register (registers.Behind lce next))) n = refl
has_lines name (Err (faults.Register (registers.Overtaken kept))) n = refl
has_lines name (Err (faults.Register registers.EpochLimit)) n = refl
has_lines name (Err (faults.Register registers.GenLimit)) n = refl
has_lines name (Err (faults.Register registers.SwapLimit)) n = refl
has_lines name (Err (faults.Register registers.Full)) n = refl
has_lines name (Err (faults.Register registers.NoMemory)) n = refl
has_lines name (Err faults.NoMemory) n = refl

-- a refused activation: each fault but a damaged register's is told as in any call
pub start_told : (name : List ℕ) (f : SequencerFault) → IfSome (fault_end f) (IsStartTold (start_lines name f))
start_told name (faults.PayloadTooLong n) = tt
start_told name (faults.Preempted by) = record { name = name; there = first_there (lines.RefusedPreempted name by) [] }
start_told name faults.EpochFull = record { name = name; there = first_there (lines.RefusedEpochFull name) [] }
start_told name faults.WindowFull = tt
start_told name (faults.PastReleased released) = tt
start_told name (faults.Register registers.Failed) = record { name = name; there = first_there (lines.RefusedRegister name) [] }
start_told name (faults.Register (registers.Damaged place)) = refl
start_told name (faults.Register registers.LogLimit) = refl
start_told name (faults.Register (registers.Behind lce next)) = tt
start_told name (faults.Register (registers.Overtaken kept)) = tt
start_told name (faults.Register registers.EpochLimit) = record { name = name; there = first_there (lines.RefusedEpochLimit name) [] }
start_told name (faults.Register registers.GenLimit) = tt
start_told name (faults.Register registers.SwapLimit) = tt
start_told name (faults.Register registers.Full) = record { name = name; there = first_there (lines.RefusedRegister name) [] }
start_told name (faults.Register registers.NoMemory) = tt
start_told name faults.NoMemory = tt

pub start_is : (name : List ℕ) (f : SequencerFault) (end : Option Ended) (ls : List Line) → end ≡ fault_end f → ls ≡ start_lines name f → IfSome end (IsStartTold ls)
start_is name f end ls e l = subst (λ (x : Option Ended). IfSome x (IsStartTold ls)) (sym e) (subst (λ (x : List Line). IfSome (fault_end f) (IsStartTold x)) (sym l) (start_told name f))

-- an append never meets the register
append_told : (ls : List Line) (n : ℕ) (a : Appending) → IfSome (fault_end (append_fault n a)) (IsTold ls) → IfSome (fault_end (append_fault n a)) (IsSaid ls)
append_told ls n sequencer.TooLong t = tt
append_told ls n (sequencer.Preempted k) t = t
append_told ls n sequencer.EpochFull t = t
append_told ls n sequencer.WindowFull t = tt
append_told ls n sequencer.Numbered t = tt

pub append_said : (ls : List Line) (n : ℕ) (a : Appending) (fault : SequencerFault) (end : Option Ended) → fault ≡ append_fault n a → end ≡ fault_end fault → IfSome end (IsTold ls) → IfSome end (IsSaid ls)
append_said ls n a fault end f e t =
    let is : end ≡ fault_end (append_fault n a) = e ∙ ap fault_end f in
    subst (λ (x : Option Ended). IfSome x (IsSaid ls)) (sym is) (append_told ls n a (subst (λ (x : Option Ended). IfSome x (IsTold ls)) is t))

-- neither does a trim, which ends nothing
pub trim_said : (ls : List Line) (released point : ℕ) (fault : SequencerFault) (end : Option Ended) → fault ≡ trim_fault released point → end ≡ fault_end fault → IfSome end (IsSaid ls)
trim_said ls released point fault end f e = subst (λ (x : Option Ended). IfSome x (IsSaid ls)) (sym (e ∙ ap fault_end f)) (said_if (nat_lt released point))
  where
    said_if : (b : Bool) → IfSome (fault_end (if b then faults.PastReleased released else faults.NoMemory)) (IsSaid ls)
    said_if true = tt
    said_if false = tt

-- and never finds the window full
pub trim_full : (name : List ℕ) (released point : ℕ) (fault : SequencerFault) (ls : List Line) → fault ≡ trim_fault released point → ls ≡ lines_by name (Err fault) → false ≡ tells_full ls
trim_full name released point fault ls f l = sym (ap tells_full (l ∙ ap (λ (x : SequencerFault). lines_by name (Err x)) f) ∙ full_if (nat_lt released point))
  where
    full_if : (b : Bool) → tells_full (lines_by name (Err (if b then faults.PastReleased released else faults.NoMemory))) ≡ false
    full_if true = refl
    full_if false = refl

-- one refusal alone tells that the window is full
pub full_lines : (name : List ℕ) (n : ℕ) (a : Appending) (fault : SequencerFault) (b : Bool) (ls : List Line) → fault ≡ append_fault n a → b ≡ is_window fault → ls ≡ lines_by name (Err fault) → b ≡ tells_full ls
full_lines name n a fault b ls f w l = w ∙ (ap is_window f ∙ (full_by name n a ∙ ap tells_full (sym (l ∙ ap (λ (x : SequencerFault). lines_by name (Err x)) f))))
  where
    full_by : (name : List ℕ) (n : ℕ) (a : Appending) → is_window (append_fault n a) ≡ tells_full (lines_by name (Err (append_fault n a)))
    full_by name n sequencer.TooLong = refl
    full_by name n (sequencer.Preempted k) = refl
    full_by name n sequencer.EpochFull = refl
    full_by name n sequencer.WindowFull = refl
    full_by name n sequencer.Numbered = refl

-- which refusal ends the drive by a damaged register
damaged_register : (f : RegisterFault) (place : ℕ) → register_end f ≡ Some (ends.Register (refusals.Damaged place)) → f ≡ registers.Damaged place
damaged_register registers.Failed place e = absurd cc
damaged_register (registers.Damaged k) place e = cc
damaged_register registers.LogLimit place e = absurd cc
damaged_register (registers.Behind lce next) place e = absurd cc
damaged_register (registers.Overtaken kept) place e = absurd cc
damaged_register registers.EpochLimit place e = absurd cc
damaged_register registers.GenLimit place e = absurd cc
damaged_register registers.SwapLimit place e = absurd cc
damaged_register registers.Full place e = absurd cc
damaged_register registers.NoMemory place e = absurd cc

pub damaged_by : (f : SequencerFault) (place : ℕ) → fault_end f ≡ Some (ends.Register (refusals.Damaged place)) → f ≡ faults.Register (registers.Damaged place)
damaged_by (faults.PayloadTooLong n) place e = absurd cc
damaged_by (faults.Preempted by) place e = absurd cc
damaged_by faults.EpochFull place e = absurd cc
damaged_by faults.WindowFull place e = absurd cc
damaged_by (faults.PastReleased released) place e = absurd cc
damaged_by (faults.Register f) place e = ap (λ (x : RegisterFault). faults.Register x) (damaged_register f place e)
damaged_by faults.NoMemory place e = absurd cc

-- ---- what ends a drive ----

first_final : (b x y : Bool) → (x ≡ false → y ≡ false) → (if b then true else x) ≡ false → (if b then true else y) ≡ false
first_final true x y k f = f
first_final false x y k f = k f

final_append : (ls ms : List Line) → tells_by is_final ls ≡ false → tells_by is_final ms ≡ false → tells_by is_final (ls ++ ms) ≡ false
final_append [] ms f h = h
final_append (l ∷ ls) ms f h = first_final (is_final l) (tells_by is_final ls) (tells_by is_final (ls ++ ms)) (λ k. final_append ls ms k h) f

final_numbered : (f : ℕ → Line) (ns : List ℕ) → ((n : ℕ) → is_final (f n) ≡ false) → tells_by is_final (numbered_lines f ns) ≡ false
final_numbered f [] h = refl
final_numbered f (n ∷ ns) h = ap (λ (b : Bool). if b then true else tells_by is_final (numbered_lines f ns)) (h n) ∙ final_numbered f ns h

final_when : (b : Bool) (l : Line) → is_final l ≡ false → tells_by is_final (when b l) ≡ false
final_when true l h = ap (λ (x : Bool). if x then true else false) h
final_when false l h = refl

final_report : (name : List ℕ) (p : Option ℕ) (f : Option CloseFault) (rest : List Line) → tells_by is_final rest ≡ false → going (report_end p f) ≡ None
    → tells_by is_final (numbered_lines (lines.RefusedPreempted name) (listed p) ++ (when (is_some f) (lines.RefusedRegister name) ++ rest)) ≡ false
final_report name (Some by) f rest r h = absurd cc
final_report name None f rest r h = final_append (when (is_some f) (lines.RefusedRegister name)) rest (final_when (is_some f) (lines.RefusedRegister name) refl) r

final_register : (name : List ℕ) (f : RegisterFault) → going (register_end f) ≡ None → tells_by is_final (lines_by name (Err (faults.Register f))) ≡ false
final_register name registers.Failed h = refl
final_register name (registers.Damaged place) h = refl
final_register name registers.LogLimit h = refl
final_register name (registers.Behind lce next) h = refl
final_register name (registers.Overtaken kept) h = refl
final_register name registers.EpochLimit h = absurd cc
final_register name registers.GenLimit h = refl
final_register name registers.SwapLimit h = refl
final_register name registers.Full h = refl
final_register name registers.NoMemory h = refl

final_fault : (name : List ℕ) (f : SequencerFault) → going (fault_end f) ≡ None → tells_by is_final (lines_by name (Err f)) ≡ false
final_fault name (faults.PayloadTooLong n) h = refl
final_fault name (faults.Preempted by) h = absurd cc
final_fault name faults.EpochFull h = absurd cc
final_fault name faults.WindowFull h = refl
final_fault name (faults.PastReleased released) h = refl
final_fault name (faults.Register f) h = final_register name f h
final_fault name faults.NoMemory h = refl

final_by : (name : List ℕ) (answer : Result Report SequencerFault) → going (end_by answer) ≡ None → tells_by is_final (lines_by name answer) ≡ false
final_by name (Ok report) h = final_report name report.preempted report.register (numbered_lines (lines.Acked name) (listed report.acked) ++ (numbered_lines (lines.Clean name) (listed report.closed) ++ numbered_lines (lines.Released name) (listed report.released)))
    (final_append (numbered_lines (lines.Acked name) (listed report.acked)) (numbered_lines (lines.Clean name) (listed report.closed) ++ numbered_lines (lines.Released name) (listed report.released)) (final_numbered (lines.Acked name) (listed report.acked) (λ n. refl))
    (final_append (numbered_lines (lines.Clean name) (listed report.closed)) (numbered_lines (lines.Released name) (listed report.released)) (final_numbered (lines.Clean name) (listed report.closed) (λ n. refl)) (final_numbered (lines.Released name) (listed report.released) (λ n. refl)))) h
final_by name (Err f) h = final_fault name f h

-- where it goes on no line ends it
pub final_going : (name : List ℕ) (answer : Result Report SequencerFault) (end : Option Ended) (ls : List Line) → end ≡ going (end_by answer) → ls ≡ lines_by name answer → end ≡ None → tells_by is_final ls ≡ false
final_going name answer end ls e l n = ap (tells_by is_final) l ∙ final_by name answer (sym e ∙ n)

pub final_is : (name : List ℕ) (answer : Result Report SequencerFault) (end : Option Ended) (ls : List Line) → end ≡ end_by answer → ls ≡ lines_by name answer → end ≡ None → tells_by is_final ls ≡ false
final_is name answer end ls e l n = ap (tells_by is_final) l ∙ final_by name answer (ap going (sym e ∙ n))

-- the same of an activation
final_start : (name : List ℕ) (f : SequencerFault) → fault_end f ≡ None → tells_by is_final (start_lines name f) ≡ false
final_start name (faults.PayloadTooLong n) h = refl
final_start name (faults.Preempted by) h = absurd cc
final_start name faults.EpochFull h = absurd cc
final_start name faults.WindowFull h = refl
final_start name (faults.PastReleased released) h = refl
final_start name (faults.Register registers.Failed) h = refl
final_start name (faults.Register (registers.Damaged place)) h = refl
final_start name (faults.Register registers.LogLimit) h = refl
final_start name (faults.Register (registers.Behind lce next)) h = refl
final_start name (faults.Register (registers.Overtaken kept)) h = refl
final_start name (faults.Register registers.EpochLimit) h = absurd cc
final_start name (faults.Register registers.GenLimit) h = refl
final_start name (faults.Register registers.SwapLimit) h = refl
final_start name (faults.Register registers.Full) h = refl
final_start name (faults.Register registers.NoMemory) h = refl
final_start name faults.NoMemory h = refl

pub final_started : (name : List ℕ) (f : SequencerFault) (end : Option Ended) (ls : List Line) → end ≡ fault_end f → ls ≡ start_lines name f → end ≡ None → tells_by is_final ls ≡ false
final_started name f end ls e l n = ap (tells_by is_final) l ∙ final_start name f (sym e ∙ n)
