-- Which answers of a node are due, and how a drive goes on or ends as they are taken.
use Rattle.std.specs.Prelude.{ℕ, ◌≡◌, ◌+◌, List, Bool, true, false, Option, None, Some, if◌then◌else◌}
use Rattle.std.specs.Io.KnownBytes.{Appends}
use Rattle.std.specs.declared.result.Result.{Result}
use Rattle.std.specs.declared.result.Result.TheVariants.{Ok, Err}
use Rattle.ld_transcript.specs.declared.line.Line.{Line}
use Rattle.ld_transcript.specs.Text.{text}
use Rattle.ld_dial.specs.declared.fault.Fault.{Fault}
use Rattle.ld_dial.specs.declared.fault.Fault.TheVariants as faults
use Rattle.ld_rounds.specs.declared.ended.Ended.{Ended}
use Rattle.ld_rounds.specs.declared.ended.Ended.TheVariants as ends
use Rattle.ld_rounds.specs.declared.visits.Sent.{Sent}

-- ---- how it ends ----

-- the drive ends at once, and answers may be due: out of memory, a failed output, or what begins no frame
abbrev pub is_cut : Ended → Bool
is_cut ends.NoMemory = true
is_cut ends.Write = true
is_cut (ends.BadFrame fault) = true
is_cut _ = false

-- after an ending that isn't such the answers that are due are still taken
abbrev pub listens_on : Result Bool Ended → Result Bool Ended
listens_on (Ok on) = Ok on
listens_on (Err e) = if is_cut e then Err e else Ok true

-- the first ending is kept
abbrev pub first_end : Option Ended → Ended → Option Ended
first_end None e = Some e
first_end (Some f) e = Some f

abbrev pub end_then : Option Ended → Result Bool Ended → Option Ended
end_then o (Ok on) = o
end_then o (Err e) = if is_cut e then o else first_end o e

abbrev pub ends_by : Option Ended → Bool → Result Bool Ended
ends_by None on = Ok on
ends_by (Some e) on = Err e

-- ---- what is due ----

-- where the node fails or has ended none is
abbrev pub still_due : ℕ → Result Bool Ended → ℕ
still_due due (Ok false) = 0
still_due due _ = due

-- what comes of a fault of a message that was to be sent
abbrev pub unsent_by : Fault → Result (Option ℕ) Ended
unsent_by faults.Link = Ok None
unsent_by (faults.BadFrame fault) = Err (ends.BadFrame fault)
unsent_by faults.NoMemory = Err ends.NoMemory

-- so many more are due by a message that was sent
abbrev pub due_with : ℕ → Result (Option ℕ) Ended → ℕ
due_with due (Ok (Some n)) = due + n
due_with due (Ok None) = due
due_with due (Err e) = 0

abbrev pub due_of : Result Sent Ended → ℕ
due_of (Ok sent) = sent.due
due_of (Err e) = 0

-- ---- what is written ----

-- whole lines were
pub record WroteLines (old new : Option (List ℕ)) : Type 0 where
  pub lines : List Line
  pub written : Appends old new (text lines)

-- whole lines were, unless it ends at once
abbrev pub Writes : {T : Type 0} → Option (List ℕ) → Option (List ℕ) → Result T Ended → Type 0
Writes old new (Ok v) = WroteLines old new
Writes old new (Err e) = is_cut e ≡ false → WroteLines old new
