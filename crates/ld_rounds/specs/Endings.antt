-- Why a drive ends in a round.
use Rattle.std.specs.Prelude.{ℕ, ◌≡◌, ◌≤◌, List, ◌++◌, Option, None, Some}
use Rattle.std.specs.declared.result.Result.{Result}
use Rattle.std.specs.declared.result.Result.TheVariants.{Err}
use Rattle.std.specs.Io.KnownBytes.{Appends}
use Rattle.ld_io.specs.Causes.{Rose}
use Rattle.ld_transcript.specs.declared.line.Line.{Line}
use Rattle.ld_transcript.specs.Text.{text}
use Rattle.ld_wire.specs.declared.fault.WireFault.{WireFault}
use Rattle.ld_rounds.specs.declared.ended.Ended.{Ended}
use Rattle.ld_rounds.specs.declared.ended.Ended.TheVariants as ends
use Rattle.ld_rounds.specs.Ends.{IsSaid}

-- the output's count of faults hasn't fallen, and bytes were added to what is written
pub record IsLater (before now : ℕ) (old new : Option (List ℕ)) : Type 0 where
  pub faults : before ≤ now
  pub more : List ℕ
  pub written : Appends old new more

-- the last lines that were written say why
pub record SaysWhy (old new : Option (List ℕ)) (ended : Ended) : Type 0 where
  pub before : List ℕ
  pub lines : List Line
  pub written : Appends old new (before ++ text lines)
  pub said : IsSaid lines ended

-- the output's count of faults before and now, and what was written before and is now
abbrev pub IsEnding : ℕ → ℕ → Option (List ℕ) → Option (List ℕ) → Ended → Type 0
IsEnding before now old new ends.Write = Rose before now
IsEnding before now old new ends.NoMemory = Unit {0}
IsEnding before now old new (ends.BadFrame fault) = Unit {0}
IsEnding before now old new ended = SaysWhy old new ended

-- where it ends by what begins no frame, that is why the nodes say so
abbrev pub IsOffAs : Option WireFault → Ended → Type 0
IsOffAs off (ends.BadFrame fault) = off ≡ Some fault
IsOffAs off _ = Unit {0}

-- where what a node sent begins no frame, as the nodes say, it ends by that
abbrev pub EndsOff : {T : Type 0} → Option WireFault → Result T Ended → Type 0
EndsOff None result = Unit {0}
EndsOff (Some fault) result = result ≡ Err (ends.BadFrame fault)

-- the same of how it ended, where the nodes said of no such node before
abbrev pub EndedOff : Option WireFault → Ended → Type 0
EndedOff None ended = Unit {0}
EndedOff (Some fault) ended = ended ≡ ends.BadFrame fault

abbrev pub IsEndedOff : Option WireFault → Option WireFault → Ended → Type 0
IsEndedOff before off ended = before ≡ None → EndedOff off ended
