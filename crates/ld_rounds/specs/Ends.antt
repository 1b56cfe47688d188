-- How a drive ends, by the lines of a step.
use Rattle.std.specs.Prelude.{ℕ, List, [], ◌∷◌, Bool, true, false, if◌then◌else◌}
use Rattle.std.specs.List.{Contains}
use Rattle.ld_transcript.specs.declared.line.Line.{Line}
use Rattle.ld_transcript.specs.declared.line.Line.TheVariants as lines
use Rattle.ld_rounds.specs.declared.ended.Ended.{Ended}
use Rattle.ld_rounds.specs.declared.ended.Ended.TheVariants as ends

-- some name is refused so in one of the lines
pub record Says (line : List ℕ → Line) (ls : List Line) : Type 0 where
  pub name : List ℕ
  pub there : Contains ls (line name)

-- one of the lines says it
abbrev pub IsSaid : List Line → Ended → Type 0
IsSaid ls (ends.Preempted by) = Says (λ name. lines.RefusedPreempted name by) ls
IsSaid ls ends.EpochLimit = Says lines.RefusedEpochLimit ls
IsSaid ls ends.EpochFull = Says lines.RefusedEpochFull ls
IsSaid ls (ends.Register fault) = Says lines.RefusedRegister ls
IsSaid ls _ = ⊥

-- one of the lines is such
abbrev pub tells_by : (Line → Bool) → List Line → Bool
tells_by p [] = false
tells_by p (l ∷ ls) = if p l then true else tells_by p ls

-- it ends the drive of a sequencer: that was preempted, or the numbers of its epoch or the log's epochs are used up
abbrev pub is_final : Line → Bool
is_final (lines.RefusedPreempted name by) = true
is_final (lines.RefusedEpochFull name) = true
is_final (lines.RefusedEpochLimit name) = true
is_final _ = false
