-- The next line of the input.
use Rattle.std.specs.Prelude.{ℕ, ◌≡◌, ◌≤◌, ◌<◌, ◌+◌, List, [], length, Option}
use Rattle.std.specs.Io.KnownBytes.{Consumes, IsAtEnd}
use Rattle.ld_lsn.specs.Text.{Lacks}
pub use Rattle.ld_rounds.specs.Lines.{longest, ended}
use Rattle.ld_cli.specs.declared.lines.Ending.{Ending}
use Rattle.ld_cli.specs.declared.lines.Ending.TheVariants.{Line, End, Cut, Long}

-- what was left, what is left, what was taken, and how it ends
abbrev pub TakesLine : Option (List ℕ) → Option (List ℕ) → List ℕ → Ending → Type 0
TakesLine old new line Line = Lacks 10 line × (length line ≤ longest) × Consumes old new (ended line)
TakesLine old new line End = IsAtEnd old × IsAtEnd new × Consumes old new []
TakesLine old new line Cut = Lacks 10 line × (length line ≤ longest) × (0 < length line) × Consumes old new line × IsAtEnd new
TakesLine old new line Long = Lacks 10 line × (length line ≡ longest + 1) × Consumes old new line

-- where a line was taken
abbrev pub OnLine : Type 0 → Ending → Type 0
OnLine P Line = P
OnLine P _ = Unit {0}
