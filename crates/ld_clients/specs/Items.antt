-- The lines of items that do not pass a reader's last number.
use Rattle.std.specs.Prelude.{ℕ, List, [], ◌∷◌, ◌++◌}
use Rattle.ld_transcript.specs.declared.line.Line.{Line}
use Rattle.ld_transcript.specs.declared.line.Line.TheVariants as lines
use Rattle.ld_transcript.specs.declared.line.GapKind.TheVariants as gaps
use Rattle.ld_batch.specs.Batch.{unpacked}
use Rattle.ld_msg.specs.declared.style.Style.{Style}
use Rattle.ld_msg.specs.declared.style.Style.TheVariants as styles
use Rattle.ld_msg.specs.Reading.{Item, TrimTo, RecordHere, HoleHere, BridgeTo, LossHere, LossTo}
use Rattle.ld_machine.specs.Step.{payload_lines}

abbrev pub given_line : List ℕ → ℕ → Item → Line
given_line name s (TrimTo last) = lines.Gap name gaps.Trim s last
given_line name s (RecordHere p) = lines.Record name s p
given_line name s HoleHere = lines.Gap name gaps.Hole s s
given_line name s (BridgeTo last) = lines.Gap name gaps.Bridge s last
given_line name s LossHere = lines.Gap name gaps.DataLoss s s
given_line name s (LossTo last) = lines.Gap name gaps.DataLoss s last

-- the messages of a batch one by one
abbrev pub unpacked_lines : List ℕ → ℕ → Item → List Line
unpacked_lines name s (RecordHere p) = payload_lines name s p (unpacked p)
unpacked_lines name s i = given_line name s i ∷ []

abbrev pub lines_given : Style → List ℕ → ℕ → Item → List Line
lines_given styles.OfMessages name s i = unpacked_lines name s i
lines_given style name s i = given_line name s i ∷ []

abbrev pub given_lines : Style → List ℕ → List (ℕ × Item) → List Line
given_lines style name [] = []
given_lines style name (i ∷ is) = lines_given style name i.0 i.1 ++ given_lines style name is
