-- The lines of a batch.
use Rattle.std.specs.Prelude.{ℕ, ◌+◌, List, [], ◌∷◌}
use Rattle.ld_transcript.specs.declared.line.Line.{Line}
use Rattle.ld_transcript.specs.declared.line.Line.TheVariants as lines

-- its messages, one after the other, from an index on
abbrev pub message_lines_from : List ℕ → ℕ → ℕ → List (List ℕ) → List Line
message_lines_from name s index [] = []
message_lines_from name s index (m ∷ ms) = lines.BatchMessage name s index m ∷ message_lines_from name s (index + 1) ms
