-- The text of what is written.
use Rattle.std.specs.Prelude.{ℕ, List, [], ◌++◌, codes, decimal, Option, Some, None}
use Rattle.ld_lsn.specs.Number.{lsn_text}
use Rattle.ld_transcript.specs.declared.line.Line.TheVariants.{NodeRebuilt}
use Rattle.ld_transcript.specs.Text.{line_text}
use Rattle.ld_node.specs.declared.tick.Ticked.{Ticked}
use Rattle.ld_node.specs.declared.tick.Ticked.TheVariants as answers

-- a word and a number
abbrev pub labelled : List ℕ → ℕ → List ℕ
labelled word number = word ++ decimal number

-- a word and a log sequence number
abbrev pub labelled_lsn : List ℕ → ℕ → List ℕ
labelled_lsn word lsn = word ++ lsn_text lsn

-- of what a tick did for a log: a transcript has a line only where the node isn't lost any more
abbrev pub ticked_text : ℕ → ℕ → Ticked → List ℕ
ticked_text id l answers.Rebuilt = line_text (NodeRebuilt id l)
ticked_text id l _ = []

-- whether the node has all of a log, or the lowest number that it lacks
abbrev pub standing_text : ℕ → Option ℕ → List ℕ
standing_text l None = labelled (codes "mended ") l ++ codes "\n"
standing_text l (Some lsn) = labelled (codes "lacks ") l ++ labelled_lsn (codes " ") lsn ++ codes "\n"
