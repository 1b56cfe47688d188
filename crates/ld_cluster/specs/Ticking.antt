-- What a tick writes and sends.
use Rattle.std.specs.Prelude.{ℕ, List, [], ◌∷◌, Bool, true, false}
use Rattle.ld_transcript.specs.declared.line.Line.{Line}
use Rattle.ld_transcript.specs.declared.line.Line.TheVariants as lines
use Rattle.ld_msg.specs.declared.msg.Msg.{Msg}
use Rattle.ld_node.specs.declared.tick.Ticked.{Ticked}
use Rattle.ld_node.specs.declared.tick.Ticked.TheVariants as ticks

abbrev pub tick_lines : ℕ → ℕ → Ticked → List Line
tick_lines n l ticks.Rebuilt = lines.NodeRebuilt n l ∷ []
tick_lines n l _ = []

abbrev pub asks_of : Ticked → List Msg
asks_of (ticks.Asked ms) = ms
asks_of _ = []

-- it cleaned an epoch
abbrev pub has_cleaned : Ticked → Bool
has_cleaned (ticks.Cleaned e) = true
has_cleaned _ = false
