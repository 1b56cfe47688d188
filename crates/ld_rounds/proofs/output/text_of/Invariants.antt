use Rattle.std.proofs.Common.{◌≡◌, take}
use Rattle.ld_transcript.specs.Text.{text}
use Rattle.ld_rounds.proofs.output.text_of.Given as goal

abbrev pub invariant-loop-line : goal.invariant-loop-line
invariant-loop-line l = l.bytes.items ≡ text (take l.line-index l.lines)
