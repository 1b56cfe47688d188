use Rattle.std.proofs.Common.{◌≡◌, take}
use Rattle.ld_transcript.specs.Text.{text}
use Rattle.ld_transcript.proofs.lines.Lines.write.Given as goal

abbrev pub invariant-loop-line : goal.invariant-loop-line
invariant-loop-line l = l.text.items ≡ text (take l.line-index l.line-items)
