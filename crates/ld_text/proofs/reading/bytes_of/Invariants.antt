use Rattle.std.proofs.Common.{◌≡◌, ◌++◌, drop}
use Rattle.ld_text.specs.Text.{bytes_from, bytes_in}
use Rattle.ld_text.proofs.reading.bytes_of.Given as goal

abbrev pub invariant-bytes : goal.invariant-bytes
invariant-bytes l = (l.bytes.items ++ bytes_from l.at (drop l.byte-index l.line) ≡ bytes_in l.line) × (l.place ≡ l.byte-index)
