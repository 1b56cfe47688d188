use Rattle.std.proofs.Common.{◌≡◌, drop}
use Rattle.ld_table.specs.Words.{any_of}
use Rattle.ld_words.specs.Meaning.{is_letter}
use Rattle.ld_words.proofs.host.has_letter.Given as goal

abbrev pub invariant-loop-byte : goal.invariant-loop-byte
invariant-loop-byte l = any_of is_letter (drop l.byte-index l.host) ≡ any_of is_letter l.host
