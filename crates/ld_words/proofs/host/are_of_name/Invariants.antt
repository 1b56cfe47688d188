use Rattle.std.proofs.Common.{◌≡◌, drop}
use Rattle.ld_table.specs.Words.{all_of}
use Rattle.ld_words.specs.Meaning.{is_of_name}
use Rattle.ld_words.proofs.host.are_of_name.Given as goal

abbrev pub invariant-loop-byte : goal.invariant-loop-byte
invariant-loop-byte l = all_of is_of_name (drop l.byte-index l.host) ≡ all_of is_of_name l.host
