use Rattle.std.proofs.Common.{◌≡◌, ◌++◌, drop}
use Rattle.ld_text.specs.Text.{plain}
use Rattle.ld_text.proofs.spelling.put_plain.Given as goal

abbrev pub invariant-bytes : goal.invariant-bytes
invariant-bytes l = l.out.items ++ plain (drop l.byte-index l.bytes) ≡ l.initial.out.items ++ plain l.bytes
