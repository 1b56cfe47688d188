use Rattle.std.proofs.Common.{◌≡◌, ◌++◌, drop}
use Rattle.ld_text.specs.Text.{odd}
use Rattle.ld_text.proofs.spelling.put_odd.Given as goal

abbrev pub invariant-bytes : goal.invariant-bytes
invariant-bytes l = l.out.items ++ odd (drop l.byte-index l.bytes) ≡ l.initial.out.items ++ odd l.bytes
