use Rattle.std.proofs.Common.{◌≡◌, ◌+◌, length}
use Rattle.ld_tests_protocol.proofs.window.pushed.Given as goal

abbrev pub invariant-esns : goal.invariant-esns
invariant-esns l = l.esn ≡ length l.window + 1
