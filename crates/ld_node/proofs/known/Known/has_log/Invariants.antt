use Rattle.std.proofs.Common.{◌≡◌, drop}
use Rattle.ld_table.specs.Words.{is_in}
use Rattle.ld_node.proofs.known.Known.has_log.Given as goal

abbrev pub invariant-loop-known : goal.invariant-loop-known
invariant-loop-known l = is_in l.number (drop l.known-index l.known-items) ≡ is_in l.number l.self.logs
