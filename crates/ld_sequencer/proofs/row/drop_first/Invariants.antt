use Rattle.std.proofs.Common.{◌≡◌, drop}
use Rattle.ld_sequencer.proofs.row.drop_first.Given as goal

abbrev pub invariant-first : goal.invariant-first
invariant-first l = l.waiting.items ≡ drop l.counter l.initial.waiting.items
