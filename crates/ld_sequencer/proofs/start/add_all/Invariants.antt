use Rattle.std.proofs.Common.{◌≡◌, ◌++◌}
use Rattle.ld_sequencer.proofs.start.add_all.Given as goal

abbrev pub invariant-asks : goal.invariant-asks
invariant-asks l = record {
  all : l.yielded ++ l.ask-iterator.rest.items ≡ l.fn.asks;
  sent : l.out ≡ l.fn.out ++ l.yielded;
}
