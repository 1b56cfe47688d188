use Rattle.std.proofs.Common.{◌≡◌, ◌++◌}
use Rattle.ld_msg.specs.Sequencer.{planned}
use Rattle.ld_recovery.proofs.storing.unsettled.Given as goal

abbrev pub invariant-loop-item : goal.invariant-loop-item
invariant-loop-item l = record {
  all : l.yielded ++ l.item-iterator.rest.items ≡ l.fn.items.items;
  made : l.list.items ≡ planned l.yielded;
}
