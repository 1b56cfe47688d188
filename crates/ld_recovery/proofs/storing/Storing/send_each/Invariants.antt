use Rattle.std.proofs.Common.{◌≡◌, ◌++◌, drop}
use Rattle.ld_msg.specs.Sequencer.{item_stores}
use Rattle.ld_recovery.specs.Sending.{sent, BeginsWith}
use Rattle.ld_recovery.proofs.storing.Storing.send_each.Given as goal

abbrev pub invariant-loop-item : goal.invariant-loop-item
invariant-loop-item l = record {
  left : l.out ++ sent l.sender (item_stores l.self.spec l.lost l.self.storing.loss l.self.storing.lng l.self.storing.wave (drop l.item-index l.self.storing.items)) ≡ l.initial.out ++ sent l.sender (item_stores l.self.spec l.lost l.self.storing.loss l.self.storing.lng l.self.storing.wave l.self.storing.items);
  begun : BeginsWith l.initial.out l.out;
}
