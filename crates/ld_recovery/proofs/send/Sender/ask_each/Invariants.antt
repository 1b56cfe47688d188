use Rattle.std.proofs.Common.{◌≡◌, ◌++◌, drop}
use Rattle.ld_msg.specs.Sequencer.{digest_asks}
use Rattle.ld_recovery.specs.Sending.{sent, BeginsWith}
use Rattle.ld_recovery.proofs.send.Sender.ask_each.Given as goal

abbrev pub invariant-loop-one : goal.invariant-loop-one
invariant-loop-one l = record {
  left : l.out ++ sent l.self (digest_asks (drop l.one-index l.told)) ≡ l.initial.out ++ sent l.self (digest_asks l.told);
  begun : BeginsWith l.initial.out l.out;
}
