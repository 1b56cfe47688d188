use Rattle.std.proofs.Common.{◌≡◌, ◌++◌, drop}
use Rattle.ld_msg.specs.declared.msg.Body.TheVariants.{Store}
use Rattle.ld_msg.specs.Sequencer.{to_each}
use Rattle.ld_recovery.specs.Sending.{sent, what_of, BeginsWith}
use Rattle.ld_recovery.proofs.send.Sender.send_each.Given as goal

abbrev pub invariant-nodes : goal.invariant-nodes
invariant-nodes l = record {
  left : l.out ++ sent l.self (to_each (Store l.number l.lng (what_of l.stored)) (drop l.place l.nodes)) ≡ l.initial.out ++ sent l.self (to_each (Store l.number l.lng (what_of l.stored)) l.nodes);
  begun : BeginsWith l.initial.out l.out;
}
