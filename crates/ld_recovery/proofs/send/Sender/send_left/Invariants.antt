use Rattle.std.proofs.Common.{◌≡◌, ◌++◌, drop}
use Rattle.ld_ids.specs.Set.{members}
use Rattle.ld_msg.specs.declared.msg.Body.TheVariants.{Store}
use Rattle.ld_msg.specs.Sequencer.{to_each}
use Rattle.ld_recovery.specs.Sending.{sent, BeginsWith}
use Rattle.ld_recovery.proofs.Posting.{left_of}
use Rattle.ld_recovery.proofs.send.Sender.send_left.Given as goal

abbrev pub invariant-nodes : goal.invariant-nodes
invariant-nodes l = record {
  left : l.out ++ sent l.self (to_each (Store l.number l.lng l.what) (left_of l.left.lost.now l.left.settled.now (drop l.place (members l.left.set.now)))) ≡ l.initial.out ++ sent l.self (to_each (Store l.number l.lng l.what) (left_of l.left.lost.now l.left.settled.now (members l.left.set.now)));
  begun : BeginsWith l.initial.out l.out;
}
