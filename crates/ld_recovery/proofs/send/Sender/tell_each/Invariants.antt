use Rattle.std.proofs.Common.{◌≡◌, ◌++◌, drop}
use Rattle.ld_ids.specs.Set.{members}
use Rattle.ld_msg.specs.Sequencer.{to_each}
use Rattle.ld_recovery.specs.Sending.{sent, told, BeginsWith}
use Rattle.ld_recovery.proofs.send.Sender.tell_each.Given as goal

abbrev pub invariant-nodes : goal.invariant-nodes
invariant-nodes l = record {
  left : l.out ++ sent l.self (to_each (told l.notice) (drop l.place (members l.set))) ≡ l.initial.out ++ sent l.self (to_each (told l.notice) (members l.set));
  begun : BeginsWith l.initial.out l.out;
}
