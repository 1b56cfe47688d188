use Rattle.std.proofs.Common.{◌≡◌, ◌++◌}
use Rattle.ld_msg.specs.declared.msg.Who.TheVariants.{Sequencer}
use Rattle.ld_recovery.specs.Sending.{BeginsWith}
use Rattle.ld_sequencer.proofs.Rounds.{stores_from}
use Rattle.ld_sequencer.proofs.row.Row.send_each.Given as goal

abbrev pub invariant-waiting : goal.invariant-waiting
invariant-waiting l = record {
  left : l.out ++ stores_from (Sequencer l.round.epoch) l.round.spec.log l.round.spec l.lost l.round.lng l.first l.place l.self-inside.waiting.items
      ≡ l.initial.out ++ stores_from (Sequencer l.round.epoch) l.round.spec.log l.round.spec l.lost l.round.lng l.first 0 l.self-inside.waiting.items;
  begun : BeginsWith l.initial.out l.out;
}
