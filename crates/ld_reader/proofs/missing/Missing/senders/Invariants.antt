use Rattle.std.proofs.Common.{◌≡◌, ◌≤◌, ◌+◌, ℕ, drop, length, filter}
use Rattle.ld_table.specs.Words.{is_in}
use Rattle.ld_ids.specs.Set.{members}
use Rattle.ld_msg.specs.Reader.{missed_by, flags_of}
use Rattle.ld_reader.proofs.missing.Missing.senders.Given as goal

abbrev pub invariant-places : goal.invariant-places
invariant-places l = record {
  few : l.count + l.place ≤ length (members l.set);
  count : l.count ≡ length (filter (missed_by l.self l.epoch) (drop l.place (members l.set)));
  flags : l.excluded ≡ flags_of (filter (missed_by l.self l.epoch) (drop l.place (members l.set)));
  nodes : (n : ℕ) → is_in n (members l.excluded) ≡ is_in n (filter (missed_by l.self l.epoch) (drop l.place (members l.set)));
}

abbrev pub decreases-places : goal.decreases-places
decreases-places l = l.place
