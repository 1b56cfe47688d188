use Rattle.std.proofs.Common.{◌≡◌, ◌+◌, drop}
use Rattle.ld_sequencer.specs.Announcing.{told_first}
use Rattle.ld_sequencer.proofs.announce.count_told.Given as goal

abbrev pub invariant-messages : goal.invariant-messages
invariant-messages l = told_first l.fn.sends ≡ l.place + told_first (drop l.place l.fn.sends)
