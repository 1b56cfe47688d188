use Rattle.std.proofs.Common.{◌≡◌, ◌++◌, map, take, drop}
use Rattle.ld_sequencer.specs.Appends.{raised_one}
use Rattle.ld_sequencer.proofs.row.raise_all.Given as goal

abbrev pub invariant-waiting : goal.invariant-waiting
invariant-waiting l = l.waiting.items ≡ map raised_one (take l.place l.initial.waiting.items) ++ drop l.place l.initial.waiting.items
