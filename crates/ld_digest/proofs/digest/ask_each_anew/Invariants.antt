use Rattle.std.proofs.Common.{◌≡◌, length}
use Rattle.ld_digest.proofs.Changed.{anew_to}
use Rattle.ld_digest.proofs.digest.ask_each_anew.Given as goal

abbrev pub invariant-loop-place : goal.invariant-loop-place
invariant-loop-place l = (l.told.items ≡ anew_to l.epoch l.good l.initial.told.items l.place) × (length l.told.items ≡ length l.initial.told.items)
