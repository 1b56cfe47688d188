use Rattle.std.proofs.Common.{length, ◌-◌}
use Rattle.ld_net.specs.Kept.{flags, IsBefore}
use Rattle.ld_net.proofs.net.first_new.Given as goal

abbrev pub invariant-loop-first : goal.invariant-loop-first
invariant-loop-first l = IsBefore (flags l.sent) l.first

abbrev pub decreases-loop-first : goal.decreases-loop-first
decreases-loop-first l = length l.sent - l.first
