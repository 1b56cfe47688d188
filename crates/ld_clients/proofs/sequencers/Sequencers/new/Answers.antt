use Rattle.ld_clients.proofs.Standing.{served_none}
use Rattle.ld_clients.proofs.sequencers.Sequencers.new.Goals as goal

pub invariant_of-result : goal.invariant_of-result
invariant_of-result c = served_none c.new.result.entries c.new-2.result c.new.ensures.empty c.new-2.ensures
