use Rattle.ld_net.proofs.Places.{kept_unset}
use Rattle.ld_net.proofs.net.Net.mark.Goals as goal

pub first_new-self-inside-requires : goal.first_new-self-inside-requires
first_new-self-inside-requires c = rw c.deref.ensures.value (kept_unset _ _ _ _ c.self.invariant.passed)
