use Rattle.ld_net.proofs.Places.{kept_push}
use Rattle.ld_net.proofs.net.Net.send.Goals as goal

pub invariant_of-self-2 : goal.invariant_of-self-2
invariant_of-self-2 c = rw c.in_ok-push.ensures.items (kept_push _ _ _ c.self.invariant)
