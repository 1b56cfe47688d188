use Rattle.ld_ids.proofs.Members.{members-without}
use Rattle.ld_ids.proofs.set.NodeSet.without.Goals as goal

pub returns-clause-members : goal.returns-clause-members
returns-clause-members c n = rw (← c.self.view_is, c.from.ensures, c.number.ensures.value) (members-without c.args.node _ n c.number.ensures.bounds c.self.invariant)
