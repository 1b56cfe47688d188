use Rattle.ld_ids.proofs.Members.{members-with}
use Rattle.ld_ids.proofs.set.NodeSet.with.Goals as goal

pub returns-clause-members : goal.returns-clause-members
returns-clause-members c n = rw (← c.self.view_is, c.from.ensures, c.number.ensures.value) (members-with c.args.node _ n c.number.ensures.bounds c.self.invariant)
