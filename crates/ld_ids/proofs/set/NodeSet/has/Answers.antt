use Rattle.ld_ids.proofs.Members.{has-members}
use Rattle.ld_ids.proofs.set.NodeSet.has.Goals as goal

pub returns-clause-member : goal.returns-clause-member
returns-clause-member c = rw (← c.self.view_is, c.from.ensures, c.number.ensures.value) (has-members c.args.node _ c.number.ensures.bounds.0)
