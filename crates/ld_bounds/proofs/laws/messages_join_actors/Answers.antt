use Rattle.ld_bounds.proofs.Ends.{ends_are, node_sends}
use Rattle.ld_bounds.proofs.laws.messages_join_actors.Goals as goal

pub returns-clause-ends : goal.returns-clause-ends
returns-clause-ends c = λ m i. ends_are m i

pub returns-clause-node : goal.returns-clause-node
returns-clause-node c = λ m i h. node_sends m i h
