use Rattle.ld_node_bounds.proofs.Handling.{message_handled, answers_sent}
use Rattle.ld_node_bounds.proofs.laws.answers_are_messages.Goals as goal

pub returns-clause-handled : goal.returns-clause-handled
returns-clause-handled c = λ most n released p m small P h r i to. message_handled small p P n h released r m i to

pub returns-clause-sent : goal.returns-clause-sent
returns-clause-sent c = λ n m o i a. answers_sent n m o i.log a
