use Rattle.ld_msg.specs.declared.msg.Who.TheVariants as whos
use Rattle.ld_op.specs.Plain.{log_of}
use Rattle.ld_op.specs.Ticks.{node_asks, refill_asks}
use Rattle.ld_ids.specs.Set.{members}
use Rattle.ld_node_bounds.proofs.Members.{members_nodes}
use Rattle.ld_node_bounds.proofs.Ops.{log_state}
use Rattle.ld_node_bounds.proofs.Posts.{posts_sent}
use Rattle.ld_node_bounds.proofs.Ticking.{ticked_is, asks_sent, refill_sent}
use Rattle.ld_node_bounds.proofs.laws.asks_are_messages.Goals as goal

pub returns-clause-ticked : goal.returns-clause-ticked
returns-clause-ticked c = λ most l p closed P f. ticked_is (log_of p l) (log_state most p l P) closed f

pub returns-clause-sent : goal.returns-clause-sent
returns-clause-sent c = λ n l from set h log one b a. posts_sent (whos.Node n) l (node_asks n set from) log (asks_sent n from set h one b a)

pub returns-clause-refill : goal.returns-clause-refill
returns-clause-refill c = λ most n l p flags P h log is.
    posts_sent (whos.Node n) l (refill_asks n (members flags) (log_of p l)) log (refill_sent (log_of p l) (log_state most p l P) n (members flags) h (members_nodes flags is))
