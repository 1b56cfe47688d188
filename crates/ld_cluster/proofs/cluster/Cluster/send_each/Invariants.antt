use Rattle.ld_cluster.specs.Outcomes.{IsSending}
use Rattle.ld_cluster.proofs.cluster.Cluster.send_each.Given as goal

abbrev pub invariant-loop-msg : goal.invariant-loop-msg
invariant-loop-msg l = IsSending l.fn.self l.fn.lines l.fn.sends l.self l.lines l.yielded l.msg-iterator.rest.items
