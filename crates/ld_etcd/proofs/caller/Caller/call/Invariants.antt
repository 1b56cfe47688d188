use Rattle.ld_etcd.specs.Known.{asked_of}
use Rattle.ld_etcd.specs.Request.{Asks}
use Rattle.ld_etcd.proofs.caller.Caller.call.Given as goal

abbrev pub invariant-tries : goal.invariant-tries
invariant-tries g l = Asks l.path l.text (asked_of g.M.Members l.fn.self) (asked_of g.M.Members l.self)
