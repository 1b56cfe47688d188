use Rattle.std.proofs.Common.{ℕ, List}
use Rattle.ld_etcd.specs.Known.{asked_of}
use Rattle.ld_etcd.specs.Request.{Asks}
use Rattle.ld_etcd.proofs.caller.Caller.connect.Given as goal

abbrev pub invariant-members : goal.invariant-members
invariant-members g l = (path text : List ℕ) → Asks path text (asked_of g.M.Members l.fn.self) (asked_of g.M.Members l.self)
