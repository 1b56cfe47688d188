use Rattle.std.proofs.Common.{◌∙◌}
use Rattle.ld_etcd.proofs.Asking.{asks_on, asks_connection}
use Rattle.ld_etcd.specs.Known.{asked_of}
use Rattle.ld_etcd.proofs.caller.Caller.connect.Goals as goal

pub returns-in-Ok : goal.returns-in-Ok
returns-in-Ok g c path text = asks_on path text (asked_of g.M.Members c.args.self.now) (asked_of g.M.Members c.members.self) (g.M.Members.did c.connect.new.self) (c.members.invariant path text) (asks_connection path text c.members.self.member _ _ c.in-Ok.ensures)

pub members-preserved : goal.members-preserved
members-preserved g c path text = asks_on path text (asked_of g.M.Members c.args.self.now) (asked_of g.M.Members c.members.self) (asked_of g.M.Members c.turn.new.self) (c.members.invariant path text) (asks_connection path text c.members.self.member _ _ (c.turn.ensures ∙ c.in-Err.ensures))
