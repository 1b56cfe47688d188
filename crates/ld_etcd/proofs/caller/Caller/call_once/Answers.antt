use Rattle.std.proofs.Common.{subst}
use Rattle.ld_etcd.proofs.Asking.{asks_on}
use Rattle.ld_etcd.specs.Known.{asked_of}
use Rattle.ld_etcd.specs.Request.{Asks}
use Rattle.ld_etcd.proofs.caller.Caller.call_once.Goals as goal

pub returns-in_err-response : goal.returns-in_err-response
returns-in_err-response g c = asks_on c.args.path.now c.args.text.now (asked_of g.M.Members c.args.self.now) (asked_of g.M.Members c.connect.new.self) (g.M.Members.did c.post.new.members) (c.in_ok-connect.ensures c.args.path.now c.args.text.now)
    (subst (λ t. Asks c.args.path.now t (asked_of g.M.Members c.connect.new.self) (g.M.Members.did c.post.new.members)) c.as_bytes.ensures.value c.in_err-response.ensures.asks)

pub returns : goal.returns
returns g c = asks_on c.args.path.now c.args.text.now (asked_of g.M.Members c.args.self.now) (asked_of g.M.Members c.connect.new.self) (g.M.Members.did c.post.new.members) (c.in_ok-connect.ensures c.args.path.now c.args.text.now)
    (subst (λ t. Asks c.args.path.now t (asked_of g.M.Members c.connect.new.self) (g.M.Members.did c.post.new.members)) c.as_bytes.ensures.value c.in_ok-response.ensures.asks)
