use Rattle.std.proofs.Common.{subst}
use Rattle.std.specs.Prelude.{codes}
use Rattle.ld_etcd.specs.Known.{asked_in}
use Rattle.ld_etcd.specs.Request.{Asks}
use Rattle.ld_etcd.proofs.etcd.Etcd.read_page.Goals as goal

pub returns-in_err-answer-clause-asks : goal.returns-in_err-answer-clause-asks
returns-in_err-answer-clause-asks g c = subst (λ t. Asks (codes "/v3/kv/range") t (asked_in g.M.Members c.args.self.now) (asked_in g.M.Members c.ask.new.self)) c.in_ok-text.ensures c.in_err-answer.ensures.asks

pub returns-clause-asks : goal.returns-clause-asks
returns-clause-asks g c = subst (λ t. Asks (codes "/v3/kv/range") t (asked_in g.M.Members c.args.self.now) (asked_in g.M.Members c.ask.new.self)) c.in_ok-text.ensures c.in_ok-answer.ensures.asks
