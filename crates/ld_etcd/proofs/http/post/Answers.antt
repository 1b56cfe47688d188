use Rattle.std.proofs.Common.{◌∙◌, ap, subst, ◌∷◌}
use Rattle.ld_etcd.specs.Request.{Asks, sends}
use Rattle.ld_etcd.proofs.Posting.{asks_posted}
use Rattle.ld_etcd.proofs.http.post.Goals as goal

pub returns-in-Err-clause-asks : goal.returns-in-Err-clause-asks
returns-in-Err-clause-asks g c = subst (λ p. Asks p c.args.body.now (g.M.Members.did c.args.members.now) (g.M.Members.did c.write.new.self)) c.as_bytes.ensures.value
    (asks_posted c.as_bytes.result.now c.args.body.now c.in_ok-request.request.items c.host.result.now c.new-client.result c.default.result _ _ c.new-client.ensures c.in_ok-request.ensures
    (c.in-Err.ensures ∙ ap (λ l. sends l ∷ g.M.Members.did c.args.members.now) c.deref.ensures.value))

pub returns-clause-asks : goal.returns-clause-asks
returns-clause-asks g c = subst (λ p. Asks p c.args.body.now (g.M.Members.did c.args.members.now) (g.M.Members.did c.read_response.new.members)) c.as_bytes.ensures.value
    (asks_posted c.as_bytes.result.now c.args.body.now c.in_ok-request.request.items c.host.result.now c.new-client.result c.default.result _ _ c.new-client.ensures c.in_ok-request.ensures
    (c.read_response.ensures.did ∙ (c.in_default.ensures ∙ ap (λ l. sends l ∷ g.M.Members.did c.args.members.now) c.deref.ensures.value)))
