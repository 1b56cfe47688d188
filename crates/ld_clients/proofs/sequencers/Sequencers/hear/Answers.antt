use Rattle.std.proofs.Common.{◌≡◌, Some, None, ◌∙◌, sym, ap, subst}
use Rattle.ld_table.specs.Named.{same, find_named, put_named}
use Rattle.ld_machine.specs.Step.{to_live}
use Rattle.ld_clients.specs.Acting.{HasActed}
use Rattle.ld_clients.specs.Serving.{shown}
use Rattle.ld_clients.proofs.Placing.{named, room_for, placed}
use Rattle.ld_clients.specs.declared.client.Client.{Client}
use Rattle.ld_clients.specs.Serving.{KnowsIn, KnowTheirLogs}
use Rattle.ld_clients.proofs.Names.{set_named_is_put, all_none}
use Rattle.ld_clients.proofs.Serving.{know_after}
use Rattle.ld_clients.proofs.Standing.{served_after, served_none}
use Rattle.ld_clients.proofs.sequencers.Sequencers.hear.Goals as goal

pub returns-in_default-clause-done : goal.returns-in_default-clause-done
unfolding find_named same
returns-in_default-clause-done g c = λ k f. let n : find_named c.args.name.now c.args.self.now ≡ None = (ap (find_named c.args.name.now) (sym c.self.view_is) ∙ sym c.in_default.ensures.value) in absurd cc

pub returns-in_default-clause-logs : goal.returns-in_default-clause-logs
returns-in_default-clause-logs g c = λ d k. subst (KnowTheirLogs d) (sym ((λ i. (c.get_mut.follows.holds-at-none i).entries) ∙ c.self.view_is)) k

pub on_reply-requires-clause-whole : goal.on_reply-requires-clause-whole
unfolding find_named same
on_reply-requires-clause-whole g c = (c.self.invariant.whole c.args.name.now c.in-Some.client.now (sym c.in-Some.ensures.value))

pub invariant_of-self-in-Ok : goal.invariant_of-self-in-Ok
unfolding find_named same
invariant_of-self-in-Ok g c = served_after c.args.name.now c.in-Some.client.now c.on_reply.new.self c.self.inside.map.entries (c.get_mut.follows.lender c.on_reply.new.self).entries c.self.inside.places (sym c.in-Some.ensures.value) c.in-Ok.ensures.goes_on ((c.get_mut.follows.holds c.on_reply.new.self).0 ∙ set_named_is_put c.args.name.now c.in-Some.client.now c.on_reply.new.self c.self.inside.map.entries (sym c.in-Some.ensures.value)) c.self.invariant

pub invariant_of-self-in-Err : goal.invariant_of-self-in-Err
invariant_of-self-in-Err g c = served_none c.clear.new.self.entries c.clear-in-Err.new.self c.clear.ensures.empty c.clear-in-Err.ensures

pub returns-in-Ok-clause-done : goal.returns-in-Ok-clause-done
unfolding find_named same
returns-in-Ok-clause-done g c = λ k f d s h t r.
    let there : find_named c.args.name.now c.args.self.now ≡ Some c.in-Some.client.now = (ap (find_named c.args.name.now) (sym c.self.view_is) ∙ sym c.in-Some.ensures.value) in
    let e : c.in-Some.client.now ≡ k = cc in
    placed d s c.args.self.now h c.args.name.now c.on_reply.new.self (c.get_mut.follows.lender c.on_reply.new.self).entries c.in-Ok.outcome (g.G.Register.tells c.on_reply.new.reg) _ ((c.get_mut.follows.holds c.on_reply.new.self).0 ∙ (set_named_is_put c.args.name.now c.in-Some.client.now c.on_reply.new.self c.self.inside.map.entries (sym c.in-Some.ensures.value) ∙ ap (put_named c.args.name.now c.on_reply.new.self) c.self.view_is))
    (subst (λ (x : Client). HasActed s c.args.name.now c.on_reply.new.self c.in-Ok.outcome (g.G.Register.tells c.on_reply.new.reg) (to_live d s c.args.name.now (shown x) c.args.msg.now)) e
    (c.in-Ok.ensures.done d s (named d s c.args.self.now h c.args.name.now c.in-Some.client.now there) t (room_for d s c.args.self.now h c.args.name.now c.in-Some.client.now there r)))

pub returns-in-Ok-clause-logs : goal.returns-in-Ok-clause-logs
unfolding find_named same
returns-in-Ok-clause-logs g c = λ d k. know_after d c.args.name.now c.in-Some.client.now c.on_reply.new.self c.args.self.now (c.get_mut.follows.lender c.on_reply.new.self).entries (ap (find_named c.args.name.now) (sym c.self.view_is) ∙ sym c.in-Some.ensures.value) c.in-Ok.ensures.goes_on ((c.get_mut.follows.holds c.on_reply.new.self).0 ∙ (set_named_is_put c.args.name.now c.in-Some.client.now c.on_reply.new.self c.self.inside.map.entries (sym c.in-Some.ensures.value) ∙ ap (put_named c.args.name.now c.on_reply.new.self) c.self.view_is)) k

pub returns-in-Err-clause-logs : goal.returns-in-Err-clause-logs
returns-in-Err-clause-logs g c = λ d k. subst (KnowTheirLogs d) (sym c.clear.ensures.empty) (all_none (KnowsIn d))
