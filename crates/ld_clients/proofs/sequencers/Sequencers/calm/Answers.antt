use Rattle.std.proofs.Common.{◌∙◌, sym, ap, subst}
use Rattle.ld_table.specs.Named.{same, find_named, put_named}
use Rattle.ld_clients.specs.Acting.{IsActed}
use Rattle.ld_machine.specs.Calm.{Calms, moves}
use Rattle.ld_clients.proofs.Placing.{named, room_for, calm_nobody, calm_somebody}
use Rattle.ld_clients.specs.Serving.{KnowsIn, KnowTheirLogs}
use Rattle.ld_clients.proofs.Names.{set_named_is_put, all_none}
use Rattle.ld_clients.proofs.Serving.{know_after}
use Rattle.ld_clients.proofs.Standing.{served_after, served_none}
use Rattle.ld_clients.proofs.sequencers.Sequencers.calm.Goals as goal

pub returns-in_default-clause-done : goal.returns-in_default-clause-done
unfolding find_named same
returns-in_default-clause-done g c = λ d s h t r. subst (λ ks. IsActed s ks c.nothing.result (g.G.Register.tells c.args.reg.now) (moves d s (Calms c.args.name.now))) (sym ((λ i. (c.get_mut.follows.holds-at-none i).entries) ∙ c.self.view_is))
    (calm_nobody d s c.args.self.now h c.args.name.now c.nothing.result (g.G.Register.tells c.args.reg.now) (ap (find_named c.args.name.now) (sym c.self.view_is) ∙ sym c.in_default.ensures.value) t c.nothing.ensures.lines c.nothing.ensures.sends)

pub returns-in_default-clause-logs : goal.returns-in_default-clause-logs
returns-in_default-clause-logs g c = λ d k. subst (KnowTheirLogs d) (sym ((λ i. (c.get_mut.follows.holds-at-none i).entries) ∙ c.self.view_is)) k

pub calm-requires : goal.calm-requires
unfolding find_named same
calm-requires g c = (c.self.invariant.whole c.args.name.now c.in-Some.client.now (sym c.in-Some.ensures.value))

pub invariant_of-self-in-Ok : goal.invariant_of-self-in-Ok
unfolding find_named same
invariant_of-self-in-Ok g c = served_after c.args.name.now c.in-Some.client.now c.calm.new.self c.self.inside.map.entries (c.get_mut.follows.lender c.calm.new.self).entries c.self.inside.places (sym c.in-Some.ensures.value) c.in-Ok.ensures.goes_on ((c.get_mut.follows.holds c.calm.new.self).0 ∙ set_named_is_put c.args.name.now c.in-Some.client.now c.calm.new.self c.self.inside.map.entries (sym c.in-Some.ensures.value)) c.self.invariant

pub invariant_of-self-in-Err : goal.invariant_of-self-in-Err
invariant_of-self-in-Err g c = served_none c.clear.new.self.entries c.clear-in-Err.new.self c.clear.ensures.empty c.clear-in-Err.ensures

pub returns-in-Ok-clause-done : goal.returns-in-Ok-clause-done
unfolding find_named same
returns-in-Ok-clause-done g c = λ d s h t r. calm_somebody d s c.args.self.now h c.args.name.now c.in-Ok.outcome (g.G.Register.tells c.calm.new.reg) c.in-Some.client.now c.calm.new.self (c.get_mut.follows.lender c.calm.new.self).entries (ap (find_named c.args.name.now) (sym c.self.view_is) ∙ sym c.in-Some.ensures.value) ((c.get_mut.follows.holds c.calm.new.self).0 ∙ (set_named_is_put c.args.name.now c.in-Some.client.now c.calm.new.self c.self.inside.map.entries (sym c.in-Some.ensures.value) ∙ ap (put_named c.args.name.now c.calm.new.self) c.self.view_is))
    (c.in-Ok.ensures.done d s (named d s c.args.self.now h c.args.name.now c.in-Some.client.now (ap (find_named c.args.name.now) (sym c.self.view_is) ∙ sym c.in-Some.ensures.value)) t (room_for d s c.args.self.now h c.args.name.now c.in-Some.client.now (ap (find_named c.args.name.now) (sym c.self.view_is) ∙ sym c.in-Some.ensures.value) r))

pub returns-in-Ok-clause-logs : goal.returns-in-Ok-clause-logs
unfolding find_named same
returns-in-Ok-clause-logs g c = λ d k. know_after d c.args.name.now c.in-Some.client.now c.calm.new.self c.args.self.now (c.get_mut.follows.lender c.calm.new.self).entries (ap (find_named c.args.name.now) (sym c.self.view_is) ∙ sym c.in-Some.ensures.value) c.in-Ok.ensures.goes_on ((c.get_mut.follows.holds c.calm.new.self).0 ∙ (set_named_is_put c.args.name.now c.in-Some.client.now c.calm.new.self c.self.inside.map.entries (sym c.in-Some.ensures.value) ∙ ap (put_named c.args.name.now c.calm.new.self) c.self.view_is)) k

pub returns-in-Err-clause-logs : goal.returns-in-Err-clause-logs
returns-in-Err-clause-logs g c = λ d k. subst (KnowTheirLogs d) (sym c.clear.ensures.empty) (all_none (KnowsIn d))
