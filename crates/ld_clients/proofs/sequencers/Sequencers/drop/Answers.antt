use Rattle.std.proofs.Common.{◌∙◌, sym, ap, subst}
use Rattle.ld_table.specs.Named.{same, find_named, put_named}
use Rattle.ld_clients.specs.Acting.{IsActed, Stays}
use Rattle.ld_clients.specs.Serving.{KnowTheirLogs}
use Rattle.ld_machine.specs.Step.{happens}
use Rattle.ld_schedule.specs.declared.event.Event.TheVariants.{Drop}
use Rattle.ld_clients.proofs.Names.{set_named_is_put}
use Rattle.ld_clients.proofs.Serving.{know_after, retired_goes}
use Rattle.ld_clients.proofs.Acting.{drop_done}
use Rattle.ld_clients.proofs.Placing.{named, drop_nobody, drop_somebody}
use Rattle.ld_clients.proofs.Standing.{served_after}
use Rattle.ld_clients.proofs.sequencers.Sequencers.drop.Goals as goal

pub returns-in_default-clause-done : goal.returns-in_default-clause-done
unfolding find_named same
returns-in_default-clause-done c = λ d s h. subst (λ ks. IsActed s ks c.nothing.result (Stays s) (happens d s (Drop c.args.name.now))) (sym ((λ i. (c.get_mut.follows.holds-at-none i).entries) ∙ c.self.view_is))
    (drop_nobody d s c.args.self.now h c.args.name.now c.nothing.result (ap (find_named c.args.name.now) (sym c.self.view_is) ∙ sym c.in_default.ensures.value) c.nothing.ensures.lines c.nothing.ensures.sends)

pub returns-in_default-clause-logs : goal.returns-in_default-clause-logs
returns-in_default-clause-logs c = λ d k. subst (KnowTheirLogs d) (sym ((λ i. (c.get_mut.follows.holds-at-none i).entries) ∙ c.self.view_is)) k

pub retire-requires : goal.retire-requires
unfolding find_named same
retire-requires c = c.self.invariant.whole c.args.name.now c.in-Some.client.now (sym c.in-Some.ensures.value)

pub invariant_of-self-2 : goal.invariant_of-self-2
unfolding find_named same
invariant_of-self-2 c = served_after c.args.name.now c.in-Some.client.now c.retire.new.self c.self.inside.map.entries (c.get_mut.follows.lender c.retire.new.self).entries c.self.inside.places (sym c.in-Some.ensures.value) (retired_goes c.in-Some.client.now c.retire.new.self c.retire.ensures) ((c.get_mut.follows.holds c.retire.new.self).0 ∙ set_named_is_put c.args.name.now c.in-Some.client.now c.retire.new.self c.self.inside.map.entries (sym c.in-Some.ensures.value)) c.self.invariant

pub returns-clause-done : goal.returns-clause-done
unfolding find_named same
returns-clause-done c = λ d s h. drop_somebody d s c.args.self.now h c.args.name.now c.nothing-2.result c.in-Some.client.now c.retire.new.self (c.get_mut.follows.lender c.retire.new.self).entries (ap (find_named c.args.name.now) (sym c.self.view_is) ∙ sym c.in-Some.ensures.value) ((c.get_mut.follows.holds c.retire.new.self).0 ∙ (set_named_is_put c.args.name.now c.in-Some.client.now c.retire.new.self c.self.inside.map.entries (sym c.in-Some.ensures.value) ∙ ap (put_named c.args.name.now c.retire.new.self) c.self.view_is))
    (drop_done d s c.args.name.now c.in-Some.client.now c.retire.new.self (named d s c.args.self.now h c.args.name.now c.in-Some.client.now (ap (find_named c.args.name.now) (sym c.self.view_is) ∙ sym c.in-Some.ensures.value)) (c.self.invariant.whole c.args.name.now c.in-Some.client.now (sym c.in-Some.ensures.value)) c.retire.ensures c.nothing-2.result c.nothing-2.ensures.lines c.nothing-2.ensures.sends)

pub returns-clause-logs : goal.returns-clause-logs
unfolding find_named same
returns-clause-logs c = λ d k. know_after d c.args.name.now c.in-Some.client.now c.retire.new.self c.args.self.now (c.get_mut.follows.lender c.retire.new.self).entries (ap (find_named c.args.name.now) (sym c.self.view_is) ∙ sym c.in-Some.ensures.value) (retired_goes c.in-Some.client.now c.retire.new.self c.retire.ensures) ((c.get_mut.follows.holds c.retire.new.self).0 ∙ (set_named_is_put c.args.name.now c.in-Some.client.now c.retire.new.self c.self.inside.map.entries (sym c.in-Some.ensures.value) ∙ ap (put_named c.args.name.now c.retire.new.self) c.self.view_is)) k
