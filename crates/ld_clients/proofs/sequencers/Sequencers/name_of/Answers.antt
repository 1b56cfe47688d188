use Rattle.std.proofs.Common.{◌≡◌, ℕ, List, Some, None, option_map, ◌∙◌, sym, ap, subst}
use Rattle.ld_table.specs.Named.{same, find_named}
use Rattle.ld_clients.specs.declared.client.Client.{Client}
use Rattle.ld_clients.specs.Serving.{serving_in}
use Rattle.ld_clients.proofs.Serving.{names_are}
use Rattle.ld_clients.proofs.Standing.{known, unknown}
use Rattle.ld_clients.proofs.sequencers.Sequencers.name_of.Goals as goal

pub returns-in_default-clause-name : goal.returns-in_default-clause-name
returns-in_default-clause-name c = sym (ap (option_map (λ (e : List ℕ × Client). e.0))
    (ap (serving_in c.args.log c.args.epoch) (sym c.self.view_is) ∙ unknown c.args.log c.args.epoch c.self.inside.map.entries c.self.inside.places c.in_default.ensures c.self.invariant))

pub returns-in_default-clause-unique : goal.returns-in_default-clause-unique
returns-in_default-clause-unique c = λ e f.
    let n : serving_in c.args.log c.args.epoch c.args.self.now ≡ None = ap (serving_in c.args.log c.args.epoch) (sym c.self.view_is) ∙ unknown c.args.log c.args.epoch c.self.inside.map.entries c.self.inside.places c.in_default.ensures c.self.invariant in
    absurd cc

pub returns-in_default-get_index-clause-name : goal.returns-in_default-get_index-clause-name
returns-in_default-get_index-clause-name c = sym (ap (option_map (λ (e : List ℕ × Client). e.0))
    (ap (serving_in c.args.log c.args.epoch) (sym c.self.view_is) ∙ (known c.args.log c.args.epoch c.self.inside.map.entries c.self.inside.places c.in-Some.place c.in-Some.ensures c.self.invariant ∙ sym c.in_default-get_index.ensures.entry)))

pub returns-in_default-get_index-clause-unique : goal.returns-in_default-get_index-clause-unique
returns-in_default-get_index-clause-unique c = λ e f.
    let n : serving_in c.args.log c.args.epoch c.args.self.now ≡ None = ap (serving_in c.args.log c.args.epoch) (sym c.self.view_is) ∙ (known c.args.log c.args.epoch c.self.inside.map.entries c.self.inside.places c.in-Some.place c.in-Some.ensures c.self.invariant ∙ sym c.in_default-get_index.ensures.entry) in
    absurd cc

pub returns-clause-name : goal.returns-clause-name
returns-clause-name c = sym (ap (option_map (λ (e : List ℕ × Client). e.0))
    (ap (serving_in c.args.log c.args.epoch) (sym c.self.view_is) ∙ (known c.args.log c.args.epoch c.self.inside.map.entries c.self.inside.places c.in-Some.place c.in-Some.ensures c.self.invariant ∙ sym c.in-Some-get_index.ensures.entry)))

pub returns-clause-unique : goal.returns-clause-unique
unfolding find_named same
returns-clause-unique c = λ e f.
    let s : serving_in c.args.log c.args.epoch c.args.self.now ≡ Some (c.in-Some-get_index.name.now, c.in-Some-get_index.field-0-1.now) = ap (serving_in c.args.log c.args.epoch) (sym c.self.view_is)
    ∙ (known c.args.log c.args.epoch c.self.inside.map.entries c.self.inside.places c.in-Some.place c.in-Some.ensures c.self.invariant ∙ sym c.in-Some-get_index.ensures.entry) in
    let t : (c.in-Some-get_index.name.now, c.in-Some-get_index.field-0-1.now) ≡ e = cc in
    subst (λ (x : List ℕ × Client). find_named x.0 c.args.self.now ≡ Some x.1) t (ap (find_named c.in-Some-get_index.name.now) (sym c.self.view_is) ∙ c.in-Some-get_index.ensures.value)

pub returns-in_default-clause-actor : goal.returns-in_default-clause-actor
returns-in_default-clause-actor c = sym (ap (option_map (λ (e : List ℕ × Client). e.0))
    (ap (serving_in c.args.log c.args.epoch) (sym c.self.view_is) ∙ unknown c.args.log c.args.epoch c.self.inside.map.entries c.self.inside.places c.in_default.ensures c.self.invariant))
    ∙ names_are c.args.log c.args.epoch c.args.self.now

pub returns-in_default-get_index-clause-actor : goal.returns-in_default-get_index-clause-actor
returns-in_default-get_index-clause-actor c = sym (ap (option_map (λ (e : List ℕ × Client). e.0))
    (ap (serving_in c.args.log c.args.epoch) (sym c.self.view_is) ∙ (known c.args.log c.args.epoch c.self.inside.map.entries c.self.inside.places c.in-Some.place c.in-Some.ensures c.self.invariant ∙ sym c.in_default-get_index.ensures.entry)))
    ∙ names_are c.args.log c.args.epoch c.args.self.now

pub returns-clause-actor : goal.returns-clause-actor
returns-clause-actor c = sym (ap (option_map (λ (e : List ℕ × Client). e.0))
    (ap (serving_in c.args.log c.args.epoch) (sym c.self.view_is) ∙ (known c.args.log c.args.epoch c.self.inside.map.entries c.self.inside.places c.in-Some.place c.in-Some.ensures c.self.invariant ∙ sym c.in-Some-get_index.ensures.entry)))
    ∙ names_are c.args.log c.args.epoch c.args.self.now
