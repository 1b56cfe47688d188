use Rattle.std.proofs.Common.{◌≡◌, ◌+◌, ℕ, List, Some, None, option_map, ◌∙◌, sym, ap, subst, arith}
use Rattle.ld_table.specs.Named.{same, find_named}
use Rattle.ld_reader.specs.Following.{Following}
use Rattle.ld_clients.specs.Followers.{reader_in}
use Rattle.ld_clients.proofs.Followings.{numbered_at, names_are}
use Rattle.ld_clients.proofs.readers.Readers.name_of.Goals as goal

pub returns-clause-name : goal.returns-clause-name
returns-clause-name c =
    let e : c.args.number ≡ 0 + c.args.number = omega arith in
    sym (ap (option_map (λ (e : List ℕ × Following). e.0)) (subst (λ (fs : List (List ℕ × Following)). reader_in c.args.number fs ≡ Some (c.in-Some.name.now, c.in-Some.field-0-1.now)) c.self.view_is
    (numbered_at 0 c.args.number c.args.number c.self.inside.map.entries c.self.invariant e ∙ sym c.in-Some.ensures.entry)))

pub returns-clause-actor : goal.returns-clause-actor
returns-clause-actor c =
    let e : c.args.number ≡ 0 + c.args.number = omega arith in
    sym (ap (option_map (λ (e : List ℕ × Following). e.0)) (subst (λ (fs : List (List ℕ × Following)). reader_in c.args.number fs ≡ Some (c.in-Some.name.now, c.in-Some.field-0-1.now)) c.self.view_is
    (numbered_at 0 c.args.number c.args.number c.self.inside.map.entries c.self.invariant e ∙ sym c.in-Some.ensures.entry)))
    ∙ names_are c.args.number c.args.self.now

pub returns-clause-unique : goal.returns-clause-unique
unfolding find_named same
returns-clause-unique c = λ x f.
    let e : c.args.number ≡ 0 + c.args.number = omega arith in
    let s : reader_in c.args.number c.args.self.now ≡ Some (c.in-Some.name.now, c.in-Some.field-0-1.now) = subst (λ (fs : List (List ℕ × Following)). reader_in c.args.number fs ≡ Some (c.in-Some.name.now, c.in-Some.field-0-1.now)) c.self.view_is
    (numbered_at 0 c.args.number c.args.number c.self.inside.map.entries c.self.invariant e ∙ sym c.in-Some.ensures.entry) in
    let t : (c.in-Some.name.now, c.in-Some.field-0-1.now) ≡ x = cc in
    subst (λ (y : List ℕ × Following). find_named y.0 c.args.self.now ≡ Some y.1) t (ap (find_named c.in-Some.name.now) (sym c.self.view_is) ∙ c.in-Some.ensures.value)

pub returns-in_default-clause-name : goal.returns-in_default-clause-name
returns-in_default-clause-name c =
    let e : c.args.number ≡ 0 + c.args.number = omega arith in
    sym (ap (option_map (λ (e : List ℕ × Following). e.0)) (subst (λ (fs : List (List ℕ × Following)). reader_in c.args.number fs ≡ None) c.self.view_is
    (numbered_at 0 c.args.number c.args.number c.self.inside.map.entries c.self.invariant e ∙ sym c.in_default.ensures.entry)))

pub returns-in_default-clause-actor : goal.returns-in_default-clause-actor
returns-in_default-clause-actor c =
    let e : c.args.number ≡ 0 + c.args.number = omega arith in
    sym (ap (option_map (λ (e : List ℕ × Following). e.0)) (subst (λ (fs : List (List ℕ × Following)). reader_in c.args.number fs ≡ None) c.self.view_is
    (numbered_at 0 c.args.number c.args.number c.self.inside.map.entries c.self.invariant e ∙ sym c.in_default.ensures.entry)))
    ∙ names_are c.args.number c.args.self.now

pub returns-in_default-clause-unique : goal.returns-in_default-clause-unique
returns-in_default-clause-unique c = λ x f.
    let e : c.args.number ≡ 0 + c.args.number = omega arith in
    let n : reader_in c.args.number c.args.self.now ≡ None = subst (λ (fs : List (List ℕ × Following)). reader_in c.args.number fs ≡ None) c.self.view_is
    (numbered_at 0 c.args.number c.args.number c.self.inside.map.entries c.self.invariant e ∙ sym c.in_default.ensures.entry) in
    absurd cc
