use Rattle.std.proofs.Common.{◌≡◌, ℕ, [], Some, None, OnOk, ◌∙◌, sym, ap, subst}
use Rattle.ld_table.specs.Named.{same, find_named, put_named}
use Rattle.ld_reader.specs.Following.{Following, asked}
use Rattle.ld_reader.specs.Looks.{looks_of}
use Rattle.ld_msg.specs.Register.{View}
use Rattle.ld_clients.specs.Followers.{AreNumbered}
use Rattle.ld_clients.specs.Reads.{HasRead}
use Rattle.ld_clients.proofs.Names.{set_named_is_put, put_same}
use Rattle.ld_clients.proofs.Rows.{on_done, on_err}
use Rattle.ld_clients.proofs.Followings.{numbered_old, ask_number}
use Rattle.ld_clients.proofs.readers.Readers.ask.Goals as goal

pub invariant_of-self-2 : goal.invariant_of-self-2
unfolding find_named same
invariant_of-self-2 g c = subst (λ fs. AreNumbered fs) (sym ((c.get_mut.follows.holds c.ask.new.self).0 ∙ set_named_is_put c.args.name.now c.in-Some.reader.now c.ask.new.self c.self.inside.map.entries (sym c.in-Some.ensures.value)))
    (numbered_old c.args.name.now c.ask.new.self c.in-Some.reader.now c.self.inside.map.entries (ask_number c.in-Some.reader.now c.ask.new.self c.ask.result c.args.sends.now c.ask.new.out c.ask.ensures.acted c.ask.ensures.reader_err) (sym c.in-Some.ensures.value) c.self.invariant)

pub returns-clause-exact : goal.returns-clause-exact
unfolding find_named same
returns-clause-exact g c = λ f h d t.
    let there : find_named c.args.name.now c.args.self.now ≡ Some c.in-Some.reader.now = ap (find_named c.args.name.now) (sym c.self.view_is) ∙ sym c.in-Some.ensures.value in
    let s : c.in-Some.reader.now ≡ f = cc in
    let put : (c.get_mut.follows.lender c.ask.new.self).entries ≡ put_named c.args.name.now c.ask.new.self c.args.self.now = (c.get_mut.follows.holds c.ask.new.self).0 ∙ (set_named_is_put c.args.name.now c.in-Some.reader.now c.ask.new.self c.self.inside.map.entries (sym c.in-Some.ensures.value) ∙ ap (put_named c.args.name.now c.ask.new.self) c.self.view_is) in
    subst (λ (x : Following). OnOk c.ask.result (HasRead c.args.name.now x c.args.self.now (c.get_mut.follows.lender c.ask.new.self).entries [] c.args.sends.now c.ask.new.out (asked (looks_of x d) x.reader) × g.G.Register.tells c.ask.new.reg d)) s
    (on_done _ _ c.ask.result (λ k. (record { now = c.ask.new.self; readers = put; done = k.0 }, k.1)) (c.ask.ensures.exact d t))

pub returns-clause-acted : goal.returns-clause-acted
unfolding find_named same
returns-clause-acted g c = λ f h.
    let there : find_named c.args.name.now c.args.self.now ≡ Some c.in-Some.reader.now = ap (find_named c.args.name.now) (sym c.self.view_is) ∙ sym c.in-Some.ensures.value in
    let s : c.in-Some.reader.now ≡ f = cc in
    let put : (c.get_mut.follows.lender c.ask.new.self).entries ≡ put_named c.args.name.now c.ask.new.self c.args.self.now = (c.get_mut.follows.holds c.ask.new.self).0 ∙ (set_named_is_put c.args.name.now c.in-Some.reader.now c.ask.new.self c.self.inside.map.entries (sym c.in-Some.ensures.value) ∙ ap (put_named c.args.name.now c.ask.new.self) c.self.view_is) in
    subst (λ (x : Following). OnOk c.ask.result ((looks : ℕ → View) × HasRead c.args.name.now x c.args.self.now (c.get_mut.follows.lender c.ask.new.self).entries [] c.args.sends.now c.ask.new.out (asked looks x.reader))) s
    (on_done _ _ c.ask.result (λ k. (k.0, record { now = c.ask.new.self; readers = put; done = k.2 })) c.ask.ensures.acted)

pub returns-clause-err : goal.returns-clause-err
unfolding find_named same
returns-clause-err g c =
    let there : find_named c.args.name.now c.args.self.now ≡ Some c.in-Some.reader.now = ap (find_named c.args.name.now) (sym c.self.view_is) ∙ sym c.in-Some.ensures.value in
    let put : (c.get_mut.follows.lender c.ask.new.self).entries ≡ put_named c.args.name.now c.ask.new.self c.args.self.now = (c.get_mut.follows.holds c.ask.new.self).0 ∙ (set_named_is_put c.args.name.now c.in-Some.reader.now c.ask.new.self c.self.inside.map.entries (sym c.in-Some.ensures.value) ∙ ap (put_named c.args.name.now c.ask.new.self) c.self.view_is) in
    on_err (c.ask.new.self ≡ c.in-Some.reader.now) _ c.ask.result (λ e. put ∙ (ap (λ (x : Following). put_named c.args.name.now x c.args.self.now) e ∙ put_same c.args.name.now c.in-Some.reader.now c.args.self.now there)) c.ask.ensures.reader_err

pub returns-in_default-clause-exact : goal.returns-in_default-clause-exact
unfolding find_named same
returns-in_default-clause-exact g c = λ f h d t. let n : find_named c.args.name.now c.args.self.now ≡ None = ap (find_named c.args.name.now) (sym c.self.view_is) ∙ sym c.in_default.ensures.value in absurd cc

pub returns-in_default-clause-acted : goal.returns-in_default-clause-acted
unfolding find_named same
returns-in_default-clause-acted g c = λ f h. let n : find_named c.args.name.now c.args.self.now ≡ None = ap (find_named c.args.name.now) (sym c.self.view_is) ∙ sym c.in_default.ensures.value in absurd cc

pub returns-clause-none : goal.returns-clause-none
unfolding find_named same
returns-clause-none g c = λ n.
    let there : find_named c.args.name.now c.args.self.now ≡ Some c.in-Some.reader.now = ap (find_named c.args.name.now) (sym c.self.view_is) ∙ sym c.in-Some.ensures.value in
    absurd cc
