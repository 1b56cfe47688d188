use Rattle.std.proofs.Common.{◌≡◌, ℕ, Some, None, IfOk, ◌∙◌, sym, ap, subst}
use Rattle.std.proofs.lemmas.List.Elements.{All-from_recursion, recursion_from_All}
use Rattle.ld_msg.specs.Bounds.{IsMessage}
use Rattle.ld_table.specs.Named.{same, find_named, put_named}
use Rattle.ld_reader.specs.Following.{Following, replied}
use Rattle.ld_reader.specs.Looks.{looks_of}
use Rattle.ld_msg.specs.Register.{View}
use Rattle.ld_clients.specs.Followers.{AreNumbered}
use Rattle.ld_clients.specs.Reads.{HasRead}
use Rattle.ld_clients.proofs.Names.{set_named_is_put, put_same}
use Rattle.ld_clients.proofs.Rows.{on_ok, on_err}
use Rattle.ld_clients.proofs.Followings.{numbered_old, reply_number}
use Rattle.ld_clients.proofs.readers.Readers.hear.Goals as goal

pub invariant_of-self-2 : goal.invariant_of-self-2
unfolding find_named same
invariant_of-self-2 g c = subst (λ fs. AreNumbered fs) (sym ((c.get_mut.follows.holds c.on_reply.new.self).0 ∙ set_named_is_put c.args.name.now c.in-Some.reader.now c.on_reply.new.self c.self.inside.map.entries (sym c.in-Some.ensures.value)))
    (numbered_old c.args.name.now c.on_reply.new.self c.in-Some.reader.now c.self.inside.map.entries (reply_number c.in-Some.reader.now c.on_reply.new.self c.args.msg.now c.on_reply.result c.args.sends.now c.on_reply.new.out c.on_reply.ensures.acted c.on_reply.ensures.reader_err) (sym c.in-Some.ensures.value) c.self.invariant)

pub returns-clause-exact : goal.returns-clause-exact
unfolding find_named same
returns-clause-exact g c = λ f h d t.
    let there : find_named c.args.name.now c.args.self.now ≡ Some c.in-Some.reader.now = ap (find_named c.args.name.now) (sym c.self.view_is) ∙ sym c.in-Some.ensures.value in
    let s : c.in-Some.reader.now ≡ f = cc in
    let put : (c.get_mut.follows.lender c.on_reply.new.self).entries ≡ put_named c.args.name.now c.on_reply.new.self c.args.self.now = (c.get_mut.follows.holds c.on_reply.new.self).0 ∙ (set_named_is_put c.args.name.now c.in-Some.reader.now c.on_reply.new.self c.self.inside.map.entries (sym c.in-Some.ensures.value) ∙ ap (put_named c.args.name.now c.on_reply.new.self) c.self.view_is) in
    subst (λ (x : Following). IfOk c.on_reply.result (λ items. (HasRead c.args.name.now x c.args.self.now (c.get_mut.follows.lender c.on_reply.new.self).entries items c.args.sends.now c.on_reply.new.out (replied (looks_of x d) x c.args.msg.now) × g.G.Register.tells c.on_reply.new.reg d))) s
    (on_ok _ _ c.on_reply.result (λ items k. (record { now = c.on_reply.new.self; readers = put; done = k.0 }, k.1)) (c.on_reply.ensures.exact d t))

pub returns-clause-acted : goal.returns-clause-acted
unfolding find_named same
returns-clause-acted g c = λ f h.
    let there : find_named c.args.name.now c.args.self.now ≡ Some c.in-Some.reader.now = ap (find_named c.args.name.now) (sym c.self.view_is) ∙ sym c.in-Some.ensures.value in
    let s : c.in-Some.reader.now ≡ f = cc in
    let put : (c.get_mut.follows.lender c.on_reply.new.self).entries ≡ put_named c.args.name.now c.on_reply.new.self c.args.self.now = (c.get_mut.follows.holds c.on_reply.new.self).0 ∙ (set_named_is_put c.args.name.now c.in-Some.reader.now c.on_reply.new.self c.self.inside.map.entries (sym c.in-Some.ensures.value) ∙ ap (put_named c.args.name.now c.on_reply.new.self) c.self.view_is) in
    subst (λ (x : Following). IfOk c.on_reply.result (λ items. ((looks : ℕ → View) × HasRead c.args.name.now x c.args.self.now (c.get_mut.follows.lender c.on_reply.new.self).entries items c.args.sends.now c.on_reply.new.out (replied looks x c.args.msg.now)))) s
    (on_ok _ _ c.on_reply.result (λ items k. (k.0, record { now = c.on_reply.new.self; readers = put; done = k.2 })) c.on_reply.ensures.acted)

pub returns-clause-err : goal.returns-clause-err
unfolding find_named same
returns-clause-err g c =
    let there : find_named c.args.name.now c.args.self.now ≡ Some c.in-Some.reader.now = ap (find_named c.args.name.now) (sym c.self.view_is) ∙ sym c.in-Some.ensures.value in
    let put : (c.get_mut.follows.lender c.on_reply.new.self).entries ≡ put_named c.args.name.now c.on_reply.new.self c.args.self.now = (c.get_mut.follows.holds c.on_reply.new.self).0 ∙ (set_named_is_put c.args.name.now c.in-Some.reader.now c.on_reply.new.self c.self.inside.map.entries (sym c.in-Some.ensures.value) ∙ ap (put_named c.args.name.now c.on_reply.new.self) c.self.view_is) in
    on_err (c.on_reply.new.self ≡ c.in-Some.reader.now) _ c.on_reply.result (λ e. put ∙ (ap (λ (x : Following). put_named c.args.name.now x c.args.self.now) e ∙ put_same c.args.name.now c.in-Some.reader.now c.args.self.now there)) c.on_reply.ensures.reader_err

pub returns-in_default-clause-exact : goal.returns-in_default-clause-exact
unfolding find_named same
returns-in_default-clause-exact g c = λ f h d t. let n : find_named c.args.name.now c.args.self.now ≡ None = ap (find_named c.args.name.now) (sym c.self.view_is) ∙ sym c.in_default.ensures.value in absurd cc

pub returns-in_default-clause-acted : goal.returns-in_default-clause-acted
unfolding find_named same
returns-in_default-clause-acted g c = λ f h. let n : find_named c.args.name.now c.args.self.now ≡ None = ap (find_named c.args.name.now) (sym c.self.view_is) ∙ sym c.in_default.ensures.value in absurd cc

pub returns-clause-messages : goal.returns-clause-messages
returns-clause-messages g c = λ m. recursion_from_All IsMessage c.on_reply.new.out (c.on_reply.ensures.messages (All-from_recursion IsMessage c.args.sends.now m))
