use Rattle.std.proofs.Common.{◌≡◌, ◌<◌, ℕ, true, false, arith, refl, ap, sym, ◌∙◌, subst, inl, inr}
use Rattle.std.proofs.lemmas.Grind.{common_steps}
use Rattle.ld_lsn.specs.Number.{home_epoch}
use Rattle.ld_msg.specs.Register.{View}
use Rattle.ld_msg.specs.Reader.{Read, is_confirmed, sees_swap}
use Rattle.ld_reader.specs.Course.{lasting, followed}
use Rattle.ld_reader.specs.Following.{Following, HasDone}
use Rattle.ld_reader.specs.Looks.{looks_of, IsLook, AreLooks}
use Rattle.ld_reader.specs.Place.{Place}
use Rattle.ld_reader.proofs.Answering.{if_ok, quiet_so, quiet_done, swapped_done, sure_done}
use Rattle.ld_reader.proofs.Looking.{blanks, are_blanks, one_look, at_one, are_one, look_at}
use Rattle.ld_reader.proofs.reader.Reader.react.Goals as goal

pub returns-then-not-confirms_loss-clause-exact : goal.returns-then-not-confirms_loss-clause-exact
returns-then-not-confirms_loss-clause-exact g c = λ d t.
    let f = c.args.self.now in
    let quiet : is_confirmed (lasting c.args.lasts f.reader).confirming ≡ false = grind (arith, common_steps) in
    if_ok _ _ c.follow.result (λ items k. (quiet_done (looks_of f d) c.args.lasts f c.follow.new.self items c.args.out.now c.follow.new.out quiet k.0, k.1)) (c.follow.ensures.exact d t tt)

pub returns-then-not-confirms_loss-clause-held : goal.returns-then-not-confirms_loss-clause-held
returns-then-not-confirms_loss-clause-held g c = λ d t.
    let f = c.args.self.now in
    let quiet : is_confirmed (lasting c.args.lasts f.reader).confirming ≡ false = grind (arith, common_steps) in
    if_ok _ _ c.follow.result (λ items k. (quiet_done (looks_of f d) c.args.lasts f c.follow.new.self items c.args.out.now c.follow.new.out quiet k.0, k.1)) (c.follow.ensures.held d t tt)

pub returns-then-not-confirms_loss-clause-acted : goal.returns-then-not-confirms_loss-clause-acted
returns-then-not-confirms_loss-clause-acted g c =
    let f = c.args.self.now in
    let quiet : is_confirmed (lasting c.args.lasts f.reader).confirming ≡ false = grind (arith, common_steps) in
    if_ok _ _ c.follow.result (λ items k. (k.0, k.1, quiet_done k.0 c.args.lasts f c.follow.new.self items c.args.out.now c.follow.new.out quiet k.3)) (c.follow.ensures.acted tt)

pub returns-then-not-confirms_loss-clause-due : goal.returns-then-not-confirms_loss-clause-due
returns-then-not-confirms_loss-clause-due g c = λ fault e.
    let f = c.args.self.now in
    let quiet : is_confirmed (lasting c.args.lasts f.reader).confirming ≡ false = grind (arith, common_steps) in
    inr (λ looks. subst (λ (a : Read). f.reader.round < a.reader.round) (sym (quiet_so looks (lasting c.args.lasts f.reader) quiet)) (c.follow.ensures.due fault e looks))

pub returns-then-sees_swap-clause-exact : goal.returns-then-sees_swap-clause-exact
returns-then-sees_swap-clause-exact g c = λ d t.
    let f = c.args.self.now in
    let w = c.in_ok-seen.seen in
    let sure : is_confirmed (lasting c.args.lasts f.reader).confirming ≡ true = grind (arith, common_steps) in
    let next : c.copy-place.result.next ≡ f.reader.next = ap (λ (p : Place). p.next) c.copy-place.ensures.same ∙ ap (λ (v : Following). v.reader.next) c.self.view_is in
    let s = c.in_ok-seen.ensures.exact d t tt in
    let at : looks_of f d (home_epoch f.reader.next) ≡ w = ap (λ n. looks_of f d (home_epoch n)) (sym next) ∙ sym s.0 in
    (swapped_done (looks_of f d) w c.args.lasts f c.begin_anew.new.self c.empty.result c.args.out.now c.begin_anew.new.out sure at (ap (λ (v : Following). sees_swap v.reader.seen w) (sym c.self.view_is) ∙ (sym c.sees_swap.ensures ∙ c.if-sees_swap.true)) c.empty.ensures c.in_ok-begin_anew.ensures.reader c.in_ok-begin_anew.ensures.sent, s.1)

pub returns-then-sees_swap-clause-held : goal.returns-then-sees_swap-clause-held
returns-then-sees_swap-clause-held g c = λ d t.
    let f = c.args.self.now in
    let w = c.in_ok-seen.seen in
    let sure : is_confirmed (lasting c.args.lasts f.reader).confirming ≡ true = grind (arith, common_steps) in
    let next : c.copy-place.result.next ≡ f.reader.next = ap (λ (p : Place). p.next) c.copy-place.ensures.same ∙ ap (λ (v : Following). v.reader.next) c.self.view_is in
    let s = c.in_ok-seen.ensures.held d t tt in
    let at : looks_of f d (home_epoch f.reader.next) ≡ w = ap (λ n. looks_of f d (home_epoch n)) (sym next) ∙ sym s.0 in
    (swapped_done (looks_of f d) w c.args.lasts f c.begin_anew.new.self c.empty.result c.args.out.now c.begin_anew.new.out sure at (ap (λ (v : Following). sees_swap v.reader.seen w) (sym c.self.view_is) ∙ (sym c.sees_swap.ensures ∙ c.if-sees_swap.true)) c.empty.ensures c.in_ok-begin_anew.ensures.reader c.in_ok-begin_anew.ensures.sent, s.1)

pub returns-then-sees_swap-clause-acted : goal.returns-then-sees_swap-clause-acted
returns-then-sees_swap-clause-acted g c =
    let f = c.args.self.now in
    let w = c.in_ok-seen.seen in
    let sure : is_confirmed (lasting c.args.lasts f.reader).confirming ≡ true = grind (arith, common_steps) in
    let next : c.copy-place.result.next ≡ f.reader.next = ap (λ (p : Place). p.next) c.copy-place.ensures.same ∙ ap (λ (v : Following). v.reader.next) c.self.view_is in
    let e = home_epoch c.copy-place.result.next in
    let l = one_look (blanks f) e w in
    let at : l (home_epoch f.reader.next) ≡ w = ap (λ n. l (home_epoch n)) (sym next) ∙ at_one (blanks f) e w in
    (l, are_one f (blanks f) e w (are_blanks f) (c.in_ok-seen.ensures.shown tt), swapped_done l w c.args.lasts f c.begin_anew.new.self c.empty.result c.args.out.now c.begin_anew.new.out sure at (ap (λ (v : Following). sees_swap v.reader.seen w) (sym c.self.view_is) ∙ (sym c.sees_swap.ensures ∙ c.if-sees_swap.true)) c.empty.ensures c.in_ok-begin_anew.ensures.reader c.in_ok-begin_anew.ensures.sent)

pub returns-in-Ok-clause-exact : goal.returns-in-Ok-clause-exact
returns-in-Ok-clause-exact g c = λ d t.
    let f = c.args.self.now in
    let w = c.in_ok-seen.seen in
    let e = home_epoch f.reader.next in
    let sure : is_confirmed (lasting c.args.lasts f.reader).confirming ≡ true = grind (arith, common_steps) in
    let next : c.copy-place.result.next ≡ f.reader.next = ap (λ (p : Place). p.next) c.copy-place.ensures.same ∙ ap (λ (v : Following). v.reader.next) c.self.view_is in
    let see = c.see-before.ensures.now in
    let at : w.at ≡ e = look_at f.first f.reader.log (home_epoch c.copy-place.result.next) w (c.in_ok-seen.ensures.shown tt) ∙ ap (λ n. home_epoch n) next in
    let s = c.in_ok-seen.ensures.exact d t tt in
    let same : looks_of f d e ≡ w = ap (λ n. looks_of f d (home_epoch n)) (sym next) ∙ sym s.0 in
    let looks : looks_of c.see-before.new.self d ≡ looks_of f d = ap (λ (x : Following). looks_of x d) see in
    let x = c.in-Ok.ensures.exact d s.1 (ap (λ (l : ℕ → View). l w.at) looks ∙ ap (looks_of f d) at ∙ same) in
    (sure_done (looks_of f d) w c.args.lasts f c.see-before.new.self c.follow-2.new.self c.in-Ok.items c.args.out.now c.follow-2.new.out sure same (ap (λ (v : Following). sees_swap v.reader.seen w) (sym c.self.view_is) ∙ (sym c.sees_swap.ensures ∙ c.if-sees_swap.false)) see (subst (λ (l : ℕ → View). HasDone c.see-before.new.self c.follow-2.new.self c.in-Ok.items c.args.out.now c.follow-2.new.out (followed l (lasting c.args.lasts c.see-before.new.self.reader))) looks x.0), x.1)

pub returns-in-Ok-clause-held : goal.returns-in-Ok-clause-held
returns-in-Ok-clause-held g c = λ d t.
    let f = c.args.self.now in
    let w = c.in_ok-seen.seen in
    let e = home_epoch f.reader.next in
    let sure : is_confirmed (lasting c.args.lasts f.reader).confirming ≡ true = grind (arith, common_steps) in
    let next : c.copy-place.result.next ≡ f.reader.next = ap (λ (p : Place). p.next) c.copy-place.ensures.same ∙ ap (λ (v : Following). v.reader.next) c.self.view_is in
    let see = c.see-before.ensures.now in
    let at : w.at ≡ e = look_at f.first f.reader.log (home_epoch c.copy-place.result.next) w (c.in_ok-seen.ensures.shown tt) ∙ ap (λ n. home_epoch n) next in
    let s = c.in_ok-seen.ensures.held d t tt in
    let same : looks_of f d e ≡ w = ap (λ n. looks_of f d (home_epoch n)) (sym next) ∙ sym s.0 in
    let looks : looks_of c.see-before.new.self d ≡ looks_of f d = ap (λ (x : Following). looks_of x d) see in
    let x = c.in-Ok.ensures.held d s.1 (ap (λ (l : ℕ → View). l w.at) looks ∙ ap (looks_of f d) at ∙ same) in
    (sure_done (looks_of f d) w c.args.lasts f c.see-before.new.self c.follow-2.new.self c.in-Ok.items c.args.out.now c.follow-2.new.out sure same (ap (λ (v : Following). sees_swap v.reader.seen w) (sym c.self.view_is) ∙ (sym c.sees_swap.ensures ∙ c.if-sees_swap.false)) see (subst (λ (l : ℕ → View). HasDone c.see-before.new.self c.follow-2.new.self c.in-Ok.items c.args.out.now c.follow-2.new.out (followed l (lasting c.args.lasts c.see-before.new.self.reader))) looks x.0), x.1)

pub returns-in-Ok-clause-acted : goal.returns-in-Ok-clause-acted
returns-in-Ok-clause-acted g c =
    let f = c.args.self.now in
    let w = c.in_ok-seen.seen in
    let e = home_epoch f.reader.next in
    let sure : is_confirmed (lasting c.args.lasts f.reader).confirming ≡ true = grind (arith, common_steps) in
    let next : c.copy-place.result.next ≡ f.reader.next = ap (λ (p : Place). p.next) c.copy-place.ensures.same ∙ ap (λ (v : Following). v.reader.next) c.self.view_is in
    let see = c.see-before.ensures.now in
    let at : w.at ≡ e = look_at f.first f.reader.log (home_epoch c.copy-place.result.next) w (c.in_ok-seen.ensures.shown tt) ∙ ap (λ n. home_epoch n) next in
    let here = subst (λ n. IsLook f.first f.reader.log n w) (ap (λ n. home_epoch n) next ∙ sym at) (c.in_ok-seen.ensures.shown tt) in
    let x = c.in-Ok.ensures.acted (subst (λ (k : Following). IsLook k.first k.reader.log w.at w) (sym see) here) in
    (x.0, subst (λ (k : Following). AreLooks k x.0) see x.1, sure_done x.0 w c.args.lasts f c.see-before.new.self c.follow-2.new.self c.in-Ok.items c.args.out.now c.follow-2.new.out sure (ap x.0 (sym at) ∙ x.2) (ap (λ (v : Following). sees_swap v.reader.seen w) (sym c.self.view_is) ∙ (sym c.sees_swap.ensures ∙ c.if-sees_swap.false)) see x.3)

pub returns-in-Err-clause-damaged : goal.returns-in-Err-clause-damaged
returns-in-Err-clause-damaged g c = λ place e t.
    let held = c.in_ok-seen.ensures.whole refl t in
    let kept : g.G.Register.holds c.look.new.reg held.0 = elim c.in_ok-seen.ensures.keeps [ inl x ↦ absurd cc | inr k ↦ k.held held.0 held.1 ] in
    absurd (g.met.G.Register.held_is_whole c.look.new.reg held.0 place kept (c.in-Err.ensures.damaged place e (c.in_ok-seen.ensures.told t)))

pub returns-in-Err-clause-keeps : goal.returns-in-Err-clause-keeps
returns-in-Err-clause-keeps g c = elim c.in-Err.ensures.keeps [
  | inl e ↦ inl e
  | inr after ↦ elim c.in_ok-seen.ensures.keeps [
    | inl e ↦ absurd cc
    | inr before ↦ inr (record { held = λ d h. after.held d (before.held d h); may = λ d h. before.may d (after.may d h) })
  ]
]
