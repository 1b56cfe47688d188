use Rattle.std.proofs.Common.{refl, sym, subst}
use Rattle.std.specs.Option.{unwrap_or}
use Rattle.ld_register.specs.Bounds.{IsSpecFor}
use Rattle.ld_register.specs.Calls.{activated, after_activate}
use Rattle.ld_register.specs.declared.register.Grant.{Grant}
use Rattle.ld_sequencer.specs.Looks.{shows}
use Rattle.ld_sequencer.specs.Whole.{origin_of, looks_after, IsActive}
use Rattle.ld_sequencer.proofs.Activating.{err_exact, err_held, taken_off, again_active, ok_exact, ok_held, done_then, never_exact, never_held, right_of}
use Rattle.ld_sequencer.proofs.Causes.{damaged_of}
use Rattle.ld_sequencer.proofs.Telling.{fixed_is}
use Rattle.ld_sequencer.proofs.whole.Sequencer.activate.Goals as goal

pub returns-in_err-start-in-Ok-2-clause-exact : goal.returns-in_err-start-in-Ok-2-clause-exact
returns-in_err-start-in-Ok-2-clause-exact g c = λ x h.
    let f = c.in_ok-expected.ensures.exact x h in
    never_exact x c.args.spec.now c.activate.result c.in-Ok.grant c.in_ok-expected.expected c.is_same.result _ _ _ c.in-Ok.is c.is_same.ensures.no c.if-is_same.false f.0 (c.activate.ensures.exact x f.2)

pub returns-in_err-start-in-Ok-2-clause-held : goal.returns-in_err-start-in-Ok-2-clause-held
returns-in_err-start-in-Ok-2-clause-held g c = λ x h.
    let f = c.in_ok-expected.ensures.held x h in
    never_held x c.args.spec.now c.activate.result c.in-Ok.grant c.in_ok-expected.expected c.is_same.result _ _ c.in-Ok.is c.is_same.ensures.no c.if-is_same.false f.0 (c.activate.ensures.answers x f.1)

pub returns-in_ok-start-in-Ok-2-clause-exact : goal.returns-in_ok-start-in-Ok-2-clause-exact
returns-in_ok-start-in-Ok-2-clause-exact g c = λ x h.
    let f = c.in_ok-expected.ensures.exact x h in
    never_exact x c.args.spec.now c.activate.result c.in-Ok.grant c.in_ok-expected.expected c.is_same.result _ _ _ c.in-Ok.is c.is_same.ensures.no c.if-is_same.false f.0 (c.activate.ensures.exact x f.2)

pub returns-in_ok-start-in-Ok-2-clause-held : goal.returns-in_ok-start-in-Ok-2-clause-held
returns-in_ok-start-in-Ok-2-clause-held g c = λ x h.
    let f = c.in_ok-expected.ensures.held x h in
    never_held x c.args.spec.now c.activate.result c.in-Ok.grant c.in_ok-expected.expected c.is_same.result _ _ c.in-Ok.is c.is_same.ensures.no c.if-is_same.false f.0 (c.activate.ensures.answers x f.1)

pub returns-in_ok-start-in-Ok-2-clause-active : goal.returns-in_ok-start-in-Ok-2-clause-active
returns-in_ok-start-in-Ok-2-clause-active g c =
    let o = c.args.out.now in let p = origin_of c.args.nodes.now c.args.first.now in let s = c.args.spec.now in let e = c.in_ok-expected.expected in let k = c.in-Ok.grant in
    let next = unwrap_or k.next c.args.first.now in
    let same = taken_off p s (shows (unwrap_or e.next c.args.first.now)) e c.in_ok-sequencer.sequencer o c.start.new.out c.truncate.new.self c.len-count.result c.in_ok-sequencer.ensures.active c.len-count.ensures c.truncate.ensures in
    let active = again_active p s (shows next) o c.truncate.new.self c.start-in-Ok-2.new.out k c.in_ok-start-in-Ok-2.field-0 same c.in_ok-start-in-Ok-2.ensures.active in
    let b = c.in-Ok.ensures.bounds in
    (k, b.epoch, next, fixed_is (IsSpecFor s.log) c.args.first.now c.requires.first k.next next refl b.next, active)

pub returns-in_ok-start-in-Ok-2-clause-done_or_not : goal.returns-in_ok-start-in-Ok-2-clause-done_or_not
returns-in_ok-start-in-Ok-2-clause-done_or_not g c = λ t. done_then (g.G.Register.may_hold c.foresee.new.reg) (g.G.Register.may_hold c.activate.new.self) (g.G.Register.may_hold c.args.reg.now) (λ x. after_activate x c.args.spec.now) c.foresee.ensures.same (c.activate.ensures.done_or_not (c.foresee.ensures.told t))

pub returns-in-Err-clause-exact : goal.returns-in-Err-clause-exact
returns-in-Err-clause-exact g c = λ x h.
    let o = c.args.out.now in let n = c.truncate-in-Err.new.self in let p = origin_of c.args.nodes.now c.args.first.now in let s = c.args.spec.now in let e = c.in_ok-expected.expected in
    let same = taken_off p s (shows (unwrap_or e.next c.args.first.now)) e c.in_ok-sequencer.sequencer o c.start.new.out n c.len-count.result c.in_ok-sequencer.ensures.active c.len-count.ensures c.truncate-in-Err.ensures in
    err_exact p s (looks_after c.args.first.now s x) o n c.activate.result (activated x s) c.in-Err.fault c.from.result (g.G.Register.tells c.activate.new.self x) (g.G.Register.tells c.activate.new.self (after_activate x s)) c.in-Err.is c.from.ensures same (c.activate.ensures.exact x (c.in_ok-expected.ensures.exact x h).2)

pub returns-in-Err-clause-held : goal.returns-in-Err-clause-held
returns-in-Err-clause-held g c = λ x h.
    let o = c.args.out.now in let n = c.truncate-in-Err.new.self in let p = origin_of c.args.nodes.now c.args.first.now in let s = c.args.spec.now in let e = c.in_ok-expected.expected in
    let same = taken_off p s (shows (unwrap_or e.next c.args.first.now)) e c.in_ok-sequencer.sequencer o c.start.new.out n c.len-count.result c.in_ok-sequencer.ensures.active c.len-count.ensures c.truncate-in-Err.ensures in
    let mid = (c.in_ok-expected.ensures.held x h).1 in
    err_held p s (looks_after c.args.first.now s x) o n c.activate.result (activated x s) c.in-Err.fault c.from.result (g.G.Register.holds c.activate.new.self x) (g.G.Register.holds c.activate.new.self (after_activate x s)) _ c.in-Err.is c.from.ensures same c.activate.ensures.keeps (λ k. k.held x mid) (c.activate.ensures.answers x mid)

pub returns-in-Err-clause-damaged : goal.returns-in-Err-clause-damaged
returns-in-Err-clause-damaged g c = λ place h t.
    let p = right_of (c.in_ok-expected.ensures.whole t) in
    let d = damaged_of c.in-Err.fault c.from.result c.activate.result place c.in-Err.is c.from.ensures h in
    absurd (g.met.G.Register.held_is_whole c.foresee.new.reg p.0 place p.2 (c.activate.ensures.damaged place d (c.foresee.ensures.told t)))

pub returns-in-Ok-clause-exact : goal.returns-in-Ok-clause-exact
returns-in-Ok-clause-exact g c = λ x h.
    let o = c.args.out.now in let p = origin_of c.args.nodes.now c.args.first.now in let s = c.args.spec.now in let w = c.in_ok-sequencer.sequencer in
    let a = subst (λ (k : Grant). IsActive p s (shows (unwrap_or k.next c.args.first.now)) k w o c.start.new.out) (sym (c.is_same.ensures.yes c.if-is_same.true)) c.in_ok-sequencer.ensures.active in
    ok_exact p s x o c.start.new.out c.activate.result c.in-Ok.grant w (g.G.Register.tells c.activate.new.self x) (g.G.Register.tells c.activate.new.self (after_activate x s)) c.in-Ok.is a (c.activate.ensures.exact x (c.in_ok-expected.ensures.exact x h).2)

pub returns-in-Ok-clause-held : goal.returns-in-Ok-clause-held
returns-in-Ok-clause-held g c = λ x h.
    let o = c.args.out.now in let p = origin_of c.args.nodes.now c.args.first.now in let s = c.args.spec.now in let w = c.in_ok-sequencer.sequencer in
    let a = subst (λ (k : Grant). IsActive p s (shows (unwrap_or k.next c.args.first.now)) k w o c.start.new.out) (sym (c.is_same.ensures.yes c.if-is_same.true)) c.in_ok-sequencer.ensures.active in
    ok_held p s x o c.start.new.out c.activate.result c.in-Ok.grant w _ _ (g.G.Register.holds c.activate.new.self (after_activate x s)) c.in-Ok.is a (c.activate.ensures.answers x (c.in_ok-expected.ensures.held x h).1)
