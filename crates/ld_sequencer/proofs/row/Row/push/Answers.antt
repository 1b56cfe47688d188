use Rattle.std.proofs.Common.{◌≡◌, ◌<◌, ◌≤◌, ◌+◌, ◌-◌, ◌^◌, ◌∷◌, [], ◌++◌, false, length, ap, arith, subst, sym}
use Rattle.ld_window.specs.Flags.{above, leading}
use Rattle.ld_sequencer.specs.Appends.{IsInStep}
use Rattle.ld_sequencer.proofs.Rows.{taken, room_is, seen}
use Rattle.ld_sequencer.proofs.Marks.{push_keeps}
use Rattle.ld_sequencer.proofs.row.Row.push.Goals as goal

pub invariant_of-self-2 : goal.invariant_of-self-2
invariant_of-self-2 c =
    let i = c.self.inside in
    let n = seen i.spec i.epoch i.window i.waiting.items c.args.self.now c.self.view_is in
    let e : c.args.self.now.lng ≡ leading i.window = sym (ap (λ r. r.lng) c.self.view_is) in
    let room : above i.window < 128 = let q = c.requires.room in let m = room_is i.spec.r i.window i.waiting.items c.self.invariant in omega arith in
    let place : leading i.window + length i.waiting.items + 1 ≤ 2 ^ 32 - 2 = let q = c.requires.place in omega arith in
    let flags = taken c.push.result (above i.window) c.push.ensures.full room c.push.ensures.ok in
    subst (λ g. IsInStep i.spec.r g c.push_back.new.self.items) (sym flags)
    (subst (IsInStep i.spec.r (i.window ++ false ∷ [])) (sym c.in_ok-push_back.ensures.items)
    (subst (λ w. IsInStep i.spec.r (i.window ++ false ∷ []) (i.waiting.items ++ w ∷ [])) (sym c.new-pending.ensures)
    (push_keeps i.spec.r c.new.result i.window i.waiting.items c.args.payload c.self.invariant place c.requires.short)))
