use Rattle.std.proofs.Common.{◌∙◌, ap, arith, length, ◌∷◌, [], false, length-append}
use Rattle.ld_window.specs.Flags.{above, leading}
use Rattle.ld_window.proofs.Marks.{above-stored, length-stored, leading-push}
use Rattle.ld_window.proofs.window.Window.push.Goals as goal

pub returns-then-esn-self-gt-LIMIT-clause-full : goal.returns-then-esn-self-gt-LIMIT-clause-full
returns-then-esn-self-gt-LIMIT-clause-full c =
    omega (arith, ap length c.self.view_is, ap above c.self.view_is, above-stored c.self.inside.lng c.self.inside.marks.items c.self.invariant.shut, length-stored c.self.inside.lng c.self.inside.marks.items)

pub invariant_of-self : goal.invariant_of-self
invariant_of-self c =
    let flags = c.self.inside.marks.items in
    let longer = ap length c.push_back_reserved.ensures.items in
    let viewed = ap length c.self.view_is in
    let stored = length-stored c.self.inside.lng flags in
    let pushed = length-append flags (false ∷ []) in
    record {
      shut = ap leading c.push_back_reserved.ensures.items ∙ leading-push flags c.self.invariant.shut;
      room = omega (arith, c.push_back_reserved.ensures.capacity, c.self.invariant.room);
      bound = omega arith;
      small = omega arith;
    }

pub returns-clause-room : goal.returns-clause-room
returns-clause-room c =
    omega (arith, ap length c.self.view_is, ap above c.self.view_is, above-stored c.self.inside.lng c.self.inside.marks.items c.self.invariant.shut, length-stored c.self.inside.lng c.self.inside.marks.items)
