use Rattle.std.proofs.Common.{◌∙◌, sym, ap, arith, set, ◌-◌, true}
use Rattle.ld_window.proofs.Marks.{stored-now, set-stored}
use Rattle.ld_window.proofs.window.Window.stored.Goals as goal

pub returns-then-esn-self : goal.returns-then-esn-self
returns-then-esn-self c =
    let lng = c.self.inside.lng in
    stored-now lng (c.args.esn - lng - 1) c.take_stored.result (c.args.esn - 1) c.self.inside.marks.items c.take_stored.new.marks.items
    (sym c.mark.ensures.items ∙ c.take_stored.ensures.taken) (omega arith)
    ∙ ap (λ flags. set flags (c.args.esn - 1) true) c.self.view_is

pub returns-else-esn-self : goal.returns-else-esn-self
returns-else-esn-self c =
    sym c.self.view_is ∙ sym (set-stored c.self.inside.lng (c.args.esn - 1) c.self.inside.marks.items (omega arith))
    ∙ ap (λ flags. set flags (c.args.esn - 1) true) c.self.view_is
