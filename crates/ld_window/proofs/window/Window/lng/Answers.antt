use Rattle.std.proofs.Common.{◌≡◌, ap, arith}
use Rattle.ld_window.specs.Flags.{leading}
use Rattle.ld_window.proofs.Marks.{leading-stored, leading-all, leading-next}
use Rattle.ld_window.proofs.window.Window.lng.Goals as goal

pub returns : goal.returns
returns c =
    let value : c.self.inside.lng ≡ leading c.args.self.now = omega (arith, ap leading c.self.view_is, leading-stored c.self.inside.lng c.self.inside.marks.items, c.self.invariant.shut) in
    record {
      value = value;
      all_below = λ i h. leading-all c.args.self.now i (omega arith);
      greatest = rw value (leading-next c.args.self.now);
    }
