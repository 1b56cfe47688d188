use Rattle.std.proofs.Common.{◌≡◌, nat_le, ap, arith}
use Rattle.ld_window.specs.Flags.{above}
use Rattle.ld_window.proofs.Marks.{above-stored}
use Rattle.ld_window.proofs.window.Window.is_full.Goals as goal

pub returns : goal.returns
returns c =
    let size : c.len.result ≡ above c.args.self.now = omega (arith, ap above c.self.view_is, above-stored c.self.inside.lng c.self.inside.marks.items c.self.invariant.shut, c.len.ensures) in
    ap (λ n. nat_le 128 n) size
