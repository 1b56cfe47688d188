use Rattle.std.proofs.Common.{◌∙◌, sym, max, arith}
use Rattle.std.specs.Map.Iter.{deref_pair}
use Rattle.ld_layout.specs.Areas.{end_of}
use Rattle.ld_layout.proofs.Free.{no_less}
use Rattle.ld_layout.proofs.Copies.{place_later}
use Rattle.ld_layout.proofs.listed.least_place_among.Goals as goal

pub returns-then-place-length-clause-none : goal.returns-then-place-length-clause-none
returns-then-place-length-clause-none c =
    let i = c.areas.invariant in
    let l = place_later c.args.size c.areas.at (deref_pair (c.in-Some.place, c.in-Some.length)) c.areas.place-iterator c.next.new.self c.in-Some.ensures.steps (sym c.fits.ensures ∙ c.if-fits.false) in
    let g = no_less c.args.size (max c.areas.at (end_of (deref_pair (c.in-Some.place, c.in-Some.length)))) c.next.new.self in
    let t = c.if-place-length.true in
    omega arith
