use Rattle.std.proofs.Common.{◌∙◌, sym}
use Rattle.std.specs.Map.Iter.{deref_pair}
use Rattle.ld_layout.proofs.Ends.{ends_here, all_walked, each_within, one_is_past}
use Rattle.ld_layout.proofs.listed.Areas.lie_within.Goals as goal

pub returns-then-not-fits-clause-past : goal.returns-then-not-fits-clause-past
returns-then-not-fits-clause-past c is =
    one_is_past c.args.end c.args.self.now c.all-place-items.ensures.ordered (ends_here c.args.end (deref_pair (c.in-Some.place, c.in-Some.length)) c.areas.place-iterator c.next.new.self c.args.self.now c.in-Some.ensures.steps (sym c.fits.ensures ∙ c.if-not-fits.true) c.areas.invariant)

pub returns-clause-within : goal.returns-clause-within
returns-clause-within c is = each_within c.args.end c.args.self.now (all_walked c.args.end c.areas.place-iterator c.args.self.now c.in-None.ensures.steps.0 c.areas.invariant)
