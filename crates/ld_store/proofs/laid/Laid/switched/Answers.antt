use Rattle.std.proofs.Common.{◌∙◌, ap, refl}
use Rattle.ld_layout.specs.LaidOut.{laid_out}
use Rattle.ld_store.specs.Laid.{layout_in, slots_in}
use Rattle.ld_store.proofs.Laying.{placed_there, slots_there}
use Rattle.ld_store.proofs.laid.Laid.switched.Goals as goal

pub returns-in-Some-clause-layout : goal.returns-in-Some-clause-layout
returns-in-Some-clause-layout c index size full same =
    ap (λ l. laid_out l index) c.with_segment.ensures.layout ∙ placed_there (layout_in c.args.self index) c.args.next c.in-Some.segment size c.in-Some.is full same

pub returns-in-Some-clause-slots : goal.returns-in-Some-clause-slots
returns-in-Some-clause-slots c index size full =
    c.with_segment.ensures.slots index (slots_in c.args.self) refl refl ∙ slots_there (layout_in c.args.self index) c.args.next c.in-Some.segment size c.in-Some.is full (slots_in c.args.self)
