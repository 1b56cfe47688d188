use Rattle.ld_layout.proofs.Segments.{switched_is}
use Rattle.ld_layout.proofs.segment.Layout.switched.Goals as goal

pub returns-clause-switch : goal.returns-clause-switch
returns-clause-switch c index cause room h = switched_is c.args.self c.args.next index cause room h
