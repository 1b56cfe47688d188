use Rattle.std.proofs.Common.{inr, refl, sym}
use Rattle.ld_segment.proofs.Bodies.{other_place}
use Rattle.ld_store.proofs.replay.decoded.Goals as goal

pub returns-in-None-clause-refused : goal.returns-in-None-clause-refused
returns-in-None-clause-refused c = inr (refl, other_place c.in-Ok.found c.args.version c.args.body.now c.in-Ok.ensures.op c.in-Ok.ensures.bytes (sym c.in-None.ensures))
