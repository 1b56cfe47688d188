use Rattle.std.proofs.lemmas.List.{take_rest}
use Rattle.ld_wire.proofs.Bounds.{waits_short}
use Rattle.ld_wire.proofs.decoder.Decoder.take.Goals as goal

pub returns-in-Ok-None-clause-short : goal.returns-in-Ok-None-clause-short
returns-in-Ok-None-clause-short c =
    let none = rw c.in-Ok-None.field-0-is at c.in-Ok-None.ensures.none in
    let rest = rw take_rest at none in
    let held = rw c.deref.ensures.value at rest in
    rw (← c.self.view_is) (waits_short _ held)
