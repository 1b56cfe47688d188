use Rattle.std.proofs.Common.{ap, ◌∙◌}
use Rattle.ld_op.specs.Cells.{each_entry}
use Rattle.ld_store.proofs.Filling.{entry_long}
use Rattle.ld_store.proofs.payloads.read_entry.Goals as goal

pub returns-in_ok-payload-in-Some-clause-long : goal.returns-in_ok-payload-in-Some-clause-long
returns-in_ok-payload-in-Some-clause-long g c =
    ap (each_entry (λ _. 0)) c.with_payload.ensures
    ∙ entry_long c.args.pointed.now c.in_ok-payload-in-Some.payload c.in-Some.place.at c.in-Some.place.len c.in-Some.ensures.record c.in_ok-payload-in-Some.ensures.long
