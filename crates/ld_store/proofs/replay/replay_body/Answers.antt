use Rattle.std.proofs.Common.{◌+◌, List, ℕ, length, ap, arith}
use Rattle.ld_segment.specs.Ops.{placed_record}
use Rattle.ld_segment.proofs.Bodies.{record_long}
use Rattle.ld_store.proofs.Placing.{record_placed}
use Rattle.ld_store.proofs.Wells.{well_behind}
use Rattle.ld_store.proofs.replay.replay_body.Goals as goal

pub apply_record-requires-clause-fits : goal.apply_record-requires-clause-fits
apply_record-requires-clause-fits c =
    let found = c.in_ok-found.found in
    omega (arith, c.requires.fits, ap (λ (l : List ℕ). length l) c.in_ok-found.ensures.found.0, record_long found)

pub returns-clause-well : goal.returns-clause-well
returns-clause-well c =
    well_behind c.args.index.now.state c.apply_record.new.index.state (placed_record (c.args.walk.at + 5) c.in_ok-found.found) c.requires.well
    (record_placed (c.args.walk.at + 5) c.in_ok-found.found c.in_ok-found.ensures.found.1) c.in_ok-apply_record.ensures
