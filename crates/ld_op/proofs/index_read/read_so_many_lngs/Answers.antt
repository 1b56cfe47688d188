use Rattle.std.proofs.Common.{ap, rules, arith}
use Rattle.ld_fields.specs.Faults.{IsOff}
use Rattle.ld_op.specs.Places.{filled}
use Rattle.ld_op.specs.Indexed.{read_rising, read_based_lng}
use Rattle.ld_op.proofs.Rising.{reading_starts, reading_on, reading_ends, reading_fails}
use Rattle.ld_op.proofs.index_read.read_so_many_lngs.Goals as goal

pub lngs-init : goal.lngs-init
unfolding filled
lngs-init c = record {
  place = c.requires;
  most = omega arith;
  reading = reading_starts (read_based_lng c.args.bytes.now) c.args.count c.args.at (filled c.new-lngs.result) (ap (λ m. filled m) c.new-lngs.ensures);
}

pub returns-in_err-told-clause-off : goal.returns-in_err-told-clause-off
returns-in_err-told-clause-off c = let f : IsOff (read_rising (read_based_lng c.args.bytes.now) c.args.count 0 c.args.at) c.in_err-told.field-0.0 = reading_fails (read_based_lng c.args.bytes.now) c.args.count c.lngs.counter c.lngs.least c.lngs.next (filled c.lngs.lngs) (read_rising (read_based_lng c.args.bytes.now) c.args.count 0 c.args.at) c.in_err-told.field-0.0 c.lngs.invariant.reading (omega arith) c.in_err-told.ensures.off in search rules

pub lngs-preserved : goal.lngs-preserved
lngs-preserved c = record {
  place = c.in_ok-told.ensures.next;
  most = omega arith;
  reading = reading_on (read_based_lng c.args.bytes.now) c.args.count c.lngs.counter c.lngs.least c.lngs.next c.in_ok-told.behind _ c.in_ok-told.told.0 c.in_ok-told.told.1 (filled c.lngs.lngs) _ (read_rising (read_based_lng c.args.bytes.now) c.args.count 0 c.args.at) c.lngs.invariant.reading (omega arith) c.in_ok-told.ensures.ok c.in_ok-told.ensures.least c.after_epoch-least.ensures c.in_ok-add_lng.ensures;
}

pub returns-clause-ok : goal.returns-clause-ok
returns-clause-ok c = let m = c.lngs.invariant.most in reading_ends (read_based_lng c.args.bytes.now) c.args.count c.lngs.counter c.lngs.least c.lngs.next (filled c.lngs.lngs) (read_rising (read_based_lng c.args.bytes.now) c.args.count 0 c.args.at) c.lngs.invariant.reading (omega arith)
