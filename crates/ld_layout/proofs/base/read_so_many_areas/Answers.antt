use Rattle.std.proofs.Common.{rules, arith}
use Rattle.ld_fields.specs.Faults.{IsOff}
use Rattle.ld_op.specs.Indexed.{read_rising}
use Rattle.ld_op.proofs.Rising.{reading_starts, reading_on, reading_ends, reading_fails}
use Rattle.ld_layout.specs.Base.{read_area}
use Rattle.ld_layout.proofs.base.read_so_many_areas.Goals as goal

pub areas-init : goal.areas-init
areas-init c = record {
  place = c.requires;
  most = omega arith;
  reading = reading_starts (read_area c.args.bytes.now) c.args.count c.args.at c.new-areas.result c.new-areas.ensures;
}

pub returns-in_err-area-clause-off : goal.returns-in_err-area-clause-off
returns-in_err-area-clause-off c = let f : IsOff (read_rising (read_area c.args.bytes.now) c.args.count 0 c.args.at) c.in_err-area.field-0.0 = reading_fails (read_area c.args.bytes.now) c.args.count c.areas.counter c.areas.least c.areas.next c.areas.areas (read_rising (read_area c.args.bytes.now) c.args.count 0 c.args.at) c.in_err-area.field-0.0 c.areas.invariant.reading (omega arith) c.in_err-area.ensures.off in search rules

pub areas-preserved : goal.areas-preserved
areas-preserved c = record {
  place = c.in_ok-area.ensures.next;
  most = omega arith;
  reading = reading_on (read_area c.args.bytes.now) c.args.count c.areas.counter c.areas.least c.areas.next c.in_ok-area.behind _ c.in_ok-area.area.0 c.in_ok-area.area.1 c.areas.areas _ (read_rising (read_area c.args.bytes.now) c.args.count 0 c.args.at) c.areas.invariant.reading (omega arith) c.in_ok-area.ensures.ok c.in_ok-area.ensures.least c.after_place-least.ensures c.in_ok-add.ensures;
}

pub returns-clause-ok : goal.returns-clause-ok
returns-clause-ok c = let m = c.areas.invariant.most in reading_ends (read_area c.args.bytes.now) c.args.count c.areas.counter c.areas.least c.areas.next c.areas.areas (read_rising (read_area c.args.bytes.now) c.args.count 0 c.args.at) c.areas.invariant.reading (omega arith)
