use Rattle.std.proofs.Common.{ap, rules, arith}
use Rattle.ld_fields.specs.Faults.{IsOff}
use Rattle.ld_op.specs.Places.{filled}
use Rattle.ld_op.specs.Room.{there_of}
use Rattle.ld_op.specs.Indexed.{read_rising, read_based_log}
use Rattle.ld_op.proofs.Rising.{reading_starts, reading_on, reading_ends, reading_fails}
use Rattle.ld_op.proofs.index_read.read_logs.Goals as goal

pub logs-init : goal.logs-init
unfolding filled
logs-init c = record {
  place = c.requires;
  most = omega arith;
  reading = reading_starts (read_based_log c.args.bytes.now c.args.older) c.args.count c.args.at (there_of c.new-logs.result) (ap (λ m. there_of m) c.new-logs.ensures);
}

pub returns-in_err-found-clause-off : goal.returns-in_err-found-clause-off
returns-in_err-found-clause-off c = let f : IsOff (read_rising (read_based_log c.args.bytes.now c.args.older) c.args.count 0 c.args.at) c.in_err-found.field-0.0 = reading_fails (read_based_log c.args.bytes.now c.args.older) c.args.count c.logs.counter c.logs.least c.logs.next (there_of c.logs.logs) (read_rising (read_based_log c.args.bytes.now c.args.older) c.args.count 0 c.args.at) c.in_err-found.field-0.0 c.logs.invariant.reading (omega arith) c.in_err-found.ensures.off in search rules

pub logs-preserved : goal.logs-preserved
logs-preserved c = record {
  place = c.in_ok-found.ensures.next;
  most = omega arith;
  reading = reading_on (read_based_log c.args.bytes.now c.args.older) c.args.count c.logs.counter c.logs.least c.logs.next c.in_ok-found.behind _ c.in_ok-found.found.0 c.in_ok-found.found.1.log (there_of c.logs.logs) _ (read_rising (read_based_log c.args.bytes.now c.args.older) c.args.count 0 c.args.at) c.logs.invariant.reading (omega arith) c.in_ok-found.ensures.ok c.in_ok-found.ensures.least c.after_log-least.ensures c.in_ok-add.ensures;
}

pub returns-clause-ok : goal.returns-clause-ok
returns-clause-ok c = let m = c.logs.invariant.most in reading_ends (read_based_log c.args.bytes.now c.args.older) c.args.count c.logs.counter c.logs.least c.logs.next (there_of c.logs.logs) (read_rising (read_based_log c.args.bytes.now c.args.older) c.args.count 0 c.args.at) c.logs.invariant.reading (omega arith)
