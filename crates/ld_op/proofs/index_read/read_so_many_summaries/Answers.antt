use Rattle.std.proofs.Common.{ap, rules, arith}
use Rattle.ld_fields.specs.Faults.{IsOff}
use Rattle.ld_op.specs.Places.{filled}
use Rattle.ld_op.specs.Indexed.{read_rising, read_based_summary}
use Rattle.ld_op.proofs.Rising.{reading_starts, reading_on, reading_ends, reading_fails}
use Rattle.ld_op.proofs.index_read.read_so_many_summaries.Goals as goal

pub summaries-init : goal.summaries-init
unfolding filled
summaries-init c = record {
  place = c.requires;
  most = omega arith;
  reading = reading_starts (read_based_summary c.args.bytes.now c.args.older) c.args.count c.args.at (filled c.new-summaries.result) (ap (λ m. filled m) c.new-summaries.ensures);
}

pub returns-in_err-closed-clause-off : goal.returns-in_err-closed-clause-off
returns-in_err-closed-clause-off c = let f : IsOff (read_rising (read_based_summary c.args.bytes.now c.args.older) c.args.count 0 c.args.at) c.in_err-closed.field-0.0 = reading_fails (read_based_summary c.args.bytes.now c.args.older) c.args.count c.summaries.counter c.summaries.least c.summaries.next (filled c.summaries.summaries) (read_rising (read_based_summary c.args.bytes.now c.args.older) c.args.count 0 c.args.at) c.in_err-closed.field-0.0 c.summaries.invariant.reading (omega arith) c.in_err-closed.ensures.off in search rules

pub summaries-preserved : goal.summaries-preserved
summaries-preserved c = record {
  place = c.in_ok-closed.ensures.next;
  most = omega arith;
  reading = reading_on (read_based_summary c.args.bytes.now c.args.older) c.args.count c.summaries.counter c.summaries.least c.summaries.next c.in_ok-closed.behind _ c.in_ok-closed.closed.0 c.in_ok-closed.closed.1 (filled c.summaries.summaries) _ (read_rising (read_based_summary c.args.bytes.now c.args.older) c.args.count 0 c.args.at) c.summaries.invariant.reading (omega arith) c.in_ok-closed.ensures.ok c.in_ok-closed.ensures.least c.after_epoch-least.ensures c.in_ok-add_summary.ensures;
}

pub returns-clause-ok : goal.returns-clause-ok
returns-clause-ok c = let m = c.summaries.invariant.most in reading_ends (read_based_summary c.args.bytes.now c.args.older) c.args.count c.summaries.counter c.summaries.least c.summaries.next (filled c.summaries.summaries) (read_rising (read_based_summary c.args.bytes.now c.args.older) c.args.count 0 c.args.at) c.summaries.invariant.reading (omega arith)
