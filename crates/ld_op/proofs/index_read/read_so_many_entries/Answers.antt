use Rattle.std.proofs.Common.{◌∙◌, ◌+◌, ap, rules, arith}
use Rattle.ld_fields.specs.Faults.{IsOff}
use Rattle.ld_op.specs.Places.{filled}
use Rattle.ld_op.specs.Indexed.{read_rising, read_based_entry}
use Rattle.ld_op.proofs.Rising.{reading_starts, reading_on, reading_ends, reading_fails}
use Rattle.ld_op.proofs.index_read.read_so_many_entries.Goals as goal

pub entries-init : goal.entries-init
unfolding filled
entries-init c = record {
  place = c.requires;
  most = omega arith;
  reading = reading_starts (read_based_entry c.args.bytes.now) c.args.count c.args.at (filled c.new-entries.result) (ap (λ m. filled m) c.new-entries.ensures);
}

pub returns-in_err-entry-clause-off : goal.returns-in_err-entry-clause-off
returns-in_err-entry-clause-off c = let f : IsOff (read_rising (read_based_entry c.args.bytes.now) c.args.count 0 c.args.at) c.in_err-entry.field-0.0 = reading_fails (read_based_entry c.args.bytes.now) c.args.count c.entries.counter c.entries.least c.entries.next (filled c.entries.entries) (read_rising (read_based_entry c.args.bytes.now) c.args.count 0 c.args.at) c.in_err-entry.field-0.0 c.entries.invariant.reading (omega arith) c.in_err-entry.ensures.off in search rules

pub entries-preserved : goal.entries-preserved
entries-preserved c = record {
  place = c.in_ok-entry.ensures.next;
  most = omega arith;
  reading = reading_on (read_based_entry c.args.bytes.now) c.args.count c.entries.counter c.entries.least c.entries.next c.in_ok-entry.behind _ c.in_ok-entry.entry.number c.in_ok-entry.entry (filled c.entries.entries) _ (read_rising (read_based_entry c.args.bytes.now) c.args.count 0 c.args.at) c.entries.invariant.reading (omega arith) c.in_ok-entry.ensures.ok c.in_ok-entry.ensures.least (c.after_number-least.ensures ∙ ap (λ n. n + 1) c.number.ensures) c.in_ok-add_entry.ensures;
}

pub returns-clause-ok : goal.returns-clause-ok
returns-clause-ok c = let m = c.entries.invariant.most in reading_ends (read_based_entry c.args.bytes.now) c.args.count c.entries.counter c.entries.least c.entries.next (filled c.entries.entries) (read_rising (read_based_entry c.args.bytes.now) c.args.count 0 c.args.at) c.entries.invariant.reading (omega arith)
