use Rattle.std.proofs.Common.{◌∙◌, ◌+◌, ◌-◌, ◌++◌, ◌∷◌, [], ap, sym, arith, rules}
use Rattle.ld_fields.specs.Items.{read_entries}
use Rattle.ld_fields.specs.Faults.{IsOff}
use Rattle.ld_fields.specs.Resumed.{resumed}
use Rattle.ld_fields.proofs.Parts.{entries_on, entries_done, entries_fault}
use Rattle.ld_fields.proofs.list.read_entries.Goals as goal

pub returns-in_err-entry-clause-off : goal.returns-in_err-entry-clause-off
returns-in_err-entry-clause-off c = let f : IsOff (read_entries c.args.bytes.now c.args.beside c.args.upto c.args.count c.args.from c.args.at) c.in_err-entry.field-0.0 = entries_fault c.args.bytes.now c.args.beside c.args.upto c.args.count c.entries.counter c.entries.least c.entries.next c.entries.entries _ c.in_err-entry.field-0.0 (omega arith) c.entries.invariant.rest c.in_err-entry.ensures.off in search rules

pub entries-preserved : goal.entries-preserved
entries-preserved c = record {
  place = c.in_ok-entry.ensures.next;
  most = omega arith;
  rest = ap (λ es. resumed es (read_entries c.args.bytes.now c.args.beside c.args.upto (c.args.count - (c.entries.counter + 1)) c.after-least.result c.in_ok-entry.behind)) c.in_ok-push.ensures.ok
      ∙ (ap (λ k. resumed (c.entries.entries ++ c.in_ok-entry.entry ∷ []) (read_entries c.args.bytes.now c.args.beside c.args.upto (c.args.count - (c.entries.counter + 1)) k c.in_ok-entry.behind)) c.after-least.ensures
      ∙ (entries_on c.args.bytes.now c.args.beside c.args.upto c.args.count c.entries.counter c.entries.least c.entries.next c.entries.entries c.in_ok-entry.entry c.in_ok-entry.behind (omega arith) c.in_ok-entry.ensures.ok ∙ c.entries.invariant.rest));
}

pub returns-clause-ok : goal.returns-clause-ok
returns-clause-ok c = let m = c.entries.invariant.most in sym c.entries.invariant.rest ∙ entries_done c.args.bytes.now c.args.beside c.args.upto c.args.count c.entries.counter c.entries.least c.entries.next c.entries.entries (omega arith)
