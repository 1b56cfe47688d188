use Rattle.std.proofs.Common.{◌≡◌}
use Rattle.ld_records.specs.Growth.{Grows}
use Rattle.ld_shared.specs.Fresh.{HasRead}
use Rattle.ld_shared.proofs.fresh.read_all.Given as goal

-- the first records were read, and where nobody else appends the records are as they were
abbrev pub invariant-records : goal.invariant-records
invariant-records g l = record {
  read : HasRead l.number (g.C.Records.list l.records) l.journal.items;
  grows : Grows (g.C.Records.list l.fn.records) (g.C.Records.list l.records);
  alone : g.C.Records.sole l.fn.records → g.C.Records.sole l.records × (g.C.Records.list l.records ≡ g.C.Records.list l.fn.records);
}
