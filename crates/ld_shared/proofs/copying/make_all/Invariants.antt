use Rattle.std.proofs.Common.{◌≡◌, ◌≤◌, ◌⊎◌, length, map, take}
use Rattle.ld_records.specs.Growth.{Grows}
use Rattle.ld_shared.proofs.copying.make_all.Given as goal

-- the first records are there, and where nobody else appends there are no others, or those that were there
abbrev pub invariant-records : goal.invariant-records
invariant-records g l = record {
  below : l.number ≤ length l.values;
  front : take l.number (g.C.Records.list l.to) ≡ take l.number (map (λ v. v.items) l.values);
  there : l.number ≤ length (g.C.Records.list l.to);
  grows : Grows (g.C.Records.list l.fn.to) (g.C.Records.list l.to);
  alone : g.C.Records.sole l.fn.to → g.C.Records.sole l.to × ((g.C.Records.list l.to ≡ g.C.Records.list l.fn.to) ⊎ (g.C.Records.list l.to ≡ take l.number (map (λ v. v.items) l.values)));
}
