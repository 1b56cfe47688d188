-- What records in memory hold.
use Rattle.std.specs.Prelude.{ℕ, List, map}
use Rattle.ld_records.specs.declared.memory.MemRecords.{MemRecords}
use Rattle.ld_records.specs.declared.busy.BusyRecords.{BusyRecords}

abbrev pub values_in : MemRecords → List (List ℕ)
values_in r = map (λ v. v.items) r.values.items

abbrev pub values_of : BusyRecords → List (List ℕ)
values_of r = map (λ v. v.items) r.values.items
