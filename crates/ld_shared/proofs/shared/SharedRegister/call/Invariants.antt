use Rattle.std.proofs.Common.{◌≡◌, None}
use Rattle.ld_records.specs.Growth.{Grows}
use Rattle.ld_shared.specs.Holds.{IsSole}
use Rattle.ld_shared.specs.Says.{IsSettled, values_of, owner_of, unsettled_of}
use Rattle.ld_shared.proofs.shared.SharedRegister.call.Given as goal

-- what was tried so far only let the records grow
abbrev pub invariant-tries : goal.invariant-tries
invariant-tries g l = record {
  grows : Grows (values_of g.C.Records l.fn.self) (values_of g.C.Records l.self);
  settled : unsettled_of l.self ≡ None;
  before : IsSettled (values_of g.C.Records l.self) (unsettled_of l.fn.self);
  same_owner : owner_of l.self ≡ owner_of l.fn.self;
  alone : IsSole g.C.Records l.fn.self → IsSole g.C.Records l.self × (values_of g.C.Records l.self ≡ values_of g.C.Records l.fn.self);
  same_faults : l.self.faults ≡ l.fn.self.faults;
}
