-- What an answer says of bytes that are judged.
use Rattle.std.specs.Prelude.{◌≡◌, ℕ}
use Rattle.ld_wire.specs.declared.fault.WireFault.{WireFault}
use Rattle.ld_wire.specs.declared.fault.WireFault.TheVariants as faults
use Rattle.ld_fields.specs.Fields.{Read, Off}
use Rattle.ld_wire.specs.Judging.{Reading, Refused}

-- a fault is what the judging says; running out of memory is free
abbrev pub IsRefused : Reading → WireFault → Type 0
IsRefused r faults.NoMemory = Unit {0}
IsRefused r f = r ≡ Refused f

-- a fault at a field of a message of the kind
abbrev pub IsOffIn : {X : Type 0} → ℕ → Read X → WireFault → Type 0
IsOffIn kind r (faults.TooLong n) = ⊥
IsOffIn kind r (faults.BadKind k) = ⊥
IsOffIn kind r (faults.BadField k place) = (k ≡ kind) × (r ≡ Off place)
IsOffIn kind r faults.NoMemory = Unit {0}
