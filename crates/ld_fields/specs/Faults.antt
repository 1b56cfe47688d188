-- What an answer says of a field that is judged.
use Rattle.std.specs.Prelude.{◌≡◌}
use Rattle.ld_fields.specs.declared.fault.FieldFault.{FieldFault}
use Rattle.ld_fields.specs.declared.fault.FieldFault.TheVariants.{Bad, NoMemory}
use Rattle.ld_fields.specs.Fields.{Read, Off}

-- a fault names the offset; running out of memory is free
abbrev pub IsOff : {X : Type 0} → Read X → FieldFault → Type 0
IsOff r (Bad place) = r ≡ Off place
IsOff r NoMemory = Unit {0}
