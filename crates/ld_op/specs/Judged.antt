-- What an answer says of bytes that are judged.
use Rattle.std.specs.Prelude.{◌≡◌}
use Rattle.ld_fields.specs.Fields.{Read, Off}
use Rattle.ld_op.specs.declared.fault.OpFault.{OpFault}
use Rattle.ld_op.specs.declared.fault.OpFault.TheVariants.{Bad, NoMemory}

-- a fault names the offset; running out of memory is free
abbrev pub IsRefused : {X : Type 0} → Read X → OpFault → Type 0
IsRefused r (Bad place) = r ≡ Off place
IsRefused r NoMemory = Unit {0}
