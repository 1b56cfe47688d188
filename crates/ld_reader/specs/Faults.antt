-- A register's refusals as a reader passes them on.
use Rattle.std.specs.Prelude.{◌≡◌, ◌⊎◌, ℕ}
use Rattle.ld_register.specs.declared.fault.RegisterFault.{RegisterFault}
use Rattle.ld_register.specs.declared.fault.RegisterFault.TheVariants as registers
use Rattle.ld_reader.specs.declared.fault.ReaderFault.{ReaderFault}
use Rattle.ld_reader.specs.declared.fault.ReaderFault.TheVariants as readers

-- running out of memory passes as such
abbrev pub of_register : RegisterFault → ReaderFault
of_register registers.NoMemory = readers.NoMemory
of_register registers.Failed = readers.Register registers.Failed
of_register (registers.Damaged place) = readers.Register (registers.Damaged place)
of_register registers.LogLimit = readers.Register registers.LogLimit
of_register (registers.Behind lce next) = readers.Register (registers.Behind lce next)
of_register (registers.Overtaken epoch) = readers.Register (registers.Overtaken epoch)
of_register registers.EpochLimit = readers.Register registers.EpochLimit
of_register registers.GenLimit = readers.Register registers.GenLimit
of_register registers.SwapLimit = readers.Register registers.SwapLimit
of_register registers.Full = readers.Register registers.Full

-- a look failed, or the register's bytes are no journal of changes, or there is no memory left
abbrev pub IsOfLook : ReaderFault → Type 0
IsOfLook fault = (fault ≡ readers.Register registers.Failed) ⊎ ((place : ℕ) × (fault ≡ readers.Register (registers.Damaged place))) ⊎ (fault ≡ readers.NoMemory)
