-- Why a part of a replay stops.
use Rattle.std.specs.Prelude.{ℕ}
use Rattle.ld_io.specs.Causes.{Rose}
use Rattle.ld_cli.specs.declared.status.Stop.{Stop}
use Rattle.ld_cli.specs.declared.status.Stop.TheVariants.{BadSchedule, NoMemory, Read, Write}

-- out of memory, or the source failed in this call
abbrev pub IsReadStop : ℕ → ℕ → Stop → Type 0
IsReadStop before now NoMemory = Unit {0}
IsReadStop before now Read = Rose before now
IsReadStop before now Write = ⊥
IsReadStop before now (BadSchedule line place) = ⊥

-- out of memory, or the sink failed in this call
abbrev pub IsWriteStop : ℕ → ℕ → Stop → Type 0
IsWriteStop before now NoMemory = Unit {0}
IsWriteStop before now Write = Rose before now
IsWriteStop before now Read = ⊥
IsWriteStop before now (BadSchedule line place) = ⊥

-- what a failed replay may answer
abbrev pub IsStop : ℕ → ℕ → ℕ → ℕ → Stop → Type 0
IsStop read_before read_now write_before write_now NoMemory = Unit {0}
IsStop read_before read_now write_before write_now Read = Rose read_before read_now
IsStop read_before read_now write_before write_now Write = Rose write_before write_now
IsStop read_before read_now write_before write_now (BadSchedule line place) = Unit {0}
