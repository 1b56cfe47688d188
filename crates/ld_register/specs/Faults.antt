-- A journal's fault as a register's.
use Rattle.std.specs.Prelude.{Bool, true, false}
use Rattle.ld_journal.specs.declared.fault.JournalFault.{JournalFault}
use Rattle.ld_journal.specs.declared.fault.JournalFault.TheVariants as journals
use Rattle.ld_register.specs.declared.fault.RegisterFault.{RegisterFault}
use Rattle.ld_register.specs.declared.fault.RegisterFault.TheVariants as registers

-- a register never calls a journal that has to be loaded
abbrev pub passed_on : JournalFault → RegisterFault
passed_on journals.Disk = registers.Failed
passed_on (journals.Damaged place) = registers.Damaged place
passed_on journals.Full = registers.Full
passed_on journals.NeedsLoad = registers.Failed
passed_on journals.NoMemory = registers.NoMemory

-- a call of the disk failed
abbrev pub is_disk : JournalFault → Bool
is_disk journals.Disk = true
is_disk (journals.Damaged place) = false
is_disk journals.Full = false
is_disk journals.NeedsLoad = false
is_disk journals.NoMemory = false
