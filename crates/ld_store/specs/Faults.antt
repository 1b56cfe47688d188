-- A journal's fault as a store's.
use Rattle.ld_journal.specs.declared.fault.JournalFault.{JournalFault}
use Rattle.ld_journal.specs.declared.fault.JournalFault.TheVariants as journals
use Rattle.ld_store.specs.declared.fault.StoreFault.{StoreFault}
use Rattle.ld_store.specs.declared.fault.StoreFault.TheVariants as stores

abbrev pub passed_on : JournalFault → StoreFault
passed_on journals.Disk = stores.Disk
passed_on (journals.Damaged place) = stores.Damaged place
passed_on journals.Full = stores.Full
passed_on journals.NeedsLoad = stores.NeedsLoad
passed_on journals.NoMemory = stores.NoMemory
