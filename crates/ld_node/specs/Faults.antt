-- A store's and a register's fault as a node's.
use Rattle.ld_store.specs.declared.fault.StoreFault.{StoreFault}
use Rattle.ld_store.specs.declared.fault.StoreFault.TheVariants as stores
use Rattle.ld_register.specs.declared.fault.RegisterFault.{RegisterFault}
use Rattle.ld_register.specs.declared.fault.RegisterFault.TheVariants as registers
use Rattle.ld_node.specs.declared.fault.NodeFault.{NodeFault}
use Rattle.ld_node.specs.declared.fault.NodeFault.TheVariants as nodes

abbrev pub of_store : StoreFault → NodeFault
of_store stores.Disk = nodes.Disk
of_store (stores.Damaged place) = nodes.Damaged place
of_store stores.Full = nodes.Full
of_store stores.NeedsLoad = nodes.NeedsLoad
of_store stores.NoMemory = nodes.NoMemory

-- running out of memory passes as such
abbrev pub of_register : RegisterFault → NodeFault
of_register registers.NoMemory = nodes.NoMemory
of_register registers.Failed = nodes.Register registers.Failed
of_register (registers.Damaged place) = nodes.Register (registers.Damaged place)
of_register registers.LogLimit = nodes.Register registers.LogLimit
of_register (registers.Behind lce next) = nodes.Register (registers.Behind lce next)
of_register (registers.Overtaken kept) = nodes.Register (registers.Overtaken kept)
of_register registers.EpochLimit = nodes.Register registers.EpochLimit
of_register registers.GenLimit = nodes.Register registers.GenLimit
of_register registers.SwapLimit = nodes.Register registers.SwapLimit
of_register registers.Full = nodes.Register registers.Full
