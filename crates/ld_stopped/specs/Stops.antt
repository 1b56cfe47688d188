-- Why a call over a stopped node's store doesn't do what is asked: stops of the parts as stops of the whole, and counts of faults.
use Rattle.std.specs.Prelude.{◌≡◌, ℕ}
use Rattle.ld_io.specs.Causes.{Rose}
use Rattle.ld_serve.specs.declared.stop.Which.TheVariants.{Store, Register}
use Rattle.ld_store.specs.declared.fault.StoreFault.{StoreFault}
use Rattle.ld_store.specs.declared.fault.StoreFault.TheVariants as stores
use Rattle.ld_register.specs.declared.fault.RegisterFault.{RegisterFault}
use Rattle.ld_register.specs.declared.fault.RegisterFault.TheVariants as registers
use Rattle.ld_node.specs.declared.fault.NodeFault.{NodeFault}
use Rattle.ld_node.specs.declared.fault.NodeFault.TheVariants as nodes
use Rattle.ld_mend.specs.declared.stop.Stop.{Stop as Mend}
use Rattle.ld_mend.specs.declared.stop.Stop.TheVariants as mends
use Rattle.ld_stopped.specs.declared.stop.Stop.{Stop}
use Rattle.ld_stopped.specs.declared.stop.Stop.TheVariants as stops

-- ---- faults of the parts; those that can't come are want of memory ----

abbrev pub stop_of_store : StoreFault → Stop
stop_of_store stores.Disk = stops.Disk
stop_of_store (stores.Damaged place) = stops.Damaged Store place
stop_of_store stores.Full = stops.Full Store
stop_of_store stores.NeedsLoad = stops.NoMemory
stop_of_store stores.NoMemory = stops.NoMemory

abbrev pub stop_of_load : NodeFault → Stop
stop_of_load nodes.Disk = stops.Disk
stop_of_load (nodes.Damaged place) = stops.Damaged Store place
stop_of_load nodes.Full = stops.Full Store
stop_of_load nodes.NeedsLoad = stops.NoMemory
stop_of_load (nodes.Register fault) = stops.NoMemory
stop_of_load nodes.NoMemory = stops.NoMemory

abbrev pub stop_of_swap : RegisterFault → Stop
stop_of_swap registers.Failed = stops.Register
stop_of_swap (registers.Damaged place) = stops.Damaged Register place
stop_of_swap registers.LogLimit = stops.NoMemory
stop_of_swap (registers.Behind lce next) = stops.NoMemory
stop_of_swap (registers.Overtaken kept) = stops.NoMemory
stop_of_swap registers.EpochLimit = stops.NoMemory
stop_of_swap registers.GenLimit = stops.NoMemory
stop_of_swap registers.SwapLimit = stops.SwapLimit
stop_of_swap registers.Full = stops.Full Register
stop_of_swap registers.NoMemory = stops.NoMemory

abbrev pub stop_of_replace : NodeFault → Stop
stop_of_replace (nodes.Register fault) = stop_of_swap fault
stop_of_replace _ = stops.NoMemory

abbrev pub stop_of_mend : Mend → Stop
stop_of_mend mends.Disk = stops.Disk
stop_of_mend (mends.Damaged place) = stops.Damaged Store place
stop_of_mend mends.Full = stops.Full Store
stop_of_mend mends.Register = stops.Register
stop_of_mend (mends.RegisterDamaged place) = stops.Damaged Register place
stop_of_mend (mends.BadFrame fault) = stops.BadFrame fault
stop_of_mend mends.Write = stops.Write
stop_of_mend mends.NoMemory = stops.NoMemory

-- ---- counts of faults ----

-- the count rose where that one failed, and else it is the same
abbrev pub DiskCounts : ℕ → ℕ → Stop → Type 0
DiskCounts before now stops.Disk = Rose before now
DiskCounts before now _ = now ≡ before

abbrev pub OutputCounts : ℕ → ℕ → Stop → Type 0
OutputCounts before now stops.Write = Rose before now
OutputCounts before now _ = now ≡ before

abbrev pub RegisterCounts : ℕ → ℕ → Stop → Type 0
RegisterCounts before now stops.Register = Rose before now
RegisterCounts before now _ = now ≡ before
