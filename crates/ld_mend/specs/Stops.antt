-- Why a node isn't mended to the end.
use Rattle.std.specs.Prelude.{ℕ, ◌≡◌, ◌≤◌, Option, Some}
use Rattle.ld_io.specs.Causes.{Rose}
use Rattle.ld_wire.specs.declared.fault.WireFault.{WireFault}
use Rattle.ld_register.specs.declared.fault.RegisterFault.{RegisterFault}
use Rattle.ld_register.specs.declared.fault.RegisterFault.TheVariants as registers
use Rattle.ld_node.specs.declared.fault.NodeFault.{NodeFault}
use Rattle.ld_node.specs.declared.fault.NodeFault.TheVariants as nodes
use Rattle.ld_mend.specs.declared.stop.Stop.{Stop}
use Rattle.ld_mend.specs.declared.stop.Stop.TheVariants as stops

abbrev pub look_stop : RegisterFault → Stop
look_stop registers.NoMemory = stops.NoMemory
look_stop (registers.Damaged place) = stops.RegisterDamaged place
look_stop _ = stops.Register

abbrev pub stop_of : NodeFault → Stop
stop_of nodes.Disk = stops.Disk
stop_of nodes.NeedsLoad = stops.Disk
stop_of (nodes.Damaged place) = stops.Damaged place
stop_of nodes.Full = stops.Full
stop_of (nodes.Register fault) = look_stop fault
stop_of nodes.NoMemory = stops.NoMemory

-- the output failed, or memory ended
abbrev pub IsWriteStop : ℕ → ℕ → Stop → Type 0
IsWriteStop before now stops.Write = Rose before now
IsWriteStop before now stops.NoMemory = Unit {0}
IsWriteStop before now _ = ⊥

-- the counts of faults of the disk, the register and the output
pub record Counts : Type 0 where
  pub disk : ℕ
  pub register : ℕ
  pub output : ℕ

abbrev pub counts : ℕ → ℕ → ℕ → Counts
counts disk register output = record { disk = disk; register = register; output = output }

-- none of them has fallen
pub record AreLater (before now : Counts) : Type 0 where
  pub disk : before.disk ≤ now.disk
  pub register : before.register ≤ now.register
  pub output : before.output ≤ now.output

-- a register of this identity, which told what it holds where it did at first, is damaged from that place on
pub record WasDamaged {R : Type 0} (told : R → Type 0) (damaged : R → ℕ → Type 0) (identity : R → ℕ) (first : R) (place : ℕ) : Type 0 where
  pub register : R
  pub same : identity register ≡ identity first
  pub still : told first → told register
  pub there : told register → damaged register place

-- the count of what failed rose; the register, which tells what it holds, is damaged from that place on; what a node sent begins no frame, as the nodes say
abbrev pub IsStop : (ℕ → Type 0) → Counts → Counts → Option WireFault → Stop → Type 0
IsStop damaged before now off stops.Disk = Rose before.disk now.disk
IsStop damaged before now off (stops.Damaged place) = Unit {0}
IsStop damaged before now off stops.Full = Unit {0}
IsStop damaged before now off stops.Register = Rose before.register now.register
IsStop damaged before now off (stops.RegisterDamaged place) = damaged place
IsStop damaged before now off (stops.BadFrame fault) = off ≡ Some fault
IsStop damaged before now off stops.Write = Rose before.output now.output
IsStop damaged before now off stops.NoMemory = Unit {0}

-- where an answer wasn't taken
abbrev pub IsFetchStop : Option WireFault → Stop → Type 0
IsFetchStop off (stops.BadFrame fault) = off ≡ Some fault
IsFetchStop off stops.NoMemory = Unit {0}
IsFetchStop off _ = ⊥

-- where a node was asked, and took the answer
abbrev pub IsCarryStop : ℕ → ℕ → Option WireFault → Stop → Type 0
IsCarryStop before now off stops.Disk = Rose before now
IsCarryStop before now off (stops.Damaged place) = Unit {0}
IsCarryStop before now off stops.Full = Unit {0}
IsCarryStop before now off (stops.BadFrame fault) = off ≡ Some fault
IsCarryStop before now off stops.NoMemory = Unit {0}
IsCarryStop before now off _ = ⊥

-- the count of the disk's faults rose where that failed, and else it is the same
abbrev pub DiskCounts : ℕ → ℕ → Stop → Type 0
DiskCounts before now stops.Disk = Rose before now
DiskCounts before now _ = now ≡ before
