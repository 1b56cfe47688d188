-- What a host's state has.
use Rattle.std.specs.Prelude.{◌≡◌, Bool, true, false, Option, None, Some}
use Rattle.ld_disk.specs.Memory.{disk_plain}
use Rattle.ld_disk.specs.Plain.{Plain, restarted}
use Rattle.ld_disk.specs.declared.memory.MemDisk.{MemDisk}
use Rattle.ld_node.specs.Node.{is_blank, disk_of}
use Rattle.ld_node.specs.declared.fault.NodeFault.{NodeFault}
use Rattle.ld_node.specs.declared.fault.NodeFault.TheVariants as faults
use Rattle.ld_host.specs.declared.kept.Kept.{Kept as HostKept}
use Rattle.ld_host.specs.declared.kept.Kept.TheVariants as ends
use Rattle.ld_host.specs.declared.state.State.{State}
use Rattle.ld_host.specs.declared.state.State.TheVariants as states

-- a node runs whose store isn't formatted
abbrev pub blank_in : State → Bool
blank_in (states.Up node) = is_blank node
blank_in _ = false

abbrev pub disk_in : State → Option MemDisk
disk_in (states.Blank m) = Some m
disk_in (states.Up node) = Some (disk_of node)
disk_in (states.Down m) = Some m
disk_in (states.Failed m) = Some m
disk_in states.Gone = None

-- a call of the disk failed, which is this now
abbrev pub IsFailedAt : Plain → State → Type 0
IsFailedAt p (states.Failed m) = disk_plain m ≡ p
IsFailedAt p _ = ⊥

-- no node runs over the disk, which is this now
abbrev pub IsDownAt : Plain → State → Type 0
IsDownAt p (states.Down m) = disk_plain m ≡ p
IsDownAt p _ = ⊥

-- a store that isn't formatted is on this disk
abbrev pub IsBlankAt : MemDisk → State → Type 0
IsBlankAt m (states.Blank n) = n ≡ m
IsBlankAt m _ = ⊥

-- what a refused call leaves of the host
pub record Refuses (fault : NodeFault) (q : Plain) (done : State × HostKept) : Type 0 where
  pub full : fault ≡ faults.Full → (done.1 ≡ ends.Full) × IsFailedAt q done.0
  pub failed : fault ≡ faults.Disk → q.crashed ≡ false → (done.1 ≡ ends.Failed) × IsFailedAt q done.0
  pub crashed : fault ≡ faults.Disk → q.crashed ≡ true → (done.1 ≡ ends.Crashed) × IsDownAt (restarted q) done.0
  pub memory : fault ≡ faults.NoMemory → ⊥
