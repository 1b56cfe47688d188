-- A load that is refused, by the node's fault.
use Rattle.std.specs.Prelude.{Option, Some}
use Rattle.ld_disk.specs.Plain as disks
use Rattle.ld_layout.specs.Layout.{Layout}
use Rattle.ld_segment.specs.Lies.{Slots}
use Rattle.ld_store.specs.declared.fault.StoreFault.TheVariants as stores
use Rattle.ld_store.specs.Loads.{Loads}
use Rattle.ld_node.specs.declared.fault.NodeFault.{NodeFault}
use Rattle.ld_node.specs.declared.fault.NodeFault.TheVariants as nodes

-- a journal of the first version that lies so was to be loaded, on a disk that tells what each call will do: the disk as it is then, and why they weren't
abbrev pub LoadRefused : Layout → Slots → disks.Plain → Option disks.Plain → NodeFault → Type 0
LoadRefused y z p now nodes.Disk = Loads y z p now (Some stores.Disk)
LoadRefused y z p now nodes.Full = Loads y z p now (Some stores.Full)
LoadRefused y z p now nodes.NoMemory = Loads y z p now (Some stores.NoMemory)
LoadRefused y z p now (nodes.Damaged place) = ⊥
LoadRefused y z p now nodes.NeedsLoad = ⊥
LoadRefused y z p now (nodes.Register fault) = ⊥
