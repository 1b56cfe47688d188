-- A load that the store refuses, by the node's fault.
use Rattle.std.proofs.Common.{◌≡◌, ◌⊎◌, ◌↔◌, inl, inr, Option, Some, refl, ap}
use Rattle.ld_disk.specs.Plain as disks
use Rattle.ld_layout.specs.Layout.{Layout}
use Rattle.ld_segment.specs.Lies.{Slots}
use Rattle.ld_store.specs.declared.fault.StoreFault.{StoreFault}
use Rattle.ld_store.specs.declared.fault.StoreFault.TheVariants as stores
use Rattle.ld_store.specs.Loads.{Loads}
use Rattle.ld_node.specs.Faults.{of_store}
use Rattle.ld_node.specs.declared.fault.NodeFault.TheVariants as nodes
use Rattle.ld_node.specs.Loads.{LoadRefused}

pub load_refused : (y : Layout) (z : Slots) (p : disks.Plain) (now : Option disks.Plain) (fault : StoreFault) → Loads y z p now (Some fault) → LoadRefused y z p now (of_store fault)
load_refused y z p now stores.Disk h = h
load_refused y z p now stores.Full h = h
load_refused y z p now stores.NoMemory h = h
load_refused y z p now (stores.Damaged place) h = h
load_refused y z p now stores.NeedsLoad h = h

failed : (fault : StoreFault) → of_store fault ≡ nodes.Disk → fault ≡ stores.Disk
failed stores.Disk is = refl
failed (stores.Damaged place) is = absurd (cc is)
failed stores.Full is = absurd (cc is)
failed stores.NeedsLoad is = absurd (cc is)
failed stores.NoMemory is = absurd (cc is)

-- why it was refused, by whether the disk failed
pub refused_exact : (fault : StoreFault) (A B C : Type 0) → ((fault ≡ stores.NoMemory) × A) ⊎ (B × ((fault ≡ stores.Disk) ↔ C)) → ((of_store fault ≡ nodes.NoMemory) × A) ⊎ (B × ((of_store fault ≡ nodes.Disk) ↔ C))
refused_exact fault A B C (inl none) = inl (ap of_store none.0, none.1)
refused_exact fault A B C (inr is) = inr (is.0, (λ e. is.1.0 (failed fault e), λ c. ap of_store (is.1.1 c)))
