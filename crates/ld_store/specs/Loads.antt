-- What a load does to its disk.
use Rattle.std.specs.Prelude.{◌≡◌, ◌⊎◌, ℕ, List, ◌∷◌, Option, None, Some, true, false, Ok, Err}
use Rattle.std.specs.declared.result.Result.{Result}
use Rattle.ld_disk.specs.Plain.{Call, after_call, after_calls, all_succeed}
use Rattle.ld_disk.specs.Plain as disks
use Rattle.ld_layout.specs.Layout.{Layout}
use Rattle.ld_segment.specs.Lies.{Slots, mark_row, mark_passes}
use Rattle.ld_store.specs.declared.fault.StoreFault.{StoreFault}
use Rattle.ld_store.specs.declared.fault.StoreFault.TheVariants as stores
use Rattle.ld_store.specs.Ops.{IsMarkedOrNot}

-- what might have been left before, or what represents the same plain state, of a journal of the first version that was to be marked
abbrev pub LeftOrMarked : (List ℕ → Type 0) → List ℕ → List ℕ → Type 0
LeftOrMarked before bytes left = before left ⊎ IsMarkedOrNot bytes left

-- why a call was refused, where it was
abbrev pub refused_by : {T : Type 0} → Result T StoreFault → Option StoreFault
refused_by (Ok v) = None
refused_by (Err e) = Some e

-- a journal of this layout, with these slots, was to be marked, on a disk that tells what each call will do: the disk as it is then, and why it wasn't
abbrev pub Marks : Layout → Slots → disks.Plain → Option disks.Plain → Option StoreFault → Type 0
Marks y z p now None = (now ≡ Some (after_calls (mark_row y z) p)) × (all_succeed (mark_row y z) p ≡ true)
Marks y z p now (Some stores.Disk) = (now ≡ Some (after_calls (mark_row y z) p)) × (all_succeed (mark_row y z) p ≡ false)
Marks y z p now (Some stores.Full) = (now ≡ Some p) × (mark_passes y ≡ true)
Marks y z p now (Some stores.NoMemory) = now ≡ Some p
Marks y z p now (Some (stores.Damaged place)) = ⊥
Marks y z p now (Some stores.NeedsLoad) = ⊥

-- a load of a journal of the first version: a sync, and the calls of a mark's record
abbrev pub load_calls : Layout → Slots → List Call
load_calls y z = None ∷ mark_row y z

abbrev pub Loads : Layout → Slots → disks.Plain → Option disks.Plain → Option StoreFault → Type 0
Loads y z p now None = (now ≡ Some (after_calls (load_calls y z) p)) × (all_succeed (load_calls y z) p ≡ true)
Loads y z p now (Some stores.Disk) = (now ≡ Some (after_calls (load_calls y z) p)) × (all_succeed (load_calls y z) p ≡ false)
Loads y z p now (Some stores.Full) = (now ≡ Some (after_call None p)) × (mark_passes y ≡ true)
Loads y z p now (Some stores.NoMemory) = (now ≡ Some p) ⊎ (now ≡ Some (after_call None p))
Loads y z p now (Some (stores.Damaged place)) = ⊥
Loads y z p now (Some stores.NeedsLoad) = ⊥
