-- Why a node stops serving, and where it may.
use Rattle.std.specs.Prelude.{◌≡◌, ℕ, List}
use Rattle.ld_io.specs.Causes.{Rose}
use Rattle.ld_wire.specs.Judging.{Refused, judge}
use Rattle.ld_serve.specs.declared.stop.Stop.{Stop}
use Rattle.ld_serve.specs.declared.stop.Which.TheVariants as journals
use Rattle.ld_serve.specs.declared.stop.Stop.TheVariants.{NoMemory, Link, Disk, Register, Full, BadFrame, Damaged}

-- the count of a link's faults, by why it stopped: it rose where the link failed, and else it is the same
abbrev pub LinkCounts : ℕ → ℕ → Stop → Type 0
LinkCounts before now Link = Rose before now
LinkCounts before now _ = now ≡ before

-- no frame could be taken of the bytes that are held: when out of memory, or of more bytes as the link failed, or since they begin none
abbrev pub IsUnread : List ℕ → Stop → Type 0
IsUnread held NoMemory = Unit {0}
IsUnread held Link = Unit {0}
IsUnread held (BadFrame fault) = judge held ≡ Refused fault
IsUnread held _ = ⊥

-- the node refused a frame that was taken; where its store holds what its disk has, no payload is missing there
abbrev pub IsNodeStop : Type 0 → Stop → Type 0
IsNodeStop Held NoMemory = Unit {0}
IsNodeStop Held Disk = Unit {0}
IsNodeStop Held (Full journals.Store) = Unit {0}
IsNodeStop Held (Damaged journals.Store place) = Held → ⊥
IsNodeStop Held _ = ⊥

-- answers weren't written to their end
abbrev pub IsUnsent : Stop → Type 0
IsUnsent NoMemory = Unit {0}
IsUnsent Link = Unit {0}
IsUnsent _ = ⊥

-- the next peer wasn't taken
abbrev pub IsLinkStop : Stop → Type 0
IsLinkStop Link = Unit {0}
IsLinkStop _ = ⊥

-- the count of a disk's faults, by why it stopped: it rose where the disk failed, and else it is the same
abbrev pub DiskCounts : ℕ → ℕ → Stop → Type 0
DiskCounts before now Disk = Rose before now
DiskCounts before now _ = now ≡ before

-- that of a register's likewise
abbrev pub RegisterCounts : ℕ → ℕ → Stop → Type 0
RegisterCounts before now Register = Rose before now
RegisterCounts before now _ = now ≡ before

-- while it serves it stops when out of memory, or with the disk, the link, bytes that begin no frame, or a store that is full; or with a payload that is missing there, where its store
-- doesn't hold what its disk has
abbrev pub IsServingStop : Type 0 → Stop → Type 0
IsServingStop Held NoMemory = Unit {0}
IsServingStop Held Disk = Unit {0}
IsServingStop Held Link = Unit {0}
IsServingStop Held (BadFrame fault) = Unit {0}
IsServingStop Held (Full journals.Store) = Unit {0}
IsServingStop Held (Damaged journals.Store place) = Held → ⊥
IsServingStop Held _ = ⊥
