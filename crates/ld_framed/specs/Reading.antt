-- Why no frame was taken, and what is left then.
use Rattle.std.specs.Prelude.{◌≡◌, ◌≤◌, ℕ, List, Option, None, Some}
use Rattle.std.specs.declared.result.Result.{Result}
use Rattle.std.specs.declared.result.Result.TheVariants.{Ok, Err}
use Rattle.ld_io.specs.Causes.{Rose}
use Rattle.ld_wire.specs.Judging.{Refused, judge}
use Rattle.ld_wire.specs.declared.fault.WireFault.{WireFault}
use Rattle.ld_framed.specs.declared.unread.Unread.{Unread}
use Rattle.ld_framed.specs.declared.unread.Unread.TheVariants.{NoMemory, Link, BadFrame}

-- no frame could be taken of the bytes that are held: when out of memory, or of more bytes as the link failed, or since they begin none
abbrev pub IsUnread : List ℕ → Unread → Type 0
IsUnread held NoMemory = Unit {0}
IsUnread held Link = Unit {0}
IsUnread held (BadFrame fault) = judge held ≡ Refused fault

-- the count of a link's faults: it rose where the link failed, and else it is the same
abbrev pub CountsUnread : ℕ → ℕ → Unread → Type 0
CountsUnread before now Link = Rose before now × (before ≤ now)
CountsUnread before now _ = now ≡ before

-- the fault that the decoder answers for good
abbrev pub fault_of : Unread → Option WireFault
fault_of (BadFrame fault) = Some fault
fault_of _ = None

abbrev pub fault_in : {T : Type 0} → Result T Unread → Option WireFault
fault_in (Ok value) = None
fault_in (Err unread) = fault_of unread
