-- The fault that a node is told of, as its disk is armed with it.
use Rattle.std.specs.Prelude.{◌≡◌, ◌≤◌, List, [], ◌∷◌, Option, None, Some, false}
use Rattle.ld_schedule.specs.declared.event.Picture.{Picture as Named}
use Rattle.ld_schedule.specs.declared.event.Picture.TheVariants as names
use Rattle.ld_disk.specs.declared.disk.Picture.{Picture}
use Rattle.ld_disk.specs.declared.disk.Picture.TheVariants as pictures
use Rattle.ld_disk.specs.declared.disk.Fault.{Fault as DiskFault}
use Rattle.ld_disk.specs.Plain.{Plain, fault_of}
use Rattle.ld_machine.specs.Disk.{Fault}

-- a schedule's picture as a disk's
abbrev pub picture_of : Named → Picture
picture_of names.Old = pictures.Old
picture_of names.New = pictures.New
picture_of (names.Byte b) = pictures.Byte b

abbrev pub crash_of : Option Named → Option Picture
crash_of None = None
crash_of (Some p) = Some (picture_of p)

abbrev pub pictures_of : List Named → List Picture
pictures_of [] = []
pictures_of (p ∷ ps) = picture_of p ∷ pictures_of ps

abbrev pub armed_for : Option Fault → Option DiskFault
armed_for None = None
armed_for (Some f) = Some (fault_of f.left (crash_of f.crash))

-- a fault comes in the next call or a later one
abbrev pub Counts : Option Fault → Type 0
Counts None = Unit {0}
Counts (Some f) = 1 ≤ f.left

-- the disk hasn't crashed, and is armed with that fault and no other
pub record IsArmed (fault : Option Fault) (p : Plain) : Type 0 where
  pub stands : p.crashed ≡ false
  pub told : p.armed ≡ armed_for fault
  pub counts : Counts fault
