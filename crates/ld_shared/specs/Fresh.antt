-- A register in memory that records lead to.
use Rattle.std.specs.Prelude.{◌≡◌, ◌≤◌, ℕ, List, [], ◌∷◌, ◌++◌, length, take, Some}
use Rattle.ld_disk.specs.declared.disk.Disk.{Ghosts}
use Rattle.ld_disk.specs.declared.memory.MemDisk.{MemDisk}
use Rattle.ld_journal.specs.Format.{records, Fits}
use Rattle.ld_msg.specs.Register.{Register}
use Rattle.ld_register.specs.declared.disk.DiskRegister.{DiskRegister}
use Rattle.ld_register.specs.Held.{owned, Tells, Foretells}
use Rattle.ld_register.specs.Stands.{StandsFor}
use Rattle.ld_shared.specs.Bodies.{bodies_of}
use Rattle.ld_shared.specs.declared.fresh.Fresh.{Fresh}

-- these bytes are the records of the bodies of the first so many values
pub record HasRead (n : ℕ) (values : List (List ℕ)) (bytes : List ℕ) : Type 0 where
  pub there : n ≤ length values
  pub bytes_are : bytes ≡ records (bodies_of (take n values))
  pub fits : Fits (bodies_of (take n values))

-- a register on a disk whose journal has the bodies of all values
pub record IsCopyOf {g : Ghosts MemDisk} (values : List (List ℕ)) (copy : DiskRegister MemDisk g) : Type 0 where
  pub bytes : g.seen (owned copy) ≡ Some (records (bodies_of values) ++ 0 ∷ [])
  pub fits : Fits (bodies_of values)
  pub tells : Tells copy
  pub foretells : (c : Register) → StandsFor (records (bodies_of values) ++ 0 ∷ []) c → Foretells copy c

-- what stands ready for a call: the register, where its journal ends, and how many values it has
pub record IsFresh (values : List (List ℕ)) (fresh : Fresh) : Type 0 where
  pub copy : IsCopyOf values fresh.copy
  pub end : fresh.end ≡ length (records (bodies_of values))
  pub number : fresh.number ≡ length values
