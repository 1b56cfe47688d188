-- A disk in memory as a disk whose failures are known.
use Rattle.std.specs.Prelude.{ℕ}
use Rattle.ld_disk.specs.Kept.{kept_state}
use Rattle.ld_disk.specs.declared.kept.Kept.{Kept}
use Rattle.ld_disk.specs.Plain.{Plain}
use Rattle.ld_disk.specs.declared.memory.MemDisk.{MemDisk}

abbrev pub disk_plain : MemDisk → Plain
disk_plain m = record { state = kept_state m.kept; armed = m.armed; crashed = m.crashed }

-- its bytes, and its record of writing calls, by which it answers for every moment
abbrev pub held_by : MemDisk → Kept
held_by m = m.kept

-- how often a call has failed
abbrev pub faults_of : MemDisk → ℕ
faults_of m = m.faults
