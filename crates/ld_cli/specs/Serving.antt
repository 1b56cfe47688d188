-- How a node's run ends, by its status.
use Rattle.std.specs.Prelude.{ℕ, ◌≡◌}
use Rattle.ld_io.specs.Causes.{Rose}
use Rattle.ld_serve.specs.declared.stop.Stop.{Stop}
use Rattle.ld_serve.specs.declared.stop.Stop.TheVariants as stops
use Rattle.ld_cli.specs.declared.status.Status.{Status}
use Rattle.ld_cli.specs.declared.status.Status.TheVariants as statuses

-- the status of a stop: each stop has one of its own
abbrev pub status_of : Stop → Status
status_of stops.NoMemory = statuses.NoMemory
status_of stops.Disk = statuses.Disk
status_of stops.Register = statuses.Register
status_of stops.Link = statuses.Link
status_of (stops.BadFrame fault) = statuses.BadFrame fault
status_of (stops.Damaged which place) = statuses.Damaged which place
status_of stops.Blank = statuses.Blank
status_of (stops.Full which) = statuses.JournalFull which
status_of stops.GenLimit = statuses.GenLimit

-- at the status Ok the node has served, at another one it has stopped so; a node ends with no other status
abbrev pub EndsServing : Type 0 → (Stop → Type 0) → Status → Type 0
EndsServing served stopped statuses.Ok = served
EndsServing served stopped statuses.NoMemory = stopped stops.NoMemory
EndsServing served stopped statuses.Disk = stopped stops.Disk
EndsServing served stopped statuses.Register = stopped stops.Register
EndsServing served stopped statuses.Link = stopped stops.Link
EndsServing served stopped (statuses.BadFrame fault) = stopped (stops.BadFrame fault)
EndsServing served stopped (statuses.Damaged which place) = stopped (stops.Damaged which place)
EndsServing served stopped statuses.Blank = stopped stops.Blank
EndsServing served stopped (statuses.JournalFull which) = stopped (stops.Full which)
EndsServing served stopped statuses.GenLimit = stopped stops.GenLimit
EndsServing served stopped _ = ⊥

-- the count of the disk's faults rose at its status, and is the same at any other
abbrev pub DiskFaults : ℕ → ℕ → Status → Type 0
DiskFaults before now statuses.Disk = Rose before now
DiskFaults before now _ = now ≡ before

-- that of the register's likewise
abbrev pub RegisterFaults : ℕ → ℕ → Status → Type 0
RegisterFaults before now statuses.Register = Rose before now
RegisterFaults before now _ = now ≡ before

-- and that of the link's
abbrev pub LinkFaults : ℕ → ℕ → Status → Type 0
LinkFaults before now statuses.Link = Rose before now
LinkFaults before now _ = now ≡ before
