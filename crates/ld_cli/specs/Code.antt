-- The number of each status.
use Rattle.std.specs.Prelude.{ℕ}
use Rattle.ld_cli.specs.declared.status.Status.{Status}
use Rattle.ld_cli.specs.declared.status.Status.TheVariants as statuses

abbrev pub code : Status → ℕ
code statuses.Ok = 0
code statuses.Usage = 2
code (statuses.BadSchedule line place) = 3
code statuses.NoMemory = 4
code statuses.Read = 5
code statuses.Write = 6
code statuses.Disk = 7
code statuses.Register = 8
code statuses.Link = 9
code (statuses.BadFrame fault) = 10
code (statuses.Damaged which place) = 11
code statuses.Blank = 12
code (statuses.JournalFull which) = 13
code statuses.GenLimit = 14
code statuses.NotDone = 15
code (statuses.Preempted by) = 16
code statuses.LogLimit = 17
code statuses.EpochLimit = 18
code statuses.EpochFull = 19
code statuses.SwapLimit = 21
code (statuses.Moves from to) = 22
