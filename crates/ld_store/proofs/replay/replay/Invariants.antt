use Rattle.std.proofs.Common.{◌≡◌, ◌≤◌, ◌-◌, List, ℕ, length, Some, true}
use Rattle.ld_disk.specs.Moments.{Unchanged}
use Rattle.ld_disk.specs.Plain.{Plain as DiskPlain, reads_fine}
use Rattle.ld_op.specs.declared.version.Version.{Version}
use Rattle.ld_op.specs.Plain.{Plain}
use Rattle.ld_store.specs.Well.{IsWell}
use Rattle.ld_store.specs.Replayed.{HasReplayed}
use Rattle.ld_store.proofs.replay.replay.Given as goal

abbrev pub invariant-records : goal.invariant-records
invariant-records g l =
    ((from : ℕ) (opening : Version) (base : Plain) (bytes : List ℕ) → g.D.Disk.seen l.fn.disk ≡ Some bytes → l.fn.len ≡ length bytes → HasReplayed from opening base bytes l.fn.walk l.fn.index.state → HasReplayed from opening base bytes l.walk l.index.state)
    × ((p : DiskPlain) → g.D.Disk.plain l.fn.disk ≡ Some p → reads_fine p ≡ true → g.D.Disk.plain l.disk ≡ Some p)
    × Unchanged g.D.Disk.seen g.D.Disk.may_leave g.D.Disk.moment g.D.Disk.left_since l.fn.disk l.disk
    × (g.D.Disk.faults l.disk ≡ g.D.Disk.faults l.fn.disk)
    × (g.D.Disk.identity l.disk ≡ g.D.Disk.identity l.fn.disk)
    × (l.len ≡ l.fn.len)
    × (l.walk.ops ≤ l.walk.at)
    × IsWell l.index.state

abbrev pub decreases-records : goal.decreases-records
decreases-records g l = l.len - l.walk.at
