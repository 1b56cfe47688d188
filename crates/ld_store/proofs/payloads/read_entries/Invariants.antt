use Rattle.std.proofs.Common.{◌≡◌, map, take, Some, IfSome, true}
use Rattle.ld_disk.specs.Moments.{Unchanged}
use Rattle.ld_disk.specs.Plain.{Plain as DiskPlain, reads_fine}
use Rattle.ld_op.specs.Cells.{each_entry, byte_at}
use Rattle.ld_store.proofs.payloads.read_entries.Given as goal

abbrev pub invariant-loop-pointed : goal.invariant-loop-pointed
invariant-loop-pointed g l = record {
  entries : IfSome (g.D.Disk.seen l.fn.disk) (λ bytes. l.entries ≡ map (each_entry (byte_at bytes)) (take l.pointed-index l.pointers));
  long : map (each_entry (λ _. 0)) l.entries ≡ map (each_entry (λ _. 0)) (take l.pointed-index l.pointers);
  exact : (p : DiskPlain) → g.D.Disk.plain l.fn.disk ≡ Some p → reads_fine p ≡ true → g.D.Disk.plain l.disk ≡ Some p;
  same : Unchanged g.D.Disk.seen g.D.Disk.may_leave g.D.Disk.moment g.D.Disk.left_since l.fn.disk l.disk;
  itself : g.D.Disk.identity l.disk ≡ g.D.Disk.identity l.fn.disk;
  steady : g.D.Disk.faults l.disk ≡ g.D.Disk.faults l.fn.disk;
}
