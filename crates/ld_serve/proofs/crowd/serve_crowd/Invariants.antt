use Rattle.std.proofs.Common.{◌≡◌, ◌≤◌, length, false}
use Rattle.ld_node.specs.Node.{id_of, known_of, disk_of, must_load, is_blank, Holds}
use Rattle.ld_serve.specs.Chats.{held_in}
use Rattle.ld_serve.specs.Serving.{state_of, after, answers}
use Rattle.ld_serve.specs.Told.{memory_of}
use Rattle.ld_serve.specs.Crowd.{AreTaken}
use Rattle.ld_serve.proofs.Crowds.{SoFar}
use Rattle.ld_serve.proofs.crowd.serve_crowd.Given as goal

abbrev pub invariant-looks : goal.invariant-looks
invariant-looks g l = record {
  so : SoFar (after (id_of l.fn.node) (known_of l.fn.node)) (answers (id_of l.fn.node) (known_of l.fn.node)) (Holds g.D.Disk.seen g.D.Disk.may_leave l.fn.node)
      (g.C.Crowd.did l.crowd) (held_in l.chats.chats) (state_of l.fn.node) (state_of l.node) (AreTaken (id_of l.fn.node) (known_of l.fn.node) (memory_of l.fn.node) (memory_of l.node)) l.taken;
  few : l.taken ≤ l.fn.turns;
  asked : l.counter ≤ length (g.C.Crowd.did l.crowd);
  holds : Holds g.D.Disk.seen g.D.Disk.may_leave l.fn.node → Holds g.D.Disk.seen g.D.Disk.may_leave l.node;
  id : id_of l.node ≡ id_of l.fn.node;
  known : known_of l.node ≡ known_of l.fn.node;
  blank : is_blank l.node ≡ false;
  works : must_load l.node ≡ false;
  itself : g.D.Disk.identity (disk_of l.node) ≡ g.D.Disk.identity (disk_of l.fn.node);
  crowd : g.C.Crowd.faults l.crowd ≡ g.C.Crowd.faults l.fn.crowd;
  disk : g.D.Disk.faults (disk_of l.node) ≡ g.D.Disk.faults (disk_of l.fn.node);
}
