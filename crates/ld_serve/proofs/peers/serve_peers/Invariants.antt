use Rattle.std.proofs.Common.{◌≡◌, None, Some, false}
use Rattle.ld_link.specs.Peers.{Peers}
use Rattle.ld_node.specs.Node.{id_of, known_of, disk_of, must_load, is_blank, Holds}
use Rattle.ld_serve.specs.Course.{Goes}
use Rattle.ld_serve.specs.Serving.{state_of, after, answers}
use Rattle.ld_serve.specs.Told.{held_of, memory_of}
use Rattle.ld_serve.proofs.Hearing.{SoFar}
use Rattle.ld_serve.proofs.Telling.{SoTold}
use Rattle.ld_serve.proofs.peers.serve_peers.Given as goal

abbrev pub invariant-turns : goal.invariant-turns
invariant-turns g l = record {
  heard : SoFar (g.L.Link.peers l.fn.link) (g.L.Link.peers l.link) l.is_there l.decoder.bytes l.counter;
  goes : (start : Peers) → g.L.Link.peers l.fn.link ≡ Some start → Holds g.D.Disk.seen g.D.Disk.may_leave l.fn.node
      → Goes (after (id_of l.fn.node) (known_of l.fn.node)) (answers (id_of l.fn.node) (known_of l.fn.node)) l.is_there start (state_of l.fn.node) (g.L.Link.peers l.link) l.decoder.bytes (state_of l.node) l.counter;
  told : SoTold (id_of l.fn.node) (known_of l.fn.node) (Holds g.D.Disk.seen g.D.Disk.may_leave l.fn.node) (g.L.Link.did l.fn.link) (g.L.Link.did l.link) (held_of l.is_there l.decoder.bytes) (state_of l.fn.node) (state_of l.node) (memory_of l.fn.node) (memory_of l.node) l.counter;
  holds : Holds g.D.Disk.seen g.D.Disk.may_leave l.fn.node → Holds g.D.Disk.seen g.D.Disk.may_leave l.node;
  fine : l.decoder.fault ≡ None;
  id : id_of l.node ≡ id_of l.fn.node;
  known : known_of l.node ≡ known_of l.fn.node;
  blank : is_blank l.node ≡ false;
  works : must_load l.node ≡ false;
  itself : g.D.Disk.identity (disk_of l.node) ≡ g.D.Disk.identity (disk_of l.fn.node);
  link : g.L.Link.faults l.link ≡ g.L.Link.faults l.fn.link;
  disk : g.D.Disk.faults (disk_of l.node) ≡ g.D.Disk.faults (disk_of l.fn.node);
}
