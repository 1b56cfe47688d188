use Rattle.std.proofs.Common.{◌≡◌, ◌≤◌, ◌++◌, [], length, false, Some}
use Rattle.ld_crowd.specs.Serving.{put}
use Rattle.ld_wire.specs.Frames.{frame_of}
use Rattle.ld_node.specs.Node.{id_of, known_of, disk_of, must_load, is_blank, Holds, HoldsOr}
use Rattle.ld_serve.specs.Chats.{held_in}
use Rattle.ld_serve.specs.Serving.{state_of}
use Rattle.ld_serve.specs.Group.{waiting_in, Gathers}
use Rattle.ld_serve.specs.Told.{memory_of}
use Rattle.ld_serve.proofs.group.take_group.Given as goal

abbrev pub invariant-frames : goal.invariant-frames
invariant-frames g l = record {
  gathers : Gathers (id_of l.fn.node) (known_of l.fn.node) (Holds g.D.Disk.seen g.D.Disk.may_leave l.fn.node) (waiting_in l.group.answers.items)
      (put l.fn.peer (Some (frame_of l.fn.message ++ l.fn.decoder.bytes)) (held_in l.fn.chats.chats)) (held_in l.chats.chats) (state_of l.fn.node) (state_of l.node) (memory_of l.fn.node) (memory_of l.node) (HoldsOr g.D.Disk.seen g.D.Disk.may_leave l.node) [];
  few : length (waiting_in l.group.answers.items) ≤ l.counter;
  id : id_of l.node ≡ id_of l.fn.node;
  known : known_of l.node ≡ known_of l.fn.node;
  blank : is_blank l.node ≡ false;
  works : must_load l.node ≡ false;
  itself : g.D.Disk.identity (disk_of l.node) ≡ g.D.Disk.identity (disk_of l.fn.node);
  disk : g.D.Disk.faults (disk_of l.node) ≡ g.D.Disk.faults (disk_of l.fn.node);
}
