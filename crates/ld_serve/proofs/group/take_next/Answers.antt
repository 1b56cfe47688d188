use Rattle.std.proofs.Common.{Some}
use Rattle.ld_crowd.specs.Serving.{put}
use Rattle.ld_node.specs.Node.{id_of, known_of, layout_of, HoldsOr}
use Rattle.ld_serve.specs.Chats.{held_in}
use Rattle.ld_serve.specs.Serving.{state_of}
use Rattle.ld_serve.specs.Group.{waiting_in}
use Rattle.ld_serve.specs.Told.{memory_of}
use Rattle.ld_serve.proofs.Groups.{tries_from}
use Rattle.ld_serve.proofs.group.take_next.Goals as goal

pub returns-clause-tries : goal.returns-clause-tries
returns-clause-tries g c =
    tries_from (id_of c.args.node.now) (known_of c.args.node.now) (waiting_in c.args.group.now.answers.items) (waiting_in c.take.new.group.answers.items) (put c.in-Some.peer (Some c.in-Some.decoder.bytes) (held_in c.next_in_line.new.self.chats))
    (held_in c.args.chats.now.chats) (held_in c.take.new.chats.chats) (state_of c.args.node.now) (state_of c.take.new.node) (memory_of c.args.node.now) (memory_of c.take.new.node) (layout_of c.take.new.node) (HoldsOr g.D.Disk.seen g.D.Disk.may_leave c.args.node.now)
    (HoldsOr g.D.Disk.seen g.D.Disk.may_leave c.take.new.node) c.in-Some.ensures.next c.take.result c.take.ensures.tries
