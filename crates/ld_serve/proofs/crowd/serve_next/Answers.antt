use Rattle.std.proofs.Common.{Some, refl, arith}
use Rattle.ld_crowd.specs.Serving.{put}
use Rattle.ld_crowd.proofs.Steps.{alike}
use Rattle.ld_wire.specs.Frames.{frame_of}
use Rattle.ld_wire.specs.Streams.{frames_of}
use Rattle.ld_node.specs.Node.{plain_of}
use Rattle.ld_serve.specs.Chats.{held_in}
use Rattle.ld_serve.specs.Talking.{IsLess, BeginsNone}
use Rattle.ld_serve.proofs.Serving.{stand}
use Rattle.ld_serve.proofs.Looks.{Held}
use Rattle.ld_serve.proofs.Crowds.{none_taken, advances_from, halts_from, aside_on, aside_off}
use Rattle.ld_serve.proofs.CrowdStops.{few_as, either_way, aside_crowd, aside_disk, aside_link}
use Rattle.ld_serve.proofs.crowd.serve_next.Goals as goal

pub returns-in_default-clause-on : goal.returns-in_default-clause-on
returns-in_default-clause-on g c =
    let now : Held = held_in c.args.chats.now.chats in
    let then : Held = held_in c.next.new.self.chats in
    none_taken _ _ _ _ refl _ _ now then _ 0 (λ ts x. alike frame_of frames_of IsLess BeginsNone _ ts now then c.in_default.ensures.next x) (λ ts. omega arith)

pub returns-then-is_full-clause-on : goal.returns-then-is_full-clause-on
returns-then-is_full-clause-on g c = aside_on _ _ _ _ refl _ (held_in c.args.chats.now.chats) (held_in c.next.new.self.chats) _ c.in-Some.peer c.in-Some.decoder.bytes _ c.set_aside.result c.in-Some.ensures.next c.set_aside.ensures.kept

pub returns-then-is_full-clause-off : goal.returns-then-is_full-clause-off
returns-then-is_full-clause-off g c = aside_off _ _ _ _ _ _ _ _ _ c.set_aside.result c.set_aside.ensures.stops (λ held. stand g.D.Disk.seen g.D.Disk.may_leave c.args.node.now (plain_of c.args.node.now) refl held)

pub returns-then-is_full-clause-works : goal.returns-then-is_full-clause-works
returns-then-is_full-clause-works g c = either_way _ c.set_aside.result c.requires.works

pub returns-then-is_full-clause-holds : goal.returns-then-is_full-clause-holds
returns-then-is_full-clause-holds g c = λ held. either_way _ c.set_aside.result held

pub returns-then-is_full-clause-stops : goal.returns-then-is_full-clause-stops
returns-then-is_full-clause-stops g c = aside_crowd _ c.set_aside.result c.set_aside.ensures.stops

pub returns-then-is_full-clause-crowd_counts : goal.returns-then-is_full-clause-crowd_counts
returns-then-is_full-clause-crowd_counts g c = aside_link c.set_aside.result _ _ refl c.set_aside.ensures.stops

pub returns-then-is_full-clause-disk_counts : goal.returns-then-is_full-clause-disk_counts
returns-then-is_full-clause-disk_counts g c = aside_disk c.set_aside.result _ c.set_aside.ensures.stops

pub returns-clause-on : goal.returns-clause-on
returns-clause-on g c =
    let mid : Held = held_in c.next.new.self.chats in
    advances_from _ _ _ _ _ _ (held_in c.args.chats.now.chats) (put c.in-Some.peer (Some c.in-Some.decoder.bytes) mid) _ _ _ c.serve_peer.result c.in-Some.ensures.next c.serve_peer.ensures.on

pub returns-clause-off : goal.returns-clause-off
returns-clause-off g c =
    let mid : Held = held_in c.next.new.self.chats in
    halts_from _ _ _ _ _ _ _ _ (held_in c.args.chats.now.chats) (put c.in-Some.peer (Some c.in-Some.decoder.bytes) mid) _ _ c.serve_peer.result c.in-Some.ensures.next c.serve_peer.ensures.off

pub returns-clause-len : goal.returns-clause-len
returns-clause-len g c = c.serve_peer.ensures.len

pub returns-clause-asked : goal.returns-clause-asked
returns-clause-asked g c = c.serve_peer.ensures.asked

pub returns-clause-rest : goal.returns-clause-rest
returns-clause-rest g c = c.serve_peer.ensures.rest

pub returns-clause-itself : goal.returns-clause-itself
returns-clause-itself g c = c.serve_peer.ensures.itself

pub returns-clause-works : goal.returns-clause-works
returns-clause-works g c = c.serve_peer.ensures.works

pub returns-clause-holds : goal.returns-clause-holds
returns-clause-holds g c = c.serve_peer.ensures.holds

pub returns-clause-stops : goal.returns-clause-stops
returns-clause-stops g c = c.serve_peer.ensures.stops

pub returns-clause-crowd_counts : goal.returns-clause-crowd_counts
returns-clause-crowd_counts g c = c.serve_peer.ensures.crowd_counts

pub returns-clause-disk_counts : goal.returns-clause-disk_counts
returns-clause-disk_counts g c = c.serve_peer.ensures.disk_counts

pub returns-then-is_full-clause-few : goal.returns-then-is_full-clause-few
returns-then-is_full-clause-few g c = few_as c.set_aside.result _ 0 c.args.most (omega arith) c.set_aside.ensures.kept

pub returns-clause-few : goal.returns-clause-few
returns-clause-few g c = c.serve_peer.ensures.few
