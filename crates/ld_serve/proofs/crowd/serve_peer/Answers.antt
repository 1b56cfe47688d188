use Rattle.std.proofs.Common.{◌≡◌, ℕ, List, ◌++◌, Some, sym, ap, ◌∙◌, subst, refl}
use Rattle.std.specs.Prelude.{Option}
use Rattle.ld_wire.specs.declared.fault.WireFault.{WireFault}
use Rattle.ld_wire.specs.Frames.{frame_of}
use Rattle.ld_wire.specs.Judging.{judge, Waits}
use Rattle.ld_wire.specs.Faults.{IsRefused}
use Rattle.ld_wire.specs.Held.{Held, answer_with}
use Rattle.ld_crowd.specs.Serving.{put}
use Rattle.ld_node.specs.Node.{plain_of}
use Rattle.ld_serve.specs.Chats.{held_in}
use Rattle.ld_serve.proofs.Serving.{stand}
use Rattle.ld_serve.proofs.Crowds.{advances_from, halts_from, heard_on, heard_off, refused_on, refused_off}
use Rattle.ld_serve.proofs.CrowdStops.{few_of_one, either_way, taken_crowd, heard_crowd, aside_crowd, heard_disk, aside_disk, aside_link, taken_link, memory_alone, refused_asked}
use Rattle.ld_serve.proofs.crowd.serve_peer.Goals as goal

pub returns-in-Ok-Some-clause-on : goal.returns-in-Ok-Some-clause-on
returns-in-Ok-Some-clause-on g c =
    let frame = rw c.in-Ok-Some.field-0-is at c.in-Ok-Some.ensures.frame in
    let mid : (q : ℕ) → Option (List ℕ) = held_in c.args.chats.now.chats in
    advances_from _ _ _ _ _ _ _ (put c.args.peer (Some (frame_of c.in-Ok-Some.message ++ c.take.new.self.bytes)) mid) _ _ _ c.serve_group.result
    (λ q. ap (λ (b : List ℕ). put c.args.peer (Some b) mid q) frame) c.serve_group.ensures.on

pub returns-in-Ok-Some-clause-off : goal.returns-in-Ok-Some-clause-off
returns-in-Ok-Some-clause-off g c =
    let frame = rw c.in-Ok-Some.field-0-is at c.in-Ok-Some.ensures.frame in
    let mid : (q : ℕ) → Option (List ℕ) = held_in c.args.chats.now.chats in
    halts_from _ _ _ _ _ _ _ _ _ (put c.args.peer (Some (frame_of c.in-Ok-Some.message ++ c.take.new.self.bytes)) mid) _ _ c.serve_group.result
    (λ q. ap (λ (b : List ℕ). put c.args.peer (Some b) mid q) frame) c.serve_group.ensures.off

pub returns-in-Ok-Some-clause-asked : goal.returns-in-Ok-Some-clause-asked
returns-in-Ok-Some-clause-asked g c = c.serve_group.ensures.asked

pub returns-in-Ok-Some-clause-rest : goal.returns-in-Ok-Some-clause-rest
returns-in-Ok-Some-clause-rest g c = c.serve_group.ensures.rest

pub returns-in-Ok-Some-clause-itself : goal.returns-in-Ok-Some-clause-itself
returns-in-Ok-Some-clause-itself g c = c.serve_group.ensures.itself

pub returns-in-Ok-Some-clause-works : goal.returns-in-Ok-Some-clause-works
returns-in-Ok-Some-clause-works g c = c.serve_group.ensures.works

pub returns-in-Ok-Some-clause-holds : goal.returns-in-Ok-Some-clause-holds
returns-in-Ok-Some-clause-holds g c = c.serve_group.ensures.holds

pub returns-in-Ok-Some-clause-stops : goal.returns-in-Ok-Some-clause-stops
returns-in-Ok-Some-clause-stops g c = taken_crowd _ c.serve_group.result c.serve_group.ensures.stops

pub returns-in-Ok-Some-clause-crowd_counts : goal.returns-in-Ok-Some-clause-crowd_counts
returns-in-Ok-Some-clause-crowd_counts g c = taken_link _ c.serve_group.result _ _ c.serve_group.ensures.faults c.serve_group.ensures.stops

pub returns-in-Ok-Some-clause-disk_counts : goal.returns-in-Ok-Some-clause-disk_counts
returns-in-Ok-Some-clause-disk_counts g c = c.serve_group.ensures.disk_counts

pub hear-requires-clause-less : goal.hear-requires-clause-less
hear-requires-clause-less g c =
    let none = rw c.in-Ok-None.field-0-is at c.in-Ok-None.ensures.none in
    subst (λ (d : Held). judge d.bytes ≡ Waits) (sym none.1) (subst (λ (o : Option WireFault). answer_with o c.args.decoder.bytes ≡ Waits) c.requires.fine none.0)

pub hear-requires-clause-fine : goal.hear-requires-clause-fine
hear-requires-clause-fine g c =
    let none = rw c.in-Ok-None.field-0-is at c.in-Ok-None.ensures.none in
    ap (λ (d : Held). d.fault) none.1 ∙ c.requires.fine

pub returns-in-Ok-None-clause-on : goal.returns-in-Ok-None-clause-on
returns-in-Ok-None-clause-on g c =
    let none = rw c.in-Ok-None.field-0-is at c.in-Ok-None.ensures.none in
    let mid : (q : ℕ) → Option (List ℕ) = held_in c.args.chats.now.chats in
    let now : (q : ℕ) → Option (List ℕ) = put c.args.peer (Some c.take.new.self.bytes) mid in
    advances_from _ _ _ _ _ _ _ now _ _ _ c.hear.result (λ q. ap (λ (d : Held). put c.args.peer (Some d.bytes) mid q) (sym none.1))
    (heard_on _ _ _ _ refl _ _ now _ _ c.hear.result c.hear.ensures.serving c.hear.ensures.turns)

pub returns-in-Ok-None-clause-off : goal.returns-in-Ok-None-clause-off
returns-in-Ok-None-clause-off g c =
    let none = rw c.in-Ok-None.field-0-is at c.in-Ok-None.ensures.none in
    let mid : (q : ℕ) → Option (List ℕ) = held_in c.args.chats.now.chats in
    let now : (q : ℕ) → Option (List ℕ) = put c.args.peer (Some c.take.new.self.bytes) mid in
    halts_from _ _ _ _ _ _ _ _ _ now _ _ c.hear.result (λ q. ap (λ (d : Held). put c.args.peer (Some d.bytes) mid q) (sym none.1))
    (heard_off _ _ _ _ _ _ _ _ now _ c.hear.result _ c.hear.ensures.serving c.hear.ensures.turns c.hear.ensures.stops (λ held. stand g.D.Disk.seen g.D.Disk.may_leave c.args.node.now (plain_of c.args.node.now) refl held))

pub returns-in-Ok-None-clause-works : goal.returns-in-Ok-None-clause-works
returns-in-Ok-None-clause-works g c = either_way _ c.hear.result c.requires.works

pub returns-in-Ok-None-clause-holds : goal.returns-in-Ok-None-clause-holds
returns-in-Ok-None-clause-holds g c = λ held. either_way _ c.hear.result held

pub returns-in-Ok-None-clause-stops : goal.returns-in-Ok-None-clause-stops
returns-in-Ok-None-clause-stops g c = heard_crowd _ c.hear.result c.hear.ensures.stops

pub returns-in-Ok-None-clause-crowd_counts : goal.returns-in-Ok-None-clause-crowd_counts
returns-in-Ok-None-clause-crowd_counts g c = c.hear.ensures.counts

pub returns-in-Ok-None-clause-disk_counts : goal.returns-in-Ok-None-clause-disk_counts
returns-in-Ok-None-clause-disk_counts g c = heard_disk c.hear.result _ c.hear.ensures.stops

pub returns-in-Err-clause-on : goal.returns-in-Err-clause-on
returns-in-Err-clause-on g c =
    refused_on _ _ _ _ refl _ _ c.args.peer c.args.decoder.bytes (held_in c.args.chats.now.chats) _ c.in-Err.fault c.refuse.result c.requires.gone
    (subst (λ (o : Option WireFault). IsRefused (answer_with o c.args.decoder.bytes) c.in-Err.fault) c.requires.fine c.in-Err.ensures.fault.0) c.refuse.ensures.off

pub returns-in-Err-clause-off : goal.returns-in-Err-clause-off
returns-in-Err-clause-off g c = refused_off _ _ _ _ _ _ _ _ _ _ c.refuse.result c.refuse.ensures.stops (λ held. stand g.D.Disk.seen g.D.Disk.may_leave c.args.node.now (plain_of c.args.node.now) refl held)

pub returns-in-Err-clause-asked : goal.returns-in-Err-clause-asked
returns-in-Err-clause-asked g c = refused_asked _ _ _ c.args.peer c.refuse.result c.refuse.ensures.off c.refuse.ensures.stops

pub returns-in-Err-clause-works : goal.returns-in-Err-clause-works
returns-in-Err-clause-works g c = either_way _ c.refuse.result c.requires.works

pub returns-in-Err-clause-holds : goal.returns-in-Err-clause-holds
returns-in-Err-clause-holds g c = λ held. either_way _ c.refuse.result held

pub returns-in-Err-clause-stops : goal.returns-in-Err-clause-stops
returns-in-Err-clause-stops g c = aside_crowd _ c.refuse.result (memory_alone _ c.refuse.result c.refuse.ensures.stops)

pub returns-in-Err-clause-crowd_counts : goal.returns-in-Err-clause-crowd_counts
returns-in-Err-clause-crowd_counts g c = aside_link c.refuse.result _ _ c.refuse.ensures.faults (memory_alone _ c.refuse.result c.refuse.ensures.stops)

pub returns-in-Err-clause-disk_counts : goal.returns-in-Err-clause-disk_counts
returns-in-Err-clause-disk_counts g c = aside_disk c.refuse.result _ (memory_alone _ c.refuse.result c.refuse.ensures.stops)

pub returns-in-Ok-Some-clause-few : goal.returns-in-Ok-Some-clause-few
returns-in-Ok-Some-clause-few g c = c.serve_group.ensures.few

pub returns-in-Ok-None-clause-few : goal.returns-in-Ok-None-clause-few
returns-in-Ok-None-clause-few g c = few_of_one c.hear.result c.args.most c.requires.some c.hear.ensures.few

pub returns-in-Err-clause-few : goal.returns-in-Err-clause-few
returns-in-Err-clause-few g c = few_of_one c.refuse.result c.args.most c.requires.some c.refuse.ensures.few
