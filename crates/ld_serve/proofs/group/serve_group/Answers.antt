use Rattle.std.proofs.Common.{◌≡◌, ◌≤◌, ◌++◌, ℕ, List, [], length, Some, sym, ap, ◌∙◌, subst, refl, inl, arith}
use Rattle.std.proofs.lemmas.Result.{err_from_is_err_and}
use Rattle.ld_crowd.specs.Serving.{put}
use Rattle.ld_past.specs.Events.{Event}
use Rattle.ld_wire.specs.Frames.{frame_of}
use Rattle.ld_node.specs.Node.{id_of, known_of, disk_of, layout_of, plain_of, Holds, HoldsOr}
use Rattle.ld_serve.specs.declared.group.Ending.{Ending}
use Rattle.ld_serve.specs.declared.group.Answer.{Answer}
use Rattle.ld_serve.specs.Chats.{held_in}
use Rattle.ld_serve.specs.Serving.{State, state_of}
use Rattle.ld_serve.specs.Group.{waiting_in, told, Ends, IsUnsettled}
use Rattle.ld_serve.specs.Told.{memory_of}
use Rattle.ld_serve.proofs.Looks.{Held}
use Rattle.ld_serve.proofs.Serving.{stand, past_there}
use Rattle.ld_serve.proofs.Groups.{told_longer}
use Rattle.ld_serve.proofs.Settling.{settled_on, settled_off, lost, unsettled, stopped, gathered_in, stood_in, unsettled_longer}
use Rattle.ld_serve.proofs.group.serve_group.Goals as goal

pub returns-in_err-ending-clause-off : goal.returns-in_err-ending-clause-off
returns-in_err-ending-clause-off g c =
    let node = c.args.node.now in
    let Is : Type 0 = Holds g.D.Disk.seen g.D.Disk.may_leave node in
    let first : Held = put c.args.peer (Some (frame_of c.args.message ++ c.args.decoder.bytes)) (held_in c.args.chats.now.chats) in
    let p = err_from_is_err_and c.from_residual.result c.from_residual.ensures.1 in
    rw (p.1, p.2) (lost (id_of node) (known_of node) Is [] (g.C.Crowd.did c.args.crowd.now) first (state_of node) (state_of node) (memory_of node) (memory_of node) (HoldsOr g.D.Disk.seen g.D.Disk.may_leave node) (g.D.Disk.may_leave (disk_of c.take_group.new.node)) c.args.most
    c.in_err-ending.field-0.0 (g.C.Crowd.did c.args.crowd.now) (state_of c.take_group.new.node) c.in_err-ending.ensures.gathered (inl c.in_err-ending.ensures.stops) refl)

pub returns-in_err-settle-clause-off : goal.returns-in_err-settle-clause-off
returns-in_err-settle-clause-off g c =
    let node = c.args.node.now in
    let mid = c.take_group.new.node in
    let Is : Type 0 = Holds g.D.Disk.seen g.D.Disk.may_leave node in
    let first : Held = put c.args.peer (Some (frame_of c.args.message ++ c.args.decoder.bytes)) (held_in c.args.chats.now.chats) in
    let waiting : List (ℕ × List ℕ) = waiting_in c.take_group.new.group.answers.items in
    let Stood = HoldsOr g.D.Disk.seen g.D.Disk.may_leave mid in
    let x = gathered_in (id_of node) (known_of node) Is waiting first (held_in c.take_group.new.chats.chats) (state_of node) (state_of mid) (memory_of node) (memory_of mid) (layout_of mid) Stood c.in_ok-ending.ending c.in_ok-ending.ensures.gathered in
    let few : length waiting ≤ c.args.most = omega (arith, c.in_ok-ending.ensures.few) in
    let off = subst (λ (l : List Answer). IsUnsettled (waiting_in l) (g.C.Crowd.did c.args.crowd.now) (g.C.Crowd.did c.settle.new.crowd) (state_of mid) (state_of c.settle.new.node) Stood (g.D.Disk.may_leave (disk_of c.settle.new.node)) c.in_err-settle.field-0.0) c.deref.ensures.value c.in_err-settle.ensures.off in
    let p = err_from_is_err_and c.from_residual-in_err-settle.result c.from_residual-in_err-settle.ensures.1 in
    rw (p.1, p.2) (unsettled (id_of node) (known_of node) Is waiting (g.C.Crowd.did c.args.crowd.now) first (state_of node) (state_of mid) (memory_of node) (memory_of mid) Stood (g.D.Disk.may_leave (disk_of c.settle.new.node)) c.args.most c.in_err-settle.field-0.0
    x.0 x.1 (g.C.Crowd.did c.settle.new.crowd) (state_of c.settle.new.node) x.2 few off)

pub returns-in_err-settle-clause-asked : goal.returns-in_err-settle-clause-asked
returns-in_err-settle-clause-asked g c = unsettled_longer _ _ _ _ _ _ _ c.in_err-settle.field-0.0 c.in_err-settle.ensures.off

pub returns-in-More-clause-on : goal.returns-in-More-clause-on
returns-in-More-clause-on g c =
    let node = c.args.node.now in
    let mid = c.take_group.new.node in
    let Is : Type 0 = Holds g.D.Disk.seen g.D.Disk.may_leave node in
    let first : Held = put c.args.peer (Some (frame_of c.args.message ++ c.args.decoder.bytes)) (held_in c.args.chats.now.chats) in
    let here : Held = held_in c.take_group.new.chats.chats in
    let waiting : List (ℕ × List ℕ) = waiting_in c.take_group.new.group.answers.items in
    let Stood = HoldsOr g.D.Disk.seen g.D.Disk.may_leave mid in
    let more = subst (λ (e : Ending). Ends (id_of node) (known_of node) Is waiting first here (state_of node) (state_of mid) (memory_of node) (memory_of mid) (layout_of mid) Stood e) c.in-More.is c.in_ok-ending.ensures.gathered in
    rw c.count-count.ensures (settled_on (id_of node) (known_of node) Is waiting (g.C.Crowd.did c.args.crowd.now) first (state_of node) (state_of mid) (memory_of node) (memory_of mid) Stood here (g.C.Crowd.did c.settle.new.crowd) (state_of c.settle.new.node) (memory_of c.settle.new.node) more
    (λ i. record { layout = c.in_ok-settle.ensures.memory.0 i; released = c.in_ok-settle.ensures.memory.1 i })
    (λ is. (c.in_ok-settle.ensures.durable _ (more.stands is).is).1) (c.in_ok-settle.ensures.said ∙ ap (λ (l : List Answer). told (waiting_in l) (g.C.Crowd.did c.args.crowd.now)) c.deref.ensures.value))

pub returns-in-More-clause-few : goal.returns-in-More-clause-few
returns-in-More-clause-few g c = omega (arith, c.in_ok-ending.ensures.few, c.count-count.ensures)

pub returns-in-More-clause-asked : goal.returns-in-More-clause-asked
returns-in-More-clause-asked g c = subst (λ (d : List Event). length (g.C.Crowd.did c.args.crowd.now) ≤ length d) (sym c.in_ok-settle.ensures.said) (told_longer (waiting_in c.deref.result.now) (g.C.Crowd.did c.args.crowd.now))

pub returns-in-More-clause-holds : goal.returns-in-More-clause-holds
returns-in-More-clause-holds g c held =
    let node = c.args.node.now in
    let mid = c.take_group.new.node in
    let s = stood_in (id_of node) (known_of node) (Holds g.D.Disk.seen g.D.Disk.may_leave node) _ _ _ _ _ _ _ _ (HoldsOr g.D.Disk.seen g.D.Disk.may_leave mid) c.in_ok-ending.ending c.in_ok-ending.ensures.gathered held in
    (c.in_ok-settle.ensures.durable s.0 s.1).0

pub returns-in-Off-clause-on : goal.returns-in-Off-clause-on
returns-in-Off-clause-on g c =
    let node = c.args.node.now in
    let mid = c.take_group.new.node in
    let Is : Type 0 = Holds g.D.Disk.seen g.D.Disk.may_leave node in
    let first : Held = put c.args.peer (Some (frame_of c.args.message ++ c.args.decoder.bytes)) (held_in c.args.chats.now.chats) in
    let here : Held = held_in c.take_group.new.chats.chats in
    let waiting : List (ℕ × List ℕ) = waiting_in c.take_group.new.group.answers.items in
    let Stood = HoldsOr g.D.Disk.seen g.D.Disk.may_leave mid in
    let off = subst (λ (e : Ending). Ends (id_of node) (known_of node) Is waiting first here (state_of node) (state_of mid) (memory_of node) (memory_of mid) (layout_of mid) Stood e) c.in-Off.is c.in_ok-ending.ensures.gathered in
    rw c.count-count.ensures (settled_off (id_of node) (known_of node) Is waiting (g.C.Crowd.did c.args.crowd.now) first (state_of node) (state_of mid) (memory_of node) (memory_of mid) Stood here c.in-Off.peer (g.C.Crowd.did c.settle.new.crowd) (g.C.Crowd.did c.dismiss.new.self)
    (state_of c.settle.new.node) (memory_of c.settle.new.node) (layout_of mid) off (λ i. record { layout = c.in_ok-settle.ensures.memory.0 i; released = c.in_ok-settle.ensures.memory.1 i }) (λ is. (c.in_ok-settle.ensures.durable _ (off.gathers.stands is).is).1)
    (c.in_ok-settle.ensures.said ∙ ap (λ (l : List Answer). told (waiting_in l) (g.C.Crowd.did c.args.crowd.now)) c.deref.ensures.value) c.dismiss.ensures.did)

pub returns-in-Off-clause-few : goal.returns-in-Off-clause-few
returns-in-Off-clause-few g c =
    let few = rw c.in-Off.is at c.in_ok-ending.ensures.few in
    omega (arith, few, c.count-count.ensures)

pub returns-in-Off-clause-asked : goal.returns-in-Off-clause-asked
returns-in-Off-clause-asked g c =
    let longer : length (g.C.Crowd.did c.args.crowd.now) ≤ length (g.C.Crowd.did c.settle.new.crowd) =
    subst (λ (d : List Event). length (g.C.Crowd.did c.args.crowd.now) ≤ length d) (sym c.in_ok-settle.ensures.said) (told_longer (waiting_in c.deref.result.now) (g.C.Crowd.did c.args.crowd.now))
    in
    let one = ap length c.dismiss.ensures.did in
    omega (arith, longer, one)

pub returns-in-Off-clause-holds : goal.returns-in-Off-clause-holds
returns-in-Off-clause-holds g c held =
    let node = c.args.node.now in
    let mid = c.take_group.new.node in
    let s = stood_in (id_of node) (known_of node) (Holds g.D.Disk.seen g.D.Disk.may_leave node) _ _ _ _ _ _ _ _ (HoldsOr g.D.Disk.seen g.D.Disk.may_leave mid) c.in_ok-ending.ending c.in_ok-ending.ensures.gathered held in
    (c.in_ok-settle.ensures.durable s.0 s.1).0

pub returns-clause-off : goal.returns-clause-off
returns-clause-off g c =
    let node = c.args.node.now in
    let mid = c.take_group.new.node in
    let fin = c.settle.new.node in
    let Is : Type 0 = Holds g.D.Disk.seen g.D.Disk.may_leave node in
    let first : Held = put c.args.peer (Some (frame_of c.args.message ++ c.args.decoder.bytes)) (held_in c.args.chats.now.chats) in
    let here : Held = held_in c.take_group.new.chats.chats in
    let waiting : List (ℕ × List ℕ) = waiting_in c.take_group.new.group.answers.items in
    let Stood = HoldsOr g.D.Disk.seen g.D.Disk.may_leave mid in
    let few : length waiting ≤ c.args.most = omega (arith, c.in_ok-ending.ensures.few) in
    let stop = subst (λ (e : Ending). Ends (id_of node) (known_of node) Is waiting first here (state_of node) (state_of mid) (memory_of node) (memory_of mid) (layout_of mid) Stood e) c.in-Stops.is c.in_ok-ending.ensures.gathered in
    let same : Is → state_of fin ≡ state_of mid = λ is. (c.in_ok-settle.ensures.durable _ (stop.gathers.stands is).is).1 in
    let holds : Is → Holds g.D.Disk.seen g.D.Disk.may_leave fin = λ is. (c.in_ok-settle.ensures.durable _ (stop.gathers.stands is).is).0 in
    let plain : Is → plain_of mid ≡ plain_of fin = λ is. ap (λ (s : State). s.plain) (sym (same is)) in
    stopped (id_of node) (known_of node) Is waiting (g.C.Crowd.did c.args.crowd.now) first (state_of node) (state_of mid) (memory_of node) (memory_of mid) Stood (g.D.Disk.may_leave (disk_of fin)) c.args.most c.in-Stops.stop here (layout_of mid) (g.C.Crowd.did c.settle.new.crowd) (state_of fin)
    stop few (c.in_ok-settle.ensures.said ∙ ap (λ (l : List Answer). told (waiting_in l) (g.C.Crowd.did c.args.crowd.now)) c.deref.ensures.value) same
    (λ is. stand g.D.Disk.seen g.D.Disk.may_leave fin (plain_of mid) (plain is) (holds is))
    (λ op is. past_there g.D.Disk.seen g.D.Disk.may_leave fin (plain_of mid) (layout_of mid) op (plain is) (sym c.in_ok-settle.ensures.memory.0) (holds is))

pub returns-clause-asked : goal.returns-clause-asked
returns-clause-asked g c = subst (λ (d : List Event). length (g.C.Crowd.did c.args.crowd.now) ≤ length d) (sym c.in_ok-settle.ensures.said) (told_longer (waiting_in c.deref.result.now) (g.C.Crowd.did c.args.crowd.now))
