use Rattle.std.proofs.Common.{ℕ, List, [], OnOk, subst, inl, refl}
use Rattle.std.specs.Prelude.{IfErr, OnErr}
use Rattle.ld_node.specs.Known.{Known, known_in}
use Rattle.ld_node.specs.Node.{id_of, known_of, plain_of, disk_of, Holds}
use Rattle.ld_serve.specs.Told.{memory_of}
use Rattle.ld_serve.specs.Crowd.{IsHeardAll, IsHeardUntil, IsServedAll, IsServedUntil}
use Rattle.ld_serve.specs.Serving.{state_of, after, answers}
use Rattle.ld_serve.proofs.Serving.{the_state, stand}
use Rattle.ld_serve.proofs.Wholes.{held_where, stands_then}
use Rattle.ld_serve.proofs.Gatherings.{has_served_crowd, has_stopped_crowd, is_crowd_stop, crowd_register_counts}
use Rattle.ld_serve.proofs.many.serve_many_on.Goals as goal

pub returns-in-Err-clause-stopped : goal.returns-in-Err-clause-stopped
returns-in-Err-clause-stopped g c = inl (record { link = refl; cause = c.in-Err.ensures.cause; bytes = c.in-Err.ensures.seen; leaves = c.in-Err.ensures.leaves; draw = c.in-Err.ensures.draw })

pub returns-in-Err-clause-opening : goal.returns-in-Err-clause-opening
returns-in-Err-clause-opening g c = inl (record { link = refl; cause = c.in-Err.ensures.cause; bytes = c.in-Err.ensures.seen; leaves = c.in-Err.ensures.leaves; draw = c.in-Err.ensures.draw })

pub returns-clause-served : goal.returns-clause-served
returns-clause-served g c =
    let node = c.in-Ok.node in
    let new = c.serve_crowd-served.new.node in
    let r = c.serve_crowd-served.result in
    let did = g.C.Crowd.did c.serve_crowd-served.new.crowd in
    let opened = c.in-Ok.ensures.node in
    let given = known_in c.args.config.now in
    let left = g.D.Disk.may_leave (disk_of new) in
    let held = Holds g.D.Disk.seen g.D.Disk.may_leave node in
    let course : (i : ℕ) (known : Known) (released : List (ℕ × ℕ)) → Type 0 = λ i known released. held → OnOk r (IsServedAll (after i known) (answers i known) did (the_state (plain_of node) released) (state_of new) c.args.turns) in
    rw c.into_disk.ensures (has_served_crowd (g.D.Disk.seen c.args.disk) left (g.G.Register.holds c.args.reg.now) _ c.args.id given c.args.format did c.args.turns r (plain_of node) (state_of new) (memory_of node) held opened.2 c.in-Ok.ensures.opens c.in-Ok.ensures.holds
    (subst (λ i. OnOk r (IsHeardAll i given (memory_of node) did c.args.turns)) opened.0 (subst (λ known. OnOk r (IsHeardAll (id_of node) known (memory_of node) did c.args.turns)) opened.1 c.serve_crowd-served.ensures.heard))
    (subst (λ i. course i given []) opened.0 (subst (λ known. course (id_of node) known []) opened.1 (subst (λ released. course (id_of node) (known_of node) released) opened.2 c.serve_crowd-served.ensures.served)))
    (λ was. stands_then r (Holds g.D.Disk.seen g.D.Disk.may_leave new) left _ (c.serve_crowd-served.ensures.holds was) (λ now. stand g.D.Disk.seen g.D.Disk.may_leave new (plain_of new) refl now)))

pub returns-clause-stopped : goal.returns-clause-stopped
returns-clause-stopped g c =
    let node = c.in-Ok.node in
    let new = c.serve_crowd-served.new.node in
    let r = c.serve_crowd-served.result in
    let did = g.C.Crowd.did c.serve_crowd-served.new.crowd in
    let opened = c.in-Ok.ensures.node in
    let given = known_in c.args.config.now in
    let left = g.D.Disk.may_leave (disk_of new) in
    let held = Holds g.D.Disk.seen g.D.Disk.may_leave node in
    let course : (i : ℕ) (known : Known) (released : List (ℕ × ℕ)) → Type 0 = λ i known released. held → IfErr r (λ stop. IsServedUntil i known left stop did (the_state (plain_of node) released) (state_of new) c.args.turns) in
    rw c.into_disk.ensures (has_stopped_crowd (g.D.Disk.seen c.args.disk) left (g.G.Register.holds c.args.reg.now) _ c.args.id given c.args.format did c.args.turns r (plain_of node) (state_of new) (memory_of node) held _ opened.2 c.in-Ok.ensures.opens c.in-Ok.ensures.holds
    (subst (λ i. OnErr r (IsHeardUntil i given (memory_of node) did c.args.turns)) opened.0 (subst (λ known. OnErr r (IsHeardUntil (id_of node) known (memory_of node) did c.args.turns)) opened.1 c.serve_crowd-served.ensures.heard_until))
    (subst (λ i. course i given []) opened.0 (subst (λ known. course (id_of node) known []) opened.1 (subst (λ released. course (id_of node) (known_of node) released) opened.2 c.serve_crowd-served.ensures.stopped))))

pub returns-clause-opening : goal.returns-clause-opening
returns-clause-opening g c =
    let held = Holds g.D.Disk.seen g.D.Disk.may_leave c.in-Ok.node in
    is_crowd_stop _ _ held _ (held_where (g.D.Disk.seen c.args.disk) held c.in-Ok.ensures.holds) c.serve_crowd-served.ensures.stops

pub returns-clause-register_counts : goal.returns-clause-register_counts
returns-clause-register_counts g c = crowd_register_counts _ _ _ _ c.serve_crowd-served.ensures.stops c.in-Ok.ensures.register_counts
