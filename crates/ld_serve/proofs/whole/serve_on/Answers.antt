use Rattle.std.proofs.Common.{ℕ, List, [], OnOk, subst, inl, refl}
use Rattle.std.specs.Prelude.{IfErr, MatchResult}
use Rattle.ld_node.specs.Known.{Known, known_in}
use Rattle.ld_node.specs.Node.{id_of, known_of, plain_of, disk_of, Holds}
use Rattle.ld_serve.specs.Course.{IsServed, IsStopped}
use Rattle.ld_serve.specs.Serving.{State, state_of, after, answers, IsAt, IsCut}
use Rattle.ld_serve.proofs.Serving.{the_state, stand}
use Rattle.ld_serve.proofs.Wholes.{held_where, has_served, has_stopped, is_serving, register_counts, stands_then}
use Rattle.ld_serve.specs.Told.{memory_of, IsTold, IsToldUntil}
use Rattle.ld_serve.proofs.Telling.{has_told}
use Rattle.ld_serve.proofs.whole.serve_on.Goals as goal

pub returns-in-Err-clause-stopped : goal.returns-in-Err-clause-stopped
returns-in-Err-clause-stopped g c start is = inl (record { link = refl; cause = c.in-Err.ensures.cause; bytes = c.in-Err.ensures.seen; leaves = c.in-Err.ensures.leaves; draw = c.in-Err.ensures.draw })

pub returns-in-Err-clause-opening : goal.returns-in-Err-clause-opening
returns-in-Err-clause-opening g c = inl (record { link = refl; cause = c.in-Err.ensures.cause; bytes = c.in-Err.ensures.seen; leaves = c.in-Err.ensures.leaves; draw = c.in-Err.ensures.draw })

pub returns-clause-served : goal.returns-clause-served
returns-clause-served g c start is =
    let node = c.in-Ok.node in
    let new = c.serve_peers-served.new.node in
    let r = c.serve_peers-served.result in
    let peers = g.L.Link.peers c.serve_peers-served.new.link in
    let opened = c.in-Ok.ensures.node in
    let given = known_in c.args.config.now in
    let left = g.D.Disk.may_leave (disk_of new) in
    let held = Holds g.D.Disk.seen g.D.Disk.may_leave node in
    let course : (i : ℕ) (known : Known) (released : List (ℕ × ℕ)) → Type 0 = λ i known released. held → OnOk r (IsServed (after i known) (answers i known) start (the_state (plain_of node) released) peers (state_of new) c.args.turns) in
    rw c.into_disk.ensures (has_served (g.D.Disk.seen c.args.disk) left (g.G.Register.holds c.args.reg.now) _ c.args.id given c.args.format r start peers c.args.turns (plain_of node) (state_of new) held c.in-Ok.ensures.opens c.in-Ok.ensures.holds
    (c.serve_peers-served.ensures.heard start is)
    (subst (λ i. course i given []) opened.0 (subst (λ known. course (id_of node) known []) opened.1 (subst (λ released. course (id_of node) (known_of node) released) opened.2 (c.serve_peers-served.ensures.served start is))))
    (λ was. stands_then r (Holds g.D.Disk.seen g.D.Disk.may_leave new) left _ (c.serve_peers-served.ensures.holds was) (λ now. stand g.D.Disk.seen g.D.Disk.may_leave new (plain_of new) refl now)))

pub returns-clause-stopped : goal.returns-clause-stopped
returns-clause-stopped g c start is =
    let node = c.in-Ok.node in
    let new = c.serve_peers-served.new.node in
    let r = c.serve_peers-served.result in
    let peers = g.L.Link.peers c.serve_peers-served.new.link in
    let opened = c.in-Ok.ensures.node in
    let given = known_in c.args.config.now in
    let left = g.D.Disk.may_leave (disk_of new) in
    let held = Holds g.D.Disk.seen g.D.Disk.may_leave node in
    let course : (i : ℕ) (known : Known) (released : List (ℕ × ℕ)) → Type 0 = λ i known released. held → IfErr r (λ stop. (last : State) × IsAt last stop new × IsStopped (after i known) (answers i known) (IsCut i known left stop) start (the_state (plain_of node) released) peers last) in
    rw c.into_disk.ensures (has_stopped (g.D.Disk.seen c.args.disk) left (g.G.Register.holds c.args.reg.now) _ c.args.id given c.args.format r start peers (plain_of node) held (λ last stop. IsAt last stop new) _ c.in-Ok.ensures.opens c.in-Ok.ensures.holds
    (c.serve_peers-served.ensures.heard_until start is)
    (subst (λ i. course i given []) opened.0 (subst (λ known. course (id_of node) known []) opened.1 (subst (λ released. course (id_of node) (known_of node) released) opened.2 (c.serve_peers-served.ensures.stopped start is)))))

pub returns-clause-opening : goal.returns-clause-opening
returns-clause-opening g c =
    let held = Holds g.D.Disk.seen g.D.Disk.may_leave c.in-Ok.node in
    is_serving _ _ held _ (held_where (g.D.Disk.seen c.args.disk) held c.in-Ok.ensures.holds) c.serve_peers-served.ensures.stops

pub returns-clause-register_counts : goal.returns-clause-register_counts
returns-clause-register_counts g c = register_counts _ _ _ _ c.serve_peers-served.ensures.stops c.in-Ok.ensures.register_counts

pub returns-in-Err-clause-told : goal.returns-in-Err-clause-told
returns-in-Err-clause-told g c = inl (record { link = refl; cause = c.in-Err.ensures.cause; bytes = c.in-Err.ensures.seen; leaves = c.in-Err.ensures.leaves; draw = c.in-Err.ensures.draw })

pub returns-clause-told : goal.returns-clause-told
returns-clause-told g c =
    let node = c.in-Ok.node in
    let new = c.serve_peers-served.new.node in
    let r = c.serve_peers-served.result in
    let old_did = g.L.Link.did c.args.link.now in
    let did = g.L.Link.did c.serve_peers-served.new.link in
    let opened = c.in-Ok.ensures.node in
    let given = known_in c.args.config.now in
    let left = g.D.Disk.may_leave (disk_of new) in
    let held = Holds g.D.Disk.seen g.D.Disk.may_leave node in
    let told : (i : ℕ) (known : Known) (released : List (ℕ × ℕ)) → Type 0 = λ i known released.
    MatchResult r (λ _. IsTold i known held old_did did (the_state (plain_of node) released) (state_of new) (memory_of node) (memory_of new) c.args.turns) (IsToldUntil i known held left old_did did (the_state (plain_of node) released) (state_of new) (memory_of node) (memory_of new) c.args.turns) in
    rw c.into_disk.ensures (has_told left (g.G.Register.holds c.args.reg.now) _ c.args.id given c.args.format (g.D.Disk.seen c.args.disk) r old_did did c.args.turns (plain_of node) (state_of new) (memory_of node) (memory_of new) held _ opened.2
    c.in-Ok.ensures.opens c.in-Ok.ensures.holds
    (subst (λ i. told i given []) opened.0 (subst (λ known. told (id_of node) known []) opened.1 (subst (λ released. told (id_of node) (known_of node) released) opened.2 c.serve_peers-served.ensures.told)))
    (λ was. stands_then r (Holds g.D.Disk.seen g.D.Disk.may_leave new) left _ (c.serve_peers-served.ensures.holds was) (λ now. stand g.D.Disk.seen g.D.Disk.may_leave new (plain_of new) refl now)))
