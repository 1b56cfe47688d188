use Rattle.std.proofs.Common.{◌≡◌, ◌+◌, ◌∙◌, ℕ, [], Ok, Err, ap, subst, inl, inr, refl, arith}
use Rattle.std.proofs.lemmas.Result.{err_from_is_err_and}
use Rattle.ld_node.specs.Known.{Known}
use Rattle.ld_node.specs.Node.{id_of, known_of, disk_of, plain_of, Holds}
use Rattle.ld_serve.specs.Course.{Goes, WithPeer, InTurn}
use Rattle.ld_serve.specs.Serving.{State, after, answers, state_of, IsAt, IsCut}
use Rattle.ld_serve.specs.Told.{memory_of}
use Rattle.ld_serve.proofs.Courses.{begun}
use Rattle.ld_serve.proofs.Hearing.{none_yet, came, one_more, all_heard, none_left, stopped_between, stopped_within}
use Rattle.ld_serve.proofs.Serving.{stand}
use Rattle.ld_serve.proofs.Stops.{serving_where}
use Rattle.ld_serve.proofs.Telling.{none_told, turn_of, turn_told, turn_stopped, met_told, none_left_told, between_told, all_told}
use Rattle.ld_serve.proofs.peers.serve_peers.Goals as goal

pub turns-init : goal.turns-init
turns-init g c = record {
  heard = none_yet _ _;
  goes = λ start is held. begun _ _ start _ _ is;
  told = none_told _ _ _ _ _ _;
  holds = λ held. held;
  fine = ap (λ h. h.fault) c.new-decoder.ensures;
  id = refl;
  known = refl;
  blank = c.requires.formatted;
  works = c.requires.works;
  itself = refl;
  link = refl;
  disk = refl;
}

pub returns-in_err-meet-clause-stopped : goal.returns-in_err-meet-clause-stopped
returns-in_err-meet-clause-stopped g c start is held =
    let p = err_from_is_err_and c.from_residual.result c.from_residual.ensures.1 in
    let old = c.args.node.now in
    let node = c.turns.node in
    rw (p.1, p.2) (
      state_of node,
      inr refl,
      inl (record {
        turns = c.turns.counter;
        between = c.in_err-meet.ensures.met (id_of old) (known_of old) start (state_of old) (state_of node) c.turns.counter (c.turns.invariant.goes start is held);
        cause = (c.in_err-meet.ensures.stops, stand g.D.Disk.seen g.D.Disk.may_leave node (plain_of node) refl (c.turns.invariant.holds held));
      }),
    )

pub returns-in_err-meet-clause-heard_until : goal.returns-in_err-meet-clause-heard_until
returns-in_err-meet-clause-heard_until g c start is =
    let p = err_from_is_err_and c.from_residual.result c.from_residual.ensures.1 in
    let so = c.turns.invariant.heard in
    rw (p.1, p.2) (stopped_between _ so.given c.turns.counter start _ so.are c.in_err-meet.ensures.stops (c.in_err-meet.ensures.met_heard start _ [] c.turns.counter (so.goes start [] is)))

pub returns-then-not-branch-clause-served : goal.returns-then-not-branch-clause-served
returns-then-not-branch-clause-served g c start is held =
    let old = c.args.node.now in
    let met = c.in_ok-meet.ensures.met (id_of old) (known_of old) start (state_of old) (state_of c.turns.node) c.turns.counter (c.turns.invariant.goes start is held) in
    inr (record { turns = c.turns.counter; few = omega (arith, c.turns-test.true); none = rw c.if-not-branch.true at met })

pub returns-then-not-branch-clause-heard : goal.returns-then-not-branch-clause-heard
returns-then-not-branch-clause-heard g c start is =
    let so = c.turns.invariant.heard in
    let met = c.in_ok-meet.ensures.met_heard start _ [] c.turns.counter (so.goes start [] is) in
    none_left _ so.given c.turns.counter c.args.turns start so.are (omega (arith, c.turns-test.true)) (rw c.if-not-branch.true at met)

pub returns-in_err-is_there-clause-stopped : goal.returns-in_err-is_there-clause-stopped
returns-in_err-is_there-clause-stopped g c start is held =
    let p = err_from_is_err_and c.from_residual-in_err-is_there.result c.from_residual-in_err-is_there.ensures.1 in
    let old = c.args.node.now in
    let node = c.turns.node in
    let new = c.turn.new.node in
    let s = state_of old in
    let stop = c.in_err-is_there.field-0.0 in
    let met = c.in_ok-meet.ensures.met (id_of old) (known_of old) start s (state_of node) c.turns.counter (c.turns.invariant.goes start is held) in
    let there = rw c.if-not-branch.false at met in
    let left = g.D.Disk.may_leave (disk_of new) in
    let cut : (i : ℕ) (known : Known) → Type 0 = λ i known. WithPeer (after i known) (answers i known) start s (g.L.Link.peers c.meet.new.link) c.meet.new.decoder.bytes (state_of node) c.turns.counter
    → (last : State) × IsAt last stop new × InTurn (after i known) (answers i known) (IsCut i known left stop) start s (g.L.Link.peers c.turn.new.link) last in
    let turned = subst (λ i. cut i (known_of old)) c.turns.invariant.id (subst (λ known. cut (id_of node) known) c.turns.invariant.known
    (c.in_err-is_there.ensures.turned start s c.turns.counter (c.turns.invariant.holds held))) there in
    rw (p.1, p.2) (turned.0, turned.1, inr turned.2)

pub returns-in_err-is_there-clause-heard_until : goal.returns-in_err-is_there-clause-heard_until
returns-in_err-is_there-clause-heard_until g c start is =
    let p = err_from_is_err_and c.from_residual-in_err-is_there.result c.from_residual-in_err-is_there.ensures.1 in
    let present = came (g.L.Link.peers c.args.link.now) _ (g.L.Link.peers c.meet.new.link) _ _ c.meet.new.decoder.bytes c.turns.counter c.turns.invariant.heard (λ start all more goes.
    let met = c.in_ok-meet.ensures.met_heard start all more c.turns.counter goes in rw c.if-not-branch.false at met) in
    rw (p.1, p.2) (stopped_within _ _ _ _ _ c.turns.counter start _ present c.in_err-is_there.ensures.heard is)

pub turns-preserved : goal.turns-preserved
turns-preserved g c =
    let old = c.args.node.now in
    let node = c.turns.node in
    let s = state_of old in
    let so = c.turns.invariant in
    let turned = c.in_ok-is_there.ensures in
    let present = came (g.L.Link.peers c.args.link.now) _ (g.L.Link.peers c.meet.new.link) _ _ c.meet.new.decoder.bytes c.turns.counter so.heard (λ start all more goes.
    let met = c.in_ok-meet.ensures.met_heard start all more c.turns.counter goes in rw c.if-not-branch.false at met) in
    record {
      heard = one_more _ _ _ _ _ _ c.turns.counter present turned.heard;
      goes = λ start is held.
          let met = c.in_ok-meet.ensures.met (id_of old) (known_of old) start s (state_of node) c.turns.counter (so.goes start is held) in
          let there = rw c.if-not-branch.false at met in
          let course : (i : ℕ) (known : Known) → Type 0 = λ i known. WithPeer (after i known) (answers i known) start s (g.L.Link.peers c.meet.new.link) c.meet.new.decoder.bytes (state_of node) c.turns.counter
          → Goes (after i known) (answers i known) c.in_ok-is_there.is_there start s (g.L.Link.peers c.turn.new.link) c.turn.new.decoder.bytes (state_of c.turn.new.node) (c.turns.counter + 1) in
          subst (λ i. course i (known_of old)) so.id (subst (λ known. course (id_of node) known) so.known (turned.turned start s c.turns.counter (so.holds held))) there;
      told =
          let met = c.in_ok-meet.ensures.told _ so.told.taken c.turns.counter so.told.calls in
          let first = g.L.Link.did c.args.link.now in
          let did = g.L.Link.did c.meet.new.link in
          let new = g.L.Link.did c.turn.new.link in
          let left = g.D.Disk.may_leave (disk_of c.turn.new.node) in
          let was = Holds g.D.Disk.seen g.D.Disk.may_leave old in
          let now = Holds g.D.Disk.seen g.D.Disk.may_leave node in
          let held = c.meet.new.decoder.bytes in
          let rest = c.turn.new.decoder.bytes in
          let there = c.in_ok-is_there.is_there in
          let next = state_of c.turn.new.node in
          let one = turn_of (id_of node) (id_of old) (known_of node) (known_of old) now left did new held rest (state_of node) next (memory_of node) (memory_of c.turn.new.node) (Ok there) so.id so.known turned.told in
          let so_far = met_told (id_of old) (known_of old) was first did s (state_of node) (memory_of old) (memory_of node) c.turns.counter so.told.taken so.told.by_index so.told.steps held (rw c.if-not-branch.false at met) in
          turn_told (id_of old) (known_of old) was now so.holds left first did new held rest s (state_of node) next (memory_of old) (memory_of node) (memory_of c.turn.new.node) c.turns.counter there so_far one;
      holds = λ held. turned.holds (so.holds held);
      fine = turned.fine;
      id = turned.rest.0 ∙ so.id;
      known = turned.rest.1 ∙ so.known;
      blank = turned.rest.2;
      works = turned.works;
      itself = turned.itself ∙ so.itself;
      link = turned.link_counts ∙ (c.in_ok-meet.ensures.counts ∙ so.link);
      disk = turned.disk_counts ∙ so.disk;
    }

pub returns-in_err-is_there-clause-stops : goal.returns-in_err-is_there-clause-stops
returns-in_err-is_there-clause-stops g c =
    let p = err_from_is_err_and c.from_residual-in_err-is_there.result c.from_residual-in_err-is_there.ensures.1 in
    rw (p.1, p.2) (serving_where _ _ c.turns.invariant.holds _ c.in_err-is_there.ensures.stops)

pub returns-clause-served : goal.returns-clause-served
returns-clause-served g c start is held =
    let all : c.turns.counter ≡ c.args.turns = omega (arith, c.turns-test.false, c.turns.auto.counter-end) in
    let old = c.args.node.now in
    inl (record {
      is_there = c.turns.is_there;
      held = c.turns.decoder.bytes;
      goes = subst (λ n. Goes (after (id_of old) (known_of old)) (answers (id_of old) (known_of old)) c.turns.is_there start (state_of old) (g.L.Link.peers c.turns.link) c.turns.decoder.bytes (state_of c.turns.node) n) all (c.turns.invariant.goes start is held);
    })

pub returns-clause-heard : goal.returns-clause-heard
returns-clause-heard g c start is =
    let all : c.turns.counter ≡ c.args.turns = omega (arith, c.turns-test.false, c.turns.auto.counter-end) in
    all_heard _ _ _ _ c.turns.counter c.args.turns start all c.turns.invariant.heard is

-- ---- by the calls of the link ----

pub returns-in_err-meet-clause-told : goal.returns-in_err-meet-clause-told
returns-in_err-meet-clause-told g c =
    let p = err_from_is_err_and c.from_residual.result c.from_residual.ensures.1 in
    let so = c.turns.invariant in
    let node = c.turns.node in
    rw (p.1, p.2) (between_told _ _ _ _ _ _ (state_of node) (memory_of c.args.node.now) (memory_of node) c.turns.counter so.told.taken so.told.by_index so.told.steps (g.D.Disk.may_leave (disk_of node)) c.meet.new.decoder.bytes c.args.turns _
    (omega (arith, c.turns-test.true)) (c.in_err-meet.ensures.told _ so.told.taken c.turns.counter so.told.calls) c.in_err-meet.ensures.stops
    (λ held. stand g.D.Disk.seen g.D.Disk.may_leave node (plain_of node) refl (so.holds held)))

pub returns-then-not-branch-clause-told : goal.returns-then-not-branch-clause-told
returns-then-not-branch-clause-told g c =
    let so = c.turns.invariant in
    let met = c.in_ok-meet.ensures.told _ so.told.taken c.turns.counter so.told.calls in
    none_left_told _ _ _ _ _ _ (state_of c.turns.node) (memory_of c.args.node.now) (memory_of c.turns.node) c.turns.counter so.told.taken so.told.by_index so.told.steps c.meet.new.decoder.bytes c.args.turns (omega (arith, c.turns-test.true)) (rw c.if-not-branch.true at met)

pub returns-in_err-is_there-clause-told : goal.returns-in_err-is_there-clause-told
returns-in_err-is_there-clause-told g c =
    let p = err_from_is_err_and c.from_residual-in_err-is_there.result c.from_residual-in_err-is_there.ensures.1 in
    let so = c.turns.invariant in
    let old = c.args.node.now in
    let node = c.turns.node in
    let s = state_of old in
    let first = g.L.Link.did c.args.link.now in
    let did = g.L.Link.did c.meet.new.link in
    let new = g.L.Link.did c.turn.new.link in
    let left = g.D.Disk.may_leave (disk_of c.turn.new.node) in
    let was = Holds g.D.Disk.seen g.D.Disk.may_leave old in
    let now = Holds g.D.Disk.seen g.D.Disk.may_leave node in
    let held = c.meet.new.decoder.bytes in
    let rest = c.turn.new.decoder.bytes in
    let stop = c.in_err-is_there.field-0.0 in
    let next = state_of c.turn.new.node in
    let met = c.in_ok-meet.ensures.told _ so.told.taken c.turns.counter so.told.calls in
    let so_far = met_told (id_of old) (known_of old) was first did s (state_of node) (memory_of old) (memory_of node) c.turns.counter so.told.taken so.told.by_index so.told.steps held (rw c.if-not-branch.false at met) in
    let one = turn_of (id_of node) (id_of old) (known_of node) (known_of old) now left did new held rest (state_of node) next (memory_of node) (memory_of c.turn.new.node) (Err stop) so.id so.known c.in_err-is_there.ensures.told in
    rw (p.1, p.2) (turn_stopped (id_of old) (known_of old) was now so.holds left first did new held rest s (state_of node) next (memory_of old) (memory_of node) (memory_of c.turn.new.node) c.turns.counter c.args.turns stop (omega (arith, c.turns-test.true)) so_far one)

pub returns-clause-told : goal.returns-clause-told
returns-clause-told g c =
    let all : c.turns.counter ≡ c.args.turns = omega (arith, c.turns-test.false, c.turns.auto.counter-end) in
    let so = c.turns.invariant.told in
    all_told _ _ _ _ _ _ (state_of c.turns.node) (memory_of c.args.node.now) (memory_of c.turns.node) c.turns.counter so.taken so.by_index so.steps _ c.args.turns all so.calls
