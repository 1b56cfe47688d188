use Rattle.std.proofs.Common.{◌≡◌, ◌≤◌, ◌+◌, ◌-◌, ◌^◌, ◌∙◌, ℕ, length, true, subst, refl, arith}
use Rattle.std.proofs.lemmas.Result.{err_from_is_err_and}
use Rattle.ld_crowd.specs.Calls.{is_over}
use Rattle.ld_node.specs.Node.{id_of, known_of, disk_of}
use Rattle.ld_serve.specs.Serving.{state_of}
use Rattle.ld_serve.specs.Stops.{LinkCounts, DiskCounts}
use Rattle.ld_serve.specs.Chats.{held_in}
use Rattle.ld_serve.specs.Told.{memory_of}
use Rattle.ld_serve.specs.Crowd.{AreTaken}
use Rattle.ld_serve.proofs.Crowds.{so_first, so_next, halts_where, heard_all, served_all, heard_until, served_until, all_turns, until_over, asked_out}
use Rattle.ld_serve.proofs.CrowdStops.{crowd_where}
use Rattle.ld_serve.proofs.crowd.serve_crowd.Goals as goal

pub looks-init : goal.looks-init
looks-init g c = record {
  so = so_first _ _ _ _ _ _ (AreTaken (id_of c.args.node.now) (known_of c.args.node.now) (memory_of c.args.node.now) (memory_of c.args.node.now)) refl c.requires.nobody c.new-chats.ensures;
  few = omega arith;
  asked = omega arith;
  holds = λ held. held;
  id = refl;
  known = refl;
  blank = c.requires.formatted;
  works = c.requires.works;
  itself = refl;
  crowd = refl;
  disk = refl;
}

pub overflow_add-taken : goal.overflow_add-taken
overflow_add-taken g c =
    let few = rw c.in-Some.is at c.in_ok-count.ensures.few in
    omega (arith, few, c.if-taken-turns.false)

pub looks-preserved : goal.looks-preserved
looks-preserved g c =
    let on = rw c.in-Some.is at c.in_ok-count.ensures.on in
    let few = rw c.in-Some.is at c.in_ok-count.ensures.few in
    let so = so_next _ _ _ _ _ _ c.looks.invariant.id c.looks.invariant.known c.looks.invariant.holds _ (g.C.Crowd.did c.go.new.crowd) (held_in c.looks.chats.chats) (held_in c.go.new.chats.chats) (state_of c.args.node.now) (state_of c.looks.node) (state_of c.go.new.node) (memory_of c.args.node.now) (memory_of c.looks.node) (memory_of c.go.new.node) c.looks.taken c.in-Some.count c.looks.invariant.so on in
    record {
      so = so;
      few = omega (arith, few, c.if-taken-turns.false);
      asked = omega (arith, c.in_ok-count.ensures.asked, c.looks.invariant.asked);
      holds = λ held. c.in_ok-count.ensures.holds (c.looks.invariant.holds held);
      id = c.in_ok-count.ensures.rest.0 ∙ c.looks.invariant.id;
      known = c.in_ok-count.ensures.rest.1 ∙ c.looks.invariant.known;
      blank = c.in_ok-count.ensures.rest.2;
      works = c.in_ok-count.ensures.works;
      itself = c.in_ok-count.ensures.itself ∙ c.looks.invariant.itself;
      crowd = c.in_ok-count.ensures.crowd_counts ∙ c.looks.invariant.crowd;
      disk = c.in_ok-count.ensures.disk_counts ∙ c.looks.invariant.disk;
    }

pub returns-then-taken-turns-clause-heard : goal.returns-then-taken-turns-clause-heard
returns-then-taken-turns-clause-heard g c =
    let all : c.looks.taken ≡ c.args.turns = omega (arith, c.looks.invariant.few, c.if-taken-turns.true) in
    heard_all _ _ _ _ _ (memory_of c.args.node.now) (memory_of c.looks.node) (g.C.Crowd.did c.looks.crowd) (held_in c.looks.chats.chats) (state_of c.args.node.now) (state_of c.looks.node) c.looks.taken c.args.turns c.looks.invariant.so (all_turns (g.C.Crowd.did c.looks.crowd) c.looks.invariant.so.taken c.looks.taken c.args.turns c.looks.invariant.so.turns_are all)

pub returns-then-taken-turns-clause-served : goal.returns-then-taken-turns-clause-served
returns-then-taken-turns-clause-served g c =
    λ held.
    let all : c.looks.taken ≡ c.args.turns = omega (arith, c.looks.invariant.few, c.if-taken-turns.true) in
    served_all _ _ _ (g.C.Crowd.did c.looks.crowd) (held_in c.looks.chats.chats) (state_of c.args.node.now) (state_of c.looks.node) _ c.looks.taken c.args.turns c.looks.invariant.so (all_turns (g.C.Crowd.did c.looks.crowd) c.looks.invariant.so.taken c.looks.taken c.args.turns c.looks.invariant.so.turns_are all) held

pub returns-then-taken-turns-clause-holds : goal.returns-then-taken-turns-clause-holds
returns-then-taken-turns-clause-holds g c = c.looks.invariant.holds

pub returns-then-taken-turns-clause-rest : goal.returns-then-taken-turns-clause-rest
returns-then-taken-turns-clause-rest g c = (c.looks.invariant.id, c.looks.invariant.known, c.looks.invariant.blank)

pub returns-then-taken-turns-clause-itself : goal.returns-then-taken-turns-clause-itself
returns-then-taken-turns-clause-itself g c = c.looks.invariant.itself

pub returns-then-taken-turns-clause-works : goal.returns-then-taken-turns-clause-works
returns-then-taken-turns-clause-works g c = c.looks.invariant.works

pub returns-then-taken-turns-clause-crowd_counts : goal.returns-then-taken-turns-clause-crowd_counts
returns-then-taken-turns-clause-crowd_counts g c = c.looks.invariant.crowd

pub returns-then-taken-turns-clause-disk_counts : goal.returns-then-taken-turns-clause-disk_counts
returns-then-taken-turns-clause-disk_counts g c = c.looks.invariant.disk

pub returns-in_err-count-clause-heard_until : goal.returns-in_err-count-clause-heard_until
returns-in_err-count-clause-heard_until g c =
    let h = halts_where _ _ _ _ _ _ c.looks.invariant.id c.looks.invariant.known c.looks.invariant.holds _ (g.C.Crowd.did c.looks.crowd) (g.C.Crowd.did c.go.new.crowd) (held_in c.looks.chats.chats) (state_of c.looks.node) (state_of c.go.new.node) (memory_of c.looks.node) (c.args.turns - c.looks.taken) c.in_err-count.field-0.0 c.in_err-count.ensures.off in
    let p = err_from_is_err_and c.from_residual.result c.from_residual.ensures.1 in
    let few : c.looks.taken + (c.args.turns - c.looks.taken) ≤ c.args.turns = omega (arith, c.if-taken-turns.false) in
    rw p.1 (heard_until _ _ _ _ _ (g.C.Crowd.did c.looks.crowd) (g.C.Crowd.did c.go.new.crowd) (held_in c.looks.chats.chats) (state_of c.args.node.now) (state_of c.looks.node) (state_of c.go.new.node) (memory_of c.args.node.now) (memory_of c.looks.node) c.looks.taken (c.args.turns - c.looks.taken) c.args.turns c.looks.invariant.so few h)

pub returns-in_err-count-clause-stopped : goal.returns-in_err-count-clause-stopped
returns-in_err-count-clause-stopped g c =
    λ held.
    let h = halts_where _ _ _ _ _ _ c.looks.invariant.id c.looks.invariant.known c.looks.invariant.holds _ (g.C.Crowd.did c.looks.crowd) (g.C.Crowd.did c.go.new.crowd) (held_in c.looks.chats.chats) (state_of c.looks.node) (state_of c.go.new.node) (memory_of c.looks.node) (c.args.turns - c.looks.taken) c.in_err-count.field-0.0 c.in_err-count.ensures.off in
    let p = err_from_is_err_and c.from_residual.result c.from_residual.ensures.1 in
    let few : c.looks.taken + (c.args.turns - c.looks.taken) ≤ c.args.turns = omega (arith, c.if-taken-turns.false) in
    rw (p.1, p.2) (served_until _ _ _ _ _ (g.C.Crowd.did c.looks.crowd) (g.C.Crowd.did c.go.new.crowd) (held_in c.looks.chats.chats) (state_of c.args.node.now) (state_of c.looks.node) (state_of c.go.new.node) _ (memory_of c.looks.node) c.looks.taken (c.args.turns - c.looks.taken) c.args.turns c.looks.invariant.so few h held)

pub returns-in_err-count-clause-rest : goal.returns-in_err-count-clause-rest
returns-in_err-count-clause-rest g c = (c.in_err-count.ensures.rest.0 ∙ c.looks.invariant.id, c.in_err-count.ensures.rest.1 ∙ c.looks.invariant.known, c.in_err-count.ensures.rest.2)

pub returns-in_err-count-clause-itself : goal.returns-in_err-count-clause-itself
returns-in_err-count-clause-itself g c = c.in_err-count.ensures.itself ∙ c.looks.invariant.itself

pub returns-in_err-count-clause-stops : goal.returns-in_err-count-clause-stops
returns-in_err-count-clause-stops g c =
    let p = err_from_is_err_and c.from_residual.result c.from_residual.ensures.1 in
    rw (p.1, p.2) (crowd_where _ _ c.looks.invariant.holds _ c.in_err-count.ensures.stops)

pub returns-in_err-count-clause-crowd_counts : goal.returns-in_err-count-clause-crowd_counts
returns-in_err-count-clause-crowd_counts g c =
    let p = err_from_is_err_and c.from_residual.result c.from_residual.ensures.1 in
    rw (p.1, p.2) (subst (λ (n : ℕ). LinkCounts n (g.C.Crowd.faults c.go.new.crowd) c.in_err-count.field-0.0) c.looks.invariant.crowd c.in_err-count.ensures.crowd_counts)

pub returns-in_err-count-clause-disk_counts : goal.returns-in_err-count-clause-disk_counts
returns-in_err-count-clause-disk_counts g c =
    let p = err_from_is_err_and c.from_residual.result c.from_residual.ensures.1 in
    rw (p.1, p.2) (subst (λ (n : ℕ). DiskCounts n (g.D.Disk.faults (disk_of c.go.new.node)) c.in_err-count.field-0.0) c.looks.invariant.disk c.in_err-count.ensures.disk_counts)

pub returns-in-None-clause-heard : goal.returns-in-None-clause-heard
returns-in-None-clause-heard g c =
    let on = rw c.in-None.is at c.in_ok-count.ensures.on in
    let so = so_next _ _ _ _ _ _ c.looks.invariant.id c.looks.invariant.known c.looks.invariant.holds _ (g.C.Crowd.did c.go.new.crowd) (held_in c.looks.chats.chats) (held_in c.go.new.chats.chats) (state_of c.args.node.now) (state_of c.looks.node) (state_of c.go.new.node) (memory_of c.args.node.now) (memory_of c.looks.node) (memory_of c.go.new.node) c.looks.taken 0 c.looks.invariant.so on in
    let over : is_over (g.C.Crowd.did c.go.new.crowd) ≡ true = c.in_ok-count.ensures.over c.in-None.is in
    let few : c.looks.taken + 0 ≤ c.args.turns = omega (arith, c.looks.invariant.few) in
    heard_all _ _ _ _ _ (memory_of c.args.node.now) (memory_of c.go.new.node) (g.C.Crowd.did c.go.new.crowd) (held_in c.go.new.chats.chats) (state_of c.args.node.now) (state_of c.go.new.node) _ c.args.turns so
    (until_over (g.C.Crowd.did c.go.new.crowd) so.taken _ c.args.turns so.turns_are few over)

pub returns-in-None-clause-served : goal.returns-in-None-clause-served
returns-in-None-clause-served g c =
    λ held.
    let on = rw c.in-None.is at c.in_ok-count.ensures.on in
    let so = so_next _ _ _ _ _ _ c.looks.invariant.id c.looks.invariant.known c.looks.invariant.holds _ (g.C.Crowd.did c.go.new.crowd) (held_in c.looks.chats.chats) (held_in c.go.new.chats.chats) (state_of c.args.node.now) (state_of c.looks.node) (state_of c.go.new.node) (memory_of c.args.node.now) (memory_of c.looks.node) (memory_of c.go.new.node) c.looks.taken 0 c.looks.invariant.so on in
    let over : is_over (g.C.Crowd.did c.go.new.crowd) ≡ true = c.in_ok-count.ensures.over c.in-None.is in
    let few : c.looks.taken + 0 ≤ c.args.turns = omega (arith, c.looks.invariant.few) in
    served_all _ _ _ (g.C.Crowd.did c.go.new.crowd) (held_in c.go.new.chats.chats) (state_of c.args.node.now) (state_of c.go.new.node) _ _ c.args.turns so
    (until_over (g.C.Crowd.did c.go.new.crowd) so.taken _ c.args.turns so.turns_are few over) held

pub returns-in-None-clause-holds : goal.returns-in-None-clause-holds
returns-in-None-clause-holds g c = λ held. c.in_ok-count.ensures.holds (c.looks.invariant.holds held)

pub returns-in-None-clause-rest : goal.returns-in-None-clause-rest
returns-in-None-clause-rest g c = (c.in_ok-count.ensures.rest.0 ∙ c.looks.invariant.id, c.in_ok-count.ensures.rest.1 ∙ c.looks.invariant.known, c.in_ok-count.ensures.rest.2)

pub returns-in-None-clause-itself : goal.returns-in-None-clause-itself
returns-in-None-clause-itself g c = c.in_ok-count.ensures.itself ∙ c.looks.invariant.itself

pub returns-in-None-clause-works : goal.returns-in-None-clause-works
returns-in-None-clause-works g c = c.in_ok-count.ensures.works

pub returns-in-None-clause-crowd_counts : goal.returns-in-None-clause-crowd_counts
returns-in-None-clause-crowd_counts g c = c.in_ok-count.ensures.crowd_counts ∙ c.looks.invariant.crowd

pub returns-in-None-clause-disk_counts : goal.returns-in-None-clause-disk_counts
returns-in-None-clause-disk_counts g c = c.in_ok-count.ensures.disk_counts ∙ c.looks.invariant.disk

pub returns-clause-heard : goal.returns-clause-heard
returns-clause-heard g c =
    let many : 2 ^ 64 - 1 ≤ length (g.C.Crowd.did c.looks.crowd) = omega (arith, c.looks.invariant.asked, c.looks-test.false, c.looks.auto.counter-end) in
    heard_all _ _ _ _ _ (memory_of c.args.node.now) (memory_of c.looks.node) (g.C.Crowd.did c.looks.crowd) (held_in c.looks.chats.chats) (state_of c.args.node.now) (state_of c.looks.node) c.looks.taken c.args.turns c.looks.invariant.so (asked_out (g.C.Crowd.did c.looks.crowd) c.looks.invariant.so.taken c.looks.taken c.args.turns c.looks.invariant.so.turns_are c.looks.invariant.few many)

pub returns-clause-served : goal.returns-clause-served
returns-clause-served g c =
    λ held.
    let many : 2 ^ 64 - 1 ≤ length (g.C.Crowd.did c.looks.crowd) = omega (arith, c.looks.invariant.asked, c.looks-test.false, c.looks.auto.counter-end) in
    served_all _ _ _ (g.C.Crowd.did c.looks.crowd) (held_in c.looks.chats.chats) (state_of c.args.node.now) (state_of c.looks.node) _ c.looks.taken c.args.turns c.looks.invariant.so (asked_out (g.C.Crowd.did c.looks.crowd) c.looks.invariant.so.taken c.looks.taken c.args.turns c.looks.invariant.so.turns_are c.looks.invariant.few many) held

pub returns-clause-holds : goal.returns-clause-holds
returns-clause-holds g c = c.looks.invariant.holds

pub returns-clause-rest : goal.returns-clause-rest
returns-clause-rest g c = (c.looks.invariant.id, c.looks.invariant.known, c.looks.invariant.blank)

pub returns-clause-itself : goal.returns-clause-itself
returns-clause-itself g c = c.looks.invariant.itself

pub returns-clause-works : goal.returns-clause-works
returns-clause-works g c = c.looks.invariant.works

pub returns-clause-crowd_counts : goal.returns-clause-crowd_counts
returns-clause-crowd_counts g c = c.looks.invariant.crowd

pub returns-clause-disk_counts : goal.returns-clause-disk_counts
returns-clause-disk_counts g c = c.looks.invariant.disk
