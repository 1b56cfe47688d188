use Rattle.std.proofs.Common.{ℕ, ◌∙◌, subst, refl}
use Rattle.std.proofs.lemmas.Result.{err_from_is_err_and}
use Rattle.ld_node.specs.Node.{plain_of}
use Rattle.ld_serve.specs.Stops.{LinkCounts}
use Rattle.ld_serve.specs.Chats.{held_in}
use Rattle.ld_serve.proofs.Serving.{stand}
use Rattle.ld_serve.proofs.Crowds.{none_taken, advances_after, halts_after, between}
use Rattle.ld_serve.proofs.CrowdStops.{between_crowd, between_disk}
use Rattle.ld_serve.proofs.crowd.go.Goals as goal

pub returns-in_err-look-clause-off : goal.returns-in_err-look-clause-off
returns-in_err-look-clause-off g c =
    let p = err_from_is_err_and c.from_residual.result c.from_residual.ensures.1 in
    rw (p.1, p.2) (between _ _ _ _ _ _ _ _ _ _ _ c.in_err-look.ensures.stops c.in_err-look.ensures.serving c.in_err-look.ensures.turns (λ held. stand g.D.Disk.seen g.D.Disk.may_leave c.args.node.now (plain_of c.args.node.now) refl held))

pub returns-in_err-look-clause-stops : goal.returns-in_err-look-clause-stops
returns-in_err-look-clause-stops g c =
    let p = err_from_is_err_and c.from_residual.result c.from_residual.ensures.1 in
    rw (p.1, p.2) (between_crowd _ _ c.in_err-look.ensures.stops)

pub returns-in_err-look-clause-crowd_counts : goal.returns-in_err-look-clause-crowd_counts
returns-in_err-look-clause-crowd_counts g c =
    let p = err_from_is_err_and c.from_residual.result c.from_residual.ensures.1 in
    rw (p.1, p.2) (c.in_err-look.ensures.counts)

pub returns-in_err-look-clause-disk_counts : goal.returns-in_err-look-clause-disk_counts
returns-in_err-look-clause-disk_counts g c =
    let p = err_from_is_err_and c.from_residual.result c.from_residual.ensures.1 in
    rw (p.1, p.2) (between_disk _ _ c.in_err-look.ensures.stops)

pub returns-in_err-count-in-Serve-clause-off : goal.returns-in_err-count-in-Serve-clause-off
returns-in_err-count-in-Serve-clause-off g c =
    let p = err_from_is_err_and c.from_residual-in_err-count-in-Serve.result c.from_residual-in_err-count-in-Serve.ensures.1 in
    rw (p.1, p.2) (halts_after _ _ _ _ _ _ _ _ (g.C.Crowd.did c.look.new.crowd) _ (held_in c.args.chats.now.chats) (held_in c.look.new.chats.chats) _ _ c.in_ok-look.ensures.serving
    (rw c.in-Serve.is at c.in_ok-look.ensures.turns) c.in_err-count-in-Serve.ensures.off)

pub returns-in_err-count-in-Serve-clause-stops : goal.returns-in_err-count-in-Serve-clause-stops
returns-in_err-count-in-Serve-clause-stops g c =
    let p = err_from_is_err_and c.from_residual-in_err-count-in-Serve.result c.from_residual-in_err-count-in-Serve.ensures.1 in
    rw (p.1, p.2) (c.in_err-count-in-Serve.ensures.stops)

pub returns-in_err-count-in-Serve-clause-crowd_counts : goal.returns-in_err-count-in-Serve-clause-crowd_counts
returns-in_err-count-in-Serve-clause-crowd_counts g c =
    let p = err_from_is_err_and c.from_residual-in_err-count-in-Serve.result c.from_residual-in_err-count-in-Serve.ensures.1 in
    rw (p.1, p.2) (subst (λ (n : ℕ). LinkCounts n (g.C.Crowd.faults c.serve_next.new.crowd) c.in_err-count-in-Serve.field-0.0) c.in_ok-look.ensures.counts c.in_err-count-in-Serve.ensures.crowd_counts)

pub returns-in_err-count-in-Serve-clause-disk_counts : goal.returns-in_err-count-in-Serve-clause-disk_counts
returns-in_err-count-in-Serve-clause-disk_counts g c =
    let p = err_from_is_err_and c.from_residual-in_err-count-in-Serve.result c.from_residual-in_err-count-in-Serve.ensures.1 in
    rw (p.1, p.2) (c.in_err-count-in-Serve.ensures.disk_counts)

pub returns-in-Turn-clause-on : goal.returns-in-Turn-clause-on
returns-in-Turn-clause-on g c = none_taken _ _ _ _ refl _ _ (held_in c.args.chats.now.chats) (held_in c.look.new.chats.chats) _ 1 c.in_ok-look.ensures.serving (rw c.in-Turn.is at c.in_ok-look.ensures.turns)

pub returns-in-Over-clause-on : goal.returns-in-Over-clause-on
returns-in-Over-clause-on g c = none_taken _ _ _ _ refl _ _ (held_in c.args.chats.now.chats) (held_in c.look.new.chats.chats) _ 0 c.in_ok-look.ensures.serving (rw c.in-Over.is at c.in_ok-look.ensures.turns)

pub returns-in-Over-clause-over : goal.returns-in-Over-clause-over
returns-in-Over-clause-over g c = λ none. rw c.in-Over.is at c.in_ok-look.ensures.over

pub returns-in_ok-count-in-Serve-clause-on : goal.returns-in_ok-count-in-Serve-clause-on
returns-in_ok-count-in-Serve-clause-on g c =
    advances_after _ _ _ _ _ (g.C.Crowd.did c.look.new.crowd) _ (held_in c.args.chats.now.chats) (held_in c.look.new.chats.chats) (held_in c.serve_next.new.chats.chats) _ _ _ c.in_ok-look.ensures.serving
    (rw c.in-Serve.is at c.in_ok-look.ensures.turns) c.in_ok-count-in-Serve.ensures.on

pub returns-in-More-clause-on : goal.returns-in-More-clause-on
returns-in-More-clause-on g c = none_taken _ _ _ _ refl _ _ (held_in c.args.chats.now.chats) (held_in c.look.new.chats.chats) _ 0 c.in_ok-look.ensures.serving (rw c.in-More.is at c.in_ok-look.ensures.turns)

pub returns-in_ok-count-in-Serve-clause-crowd_counts : goal.returns-in_ok-count-in-Serve-clause-crowd_counts
returns-in_ok-count-in-Serve-clause-crowd_counts g c = c.in_ok-count-in-Serve.ensures.crowd_counts ∙ c.in_ok-look.ensures.counts
