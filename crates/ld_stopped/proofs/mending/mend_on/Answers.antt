use Rattle.std.proofs.Common.{◌≤◌, ap, inl, inr, refl, subst, List, ℕ, [], arith}
use Rattle.ld_node.specs.Known.{known_in}
use Rattle.ld_node.specs.Node.{plain_of, layout_of, disk_of, released_of}
use Rattle.ld_mend.specs.Standing.{IsThere, at_of, logs_of}
use Rattle.ld_mend.specs.Stops.{counts}
use Rattle.ld_mend.specs.Course.{Halted}
use Rattle.ld_mend.specs.Standing.{IsMended}
use Rattle.ld_mend.proofs.Nodes.{at_is, stand}
use Rattle.ld_mend.proofs.Takings.{on_right}
use Rattle.ld_stopped.specs.Mending.{HasMended, HasHalted}
use Rattle.ld_stopped.proofs.Mendings.{opened_on, lies_then, has_mended, has_halted, ended_so, stopped_so, ended_ok, ended_counts}
use Rattle.ld_stopped.proofs.mending.mend_on.Goals as goal

pub returns-in-Err-clause-mended : goal.returns-in-Err-clause-mended
returns-in-Err-clause-mended g c bytes p r far e stands held heard = inr (inl (record { loaded = c.in-Err.ensures.refused; register = refl; others = refl; output = refl }))

pub returns-in-Err-clause-cause : goal.returns-in-Err-clause-cause
returns-in-Err-clause-cause g c = inl (record { loaded = c.in-Err.ensures.refused; register = refl; others = refl; output = refl })

pub returns-in-Err-clause-later : goal.returns-in-Err-clause-later
returns-in-Err-clause-later g c = record { disk = c.in-Err.ensures.later; register = omega arith; output = omega arith }

pub returns-clause-mended : goal.returns-clause-mended
returns-clause-mended g c bytes p r far e stands held heard =
    let D = g.D.Disk in
    let node = c.in-Ok.node in
    let last = c.mend-mended.new.node in
    let id = c.args.id in
    let known = known_in c.args.config.now in
    let config = c.args.config.now in
    let is = c.in-Ok.ensures.node in
    let opened = opened_on D.seen D.may_leave (D.seen c.args.disk) bytes node e c.in-Ok.ensures.opens in
    let holds = opened.holds p stands in
    let plain = opened.plain p stands in
    let y = layout_of node in
    let laid = lies_then D.seen D.may_leave (D.seen c.args.disk) bytes p node e stands holds plain c.in-Ok.ensures.same in
    let at = at_is (plain_of node) p (released_of node) [] y y [] [] far plain is.2 refl refl in
    let left : List ℕ → Type 0 = D.may_leave (disk_of last) in
    let old = g.O.Sink.written c.args.out.now in
    let new = g.O.Sink.written c.mend-mended.new.out in
    let There = IsThere D.seen D.may_leave id known last × g.G.Register.holds c.mend-mended.new.reg r in
    let T = g.N.Nodes.tells c.mend-mended.new.nodes config in
    let logs = logs_of config.logs in
    rw (c.into_disk.ensures, c.ended.ensures) (on_right (c.mend-mended.ensures.mended r [] far (record { number = is.0; known_is = is.1; holds = holds }) held heard) (λ did.
    ended_so (λ b. IsMended There T id known config r (at_of node [] far) (at_of last) logs b old new) (Halted id known config r left (at_of node [] far) old new)
    (HasMended id known config r bytes p far left old new (g.G.Register.holds c.mend-mended.new.reg r) T logs) _ (HasHalted id known config r bytes p far left old new) c.mend-mended.result
    (λ b m. has_mended id known config r bytes p far left old new (g.G.Register.holds c.mend-mended.new.reg r) There T logs y (at_of node [] far) (at_of last) b laid at (λ a f. refl) (λ there. there.1)
    (λ there a f b. stand D.seen D.may_leave last (plain_of last) refl there.0.holds b) m)
    (λ halt h. has_halted id known config r bytes p far left old new y (at_of node [] far) halt laid at h) did))

pub returns-clause-formatted : goal.returns-clause-formatted
returns-clause-formatted g c = rw c.ended.ensures (ended_ok _ c.mend-mended.result c.in-Ok.ensures.formatted)

pub returns-clause-cause : goal.returns-clause-cause
returns-clause-cause g c =
    rw (c.into_disk.ensures, c.ended.ensures) (stopped_so _ (counts (g.D.Disk.faults c.args.disk) (g.G.Register.faults c.args.reg.now) (g.O.Sink.faults c.args.out.now)) _ _ _ _ c.mend-mended.result
    (ap (λ n. counts n (g.G.Register.faults c.args.reg.now) (g.O.Sink.faults c.args.out.now)) c.in-Ok.ensures.counts) c.mend-mended.ensures.cause)

pub returns-clause-later : goal.returns-clause-later
returns-clause-later g c =
    let later = c.mend-mended.ensures.later in
    rw c.into_disk.ensures (record { disk = subst (λ n. n ≤ g.D.Disk.faults (disk_of c.mend-mended.new.node)) c.in-Ok.ensures.counts later.disk; register = later.register; output = later.output })

pub returns-clause-disk_counts : goal.returns-clause-disk_counts
returns-clause-disk_counts g c = rw (c.into_disk.ensures, c.ended.ensures) (ended_counts _ _ _ c.mend-mended.result c.in-Ok.ensures.counts c.mend-mended.ensures.disk_counts)
