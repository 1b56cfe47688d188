use Rattle.std.proofs.Common.{sym, subst, ◌∙◌, inr}
use Rattle.ld_disk.specs.Moments.{LeavesOnly}
use Rattle.ld_store.specs.Loads.{LeftOrMarked}
use Rattle.ld_node.specs.Node.{disk_of}
use Rattle.ld_mend.proofs.Nodes.{left_now}
use Rattle.ld_stopped.specs.Opening.{LeavesMarked, ShowsMarked}
use Rattle.ld_stopped.proofs.Openings.{load_caused, load_counts, load_shows, opened_too, leaves_by, blank_of, some_of, blank_shown}
use Rattle.ld_stopped.proofs.opening.opened.Goals as goal

pub returns-in-Err-clause-refused : goal.returns-in-Err-clause-refused
returns-in-Err-clause-refused g c =
    let D = g.D.Disk in
    let old = c.args.disk in
    rw c.load_stop.ensures (record {
      cause = load_caused _ _ _ _ c.in-Err.ensures.failed c.in-Err.ensures.damaged c.in-Err.ensures.full;
      bytes = load_shows _ _ _ c.in-Err.ensures.seen;
      leaves = leaves_by (D.seen old) (D.may_leave old) _ (λ shown. LeavesOnly D.moment D.left_since old _ (LeftOrMarked (D.may_leave old) shown))
          (λ shown leaves. left_now D.may_leave D.moment D.left_since g.met.D.Disk.counts_now old _ _ leaves) c.in-Err.ensures.any_moment;
    })

pub returns-in-Err-clause-counts : goal.returns-in-Err-clause-counts
returns-in-Err-clause-counts g c = rw c.load_stop.ensures (load_counts _ _ _ c.in-Err.ensures.failed c.in-Err.ensures.steady)

pub returns-then-is_blank-clause-refused : goal.returns-then-is_blank-clause-refused
returns-then-is_blank-clause-refused g c =
    let D = g.D.Disk in
    let old = c.args.disk in
    let node = c.in-Ok.node in
    let blank = sym c.is_blank.ensures ∙ c.if-is_blank.true in
    rw c.into_disk.ensures (record {
      cause = blank_of D.seen D.may_leave (D.seen old) node.store blank c.in-Ok.ensures.opens;
      bytes = inr (blank_shown D.seen D.may_leave (D.seen old) node.store _ blank c.in-Ok.ensures.opens c.in-Ok.ensures.seen);
      leaves = leaves_by (D.seen old) (D.may_leave old) (D.may_leave (disk_of node)) (λ shown. LeavesOnly D.moment D.left_since old (disk_of node) (LeftOrMarked (D.may_leave old) shown))
          (λ shown leaves. left_now D.may_leave D.moment D.left_since g.met.D.Disk.counts_now old (disk_of node) _ leaves) c.in-Ok.ensures.any_moment;
    })

pub returns-clause-formatted : goal.returns-clause-formatted
returns-clause-formatted g c = some_of g.D.Disk.seen g.D.Disk.may_leave (g.D.Disk.seen c.args.disk) c.in-Ok.node.store (sym c.is_blank.ensures ∙ c.if-is_blank.false) c.in-Ok.ensures.opens

pub returns-clause-opens : goal.returns-clause-opens
returns-clause-opens g c = opened_too (g.D.Disk.seen c.args.disk) c.growing.ensures.opened c.in-Ok.ensures.opens

pub returns-clause-same : goal.returns-clause-same
returns-clause-same g c = subst (λ d. ShowsMarked (g.D.Disk.seen c.args.disk) (g.D.Disk.seen d)) (sym c.growing.ensures.rest.3) c.in-Ok.ensures.seen

pub returns-clause-leaves : goal.returns-clause-leaves
returns-clause-leaves g c =
    let D = g.D.Disk in
    let old = c.args.disk in
    let node = c.in-Ok.node in
    subst (λ d. LeavesMarked (D.seen old) (D.may_leave old) (D.may_leave d)) (sym c.growing.ensures.rest.3)
    (leaves_by (D.seen old) (D.may_leave old) (D.may_leave (disk_of node)) (λ shown. LeavesOnly D.moment D.left_since old (disk_of node) (LeftOrMarked (D.may_leave old) shown))
    (λ shown leaves. left_now D.may_leave D.moment D.left_since g.met.D.Disk.counts_now old (disk_of node) _ leaves) c.in-Ok.ensures.any_moment)
