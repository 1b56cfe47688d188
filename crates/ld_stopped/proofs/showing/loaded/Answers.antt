use Rattle.std.proofs.Common.{sym, ◌∙◌, inr}
use Rattle.ld_disk.specs.Moments.{LeavesOnly}
use Rattle.ld_store.specs.Loads.{LeftOrMarked}
use Rattle.ld_store.specs.Open.{disk_of}
use Rattle.ld_mend.proofs.Nodes.{left_now}
use Rattle.ld_stopped.proofs.Openings.{store_caused, store_counts, store_shows, leaves_by, blank_of, some_of, blank_shown}
use Rattle.ld_stopped.proofs.showing.loaded.Goals as goal

pub returns-in-Err-clause-refused : goal.returns-in-Err-clause-refused
returns-in-Err-clause-refused g c =
    let D = g.D.Disk in
    let old = c.args.disk in
    rw c.store_stop.ensures (record {
      cause = store_caused _ _ _ _ c.in-Err.ensures.failed c.in-Err.ensures.damaged c.in-Err.ensures.full;
      bytes = store_shows _ _ _ c.in-Err.ensures.seen;
      leaves = leaves_by (D.seen old) (D.may_leave old) _ (λ shown. LeavesOnly D.moment D.left_since old _ (LeftOrMarked (D.may_leave old) shown))
          (λ shown leaves. left_now D.may_leave D.moment D.left_since g.met.D.Disk.counts_now old _ _ leaves) c.in-Err.ensures.any_moment;
    })

pub returns-in-Err-clause-counts : goal.returns-in-Err-clause-counts
returns-in-Err-clause-counts g c = rw c.store_stop.ensures (store_counts _ _ _ c.in-Err.ensures.failed c.in-Err.ensures.steady)

pub returns-then-is_blank-clause-refused : goal.returns-then-is_blank-clause-refused
returns-then-is_blank-clause-refused g c =
    let D = g.D.Disk in
    let old = c.args.disk in
    let store = c.in-Ok.store in
    let blank = sym c.is_blank.ensures ∙ c.if-is_blank.true in
    rw c.into_disk.ensures (record {
      cause = blank_of D.seen D.may_leave (D.seen old) store blank c.in-Ok.ensures.opens;
      bytes = inr (blank_shown D.seen D.may_leave (D.seen old) store _ blank c.in-Ok.ensures.opens c.in-Ok.ensures.seen);
      leaves = leaves_by (D.seen old) (D.may_leave old) (D.may_leave (disk_of store)) (λ shown. LeavesOnly D.moment D.left_since old (disk_of store) (LeftOrMarked (D.may_leave old) shown))
          (λ shown leaves. left_now D.may_leave D.moment D.left_since g.met.D.Disk.counts_now old (disk_of store) _ leaves) c.in-Ok.ensures.any_moment;
    })

pub returns-clause-formatted : goal.returns-clause-formatted
returns-clause-formatted g c = some_of g.D.Disk.seen g.D.Disk.may_leave (g.D.Disk.seen c.args.disk) c.in-Ok.store (sym c.is_blank.ensures ∙ c.if-is_blank.false) c.in-Ok.ensures.opens

pub returns-clause-leaves : goal.returns-clause-leaves
returns-clause-leaves g c =
    let D = g.D.Disk in
    let old = c.args.disk in
    let store = c.in-Ok.store in
    leaves_by (D.seen old) (D.may_leave old) (D.may_leave (disk_of store)) (λ shown. LeavesOnly D.moment D.left_since old (disk_of store) (LeftOrMarked (D.may_leave old) shown))
    (λ shown leaves. left_now D.may_leave D.moment D.left_since g.met.D.Disk.counts_now old (disk_of store) _ leaves) c.in-Ok.ensures.any_moment
