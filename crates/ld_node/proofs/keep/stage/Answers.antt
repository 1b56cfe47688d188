use Rattle.std.proofs.Common.{inl, inr, ⊎_elim, Option, refl, sym, subst, ◌∙◌}
use Rattle.std.proofs.lemmas.Result.{err_from_is_err_and}
use Rattle.ld_disk.proofs.Runs.{started}
use Rattle.ld_op.specs.declared.op.Op.{Op}
use Rattle.ld_store.specs.Ops.{StandsForEither}
use Rattle.ld_store.specs.Open.{disk_of, index_of, layout_of, plain_of}
use Rattle.ld_store.proofs.Ahead.{leaves_stand}
use Rattle.ld_node.specs.Changes.{kept, IsPast}
use Rattle.ld_node.proofs.Calls.{stands_for_same}
use Rattle.ld_node.proofs.Refusals.{disk_or, full_by}
use Rattle.ld_node.proofs.keep.stage.Goals as goal

pub returns-in_err-stage-in-Some-clause-stays : goal.returns-in_err-stage-in-Some-clause-stays
returns-in_err-stage-in-Some-clause-stays g c p holds =
    let old = c.args.store.now in
    let new = c.stage.new.self in
    let told = c.in_err-stage-in-Some.ensures in
    let q = err_from_is_err_and c.from_residual.result c.from_residual.ensures.1 in
    rw (q.1, q.2) (disk_or c.in_err-stage-in-Some.field-0.0 _ (⊎_elim (λ e. inl e)
    (λ same. ⊎_elim (λ e. inl e) (λ still. inr (stands_for_same (g.D.Disk.seen (disk_of old)) (g.D.Disk.seen (disk_of new)) (index_of old) (index_of new) same.bytes told.refused.0, (p, inl refl, still))) (told.holds p holds)) told.stays))

pub returns-in_err-stage-in-Some-clause-full : goal.returns-in_err-stage-in-Some-clause-full
returns-in_err-stage-in-Some-clause-full g c p holds is =
    let q = err_from_is_err_and c.from_residual.result c.from_residual.ensures.1 in
    let full = rw (q.1, q.2) at is in
    subst (λ (o : Option Op). IsPast (layout_of c.args.store.now) o) (sym c.in-Some.is) ((c.in_err-stage-in-Some.ensures.full (full_by c.in_err-stage-in-Some.field-0.0 full)).1 p holds)

pub returns-in_ok-stage-in-Some-clause-applied : goal.returns-in_ok-stage-in-Some-clause-applied
returns-in_ok-stage-in-Some-clause-applied g c p holds = c.in_ok-stage-in-Some.ensures.applied p holds ∙ (λ i. kept (sym c.in-Some.is i) (plain_of c.args.store.now))

pub returns-in-None-clause-any_moment : goal.returns-in-None-clause-any_moment
returns-in-None-clause-any_moment g c p holds =
    let D = g.D.Disk in
    let store = c.args.store.now in
    started D.moment D.left_since (disk_of store) (StandsForEither p (plain_of store)) (λ d left. inl (leaves_stand D.seen D.may_leave store p holds d (g.met.D.Disk.only_now (disk_of store) d left)))
