use Rattle.std.proofs.Common.{◌∙◌, ◌++◌, ℕ, List, Err, refl, sym, ap, subst, inl, inr, ⊎_elim, true≢false}
use Rattle.std.proofs.lemmas.Result.{err_from_is_err_and}
use Rattle.ld_segment.specs.Lies.{StandsForEither}
use Rattle.ld_node.specs.Known.{Known}
use Rattle.ld_node.specs.Changes.{kept}
use Rattle.ld_node.specs.Looks.{ticked, op_of}
use Rattle.ld_node.specs.Node.{plain_of, disk_of}
use Rattle.ld_mend.specs.Course.{Ticks, asked_by}
use Rattle.ld_mend.specs.Lines.{ticked_text}
use Rattle.ld_mend.specs.Standing.{at_of}
use Rattle.ld_mend.specs.Stops.{counts}
use Rattle.ld_mend.proofs.Causes.{of_node, whole_write, node_counts, write_counts}
use Rattle.ld_mend.proofs.Going.{moved_one, halted_here, halted_in, refused_leaves, stands_leaves}
use Rattle.ld_mend.proofs.Nodes.{plain_stays, stand, left_now}
use Rattle.ld_mend.proofs.Ticks.{answered, fits, ticked_at}
use Rattle.ld_mend.proofs.ticking.tick.Goals as goal

pub returns-clause-moved : goal.returns-clause-moved
returns-clause-moved g c known k r asked far there has held =
    let old = c.args.node.now in
    let new = c.tick.new.self in
    let l = c.args.log in
    let told = c.in-Ok.ensures in
    let same = answered old c.args.id known k r l asked far there.number there.known_is c.in-Ok.ticked (told.answer r held) in (
      record { number = told.rest.0 ∙ there.number; known_is = told.rest.1 ∙ there.known_is; holds = told.acknowledged there.holds },
      ⊎_elim (λ e. absurd cc) (λ h. h) (told.looked r held),
      moved_one c.args.id known k r (at_of old asked far) (at_of new (asked_by c.in-Ok.ticked) far) (Ticks l) _ _ (
        has,
        λ past. ⊎_elim (λ e. absurd cc) (⊎_elim (λ e. absurd cc) (λ e. absurd (let f = e.1 in cc)))
            (told.too_long r held c.requires.works (fits old c.args.id known k r l asked far there.number there.known_is past)),
      )
          (ticked_at old c.args.id known k r l asked far there.number there.known_is new c.in-Ok.ticked (told.kept r there.holds held) told.rest.2 (told.laid r held).0 (told.answer r held))
          (c.in_ok-tell_ticked.ensures.written ∙ ap (λ t. g.O.Sink.written c.args.out.now ++ ticked_text c.args.id l t) same),
      same,
      told.kept r there.holds held ∙ ap (λ (x : Known). kept (op_of l (ticked x (plain_of old) l r)) (plain_of old)) there.known_is,
    )

pub returns-in_err-tell_ticked-clause-moved : goal.returns-in_err-tell_ticked-clause-moved
returns-in_err-tell_ticked-clause-moved g c known k r asked far there has held =
    let p = err_from_is_err_and c.from_residual.result c.from_residual.ensures.1 in
    let old = c.args.node.now in
    let new = c.tick.new.self in
    let l = c.args.log in
    let told = c.in-Ok.ensures in
    let same = answered old c.args.id known k r l asked far there.number there.known_is c.in-Ok.ticked (told.answer r held) in
    rw (p.1, p.2) (halted_in c.args.id known k r (g.D.Disk.may_leave (disk_of new)) (at_of old asked far) (at_of new (asked_by c.in-Ok.ticked) far) (Ticks l) _ _ _ (
      has,
      λ past. ⊎_elim (λ e. absurd cc) (⊎_elim (λ e. absurd cc) (λ e. absurd (let f = e.1 in cc)))
          (told.too_long r held c.requires.works (fits old c.args.id known k r l asked far there.number there.known_is past)),
    )
    (ticked_at old c.args.id known k r l asked far there.number there.known_is new c.in-Ok.ticked (told.kept r there.holds held) told.rest.2 (told.laid r held).0 (told.answer r held))
    (rw same at c.in_err-tell_ticked.ensures.part)
    (stands_leaves c.args.id known k r (g.D.Disk.may_leave (disk_of new)) (at_of new (asked_by c.in-Ok.ticked) far) _ (whole_write _ _ _ c.in_err-tell_ticked.ensures.cause)
    (stand g.D.Disk.seen g.D.Disk.may_leave new (plain_of new) refl (told.acknowledged there.holds))))

pub returns-in-Err-clause-moved : goal.returns-in-Err-clause-moved
returns-in-Err-clause-moved g c known k r asked far there has held =
    let old = c.args.node.now in
    let new = c.tick.new.self in
    let l = c.args.log in
    let told = c.in-Err.ensures in
    let left : List ℕ → Type 0 = g.D.Disk.may_leave (disk_of new) in
    rw c.stop_of.ensures (halted_here c.args.id known k r left (at_of old asked far) _ _
    (refused_leaves c.args.id known k r left (at_of old asked far) c.in-Err.fault
    (λ is. true≢false (sym (told.needs_load.0 (ap Err is)) ∙ c.requires.works))
    (λ place is. told.damaged place (ap Err is))
    (λ is. inr (record {
      deed = Ticks l;
      is = has;
      either = λ bytes may. subst (λ (x : Known). StandsForEither (plain_of old) (kept (op_of l (ticked x (plain_of old) l r)) (plain_of old)) bytes) there.known_is
          (left_now g.D.Disk.may_leave g.D.Disk.moment g.D.Disk.left_since g.met.D.Disk.counts_now (disk_of old) (disk_of new) _ (told.any_moment r there.holds held) bytes may);
    }))
    (⊎_elim (λ e. inl cc) (λ same. ⊎_elim (λ e. inl cc) (λ still. inr (stand g.D.Disk.seen g.D.Disk.may_leave new (plain_of old) (sym (plain_stays old new same.bytes told.refused.0)) still)) (told.holds there.holds)) told.stays)))

pub returns-in-Err-clause-cause : goal.returns-in-Err-clause-cause
returns-in-Err-clause-cause g c =
    let told = c.in-Err.ensures in
    rw c.stop_of.ensures (of_node _ (counts (g.D.Disk.faults (disk_of c.args.node.now)) (g.G.Register.faults c.args.reg.now) (g.O.Sink.faults c.args.out.now)) (counts (g.D.Disk.faults (disk_of c.tick.new.self)) (g.G.Register.faults c.tick.new.reg) (g.O.Sink.faults c.args.out.now)) _ c.in-Err.fault
    (λ is. told.failed (ap Err is))
    (λ is. true≢false (sym (told.needs_load.0 (ap Err is)) ∙ c.requires.works))
    (λ f is. (told.register f (ap Err is)).0)
    (λ is. told.register_failed (ap Err is))
    (λ place is. record { register = c.args.reg.now; same = refl; still = λ tells. tells; there = λ tells. told.register_damaged place (ap Err is) tells }))

pub returns-clause-disk_counts : goal.returns-clause-disk_counts
returns-clause-disk_counts g c = ⊎_elim (λ e. absurd cc) (λ same. same) c.in-Ok.ensures.steady

pub returns-in_err-tell_ticked-clause-disk_counts : goal.returns-in_err-tell_ticked-clause-disk_counts
returns-in_err-tell_ticked-clause-disk_counts g c =
    let p = err_from_is_err_and c.from_residual.result c.from_residual.ensures.1 in
    rw (p.1, p.2) (write_counts _ _ _ _ _ (⊎_elim (λ e. absurd cc) (λ same. same) c.in-Ok.ensures.steady) c.in_err-tell_ticked.ensures.cause)

pub returns-in-Err-clause-disk_counts : goal.returns-in-Err-clause-disk_counts
returns-in-Err-clause-disk_counts g c =
    let told = c.in-Err.ensures in
    rw c.stop_of.ensures (node_counts _ _ c.in-Err.fault (λ is. told.failed (ap Err is)) (λ is. true≢false (sym (told.needs_load.0 (ap Err is)) ∙ c.requires.works)) (⊎_elim (λ e. inl cc) (λ same. inr same) told.steady))
