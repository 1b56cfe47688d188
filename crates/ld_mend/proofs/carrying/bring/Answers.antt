use Rattle.std.proofs.Common.{◌∙◌, ℕ, List, Err, refl, sym, ap, subst, inl, inr, ⊎_elim, true≢false}
use Rattle.std.proofs.lemmas.List.{append-nil}
use Rattle.std.proofs.lemmas.Result.{err_from_is_err_and}
use Rattle.ld_segment.specs.Lies.{StandsForEither}
use Rattle.ld_node.specs.Changes.{kept}
use Rattle.ld_node.specs.Node.{plain_of, disk_of}
use Rattle.ld_mend.specs.Course.{Takes, handed_far}
use Rattle.ld_mend.specs.Standing.{IsThere, at_of}
use Rattle.ld_mend.proofs.Causes.{whole_fetch, fetch_counts, node_counts}
use Rattle.ld_mend.proofs.Going.{moved_one, halted_here, refused_leaves, stands_leaves}
use Rattle.ld_mend.proofs.Handing.{handed_hushes}
use Rattle.ld_mend.proofs.Nodes.{at_is, plain_stays, stand, left_now}
use Rattle.ld_mend.proofs.Takings.{on_right, untaken, fits, op_as, plain_as, layout_as, released_as}
use Rattle.ld_mend.proofs.carrying.bring.Goals as goal

pub returns-in_err-answer-clause-moved : goal.returns-in_err-answer-clause-moved
returns-in_err-answer-clause-moved g c known k r asked far place written there at from told =
    let p = err_from_is_err_and c.from_residual.result c.from_residual.ensures.1 in
    let node = c.args.node.now in
    rw (p.1, p.2) (inr (halted_here c.args.id known k r (g.D.Disk.may_leave (disk_of node)) (at_of node asked far) written _
    (stands_leaves c.args.id known k r (g.D.Disk.may_leave (disk_of node)) (at_of node asked far) _ (whole_fetch _ _ c.in_err-answer.ensures.cause) (stand g.D.Disk.seen g.D.Disk.may_leave node (plain_of node) refl there.holds))))

pub returns-in_default-clause-moved : goal.returns-in_default-clause-moved
returns-in_default-clause-moved g c known k r asked far place written there at from told =
    let node = c.args.node.now in
    ⊎_elim inl (λ f. inr (untaken (IsThere g.D.Disk.seen g.D.Disk.may_leave c.args.id known node) (g.N.Nodes.tells c.fetch.new.nodes k) c.args.id known k r node asked far c.args.ask.now written there (place, at) f))
    (rw c.in_default.is at (c.in_ok-answer.ensures.told k far from told))

pub returns-in-Ok-clause-moved : goal.returns-in-Ok-clause-moved
returns-in-Ok-clause-moved g c known k r asked far place written there at from told =
    let old = c.args.node.now in
    let new = c.on_msg.new.self in
    let m = c.in-Some.answer in
    let did = c.in-Ok.ensures in
    let own = rw c.in-Some.is at c.in_ok-answer.ensures.message in
    ⊎_elim inl (λ f. inr (record {
      there = record { number = did.rest.0 ∙ there.number; known_is = did.rest.1 ∙ there.known_is; holds = did.acknowledged there.holds };
      far = handed_far k far c.args.ask.now;
      told_far = f.1;
      hushes = handed_hushes k far c.args.ask.now;
      moved = moved_one c.args.id known k r (at_of old asked far) (at_of new asked (handed_far k far c.args.ask.now)) (Takes c.args.ask.now m) written written (
        (place, at),
        own.1,
        f.0,
        λ past. ⊎_elim (λ e. absurd cc) (⊎_elim (λ e. absurd cc) (λ e. absurd cc))
            (did.too_long_or_failed there.holds (fits old c.args.id known m there.number there.known_is past)),
      )
          (at_is _ _ _ _ _ _ _ _ (handed_far k far c.args.ask.now) (plain_as old c.args.id known m there.number there.known_is new (did.kept there.holds)) (released_as old c.args.id known m there.number there.known_is new did.released)
          (layout_as old c.args.id known m there.number there.known_is new (did.laid there.holds).0) refl)
          (sym (append-nil written));
    }))
    (rw c.in-Some.is at (c.in_ok-answer.ensures.told k far from told))

pub returns-clause-moved : goal.returns-clause-moved
returns-clause-moved g c known k r asked far place written there at from told =
    let old = c.args.node.now in
    let new = c.on_msg.new.self in
    let m = c.in-Some.answer in
    let did = c.in-Err.ensures in
    let own = rw c.in-Some.is at c.in_ok-answer.ensures.message in
    let left : List ℕ → Type 0 = g.D.Disk.may_leave (disk_of new) in
    on_right (rw c.in-Some.is at (c.in_ok-answer.ensures.told k far from told)) (λ f. rw c.stop_of.ensures (halted_here c.args.id known k r left (at_of old asked far) written _
    (refused_leaves c.args.id known k r left (at_of old asked far) c.in-Err.fault
    (λ is. true≢false (sym (did.needs_load.0 (ap Err is)) ∙ c.requires.works))
    (λ at is. did.damaged at there.holds (ap Err is))
    (λ is. inr (record {
      deed = Takes c.args.ask.now m;
      is = ((place, at), own.1, f.0);
      either = λ bytes may. subst (λ o. StandsForEither (plain_of old) (kept o (plain_of old)) bytes) (op_as old c.args.id known m there.number there.known_is)
          (left_now g.D.Disk.may_leave g.D.Disk.moment g.D.Disk.left_since g.met.D.Disk.counts_now (disk_of old) (disk_of new) _ (did.any_moment there.holds) bytes may);
    }))
    (⊎_elim (λ e. inl cc) (λ same. ⊎_elim (λ e. inl cc) (λ still. inr (stand g.D.Disk.seen g.D.Disk.may_leave new (plain_of old) (sym (plain_stays old new same.bytes did.refused.0)) still)) (did.holds there.holds)) did.stays))))

pub returns-in_err-answer-clause-disk_counts : goal.returns-in_err-answer-clause-disk_counts
returns-in_err-answer-clause-disk_counts g c =
    let p = err_from_is_err_and c.from_residual.result c.from_residual.ensures.1 in
    rw (p.1, p.2) (fetch_counts _ _ _ c.in_err-answer.ensures.cause)

pub returns-in-Ok-clause-disk_counts : goal.returns-in-Ok-clause-disk_counts
returns-in-Ok-clause-disk_counts g c = ⊎_elim (λ e. absurd cc) (λ same. same) c.in-Ok.ensures.steady

pub returns-clause-disk_counts : goal.returns-clause-disk_counts
returns-clause-disk_counts g c =
    let did = c.in-Err.ensures in
    rw c.stop_of.ensures (node_counts _ _ c.in-Err.fault (λ is. did.failed (ap Err is)) (λ is. true≢false (sym (did.needs_load.0 (ap Err is)) ∙ c.requires.works)) (⊎_elim (λ e. inl cc) (λ same. inr same) did.steady))
