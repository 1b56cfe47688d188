use Rattle.std.proofs.Common.{◌∙◌, ℕ, List, Err, refl, sym, ap, inl, inr, true≢false, ⊎_elim}
use Rattle.ld_op.specs.Answers.{read_answer}
use Rattle.ld_op.specs.Plain.{log_of}
use Rattle.ld_node.specs.Changes.{kept, laid_with}
use Rattle.ld_node.specs.Msgs.{released_in}
use Rattle.ld_node.specs.Node.{plain_of, released_of, layout_of, disk_of}
use Rattle.ld_mend.specs.Course.{is_open}
use Rattle.ld_mend.specs.Standing.{at_of, first_open}
use Rattle.ld_mend.proofs.Causes.{node_counts}
use Rattle.ld_mend.proofs.Going.{refused_leaves}
use Rattle.ld_mend.proofs.Nodes.{at_is, stand}
use Rattle.ld_mend.proofs.Own.{own_ask, own_op, own_open, own_released}
use Rattle.ld_mend.proofs.Takings.{op_as, plain_as, layout_as, released_as, answers_as}
use Rattle.ld_mend.proofs.standing.ask_self.Goals as goal

pub returns-in-Ok-clause-answer : goal.returns-in-Ok-clause-answer
returns-in-Ok-clause-answer g c known k r asked far there has =
    let old = c.args.node.now in
    let new = c.on_msg.new.self in
    let n : ℕ = c.new.result in
    let m = own_ask c.args.id c.args.log n in
    let did = c.in-Ok.ensures in
    let none = own_op c.args.id c.args.log n known (released_of old) (plain_of old) has in (
      record { number = did.rest.0 ∙ there.number; known_is = did.rest.1 ∙ there.known_is; holds = did.acknowledged there.holds },
      at_is _ _ _ _ _ _ _ _ far
          (plain_as old c.args.id known m there.number there.known_is new (did.kept there.holds) ∙ ap (λ o. kept o (plain_of old)) none)
          (released_as old c.args.id known m there.number there.known_is new did.released ∙ own_released c.args.id c.args.log n known (released_of old) has)
          (layout_as old c.args.id known m there.number there.known_is new (did.laid there.holds).0 ∙ ap (λ o. laid_with (layout_of old) o) none)
          refl,
      c.first_open.ensures ∙ (ap first_open (c.as_slice.ensures ∙ (did.replies there.holds ∙ answers_as old c.args.id known m there.number there.known_is))
          ∙ (own_open c.args.id c.args.log n known (released_of old) (plain_of old) has ∙ ap (λ x. is_open (read_answer (plain_of old).generation (log_of (plain_of old) c.args.log) (released_in (released_of old) c.args.log) 1 x)) c.new.ensures)),
    )

pub returns-clause-answer : goal.returns-clause-answer
returns-clause-answer g c known k r asked far there has =
    let old = c.args.node.now in
    let new = c.on_msg.new.self in
    let n : ℕ = c.new.result in
    let m = own_ask c.args.id c.args.log n in
    let did = c.in-Err.ensures in
    let left : List ℕ → Type 0 = g.D.Disk.may_leave (disk_of new) in
    let none = op_as old c.args.id known m there.number there.known_is ∙ own_op c.args.id c.args.log n known (released_of old) (plain_of old) has in
    rw c.stop_of.ensures (refused_leaves c.args.id known k r left (at_of old asked far) c.in-Err.fault
    (λ is. true≢false (sym (did.needs_load.0 (ap Err is)) ∙ c.requires.works))
    (λ place is. did.damaged place there.holds (ap Err is))
    (λ is. inl (λ bytes may. stand g.D.Disk.seen g.D.Disk.may_leave old (plain_of old) refl there.holds bytes ((did.silent there.holds none).0.crash bytes may)))
    (inr (λ bytes may. stand g.D.Disk.seen g.D.Disk.may_leave old (plain_of old) refl there.holds bytes ((did.silent there.holds none).0.crash bytes may))))

pub returns-in-Ok-clause-disk_counts : goal.returns-in-Ok-clause-disk_counts
returns-in-Ok-clause-disk_counts g c = ⊎_elim (λ e. absurd cc) (λ same. same) c.in-Ok.ensures.steady

pub returns-clause-disk_counts : goal.returns-clause-disk_counts
returns-clause-disk_counts g c =
    let did = c.in-Err.ensures in
    rw c.stop_of.ensures (node_counts _ _ c.in-Err.fault (λ is. did.failed (ap Err is)) (λ is. true≢false (sym (did.needs_load.0 (ap Err is)) ∙ c.requires.works)) (⊎_elim (λ e. inl cc) (λ same. inr same) did.steady))
