use Rattle.std.proofs.Common.{ℕ, List, ◌∷◌, ◌++◌, [], Err, sym, ap, ◌∙◌, subst, refl, inl, inr, ⊎_elim}
use Rattle.ld_wire.specs.Streams.{AreMessages}
use Rattle.ld_layout.specs.Layout.{Layout}
use Rattle.ld_node.specs.Changes.{IsPast}
use Rattle.ld_node.specs.Node.{id_of, known_of, disk_of}
use Rattle.ld_serve.specs.Serving.{state_of, done}
use Rattle.ld_serve.specs.Group.{waiting_in}
use Rattle.ld_serve.specs.Told.{memory_of}
use Rattle.ld_serve.proofs.Serving.{state_is, left_now}
use Rattle.ld_serve.proofs.Stops.{node_held}
use Rattle.ld_serve.proofs.CrowdStops.{disk_or_not}
use Rattle.ld_serve.proofs.Frames.{are_messages}
use Rattle.ld_serve.proofs.Telling.{index_step}
use Rattle.ld_serve.proofs.group.stage_message.Goals as goal

pub frames-requires : goal.frames-requires
frames-requires g c = subst AreMessages (sym c.as_slice.ensures) (are_messages _ c.in-Ok.ensures.messages)

pub returns-in-Err-clause-off : goal.returns-in-Err-clause-off
returns-in-Err-clause-off g c = ⊎_elim
    (λ is. inl is)
    (λ other.
    let same = ⊎_elim (λ e. absurd (other (c.stop_of.ensures.disk cc))) (λ same. same) c.in-Err.ensures.refused in
    inr (inl (record {
      cause = node_held _ _ c.stop_of.ensures.cause (λ place is holds. c.in-Err.ensures.damaged holds.0 place holds.1 (ap Err (c.stop_of.ensures.damaged place is)));
      other = other;
      stays = (λ i. record { layout = same.1 i; released = same.3 i });
      step = λ p holds. state_is _ _ _ _ (⊎_elim (λ e. absurd (other (c.stop_of.ensures.disk cc))) (λ stays. stays.0) (c.in-Err.ensures.stays p holds)) same.3;
      stands = λ p holds. ⊎_elim (λ e. absurd (other (c.stop_of.ensures.disk cc))) (λ stays. stays.1) (c.in-Err.ensures.stays p holds);
      past = λ full p holds. subst (λ (y : Layout). IsPast y (done (id_of c.args.node.now) (known_of c.args.node.now) (state_of c.args.node.now) c.args.message.now).op) (sym same.1) (c.in-Err.ensures.full p holds (ap Err (c.stop_of.ensures.full full)));
    })))
    (disk_or_not c.stop_of.result)

pub returns-in-Err-clause-leaves : goal.returns-in-Err-clause-leaves
returns-in-Err-clause-leaves g c p bytes holds left _ =
    left_now g.D.Disk.may_leave g.D.Disk.moment g.D.Disk.left_since g.met.D.Disk.counts_now (disk_of c.args.node.now) (disk_of c.stage_msg.new.self) _ (c.in-Err.ensures.any_moment p holds) bytes left

pub returns-in-Err-clause-disk_counts : goal.returns-in-Err-clause-disk_counts
returns-in-Err-clause-disk_counts g c = c.stop_of.ensures.disk_counts _ _ (λ e. c.in-Err.ensures.failed (ap Err e)) (⊎_elim (λ e. inl cc) (λ same. inr same) c.in-Err.ensures.steady)

pub returns-in_default-clause-off : goal.returns-in_default-clause-off
returns-in_default-clause-off g c =
    inr (inr (record { cause = refl; step = λ p holds. state_is _ _ _ _ (c.in-Ok.ensures.kept p holds) c.in-Ok.ensures.released; stands = λ p holds. c.in-Ok.ensures.staged p holds }))

pub returns-in-Ok-push-clause-staged : goal.returns-in-Ok-push-clause-staged
returns-in-Ok-push-clause-staged g c = record {
  given = c.as_slice.result.now;
  are = subst AreMessages (sym c.as_slice.ensures) (are_messages _ c.in-Ok.ensures.messages);
  by_index = index_step _ _ (memory_of c.args.node.now) (memory_of c.stage_msg.new.self) c.args.message.now _ c.as_slice.result.now c.as_slice.ensures c.in-Ok.ensures.by_index c.in-Ok.ensures.released;
  waits = c.in-Ok-push.ensures.ok ∙ ap (λ (bytes : List ℕ). waiting_in c.args.group.now.answers.items ++ (c.args.peer, bytes) ∷ []) c.in-Ok-frames.ensures;
  step = λ p holds. (c.as_slice.ensures ∙ c.in-Ok.ensures.replies p holds, state_is _ _ _ _ (c.in-Ok.ensures.kept p holds) c.in-Ok.ensures.released);
  stands = λ p holds. c.in-Ok.ensures.staged p holds;
}

pub returns-clause-off : goal.returns-clause-off
returns-clause-off g c =
    inr (inr (record { cause = refl; step = λ p holds. state_is _ _ _ _ (c.in-Ok.ensures.kept p holds) c.in-Ok.ensures.released; stands = λ p holds. c.in-Ok.ensures.staged p holds }))
