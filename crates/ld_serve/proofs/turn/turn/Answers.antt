use Rattle.std.proofs.Common.{[], ◌∷◌, Err, subst, sym, ap, ◌∙◌, refl, inl, inr, ⊎_elim}
use Rattle.std.specs.Prelude.{⊤}
use Rattle.std.proofs.lemmas.Result.{err_from_is_err_and}
use Rattle.ld_wire.specs.Streams.{AreMessages}
use Rattle.ld_node.specs.Node.{plain_of, disk_of}
use Rattle.ld_serve.specs.Stops.{LinkCounts}
use Rattle.ld_serve.specs.Serving.{state_of}
use Rattle.ld_serve.proofs.Serving.{state_is, state_stays, stand, past_limit, left_now}
use Rattle.ld_serve.proofs.Stops.{unread_serving, unread_counts, node_serving, node_held, unsent_serving, unsent_counts}
use Rattle.ld_serve.proofs.Courses.{unheard, ended_turn, refused, cut_short, framed_turn}
use Rattle.ld_serve.proofs.Frames.{are_messages}
use Rattle.ld_serve.specs.Told.{Reading, Refusing, Answering, Stops, memory_of}
use Rattle.ld_serve.proofs.Telling.{index_step}
use Rattle.ld_serve.proofs.turn.turn.Goals as goal

pub returns-in_err-message-clause-heard : goal.returns-in_err-message-clause-heard
returns-in_err-message-clause-heard g c =
    let p = err_from_is_err_and c.from_residual.result c.from_residual.ensures.1 in
    rw (p.1, p.2) (record {
      given = [];
      are = tt;
      turned = λ start all more turns w. unheard _ _ _ start all _ _ _ _ _ _ turns (λ held unread. unread) w c.in_err-message.ensures.heard refl;
    })

pub returns-in_default-clause-heard : goal.returns-in_default-clause-heard
returns-in_default-clause-heard g c = record {
  given = [];
  are = tt;
  turned = λ start all more turns w. ended_turn _ _ start all _ _ _ c.next_frame.new.decoder _ turns w (rw c.in_default.is at c.in_ok-message.ensures.heard);
}

pub returns-in-Err-clause-heard : goal.returns-in-Err-clause-heard
returns-in-Err-clause-heard g c = record {
  given = [];
  are = tt;
  turned = λ start all more turns w. refused _ _ _ start all _ _ _ c.in-Some.message c.next_frame.new.decoder _ _ turns c.stop_of.ensures.cause
      w (rw c.in-Some.is at c.in_ok-message.ensures.heard) (rw c.in-Some.is at c.in_ok-message.ensures.message) refl;
}

pub returns-in_err-answer-clause-heard : goal.returns-in_err-answer-clause-heard
returns-in_err-answer-clause-heard g c =
    let p = err_from_is_err_and c.from_residual-in_err-answer.result c.from_residual-in_err-answer.ensures.1 in
    rw (p.1, p.2) (record {
      given = c.as_slice.result.now ∷ [];
      are = (subst AreMessages (sym c.as_slice.ensures) (are_messages _ c.in-Ok.ensures.messages), tt);
      turned = λ start all more turns w. cut_short _ _ _ start all _ _ _ _ c.in-Some.message c.next_frame.new.decoder c.as_slice.result.now _ _ turns c.in_err-answer.ensures.cause
          w (rw c.in-Some.is at c.in_ok-message.ensures.heard) (rw c.in-Some.is at c.in_ok-message.ensures.message) c.in_err-answer.ensures.written refl refl;
    })

pub returns-clause-heard : goal.returns-clause-heard
returns-clause-heard g c = record {
  given = c.as_slice.result.now ∷ [];
  are = (subst AreMessages (sym c.as_slice.ensures) (are_messages _ c.in-Ok.ensures.messages), tt);
  turned = λ start all more turns w. framed_turn _ _ start all _ _ _ _ c.in-Some.message c.next_frame.new.decoder c.as_slice.result.now _ _ turns
      w (rw c.in-Some.is at c.in_ok-message.ensures.heard) (rw c.in-Some.is at c.in_ok-message.ensures.message) c.in_ok-answer.ensures.written refl refl;
}

pub returns-in_err-message-clause-turned : goal.returns-in_err-message-clause-turned
returns-in_err-message-clause-turned g c start s turns holds w =
    let p = err_from_is_err_and c.from_residual.result c.from_residual.ensures.1 in
    let node = c.args.node.now in
    rw (p.1, p.2) (state_of node, inr refl, unheard _ _ _ start s _ _ _ _ _ _ turns (λ held unread. (unread, stand g.D.Disk.seen g.D.Disk.may_leave node (plain_of node) refl holds)) w c.in_err-message.ensures.heard refl)

pub returns-in_default-clause-turned : goal.returns-in_default-clause-turned
returns-in_default-clause-turned g c start s turns holds w =
    ended_turn _ _ start s _ _ _ c.next_frame.new.decoder _ turns w (rw c.in_default.is at c.in_ok-message.ensures.heard)

pub answer-requires : goal.answer-requires
answer-requires g c = subst AreMessages (sym c.as_slice.ensures) (are_messages _ c.in-Ok.ensures.messages)

pub returns-in_err-message-clause-stops : goal.returns-in_err-message-clause-stops
returns-in_err-message-clause-stops g c =
    let p = err_from_is_err_and c.from_residual.result c.from_residual.ensures.1 in
    rw (p.1, p.2) (unread_serving _ _ _ c.in_err-message.ensures.cause.1)

pub returns-in_err-message-clause-disk_counts : goal.returns-in_err-message-clause-disk_counts
returns-in_err-message-clause-disk_counts g c =
    let p = err_from_is_err_and c.from_residual.result c.from_residual.ensures.1 in
    rw (p.1, p.2) (unread_counts _ _ _ _ c.in_err-message.ensures.cause.1 refl)

pub returns-in-Err-clause-turned : goal.returns-in-Err-clause-turned
returns-in-Err-clause-turned g c start s turns holds w =
    let old = c.args.node.now in
    let new = c.on_msg.new.self in (
      state_of old,
      ⊎_elim (λ e. inl (c.stop_of.ensures.disk cc)) (λ same. inr (state_stays old new same.bytes c.in-Err.ensures.refused.0 c.in-Err.ensures.refused.3)) c.in-Err.ensures.stays,
      refused _ _ _ start s _ _ _ c.in-Some.message c.next_frame.new.decoder _ _ turns (
        node_held ⊤ _ c.stop_of.ensures.cause (λ place is t. c.in-Err.ensures.damaged place holds (ap Err (c.stop_of.ensures.damaged place is))),
        left_now g.D.Disk.may_leave g.D.Disk.moment g.D.Disk.left_since g.met.D.Disk.counts_now (disk_of old) (disk_of new) _ (c.in-Err.ensures.any_moment holds),
        λ full.
            let is_full = c.stop_of.ensures.full full in
            past_limit g.D.Disk.seen g.D.Disk.may_leave old new _ (⊎_elim (λ disk. absurd cc) (λ same. state_stays old new same.bytes c.in-Err.ensures.refused.0 c.in-Err.ensures.refused.3) c.in-Err.ensures.stays)
            c.in-Err.ensures.refused.1 (⊎_elim (λ disk. absurd cc) (λ still. still) (c.in-Err.ensures.holds holds)) (c.in-Err.ensures.full holds (ap Err is_full)),
      )
          w (rw c.in-Some.is at c.in_ok-message.ensures.heard) (rw c.in-Some.is at c.in_ok-message.ensures.message) refl,
    )

pub returns-in-Err-clause-stops : goal.returns-in-Err-clause-stops
returns-in-Err-clause-stops g c = node_serving _ _ (node_held _ _ c.stop_of.ensures.cause (λ place is holds. c.in-Err.ensures.damaged place holds (ap Err (c.stop_of.ensures.damaged place is))))

pub returns-in-Err-clause-link_counts : goal.returns-in-Err-clause-link_counts
returns-in-Err-clause-link_counts g c = c.stop_of.ensures.link_counts _ _ c.in_ok-message.ensures.counts

pub returns-in-Err-clause-disk_counts : goal.returns-in-Err-clause-disk_counts
returns-in-Err-clause-disk_counts g c = c.stop_of.ensures.disk_counts _ _ (λ e. c.in-Err.ensures.failed (ap Err e)) (⊎_elim (λ e. inl cc) (λ same. inr same) c.in-Err.ensures.steady)

pub returns-in_err-answer-clause-turned : goal.returns-in_err-answer-clause-turned
returns-in_err-answer-clause-turned g c start s turns holds w =
    let p = err_from_is_err_and c.from_residual-in_err-answer.result c.from_residual-in_err-answer.ensures.1 in
    let new = c.on_msg.new.self in
    let kept = c.in-Ok.ensures.kept holds in
    rw (p.1, p.2) (
      state_of new,
      inr refl,
      cut_short _ _ _ start s _ _ _ _ c.in-Some.message c.next_frame.new.decoder c.as_slice.result.now _ _ turns
          (c.in_err-answer.ensures.cause, stand g.D.Disk.seen g.D.Disk.may_leave new _ (sym kept) (c.in-Ok.ensures.acknowledged holds))
          w (rw c.in-Some.is at c.in_ok-message.ensures.heard) (rw c.in-Some.is at c.in_ok-message.ensures.message)
          c.in_err-answer.ensures.written (c.as_slice.ensures ∙ c.in-Ok.ensures.replies holds) (state_is _ _ _ _ kept c.in-Ok.ensures.released),
    )

pub returns-in_err-answer-clause-stops : goal.returns-in_err-answer-clause-stops
returns-in_err-answer-clause-stops g c =
    let p = err_from_is_err_and c.from_residual-in_err-answer.result c.from_residual-in_err-answer.ensures.1 in
    rw (p.1, p.2) (unsent_serving _ _ c.in_err-answer.ensures.cause)

pub returns-in_err-answer-clause-link_counts : goal.returns-in_err-answer-clause-link_counts
returns-in_err-answer-clause-link_counts g c =
    let p = err_from_is_err_and c.from_residual-in_err-answer.result c.from_residual-in_err-answer.ensures.1 in
    rw (p.1, p.2) (subst (λ n. LinkCounts n (g.L.Link.faults c.answer.new.link) c.in_err-answer.field-0.0) c.in_ok-message.ensures.counts c.in_err-answer.ensures.counts)

pub returns-in_err-answer-clause-disk_counts : goal.returns-in_err-answer-clause-disk_counts
returns-in_err-answer-clause-disk_counts g c =
    let p = err_from_is_err_and c.from_residual-in_err-answer.result c.from_residual-in_err-answer.ensures.1 in
    rw (p.1, p.2) (unsent_counts _ _ _ c.in_err-answer.ensures.cause (⊎_elim (λ none. absurd cc) (λ same. same) c.in-Ok.ensures.steady))

pub returns-clause-holds : goal.returns-clause-holds
returns-clause-holds g c holds = c.in-Ok.ensures.acknowledged holds

pub returns-clause-turned : goal.returns-clause-turned
returns-clause-turned g c start s turns holds w =
    framed_turn _ _ start s _ _ _ _ c.in-Some.message c.next_frame.new.decoder c.as_slice.result.now _ _ turns w (rw c.in-Some.is at c.in_ok-message.ensures.heard)
    (rw c.in-Some.is at c.in_ok-message.ensures.message) c.in_ok-answer.ensures.written (c.as_slice.ensures ∙ c.in-Ok.ensures.replies holds)
    (state_is _ _ _ _ (c.in-Ok.ensures.kept holds) c.in-Ok.ensures.released)

-- ---- by the calls of the link ----

pub returns-in_err-message-clause-told : goal.returns-in_err-message-clause-told
returns-in_err-message-clause-told g c =
    let p = err_from_is_err_and c.from_residual.result c.from_residual.ensures.1 in
    let node = c.args.node.now in
    let some = c.in_err-message.ensures.waiting in
    rw (p.1, p.2) (record {
      halt = Reading some.held;
      last = Stops.reading _ _ some.held some.reads some.cause;
      by_index = refl;
      exact = λ holds. (record { its = tt; cut = (some.cause, stand g.D.Disk.seen g.D.Disk.may_leave node (plain_of node) refl holds) }, inr refl);
    })

pub returns-in_default-clause-told : goal.returns-in_default-clause-told
returns-in_default-clause-told g c = record { rest = c.next_frame.new.decoder.bytes; reads = rw c.in_default.is at c.in_ok-message.ensures.waiting; stays = refl; same = λ _. refl }

pub returns-in-Err-clause-told : goal.returns-in-Err-clause-told
returns-in-Err-clause-told g c =
    let old = c.args.node.now in
    let new = c.on_msg.new.self in
    let reads = rw c.in-Some.is at c.in_ok-message.ensures.waiting in
    let is = rw c.in-Some.is at c.in_ok-message.ensures.message in
    record {
      halt = Refusing c.in-Some.message;
      last = Stops.refusing _ _ c.next_frame.new.decoder.bytes c.in-Some.message reads is c.stop_of.ensures.cause;
      by_index = (λ i. record { layout = c.in-Err.ensures.refused.1 i; released = c.in-Err.ensures.refused.3 i });
      exact = λ holds. (
        record {
          its = tt;
          cut = (
            node_held ⊤ _ c.stop_of.ensures.cause (λ place is t. c.in-Err.ensures.damaged place holds (ap Err (c.stop_of.ensures.damaged place is))),
            left_now g.D.Disk.may_leave g.D.Disk.moment g.D.Disk.left_since g.met.D.Disk.counts_now (disk_of old) (disk_of new) _ (c.in-Err.ensures.any_moment holds),
            λ full.
                let is_full = c.stop_of.ensures.full full in
                past_limit g.D.Disk.seen g.D.Disk.may_leave old new _ (⊎_elim (λ disk. absurd cc) (λ same. state_stays old new same.bytes c.in-Err.ensures.refused.0 c.in-Err.ensures.refused.3) c.in-Err.ensures.stays)
                c.in-Err.ensures.refused.1 (⊎_elim (λ disk. absurd cc) (λ still. still) (c.in-Err.ensures.holds holds)) (c.in-Err.ensures.full holds (ap Err is_full)),
          );
        },
        ⊎_elim (λ e. inl (c.stop_of.ensures.disk cc)) (λ same. inr (state_stays old new same.bytes c.in-Err.ensures.refused.0 c.in-Err.ensures.refused.3)) c.in-Err.ensures.stays,
      );
    }

pub returns-in_err-answer-clause-told : goal.returns-in_err-answer-clause-told
returns-in_err-answer-clause-told g c =
    let p = err_from_is_err_and c.from_residual-in_err-answer.result c.from_residual-in_err-answer.ensures.1 in
    let new = c.on_msg.new.self in
    let reads = rw c.in-Some.is at c.in_ok-message.ensures.waiting in
    let is = rw c.in-Some.is at c.in_ok-message.ensures.message in
    let are = subst AreMessages (sym c.as_slice.ensures) (are_messages _ c.in-Ok.ensures.messages) in
    rw (p.1, p.2) (record {
      halt = Answering c.in-Some.message c.as_slice.result.now;
      last = Stops.answering _ _ _ c.next_frame.new.decoder.bytes c.in-Some.message c.as_slice.result.now reads is c.in_err-answer.ensures.did are c.in_err-answer.ensures.cause;
      by_index = index_step _ _ (memory_of c.args.node.now) (memory_of new) c.in-Some.message _ c.as_slice.result.now c.as_slice.ensures c.in-Ok.ensures.by_index c.in-Ok.ensures.released;
      exact = λ holds.
          let kept = c.in-Ok.ensures.kept holds in (
            record {
              its = c.as_slice.ensures ∙ c.in-Ok.ensures.replies holds;
              cut = (c.in_err-answer.ensures.cause, stand g.D.Disk.seen g.D.Disk.may_leave new _ (sym kept) (c.in-Ok.ensures.acknowledged holds));
            },
            inr (sym (state_is _ _ _ _ kept c.in-Ok.ensures.released)),
          );
    })

pub returns-clause-told : goal.returns-clause-told
returns-clause-told g c = record {
  mid = g.L.Link.did c.next_frame.new.link;
  message = c.in-Some.message;
  given = c.as_slice.result.now;
  reads = rw c.in-Some.is at c.in_ok-message.ensures.waiting;
  is = rw c.in-Some.is at c.in_ok-message.ensures.message;
  writes = c.in_ok-answer.ensures.did;
  are = subst AreMessages (sym c.as_slice.ensures) (are_messages _ c.in-Ok.ensures.messages);
  by_index = index_step _ _ (memory_of c.args.node.now) (memory_of c.on_msg.new.self) c.in-Some.message _ c.as_slice.result.now c.as_slice.ensures c.in-Ok.ensures.by_index c.in-Ok.ensures.released;
  step = λ holds. (c.as_slice.ensures ∙ c.in-Ok.ensures.replies holds, state_is _ _ _ _ (c.in-Ok.ensures.kept holds) c.in-Ok.ensures.released);
}
