use Rattle.std.proofs.Common.{◌≡◌, ◌++◌, ◌∙◌, sym, ap, inr, false}
use Rattle.ld_msg.specs.Register.{is_crowded}
use Rattle.std.proofs.Common.{is_some}
use Rattle.ld_sequencer.specs.Whole.{Whole, joined, sent_as, raised_whole, pending_stores}
use Rattle.ld_sequencer.proofs.Serving.{first_of}
use Rattle.ld_sequencer.proofs.Retrying.{still_exact, still_acted, still_room, retry_exact, retry_acted, retry_held, retry_refused, retry_room, retry_changed}
use Rattle.ld_recovery.proofs.Begins.{taken_back}
use Rattle.ld_sequencer.proofs.Unsent.{retry_begins, lacked, has_memory}
use Rattle.ld_sequencer.proofs.whole.Sequencer.retry.Goals as goal

pub returns-then-is_preempted-clause-exact : goal.returns-then-is_preempted-clause-exact
returns-then-is_preempted-clause-exact g c = λ x h. let w = c.args.self.now in let t = c.nothing.ensures in let p = ap (λ (z : Whole). is_some z.sequencer.preempted) (sym c.self.view_is) ∙ (sym c.is_preempted.ensures ∙ c.if-is_preempted.true) in
    still_exact w c.nothing.result c.args.out.now p t.acked t.closed t.preempted t.failed t.released x (g.G.Register.tells c.args.reg.now) h

pub returns-then-is_preempted-clause-acted : goal.returns-then-is_preempted-clause-acted
returns-then-is_preempted-clause-acted g c = let w = c.args.self.now in let t = c.nothing.ensures in let p = ap (λ (z : Whole). is_some z.sequencer.preempted) (sym c.self.view_is) ∙ (sym c.is_preempted.ensures ∙ c.if-is_preempted.true) in
    still_acted w c.nothing.result c.args.out.now p t.acked t.closed t.preempted t.failed t.released w.origin.first (first_of w c.self.inside.own c.self.inside.recovery c.self.view_is c.self.invariant)

pub returns-then-is_preempted-clause-held : goal.returns-then-is_preempted-clause-held
returns-then-is_preempted-clause-held g c = λ x h. let w = c.args.self.now in let t = c.nothing.ensures in let p = ap (λ (z : Whole). is_some z.sequencer.preempted) (sym c.self.view_is) ∙ (sym c.is_preempted.ensures ∙ c.if-is_preempted.true) in
    inr (still_exact w c.nothing.result c.args.out.now p t.acked t.closed t.preempted t.failed t.released x (g.G.Register.holds c.args.reg.now) h)

pub returns-then-is_preempted-clause-room : goal.returns-then-is_preempted-clause-room
returns-then-is_preempted-clause-room g c = λ x h. let w = c.args.self.now in let t = c.nothing.ensures in let p = ap (λ (z : Whole). is_some z.sequencer.preempted) (sym c.self.view_is) ∙ (sym c.is_preempted.ensures ∙ c.if-is_preempted.true) in
    still_room w x (is_crowded x w.sequencer.log ≡ false) p

pub returns-clause-exact : goal.returns-clause-exact
returns-clause-exact g c = λ x h.
    let w = c.args.self.now in let m = c.self.inside.recovery in let n = c.retry_recovery-report.new.self in let r = c.retry_recovery-report.result in let om = c.retry_recovery-report.new.out in
    let v = joined c.raise.new.self m in
    let e = ap raised_whole (sym c.self.view_is) ∙ ap (λ x. joined x m) (sym c.raise.ensures) in
    let p = ap (λ (z : Whole). is_some z.sequencer.preempted) (sym c.self.view_is) ∙ (sym c.is_preempted.ensures ∙ c.if-is_preempted.false) in
    let s = c.in_ok-send_behind.ensures.sent ∙ ap (λ (z : Whole). om ++ sent_as z (pending_stores z)) c.self-2.view_is in
    retry_exact w v n r c.args.out.now om c.send_behind.new.out x (g.G.Register.tells c.retry_recovery-report.new.reg) e p s (c.retry_recovery-report.ensures.exact x h)

pub returns-clause-acted : goal.returns-clause-acted
returns-clause-acted g c =
    let w = c.args.self.now in let m = c.self.inside.recovery in let n = c.retry_recovery-report.new.self in let r = c.retry_recovery-report.result in let om = c.retry_recovery-report.new.out in
    let v = joined c.raise.new.self m in
    let e = ap raised_whole (sym c.self.view_is) ∙ ap (λ x. joined x m) (sym c.raise.ensures) in
    let p = ap (λ (z : Whole). is_some z.sequencer.preempted) (sym c.self.view_is) ∙ (sym c.is_preempted.ensures ∙ c.if-is_preempted.false) in
    let s = c.in_ok-send_behind.ensures.sent ∙ ap (λ (z : Whole). om ++ sent_as z (pending_stores z)) c.self-2.view_is in
    retry_acted w v n r c.args.out.now om c.send_behind.new.out e p s c.retry_recovery-report.ensures.acted

pub returns-clause-held : goal.returns-clause-held
returns-clause-held g c = λ x h.
    let w = c.args.self.now in let m = c.self.inside.recovery in let n = c.retry_recovery-report.new.self in let r = c.retry_recovery-report.result in let om = c.retry_recovery-report.new.out in
    let v = joined c.raise.new.self m in
    let e = ap raised_whole (sym c.self.view_is) ∙ ap (λ x. joined x m) (sym c.raise.ensures) in
    let p = ap (λ (z : Whole). is_some z.sequencer.preempted) (sym c.self.view_is) ∙ (sym c.is_preempted.ensures ∙ c.if-is_preempted.false) in
    let s = c.in_ok-send_behind.ensures.sent ∙ ap (λ (z : Whole). om ++ sent_as z (pending_stores z)) c.self-2.view_is in
    retry_held w v n r c.args.out.now om c.send_behind.new.out x (g.G.Register.holds c.retry_recovery-report.new.reg) e p s (c.retry_recovery-report.ensures.held x h)

pub returns-clause-refused : goal.returns-clause-refused
returns-clause-refused g c =
    let w = c.args.self.now in let m = c.self.inside.recovery in let n = c.retry_recovery-report.new.self in let r = c.retry_recovery-report.result in let om = c.retry_recovery-report.new.out in
    let v = joined c.raise.new.self m in
    let e = ap raised_whole (sym c.self.view_is) ∙ ap (λ x. joined x m) (sym c.raise.ensures) in
    let p = ap (λ (z : Whole). is_some z.sequencer.preempted) (sym c.self.view_is) ∙ (sym c.is_preempted.ensures ∙ c.if-is_preempted.false) in
    let s = c.in_ok-send_behind.ensures.sent ∙ ap (λ (z : Whole). om ++ sent_as z (pending_stores z)) c.self-2.view_is in
    retry_refused w v n r c.args.out.now om c.send_behind.new.out e p s c.retry_recovery-report.ensures.refused

pub returns-clause-room : goal.returns-clause-room
returns-clause-room g c = λ x h.
    let w = c.args.self.now in let m = c.self.inside.recovery in let n = c.retry_recovery-report.new.self in let r = c.retry_recovery-report.result in let om = c.retry_recovery-report.new.out in
    let v = joined c.raise.new.self m in
    let e = ap raised_whole (sym c.self.view_is) ∙ ap (λ x. joined x m) (sym c.raise.ensures) in
    let p = ap (λ (z : Whole). is_some z.sequencer.preempted) (sym c.self.view_is) ∙ (sym c.is_preempted.ensures ∙ c.if-is_preempted.false) in
    let s = c.in_ok-send_behind.ensures.sent ∙ ap (λ (z : Whole). om ++ sent_as z (pending_stores z)) c.self-2.view_is in
    retry_room w v r x (λ l. is_crowded x l ≡ false) e p (c.retry_recovery-report.ensures.room x h)

pub returns-in_err-send_behind-clause-done_or_not : goal.returns-in_err-send_behind-clause-done_or_not
returns-in_err-send_behind-clause-done_or_not g c = λ looks t.
    let w = c.args.self.now in let m = c.self.inside.recovery in
    let v = joined c.raise.new.self m in
    let e = ap raised_whole (sym c.self.view_is) ∙ ap (λ x. joined x m) (sym c.raise.ensures) in
    let p = ap (λ (z : Whole). is_some z.sequencer.preempted) (sym c.self.view_is) ∙ (sym c.is_preempted.ensures ∙ c.if-is_preempted.false) in
    retry_changed looks w v (g.G.Register.may_hold c.args.reg.now) (g.G.Register.may_hold c.retry_recovery-report.new.reg) e p (c.retry_recovery-report.ensures.done_or_not looks t)

pub returns-clause-done_or_not : goal.returns-clause-done_or_not
returns-clause-done_or_not g c = λ looks t.
    let w = c.args.self.now in let m = c.self.inside.recovery in
    let v = joined c.raise.new.self m in
    let e = ap raised_whole (sym c.self.view_is) ∙ ap (λ x. joined x m) (sym c.raise.ensures) in
    let p = ap (λ (z : Whole). is_some z.sequencer.preempted) (sym c.self.view_is) ∙ (sym c.is_preempted.ensures ∙ c.if-is_preempted.false) in
    retry_changed looks w v (g.G.Register.may_hold c.args.reg.now) (g.G.Register.may_hold c.retry_recovery-report.new.reg) e p (c.retry_recovery-report.ensures.done_or_not looks t)

pub returns-then-lacks_memory-clause-done_or_not : goal.returns-then-lacks_memory-clause-done_or_not
returns-then-lacks_memory-clause-done_or_not g c = λ looks t.
    let w = c.args.self.now in let m = c.self.inside.recovery in
    let v = joined c.raise.new.self m in
    let e = ap raised_whole (sym c.self.view_is) ∙ ap (λ x. joined x m) (sym c.raise.ensures) in
    let p = ap (λ (z : Whole). is_some z.sequencer.preempted) (sym c.self.view_is) ∙ (sym c.is_preempted.ensures ∙ c.if-is_preempted.false) in
    retry_changed looks w v (g.G.Register.may_hold c.args.reg.now) (g.G.Register.may_hold c.retry_recovery-report.new.reg) e p (c.retry_recovery-report.ensures.done_or_not looks t)

pub returns-then-lacks_memory-clause-unsent : goal.returns-then-lacks_memory-clause-unsent
returns-then-lacks_memory-clause-unsent g c = λ e. c.retry_recovery-report.ensures.unsent (lacked _ (sym c.lacks_memory.ensures ∙ c.if-lacks_memory.true))

pub returns-in_err-send_behind-clause-unsent : goal.returns-in_err-send_behind-clause-unsent
returns-in_err-send_behind-clause-unsent g c = λ e.
    let v = joined c.raise.new.self c.self.inside.recovery in
    let begun = retry_begins v c.retry_recovery-report.new.self c.retry_recovery-report.result c.args.out.now c.retry_recovery-report.new.out c.retry_recovery-report.ensures.acted c.retry_recovery-report.ensures.refused c.retry_recovery-report.ensures.unsent in
    taken_back c.args.out.now c.retry_recovery-report.new.out c.send_behind.new.out c.len-count.result c.len-count.ensures c.in_err-send_behind.ensures.left begun

pub returns-clause-unsent : goal.returns-clause-unsent
returns-clause-unsent g c = λ e. absurd (has_memory _ (sym c.lacks_memory.ensures ∙ c.if-lacks_memory.false) e)
