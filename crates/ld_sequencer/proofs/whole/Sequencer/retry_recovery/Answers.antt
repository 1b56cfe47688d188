use Rattle.std.proofs.Common.{◌≡◌, ◌⊎◌, ◌∙◌, IfErr, take, sym, ap, true, false}
use Rattle.ld_register.specs.declared.fault.RegisterFault.TheVariants as registers
use Rattle.ld_sequencer.specs.declared.fault.SequencerFault.TheVariants as faults
use Rattle.ld_msg.specs.Register.{is_crowded}
use Rattle.ld_sequencer.proofs.Asking.{recovery_exact, recovery_acted, recovery_held, recovery_refused, recovery_room, recovery_changed, recovery_caused, recovery_log}
use Rattle.ld_recovery.proofs.Begins.{taken_back}
use Rattle.ld_sequencer.proofs.Unsent.{due_begins, lacked, has_memory}
use Rattle.ld_sequencer.proofs.whole.Sequencer.retry_recovery.Goals as goal

pub returns-in-Ok-clause-exact : goal.returns-in-Ok-clause-exact
returns-in-Ok-clause-exact g c = λ x h.
    let u = sym c.is_spent.ensures ∙ c.if-is_spent.false in
    recovery_exact c.args.self.now c.try_again.new.self c.empty-sends.result c.try_again.new.out u (λ looks. c.in_ok-try_again.ensures.now looks) c.empty-sends.ensures (λ looks. c.in_ok-try_again.ensures.out looks) c.close_due-report.new.self c.close_due-report.result c.args.out.now c.close_due-report.new.out c.send_all.new.out x (g.G.Register.tells c.close_due-report.new.reg) c.in-Ok.ensures.sent (c.close_due-report.ensures.exact x h)

pub returns-in-Ok-clause-acted : goal.returns-in-Ok-clause-acted
returns-in-Ok-clause-acted g c =
    let u = sym c.is_spent.ensures ∙ c.if-is_spent.false in
    recovery_acted c.args.self.now c.try_again.new.self c.empty-sends.result c.try_again.new.out u (λ looks. c.in_ok-try_again.ensures.now looks) c.empty-sends.ensures (λ looks. c.in_ok-try_again.ensures.out looks) c.close_due-report.new.self c.close_due-report.result c.args.out.now c.close_due-report.new.out c.send_all.new.out c.in-Ok.ensures.sent c.close_due-report.ensures.acted

pub returns-in-Ok-clause-held : goal.returns-in-Ok-clause-held
returns-in-Ok-clause-held g c = λ x h.
    let u = sym c.is_spent.ensures ∙ c.if-is_spent.false in
    recovery_held c.args.self.now c.try_again.new.self c.empty-sends.result c.try_again.new.out u (λ looks. c.in_ok-try_again.ensures.now looks) c.empty-sends.ensures (λ looks. c.in_ok-try_again.ensures.out looks) c.close_due-report.new.self c.close_due-report.result c.args.out.now c.close_due-report.new.out c.send_all.new.out x (g.G.Register.holds c.close_due-report.new.reg) c.in-Ok.ensures.sent (c.close_due-report.ensures.held x h)

pub returns-in-Ok-clause-refused : goal.returns-in-Ok-clause-refused
returns-in-Ok-clause-refused g c =
    let u = sym c.is_spent.ensures ∙ c.if-is_spent.false in
    recovery_refused c.args.self.now c.try_again.new.self c.empty-sends.result c.try_again.new.out u (λ looks. c.in_ok-try_again.ensures.now looks) c.empty-sends.ensures (λ looks. c.in_ok-try_again.ensures.out looks) c.close_due-report.new.self c.close_due-report.result c.args.out.now c.close_due-report.new.out c.send_all.new.out c.in-Ok.ensures.sent c.close_due-report.ensures.refused

pub returns-in-Ok-clause-room : goal.returns-in-Ok-clause-room
returns-in-Ok-clause-room g c = λ x h.
    let u = sym c.is_spent.ensures ∙ c.if-is_spent.false in
    recovery_room c.args.self.now c.try_again.new.self c.empty-sends.result c.try_again.new.out u (λ looks. c.in_ok-try_again.ensures.now looks) c.empty-sends.ensures (λ looks. c.in_ok-try_again.ensures.out looks) c.close_due-report.result x (λ l. is_crowded x l ≡ false) (c.close_due-report.ensures.room x h)

pub returns-in-Ok-clause-done_or_not : goal.returns-in-Ok-clause-done_or_not
returns-in-Ok-clause-done_or_not g c = λ looks t.
    let u = sym c.is_spent.ensures ∙ c.if-is_spent.false in
    recovery_changed c.args.self.now c.try_again.new.self c.empty-sends.result c.try_again.new.out u (λ looks. c.in_ok-try_again.ensures.now looks) c.empty-sends.ensures (λ looks. c.in_ok-try_again.ensures.out looks) looks (g.G.Register.may_hold c.args.reg.now) (g.G.Register.may_hold c.close_due-report.new.reg) (c.close_due-report.ensures.done_or_not t)

pub returns-in-Ok-clause-caused : goal.returns-in-Ok-clause-caused
returns-in-Ok-clause-caused g c = λ t.
    let u = sym c.is_spent.ensures ∙ c.if-is_spent.false in
    recovery_caused c.args.self.now c.try_again.new.self c.empty-sends.result c.try_again.new.out u (λ looks. c.in_ok-try_again.ensures.now looks) c.empty-sends.ensures (λ looks. c.in_ok-try_again.ensures.out looks) c.close_due-report.result (g.G.Register.holds c.args.reg.now) (g.G.Register.damaged c.args.reg.now) (c.close_due-report.ensures.caused t)

pub returns-in-Ok-clause-crowded : goal.returns-in-Ok-clause-crowded
returns-in-Ok-clause-crowded g c = λ x h.
    let u = sym c.is_spent.ensures ∙ c.if-is_spent.false in
    recovery_log c.args.self.now c.try_again.new.self c.empty-sends.result c.try_again.new.out u (λ looks. c.in_ok-try_again.ensures.now looks) c.empty-sends.ensures (λ looks. c.in_ok-try_again.ensures.out looks) (λ l. IfErr c.close_due-report.result (λ fault. (fault ≡ faults.NoMemory) ⊎ ((fault ≡ faults.Register registers.LogLimit) × (is_crowded x l ≡ true) × g.G.Register.tells c.close_due-report.new.reg x))) (c.close_due-report.ensures.crowded x h)

pub returns-then-lacks_memory-clause-done_or_not : goal.returns-then-lacks_memory-clause-done_or_not
returns-then-lacks_memory-clause-done_or_not g c = λ looks t.
    let u = sym c.is_spent.ensures ∙ c.if-is_spent.false in
    recovery_changed c.args.self.now c.try_again.new.self c.empty-sends.result c.try_again.new.out u (λ looks. c.in_ok-try_again.ensures.now looks) c.empty-sends.ensures (λ looks. c.in_ok-try_again.ensures.out looks) looks (g.G.Register.may_hold c.args.reg.now) (g.G.Register.may_hold c.close_due-report.new.reg) (c.close_due-report.ensures.done_or_not t)

pub returns-then-lacks_memory-clause-unsent : goal.returns-then-lacks_memory-clause-unsent
returns-then-lacks_memory-clause-unsent g c = λ e. c.close_due-report.ensures.unsent (lacked _ (sym c.lacks_memory.ensures ∙ c.if-lacks_memory.true))

pub returns-in-Ok-clause-unsent : goal.returns-in-Ok-clause-unsent
returns-in-Ok-clause-unsent g c = λ e. absurd (has_memory _ (sym c.lacks_memory.ensures ∙ c.if-lacks_memory.false) e)

pub returns-in-Err-clause-unsent : goal.returns-in-Err-clause-unsent
returns-in-Err-clause-unsent g c = λ e.
    let begun = due_begins c.try_again.new.self c.close_due-report.new.self c.close_due-report.result c.args.out.now c.close_due-report.new.out c.close_due-report.ensures.acted c.close_due-report.ensures.refused c.close_due-report.ensures.unsent in
    taken_back c.args.out.now c.close_due-report.new.out c.truncate.new.self c.len-count.result c.len-count.ensures (c.truncate.ensures ∙ ap (take c.len-count.result) c.in-Err.ensures.unsent) begun
