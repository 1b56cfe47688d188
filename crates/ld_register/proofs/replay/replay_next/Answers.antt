use Rattle.std.proofs.Common.{◌≡◌, Ok, Err, subst, ap, sym, ◌∙◌, ⊎_elim}
use Rattle.ld_register.specs.Stands.{IsDamaged}
use Rattle.ld_register.specs.Faults.{passed_on}
use Rattle.ld_register.specs.declared.fault.RegisterFault.TheVariants as registers
use Rattle.ld_register.proofs.Leading.{one_more, foreign, cut_off}
use Rattle.ld_register.proofs.Refusing.{of_damaged, err_is, same_place, no_place}
use Rattle.ld_register.specs.Changes.{IsNext}
use Rattle.ld_register.proofs.replay.replay_next.Goals as goal

pub returns-in_err-more-clause-damaged : goal.returns-in_err-more-clause-damaged
returns-in_err-more-clause-damaged g c place is bytes has =
    let D = g.D.Disk in
    let told = ap Err (of_damaged c.in_err-more.field-0.0 place (sym (err_is c.from_residual.result (registers.Damaged place) (λ e. e ≡ passed_on c.in_err-more.field-0.0) c.from_residual.ensures.1 is))) in
    cut_off D.seen D.may_leave c.args.journal.now bytes c.args.contents.now place has (c.in_err-more.ensures.cut place told has.bodies has.rest has.given)

pub returns-in_err-replay_body-clause-damaged : goal.returns-in_err-replay_body-clause-damaged
returns-in_err-replay_body-clause-damaged g c place is bytes has =
    let D = g.D.Disk in
    let told = err_is c.from_residual-in_err-replay_body.result (registers.Damaged place) (λ e. e ≡ c.in_err-replay_body.field-0.0) c.from_residual-in_err-replay_body.ensures.1 is in
    ⊎_elim
    (λ none. absurd (no_place place (sym none ∙ sym told)))
    (λ bad. subst (λ n. IsDamaged n bytes) (sym c.place-at.ensures ∙ same_place c.place-at.result place (sym bad.0 ∙ sym told))
    (foreign D.seen D.may_leave c.args.journal.now c.next_body.new.self bytes c.next_body.new.body.items c.args.contents.now has
    (c.in_ok-more.ensures.gives (ap Ok c.if-not-more.false)) (sym c.in_ok-more.ensures.same.bytes) (λ x n. bad.1 has.contents has.kept x (subst (λ b. IsNext has.contents b x) (sym c.deref.ensures.value) n))))
    c.in_err-replay_body.ensures.refused

pub returns-clause-more : goal.returns-clause-more
returns-clause-more g c ok bytes has =
    let D = g.D.Disk in
    let o = c.in_ok-replay_body.ensures.made has.contents has.kept in
    one_more D.seen D.may_leave c.args.journal.now c.next_body.new.self bytes c.next_body.new.body.items c.args.contents.now c.replay_body.new.contents has
    (c.in_ok-more.ensures.gives (ap Ok c.if-not-more.false)) (sym c.in_ok-more.ensures.same.bytes) o.0 (subst (λ b. IsNext has.contents b o.0) c.deref.ensures.value o.1) o.2
