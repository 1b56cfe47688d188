use Rattle.std.proofs.Common.{◌≡◌, take, Ok, Err, Some, IfNone, subst, ap, sym, ◌∙◌, ⊎_elim}
use Rattle.ld_journal.specs.Rest.{BeginsWith}
use Rattle.ld_store.specs.Ops.{IsBodyOf, IsHead}
use Rattle.ld_store.specs.Replayed.{HasReplayed, Replayed, IsWithRecord}
use Rattle.ld_store.specs.Faults.{passed_on}
use Rattle.ld_store.specs.declared.fault.StoreFault.TheVariants as stores
use Rattle.ld_store.proofs.Replaying.{parted, all_long, one_more, cut_short, foreign}
use Rattle.ld_store.proofs.Faults.{of_damaged, err_is, same_place, no_place}
use Rattle.ld_store.proofs.replay.replay_next.Goals as goal

pub returns-in_err-read_record-clause-damaged : goal.returns-in_err-read_record-clause-damaged
returns-in_err-read_record-clause-damaged g c place is from opening base bytes told len has =
    let w = c.args.walk in
    let i = c.args.index.now.state in
    let error = ap Err (of_damaged c.in_err-read_record.field-0.0 place (sym (err_is c.from_residual.result (stores.Damaged place) (λ e. e ≡ passed_on c.in_err-read_record.field-0.0) c.from_residual.ensures.1 is))) in
    let cut = c.in_err-read_record.ensures.damaged place error (take w.at bytes) has.rest (parted from opening base bytes w i has g.D.Disk.seen c.args.disk.now told) (len ∙ all_long from opening base bytes w i has) in
    cut_short from opening base bytes w i has place cut.0 cut.1

pub returns-in-None-clause-end : goal.returns-in-None-clause-end
returns-in-None-clause-end g c is from opening base bytes told len has =
    let w = c.args.walk in
    let i = c.args.index.now.state in
    record { has = has; stops = c.in_ok-read_record.ensures.end (ap Ok c.in-None.is) (take w.at bytes) has.rest (parted from opening base bytes w i has g.D.Disk.seen c.args.disk.now told) }

pub returns-in-Some-head_in-clause-head : goal.returns-in-Some-head_in-clause-head
returns-in-Some-head_in-clause-head g c place is from opening base bytes told len has =
    let w = c.args.walk in
    let i = c.args.index.now.state in
    let begins = (c.in_ok-read_record.ensures.body c.in-Some.field-0 (ap Ok c.in-Some.is) (take w.at bytes) has.rest (parted from opening base bytes w i has g.D.Disk.seen c.args.disk.now told) (len ∙ all_long from opening base bytes w i has)).0 in
    let head = c.in-Some-head_in.ensures.head in
    let same : c.in-Some-head_in.place ≡ place = cc is in
    subst (λ k. Replayed from opening base bytes w i (Some k)) same (record { has = has; stops = record { begins = subst (λ b. BeginsWith b has.rest) (sym c.deref.ensures.value ∙ head.0) begins; fits = head.1 } })

pub returns-in_err-next-in-Some-clause-damaged : goal.returns-in_err-next-in-Some-clause-damaged
returns-in_err-next-in-Some-clause-damaged g c place is from opening base bytes told len has =
    let w = c.args.walk in
    let i = c.args.index.now.state in
    let begins = (c.in_ok-read_record.ensures.body c.in-Some.field-0 (ap Ok c.in-Some.is) (take w.at bytes) has.rest (parted from opening base bytes w i has g.D.Disk.seen c.args.disk.now told) (len ∙ all_long from opening base bytes w i has)).0 in
    let error = err_is c.from_residual-in_err-next-in-Some.result (stores.Damaged place) (λ e. e ≡ c.in_err-next-in-Some.field-0.0) c.from_residual-in_err-next-in-Some.ensures.1 is in
    ⊎_elim
    (λ none. absurd (no_place place (sym none ∙ sym error)))
    (λ bad. foreign from opening base bytes w i has place c.read_record.new.body.items (sym (same_place w.at place (sym bad.0 ∙ sym error))) begins (λ body. bad.1 (subst (λ b. IsBodyOf w.version b) (sym c.deref-in-Some.ensures.value) body)) (λ head. subst (λ o. IfNone o (IsHead c.deref.result.now → ⊥)) c.in_default.is c.head_in.ensures.other (subst IsHead (sym c.deref.ensures.value) head)))
    c.in_err-next-in-Some.ensures.refused

pub returns-in_ok-next-in-Some-clause-more : goal.returns-in_ok-next-in-Some-clause-more
returns-in_ok-next-in-Some-clause-more g c next ok from opening base bytes told len has =
    let w = c.args.walk in
    let i = c.args.index.now.state in
    let begins = (c.in_ok-read_record.ensures.body c.in-Some.field-0 (ap Ok c.in-Some.is) (take w.at bytes) has.rest (parted from opening base bytes w i has g.D.Disk.seen c.args.disk.now told) (len ∙ all_long from opening base bytes w i has)).0 in
    let made = c.in_ok-next-in-Some.ensures.applied in
    let same : c.in_ok-next-in-Some.next ≡ next = cc ok in
    subst (λ n. HasReplayed from opening base bytes n c.replay_body.new.index.state) same
    (one_more from opening base bytes w i has c.in_ok-next-in-Some.next c.read_record.new.body.items c.replay_body.new.index.state (subst (λ b. IsWithRecord w b i c.in_ok-next-in-Some.next c.replay_body.new.index.state) c.deref-in-Some.ensures.value made) begins)
