use Rattle.std.proofs.Common.{◌≡◌, Err, inl, inr, refl, ap, sym, ◌∙◌, subst}
use Rattle.ld_op.specs.declared.version.Version.TheVariants.{Blank}
use Rattle.ld_op.specs.Plain.{unformatted}
use Rattle.ld_store.specs.declared.fault.StoreFault.TheVariants as stores
use Rattle.ld_store.specs.Replayed.{HasReplayed, Replayed}
use Rattle.ld_store.proofs.Faults.{err_is}
use Rattle.ld_store.proofs.Behind.{ok_too, start}
use Rattle.ld_store.proofs.read.read.Goals as goal

pub returns-in_err-walk-clause-damaged : goal.returns-in_err-walk-clause-damaged
returns-in_err-walk-clause-damaged g c place is bytes told len some =
    let begin = subst (λ i. HasReplayed 0 Blank unformatted bytes c.from.result i) (sym c.new-index.ensures) (start 0 Blank unformatted bytes c.from.result some c.from.ensures) in
    let error = err_is c.from_residual.result (stores.Damaged place) (λ e. e ≡ c.in_err-walk.field-0.0) c.from_residual.ensures.1 is in
    inl (c.in_err-walk.ensures.damaged place (ap Err (sym error)) 0 Blank unformatted bytes told len begin)

pub returns-in-Some-clause-read : goal.returns-in-Some-clause-read
returns-in-Some-clause-read g c = ok_too c.read_behind.result _ _ (λ j each bytes told len some.
    (let begin = subst (λ i. HasReplayed 0 Blank unformatted bytes c.from.result i) (sym c.new-index.ensures) (start 0 Blank unformatted bytes c.from.result some c.from.ensures) in
    let all = subst (λ h. Replayed 0 Blank unformatted bytes c.in_ok-walk.walk c.replay.new.index.state h) c.in-Some.is (c.in_ok-walk.ensures.replayed 0 Blank unformatted bytes told len begin) in
    inr (each c.replay.new.index.state bytes (c.in_ok-walk.ensures.same.bytes ∙ told) len all))) c.read_behind.ensures.read

pub returns-in-Some-clause-damaged : goal.returns-in-Some-clause-damaged
returns-in-Some-clause-damaged g c place is bytes told len some =
    let begin = subst (λ i. HasReplayed 0 Blank unformatted bytes c.from.result i) (sym c.new-index.ensures) (start 0 Blank unformatted bytes c.from.result some c.from.ensures) in
    let all = subst (λ h. Replayed 0 Blank unformatted bytes c.in_ok-walk.walk c.replay.new.index.state h) c.in-Some.is (c.in_ok-walk.ensures.replayed 0 Blank unformatted bytes told len begin) in
    c.read_behind.ensures.damaged place is c.replay.new.index.state bytes (c.in_ok-walk.ensures.same.bytes ∙ told) len all

pub returns-in-None-clause-read : goal.returns-in-None-clause-read
returns-in-None-clause-read g c bytes told len some =
    let begin = subst (λ i. HasReplayed 0 Blank unformatted bytes c.from.result i) (sym c.new-index.ensures) (start 0 Blank unformatted bytes c.from.result some c.from.ensures) in
    let all = subst (λ h. Replayed 0 Blank unformatted bytes c.in_ok-walk.walk c.replay.new.index.state h) c.in-None.is (c.in_ok-walk.ensures.replayed 0 Blank unformatted bytes told len begin) in
    inl (record { walk = c.in_ok-walk.walk; all = all; layout_is = c.laid_alone.ensures; version_is = refl })
