use Rattle.std.proofs.Common.{◌≡◌, Err, Ok, ap, sym, ◌∙◌}
use Rattle.ld_store.specs.declared.fault.StoreFault.TheVariants as stores
use Rattle.ld_store.proofs.Faults.{err_is}
use Rattle.ld_store.proofs.replay.replay.Goals as goal

pub returns-in_err-next-clause-damaged : goal.returns-in_err-next-clause-damaged
returns-in_err-next-clause-damaged g c place is from opening base bytes told len has =
    let now = c.records.invariant in
    let error = err_is c.from_residual.result (stores.Damaged place) (λ e. e ≡ c.in_err-next.field-0.0) c.from_residual.ensures.1 is in
    c.in_err-next.ensures.damaged place (ap Err (sym error)) from opening base bytes (now.2.bytes ∙ told) len (now.0 from opening base bytes told len has)

pub returns-in-End-clause-replayed : goal.returns-in-End-clause-replayed
returns-in-End-clause-replayed g c from opening base bytes told len has =
    let now = c.records.invariant in
    c.in_ok-next.ensures.end (ap Ok c.in-End.is) from opening base bytes (now.2.bytes ∙ told) len (now.0 from opening base bytes told len has)

pub returns-in-Head-clause-replayed : goal.returns-in-Head-clause-replayed
returns-in-Head-clause-replayed g c from opening base bytes told len has =
    let now = c.records.invariant in
    c.in_ok-next.ensures.head c.in-Head.place (ap Ok c.in-Head.is) from opening base bytes (now.2.bytes ∙ told) len (now.0 from opening base bytes told len has)
