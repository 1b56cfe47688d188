use Rattle.std.proofs.Common.{◌≡◌, ◌+◌, length, take, Err, IfSome, inl, inr, ap, sym, ◌∙◌, subst, arith}
use Rattle.ld_segment.specs.Later.{IsThere, IsDamagedBehind}
use Rattle.ld_store.specs.Faults.{passed_on}
use Rattle.ld_store.specs.declared.fault.StoreFault.TheVariants as stores
use Rattle.ld_store.proofs.Faults.{of_damaged, err_is, same_place}
use Rattle.ld_store.proofs.Behind.{error_of, ok_too, head_parted, head_long, later_out}
use Rattle.ld_store.proofs.BaseWell.{base_well}
use Rattle.ld_store.proofs.read.read_behind.Goals as goal

pub read_rest-requires-clause-well : goal.read_rest-requires-clause-well
read_rest-requires-clause-well g c = base_well c.in_ok-later.later c.in_ok-later.ensures.judged

pub returns-in_err-end_of_head-clause-damaged : goal.returns-in_err-end_of_head-clause-damaged
returns-in_err-end_of_head-clause-damaged g c place is closed bytes told len r =
    let w = c.args.walk in
    let head = c.args.head in
    let error = err_is c.from_residual.result (stores.Damaged place) (λ e. e ≡ c.in_err-end_of_head.field-0.0) c.from_residual.ensures.1 is in
    let gate = c.in_err-end_of_head.ensures.damaged place (ap Err (sym error)) (take (w.at + 14) bytes) r.stops.begins.after (head_parted bytes w closed head r g.D.Disk.seen c.args.disk.now told) (len ∙ head_long bytes w closed head r) in
    later_out bytes w closed head r place (inl gate)

pub returns-then-saturating_add-gt-LIMIT-clause-damaged : goal.returns-then-saturating_add-gt-LIMIT-clause-damaged
returns-then-saturating_add-gt-LIMIT-clause-damaged g c place is closed bytes told len r =
    let w = c.args.walk in
    let head = c.args.head in
    later_out bytes w closed head r place (inr (inl (sym (same_place head place (error_of (stores.Damaged head) (stores.Damaged place) is)), omega (arith, c.if-saturating_add-gt-LIMIT.true, c.saturating_add.ensures))))

pub returns-in_err-later-clause-damaged : goal.returns-in_err-later-clause-damaged
returns-in_err-later-clause-damaged g c place is closed bytes told len r =
    let w = c.args.walk in
    let head = c.args.head in
    let D = g.D.Disk in
    let seen = c.in_ok-end_of_head.ensures.same.bytes ∙ told in
    let error = ap Err (of_damaged c.in_err-later.field-0.0 place (sym (err_is c.from_residual-in_err-later.result (stores.Damaged place) (λ e. e ≡ passed_on c.in_err-later.field-0.0) c.from_residual-in_err-later.ensures.1 is))) in
    later_out bytes w closed head r place (inr (inr (inl
    (subst (λ o. IfSome o (λ b. c.args.len ≡ length b → IsDamagedBehind w.version head place b)) seen (c.in_err-later.ensures.damaged place error) len))))

pub returns-clause-read : goal.returns-clause-read
returns-clause-read g c =
    let w = c.args.walk in
    let head = c.args.head in
    let D = g.D.Disk in
    ok_too c.read_rest.result _ _ (λ j each closed bytes told len r.
    (let seen = c.in_ok-end_of_head.ensures.same.bytes ∙ told in
    let shut = c.in_ok-end_of_head.ensures.shut (take (w.at + 14) bytes) r.stops.begins.after (head_parted bytes w closed head r D.seen c.args.disk.now told) in
    let there = subst (λ o. IfSome o (λ b. c.args.len ≡ length b → IsThere w.version head c.in_ok-later.later b)) seen c.in_ok-later.ensures.later len in
    each closed bytes (c.in_ok-later.ensures.same.bytes ∙ seen) len r shut there)) c.read_rest.ensures.read

pub returns-clause-damaged : goal.returns-clause-damaged
returns-clause-damaged g c place is closed bytes told len r =
    let w = c.args.walk in
    let head = c.args.head in
    let seen = c.in_ok-end_of_head.ensures.same.bytes ∙ told in
    let there = subst (λ o. IfSome o (λ b. c.args.len ≡ length b → IsThere w.version head c.in_ok-later.later b)) seen c.in_ok-later.ensures.later len in
    later_out bytes w closed head r place (inr (inr (inr (c.read_rest.ensures.damaged place is bytes (c.in_ok-later.ensures.same.bytes ∙ seen) len there))))
