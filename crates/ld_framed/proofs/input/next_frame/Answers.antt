use Rattle.ld_framed.specs.Reads.{ReadsWaiting}
use Rattle.std.proofs.Common.{refl, ap, sym, ◌∙◌, subst, length, arith}
use Rattle.std.proofs.lemmas.Result.{err_from_is_err_and}
use Rattle.ld_wire.specs.Faults.{IsRefused}
use Rattle.ld_wire.specs.Held.{kept_fault}
use Rattle.ld_framed.proofs.Waiting.{goes_on, ends_on, fails_in, itself}
use Rattle.ld_framed.proofs.Hearing.{fails_here, fails_on, judged, next_on, the_first, untouched_at}
use Rattle.ld_framed.proofs.input.next_frame.Goals as goal

pub returns-in-Err-clause-heard : goal.returns-in-Err-clause-heard
returns-in-Err-clause-heard g c =
    fails_here _ _ _ c.pieces.decoder.bytes _ c.pieces.invariant.0
    (c.unread_of.ensures.told c.pieces.decoder.bytes (subst (λ r. IsRefused r c.in-Err.fault) (judged c.pieces.decoder c.pieces.invariant.1) c.in-Err.ensures.fault.0))

pub returns-in_err-fill-clause-heard : goal.returns-in_err-fill-clause-heard
returns-in_err-fill-clause-heard g c =
    let p = err_from_is_err_and c.from_residual.result c.from_residual.ensures.1 in
    let none = rw c.in-Ok-None.field-0-is at c.in-Ok-None.ensures.none in
    rw (p.1, p.2) (fails_on _ _ _ _ c.pieces.decoder c.take.new.self _ none.1 c.pieces.invariant.0 c.in_err-fill.ensures.heard)

pub pieces-smaller : goal.pieces-smaller
pieces-smaller g c =
    let none = rw c.in-Ok-None.field-0-is at c.in-Ok-None.ensures.none in
    let same = none.1 in
    let short = rw c.in-Ok-None.field-0-is at c.in-Ok-None.ensures.short in
    let more = rw c.if-not-branch.false at c.in_ok-fill.ensures.more in
    let size = ap (λ h. length h.bytes) same in
    omega (arith, short, more, size)

pub pieces-preserved : goal.pieces-preserved
pieces-preserved g c =
    let none = rw c.in-Ok-None.field-0-is at c.in-Ok-None.ensures.none in
    let same = none.1 in (
      next_on _ _ _ _ c.pieces.decoder c.take.new.self _ same c.pieces.invariant.0 (the_first _ _ _ c.in_ok-fill.ensures.heard),
      c.in_ok-fill.ensures.fault ∙ ap (λ h. h.fault) same ∙ c.pieces.invariant.1,
      c.in_ok-fill.ensures.len ∙ c.pieces.invariant.2,
      c.in_ok-fill.ensures.counts ∙ c.pieces.invariant.3,
      goes_on _ _ _ _ _ c.pieces.decoder c.take.new.self c.pieces.invariant.1 same none.0 c.pieces.invariant.4 (rw c.if-not-branch.false at c.in_ok-fill.ensures.reads),
    )

pub returns-in-Err-clause-cause : goal.returns-in-Err-clause-cause
returns-in-Err-clause-cause g c =
    (c.pieces.decoder.bytes, c.unread_of.ensures.told c.pieces.decoder.bytes (subst (λ r. IsRefused r c.in-Err.fault) (judged c.pieces.decoder c.pieces.invariant.1) c.in-Err.ensures.fault.0))

pub returns-in-Err-clause-counts : goal.returns-in-Err-clause-counts
returns-in-Err-clause-counts g c = rw c.pieces.invariant.3 (c.unread_of.ensures.counts _)

pub returns-in_err-fill-clause-cause : goal.returns-in_err-fill-clause-cause
returns-in_err-fill-clause-cause g c =
    let p = err_from_is_err_and c.from_residual.result c.from_residual.ensures.1 in
    rw (p.1, p.2) (c.pieces.decoder.bytes, c.in_err-fill.ensures.cause c.pieces.decoder.bytes)

pub returns-in-Err-clause-fault : goal.returns-in-Err-clause-fault
returns-in-Err-clause-fault g c =
    ap (λ h. h.fault) c.in-Err.ensures.fault.1 ∙ ap (λ o. kept_fault o c.in-Err.fault) c.pieces.invariant.1 ∙ c.unread_of.ensures.kept

pub returns-in_err-fill-clause-fault : goal.returns-in_err-fill-clause-fault
returns-in_err-fill-clause-fault g c =
    let p = err_from_is_err_and c.from_residual.result c.from_residual.ensures.1 in
    let none = rw c.in-Ok-None.field-0-is at c.in-Ok-None.ensures.none in
    rw (p.1, p.2) (c.in_err-fill.ensures.fault ∙ ap (λ h. h.fault) none.1 ∙ c.pieces.invariant.1 ∙ sym c.in_err-fill.ensures.no_frame)

pub pieces-init : goal.pieces-init
pieces-init g c = (untouched_at _ _ c.args.decoder.now.bytes (itself _), c.requires.fine, refl, refl, ReadsWaiting.none)

pub returns-then-not-branch-clause-waiting : goal.returns-then-not-branch-clause-waiting
returns-then-not-branch-clause-waiting g c =
    let none = rw c.in-Ok-None.field-0-is at c.in-Ok-None.ensures.none in
    let still = rw c.if-not-branch.true at c.in_ok-fill.ensures.more in
    let ends = rw c.if-not-branch.true at c.in_ok-fill.ensures.reads in
    ends_on _ _ _ _ c.pieces.decoder c.take.new.self c.fill.new.decoder c.pieces.invariant.1 none.1 none.0 c.pieces.invariant.4 still ends

pub returns-in-Err-clause-waiting : goal.returns-in-Err-clause-waiting
returns-in-Err-clause-waiting g c = record {
  held = c.pieces.decoder.bytes;
  reads = c.pieces.invariant.4;
  cause = c.unread_of.ensures.told c.pieces.decoder.bytes (subst (λ r. IsRefused r c.in-Err.fault) (judged c.pieces.decoder c.pieces.invariant.1) c.in-Err.ensures.fault.0);
}

pub returns-in_err-fill-clause-waiting : goal.returns-in_err-fill-clause-waiting
returns-in_err-fill-clause-waiting g c =
    let p = err_from_is_err_and c.from_residual.result c.from_residual.ensures.1 in
    let none = rw c.in-Ok-None.field-0-is at c.in-Ok-None.ensures.none in
    rw (p.1, p.2) (fails_in _ _ _ _ c.pieces.decoder c.take.new.self _ c.pieces.invariant.1 none.1 none.0 c.pieces.invariant.4 c.in_err-fill.ensures.reads c.in_err-fill.ensures.cause)
