use Rattle.ld_register.proofs.Bytes.{no_change}
use Rattle.ld_register.proofs.change.Change.read.Goals.{else-body-eq13-via-then-body-eq13+else-body-eq-ACTIVATE, else-body-eq13-via-else-body-eq13, else-body-eq9-via-then-body-eq9+else-body-eq-UNFIXED, else-body-eq9-via-else-body-eq9, else-body-eq30-via-then-body-eq30+else-body-eq-CLOSE, else-body-eq30-via-else-body-eq30, else-body-eq29-via-then-body-eq29+else-body-eq-LOSSLESS, else-body-eq29-via-else-body-eq29, else-body-eq6-via-then-body-eq6+else-body-eq-DRAW, else-body-eq6-via-else-body-eq6, else-body-eq11-via-then-body-eq11+else-body-eq-SWAP, else-body-eq11-via-else-body-eq11}
use Rattle.ld_register.proofs.change.Change.read.Goals as goal

pub returns-clause-none : goal.returns-clause-none
returns-clause-none c = no_change c.args.body.now
    (λ l k. elim c.else-body-eq13.branch [ else-body-eq13-via-then-body-eq13+else-body-eq-ACTIVATE w ↦ w.if-body-eq-ACTIVATE.false k | else-body-eq13-via-else-body-eq13 w ↦ w.if-body-eq13.false l ])
    (λ l k. elim c.else-body-eq9.branch [ else-body-eq9-via-then-body-eq9+else-body-eq-UNFIXED w ↦ w.if-body-eq-UNFIXED.false k | else-body-eq9-via-else-body-eq9 w ↦ w.if-body-eq9.false l ])
    (λ l k. elim c.else-body-eq30.branch [ else-body-eq30-via-then-body-eq30+else-body-eq-CLOSE w ↦ w.if-body-eq-CLOSE.false k | else-body-eq30-via-else-body-eq30 w ↦ w.if-body-eq30.false l ])
    (λ l k. elim c.else-body-eq29.branch [ else-body-eq29-via-then-body-eq29+else-body-eq-LOSSLESS w ↦ w.if-body-eq-LOSSLESS.false k | else-body-eq29-via-else-body-eq29 w ↦ w.if-body-eq29.false l ])
    (λ l k. elim c.else-body-eq6.branch [ else-body-eq6-via-then-body-eq6+else-body-eq-DRAW w ↦ w.if-body-eq-DRAW.false k | else-body-eq6-via-else-body-eq6 w ↦ w.if-body-eq6.false l ])
    (λ l k. elim c.else-body-eq11.branch [ else-body-eq11-via-then-body-eq11+else-body-eq-SWAP w ↦ w.if-body-eq-SWAP.false k | else-body-eq11-via-else-body-eq11 w ↦ w.if-body-eq11.false l ])
