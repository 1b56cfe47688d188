use Rattle.ld_framed.proofs.Hearing.{fails_here, read_then, untouched_at}
use Rattle.std.proofs.Common.{◌++◌, take, refl, inr, arith}
use Rattle.ld_framed.proofs.Waiting.{read_some}
use Rattle.ld_framed.proofs.input.fill.Goals as goal

pub returns-in_default-clause-heard : goal.returns-in_default-clause-heard
returns-in_default-clause-heard g c = fails_here _ _ _ c.args.decoder.now.bytes _ (untouched_at _ _ c.args.decoder.now.bytes c.in_default.ensures.bytes) tt

pub returns-in-Err-clause-heard : goal.returns-in-Err-clause-heard
returns-in-Err-clause-heard g c = fails_here _ _ _ _ _ (read_then _ _ c.read.new.buf c.args.decoder.now.bytes c.in-Ok.count c.in-Ok.ensures.bytes) tt

pub returns-in-Err-clause-reads : goal.returns-in-Err-clause-reads
returns-in-Err-clause-reads g c =
    inr (c.args.decoder.now.bytes ++ take c.in-Ok.count c.read.new.buf, read_some _ _ c.read.new.buf _ _ c.in-Ok.count (λ e. omega (arith, e, c.if-count-eq0.false)) c.in-Ok.ensures.bound.0 c.in-Ok.ensures.did refl)
