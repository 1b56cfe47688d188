use Rattle.std.proofs.Common.{◌∙◌, ◌++◌, ap, arith}
use Rattle.byteorder.specs.Endian.{big_bytes}
use Rattle.ld_op.proofs.Writes.{epochs_bytes-more}
use Rattle.ld_op.proofs.encode.put_epochs.Goals as goal

pub loop-log-preserved : goal.loop-log-preserved
loop-log-preserved c = c.in_ok-put_u32-2.ensures ∙ (ap (λ r. r ++ big_bytes 4 c.loop-log-item.result.1) (c.in_ok-put_u32.ensures ∙ (ap (λ n. c.loop-log.out.items ++ big_bytes 4 n) c.number.ensures.value ∙ ap (λ r. r ++ big_bytes 4 c.loop-log-item.result.0) c.loop-log.invariant))
    ∙ epochs_bytes-more c.args.epochs.now c.loop-log.log-index c.loop-log-item.result c.args.out.now.items (omega arith) c.loop-log-item.is)
