use Rattle.ld_op.proofs.Unspelling.{judge_spelled}
use Rattle.ld_op.proofs.Judges.{ok_with, err_with, not_off}
use Rattle.ld_op.proofs.record.Record.decode.Goals as goal

pub returns-clause-bytes : goal.returns-clause-bytes
returns-clause-bytes c = ok_with c.judged.result _ _ (λ v h. (judge_spelled c.args.bytes.now v _ c.judged.ensures.bytes h).bytes_are) c.judged.ensures.ok

pub returns-clause-op : goal.returns-clause-op
returns-clause-op c = ok_with c.judged.result _ _ (λ v h. (judge_spelled c.args.bytes.now v _ c.judged.ensures.bytes h).is) c.judged.ensures.ok

pub returns-clause-none : goal.returns-clause-none
returns-clause-none c = err_with c.judged.result _ _ (λ f h. not_off c.args.bytes.now f h) c.judged.ensures.bad
