use Rattle.std.proofs.Common.{◌≡◌, ◌∙◌, ap, sym, subst, ◌+◌, take, [], ◌∷◌, ◌++◌, arith}
use Rattle.std.proofs.lemmas.List.{take_more}
use Rattle.ld_table.specs.Table.{put, Ordered}
use Rattle.ld_op.specs.Plain.{lost_log, lost_logs}
use Rattle.ld_op.specs.Places.{filled}
use Rattle.ld_op.specs.Room.{there_of}
use Rattle.ld_op.proofs.There.{lost_logs-put, Ordered-take}
use Rattle.ld_op.proofs.plain.add_lost.Goals as goal

pub loop-log-init : goal.loop-log-init
unfolding filled
loop-log-init c = ap there_of c.requires.none

next : (c : goal.In_ok-add) → take (c.loop-log.log-index + 1) c.args.epochs.now ≡ take c.loop-log.log-index c.args.epochs.now ++ c.loop-log-item.result ∷ []
next c = take_more c.args.epochs.now c.loop-log.log-index c.loop-log-item.result (omega arith) ∙ ap (λ e. take c.loop-log.log-index c.args.epochs.now ++ e ∷ []) (sym c.loop-log-item.is)

pub loop-log-preserved : goal.loop-log-preserved
loop-log-preserved c = c.in_ok-add.ensures ∙ (ap (λ g. put c.loop-log-item.result.0 g (there_of c.loop-log.logs)) c.lost.ensures.log
    ∙ (ap (put c.loop-log-item.result.0 (lost_log c.loop-log-item.result.1)) c.loop-log.invariant
    ∙ (lost_logs-put (take c.loop-log.log-index c.args.epochs.now) c.loop-log-item.result (subst Ordered (next c) (Ordered-take (c.loop-log.log-index + 1) c.args.epochs.now c.requires.rising))
    ∙ ap lost_logs (sym (next c)))))
