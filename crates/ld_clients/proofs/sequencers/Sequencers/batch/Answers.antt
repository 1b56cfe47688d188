use Rattle.std.proofs.Common.{refl, sym}
use Rattle.ld_batch.specs.Batch.{packed}
use Rattle.ld_clients.proofs.Rows.{on_ok}
use Rattle.ld_clients.proofs.Placing.{batch_as}
use Rattle.ld_clients.proofs.sequencers.Sequencers.batch.Goals as goal

pub returns-then-bytes-gt-PAYLOAD_LIMIT-clause-done : goal.returns-then-bytes-gt-PAYLOAD_LIMIT-clause-done
returns-then-bytes-gt-PAYLOAD_LIMIT-clause-done c = on_ok _ _ c.refuse_long.result (λ o e d s h. batch_as d s c.args.self.now h c.args.name.now o c.args.messages.now (packed c.args.messages.now) c.args.self.now refl (e d s (packed c.args.messages.now) h (sym c.packed_len-bytes.ensures))) c.refuse_long.ensures

pub returns-clause-done : goal.returns-clause-done
returns-clause-done c = on_ok _ _ c.append.result (λ o e d s h. batch_as d s c.args.self.now h c.args.name.now o c.args.messages.now c.in_ok-payload.payload c.append.new.self c.in_ok-payload.ensures (e d s h)) c.append.ensures.done
