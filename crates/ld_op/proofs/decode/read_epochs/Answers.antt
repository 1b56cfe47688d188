use Rattle.std.proofs.Common.{◌∙◌, ◌+◌, ◌-◌, ◌++◌, ◌∷◌, [], ap, sym, arith, rules}
use Rattle.ld_fields.specs.Fields.{Got}
use Rattle.ld_op.specs.Bytes.{read_epochs}
use Rattle.ld_fields.specs.Faults.{IsOff}
use Rattle.ld_fields.specs.Resumed.{resumed}
use Rattle.ld_op.proofs.Parts.{epochs_on, epochs_done, epochs_fault}
use Rattle.ld_op.proofs.decode.read_epochs.Goals as goal

pub returns-in_err-epoch-clause-off : goal.returns-in_err-epoch-clause-off
returns-in_err-epoch-clause-off c = let f : IsOff (read_epochs c.args.bytes.now c.args.count 1 c.args.at) c.in_err-epoch.field-0.0 = epochs_fault c.args.bytes.now c.args.count c.epochs.counter c.epochs.least c.epochs.next c.epochs.list.items _ c.in_err-epoch.field-0.0 (omega arith) c.epochs.invariant.rest c.in_err-epoch.ensures.off in search rules

pub epochs-preserved : goal.epochs-preserved
epochs-preserved c = record {
  place = c.in_ok-epoch.ensures.next;
  most = omega arith;
  least = omega arith;
  rest = ap (λ es. resumed es (read_epochs c.args.bytes.now (c.args.count - (c.epochs.counter + 1)) (c.number-least.result + 1) c.in_ok-epoch.behind)) c.in_ok-push.ensures
      ∙ (ap (λ k. resumed (c.epochs.list.items ++ (c.in_ok-epoch.epoch.0, c.in_ok-epoch.epoch.1) ∷ []) (read_epochs c.args.bytes.now (c.args.count - (c.epochs.counter + 1)) (k + 1) c.in_ok-epoch.behind)) c.number-least.ensures.value
      ∙ (epochs_on c.args.bytes.now c.args.count c.epochs.counter c.epochs.least c.epochs.next c.epochs.list.items (c.in_ok-epoch.epoch.0, c.in_ok-epoch.epoch.1) c.in_ok-epoch.behind (omega arith) c.in_ok-epoch.ensures.ok ∙ c.epochs.invariant.rest));
}

pub returns-clause-ok : goal.returns-clause-ok
returns-clause-ok c = let m = c.epochs.invariant.most in sym c.epochs.invariant.rest ∙ epochs_done c.args.bytes.now c.args.count c.epochs.counter c.epochs.least c.epochs.next c.epochs.list.items (omega arith) ∙ ap (λ es. Got es c.epochs.next) (sym c.new.ensures)
