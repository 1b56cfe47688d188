use Rattle.std.proofs.Common.{◌∷◌, ◌∙◌, ap, refl, inl, inr}
use Rattle.ld_schedule.specs.declared.event.Event.TheVariants as events
use Rattle.ld_machine.specs.Calm.{Again, Drains}
use Rattle.ld_cluster.specs.declared.part.Part.TheVariants as parts
use Rattle.ld_register.proofs.Committing.{on_err}
use Rattle.ld_cluster.specs.Calming.{left_in}
use Rattle.ld_cluster.proofs.Calming.{left_last}
use Rattle.ld_cluster.proofs.Flowing.{as_moved, part_as_moved}
use Rattle.ld_cluster.proofs.cluster.Cluster.poll_in.Goals as goal

pub returns-clause-step : goal.returns-clause-step
returns-clause-step c = as_moved c.args.self.now c.take.new.self (events.Poll c.args.name) c.args.lines.now c.take.new.lines refl c.in_ok-take.ensures.whole

pub returns-clause-left : goal.returns-clause-left
returns-clause-left c =
    left_last c.push.new.self.items c.push-2.new.self.items parts.Drains c.in_ok-push-2.ensures.items
    ∙ ap (λ ps. Drains ∷ ps) (left_last c.args.left.now.items c.push.new.self.items (parts.Again c.in_ok-again.again c.args.next) c.in_ok-push.ensures.items ∙ ap (λ name. Again name c.args.next ∷ left_in c.args.left.now.items) c.in_ok-again.ensures)

pub returns-in_err-again-clause-part : goal.returns-in_err-again-clause-part
returns-in_err-again-clause-part c = on_err c.from_residual.result _ (inl (record { config = refl; past = refl }, refl))

pub returns-in_err-push-clause-part : goal.returns-in_err-push-clause-part
returns-in_err-push-clause-part c = on_err c.from_residual-in_err-push.result _ (inl (record { config = refl; past = refl }, refl))

pub returns-in_err-push-2-clause-part : goal.returns-in_err-push-2-clause-part
returns-in_err-push-2-clause-part c = on_err c.from_residual-in_err-push-2.result _ (inl (record { config = refl; past = refl }, refl))

pub returns-in_err-take-clause-part : goal.returns-in_err-take-clause-part
returns-in_err-take-clause-part c = on_err c.from_residual-in_err-take.result _ (inr (part_as_moved c.args.self.now c.take.new.self (events.Poll c.args.name) c.args.lines.now c.take.new.lines refl c.in_err-take.ensures.part))
