use Rattle.std.proofs.Common.{◌∷◌, ◌∙◌, ap, sym, refl, inl}
use Rattle.ld_schedule.specs.declared.event.Event.TheVariants as events
use Rattle.ld_msg.specs.Network.{oldest_new}
use Rattle.ld_machine.specs.Calm.{Takes}
use Rattle.ld_register.proofs.Committing.{on_err}
use Rattle.ld_cluster.specs.Calming.{as_left, left_in}
use Rattle.ld_cluster.specs.Standing.{config_of}
use Rattle.ld_cluster.proofs.Beginning.{cut_off, delivers_none, delivers_one, of_more, took}
use Rattle.ld_cluster.proofs.Calming.{left_last}
use Rattle.ld_cluster.proofs.Flowing.{as_moved, part_as_moved}
use Rattle.ld_cluster.proofs.cluster.Cluster.deliver_in.Goals as goal

pub returns-in_default-clause-begins : goal.returns-in_default-clause-begins
returns-in_default-clause-begins c = delivers_none c.args.self.now c.args.lines.now (as_left c.args.part) (left_in c.args.left.now.items) c.requires.delivers (c.in_default.ensures ∙ sym (ap oldest_new c.requires.reached.parts.network))

pub returns-clause-begins : goal.returns-clause-begins
returns-clause-begins c =
    let p = as_left c.args.part in
    let ps = left_in c.args.left.now.items in
    took c.args.self.now c.take.new.self c.args.lines.now c.take.new.lines (p ∷ ps) (p ∷ ps) ps (left_in c.push.new.self.items) (Takes (events.Deliver c.in-Some.message))
    (delivers_one c.args.self.now c.args.lines.now p ps c.requires.delivers c.in-Some.message (c.in-Some.ensures ∙ sym (ap oldest_new c.requires.reached.parts.network)))
    (left_last c.args.left.now.items c.push.new.self.items c.args.part c.in_ok-push.ensures.items) (as_moved c.args.self.now c.take.new.self (events.Deliver c.in-Some.message) c.args.lines.now c.take.new.lines refl c.in_ok-take.ensures.whole)

pub returns-clause-of : goal.returns-clause-of
returns-clause-of c = of_more (config_of c.args.self.now) (as_left c.args.part) (left_in c.args.left.now.items) (left_in c.push.new.self.items) c.requires.delivers c.requires.of (left_last c.args.left.now.items c.push.new.self.items c.args.part c.in_ok-push.ensures.items)

pub returns-in_err-push-clause-part : goal.returns-in_err-push-clause-part
returns-in_err-push-clause-part c = on_err c.from_residual.result _ (inl (record { config = refl; past = refl }, refl))

pub returns-in_err-take-clause-part : goal.returns-in_err-take-clause-part
returns-in_err-take-clause-part c =
    let p = as_left c.args.part in
    let ps = left_in c.args.left.now.items in
    on_err c.from_residual-in_err-take.result _ (cut_off c.args.self.now c.take.new.self c.args.lines.now c.take.new.lines (p ∷ ps) (p ∷ ps) (Takes (events.Deliver c.in-Some.message))
    (delivers_one c.args.self.now c.args.lines.now p ps c.requires.delivers c.in-Some.message (c.in-Some.ensures ∙ sym (ap oldest_new c.requires.reached.parts.network)))
    (part_as_moved c.args.self.now c.take.new.self (events.Deliver c.in-Some.message) c.args.lines.now c.take.new.lines refl c.in_err-take.ensures.part))
