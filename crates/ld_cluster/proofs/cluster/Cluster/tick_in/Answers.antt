use Rattle.std.proofs.Common.{◌∷◌, refl, inl}
use Rattle.ld_schedule.specs.declared.event.Event.TheVariants as events
use Rattle.ld_machine.specs.Calm.{Takes, Ticks}
use Rattle.ld_register.proofs.Committing.{on_err}
use Rattle.ld_cluster.specs.Calming.{left_in}
use Rattle.ld_cluster.specs.Standing.{config_of}
use Rattle.ld_cluster.proofs.Beginning.{cut_off, of_ticking, ticks_on, took}
use Rattle.ld_cluster.proofs.cluster.Cluster.tick_in.Goals as goal

pub returns-clause-begins : goal.returns-clause-begins
returns-clause-begins c =
    let ps = left_in c.args.left.now.items in
    let now = left_in c.tick_again.new.left.items in
    took c.args.self.now c.note.new.self c.args.lines.now c.note.new.lines (Ticks c.args.log c.args.node ∷ ps) now ps now (Takes (events.Tick c.args.node c.args.log))
    (ticks_on c.args.self.now c.args.log c.args.node ps now c.in_ok-outcome.cleaned (c.in_ok-outcome.ensures.cleans c.requires.own.0 c.requires.own.1) c.in_ok-tick_again.ensures) refl
    (c.in_ok-note.ensures.whole c.args.self.now c.requires.reached tt c.in_ok-outcome.ensures.done)

pub returns-clause-of : goal.returns-clause-of
returns-clause-of c = of_ticking (config_of c.args.self.now) c.args.log c.args.node (left_in c.args.left.now.items) (left_in c.tick_again.new.left.items) c.in_ok-outcome.cleaned c.requires.own c.requires.of c.in_ok-tick_again.ensures

pub returns-in_err-outcome-clause-part : goal.returns-in_err-outcome-clause-part
returns-in_err-outcome-clause-part c = on_err c.from_residual.result _ (inl (c.in_err-outcome.ensures.same, refl))

pub returns-in_err-tick_again-clause-part : goal.returns-in_err-tick_again-clause-part
returns-in_err-tick_again-clause-part c = on_err c.from_residual-in_err-tick_again.result _ (inl (c.in_ok-outcome.ensures.done.same, refl))

pub returns-in_err-note-clause-part : goal.returns-in_err-note-clause-part
returns-in_err-note-clause-part c =
    let ps = left_in c.args.left.now.items in
    let now = left_in c.tick_again.new.left.items in
    on_err c.from_residual-in_err-note.result _ (cut_off c.args.self.now c.note.new.self c.args.lines.now c.note.new.lines (Ticks c.args.log c.args.node ∷ ps) now (Takes (events.Tick c.args.node c.args.log))
    (ticks_on c.args.self.now c.args.log c.args.node ps now c.in_ok-outcome.cleaned (c.in_ok-outcome.ensures.cleans c.requires.own.0 c.requires.own.1) c.in_ok-tick_again.ensures)
    (c.in_err-note.ensures.part c.args.self.now c.in_ok-outcome.ensures.done))
