use Rattle.std.proofs.Common.{◌∷◌, ◌∙◌, sym}
use Rattle.ld_schedule.specs.declared.event.Event.TheVariants as events
use Rattle.ld_machine.specs.Calm.{Again, Drains, Reads, Takes}
use Rattle.ld_register.proofs.Committing.{on_err}
use Rattle.ld_cluster.specs.Calming.{left_in}
use Rattle.ld_cluster.specs.Standing.{config_of}
use Rattle.ld_cluster.proofs.Beginning.{of_polling, polled, polled_cut, reads_finished, reads_none, reads_on}
use Rattle.ld_cluster.proofs.cluster.Cluster.read_in.Goals as goal

pub returns-in_default-clause-begins : goal.returns-in_default-clause-begins
returns-in_default-clause-begins c = reads_none c.args.self.now c.args.lines.now c.args.name c.args.self.now.readers c.requires.reached.parts.readers.readers (left_in c.args.left.now.items) c.in_default.ensures

pub returns-then-is_finished-clause-begins : goal.returns-then-is_finished-clause-begins
returns-then-is_finished-clause-begins c = reads_finished c.args.self.now c.args.lines.now c.args.name c.args.self.now.readers c.requires.reached.parts.readers.readers (left_in c.args.left.now.items) c.in-Some.next c.in-Some.ensures (sym c.is_finished.ensures ∙ c.if-is_finished.true)

pub returns-clause-begins : goal.returns-clause-begins
returns-clause-begins c = polled c.args.self.now c.poll_in.new.self c.args.lines.now c.poll_in.new.lines (Reads c.args.name) (left_in c.args.left.now.items) (left_in c.poll_in.new.left.items) c.args.name c.in-Some.next
    (reads_on c.args.self.now c.args.lines.now c.args.name c.args.self.now.readers c.requires.reached.parts.readers.readers (left_in c.args.left.now.items) c.in-Some.next c.in-Some.ensures (sym c.is_finished.ensures ∙ c.if-is_finished.false))
    c.in_ok-poll_in.ensures.left c.in_ok-poll_in.ensures.step

pub returns-clause-of : goal.returns-clause-of
returns-clause-of c = of_polling (config_of c.args.self.now) (left_in c.args.left.now.items) (left_in c.poll_in.new.left.items) c.args.name c.in-Some.next c.requires.of c.in_ok-poll_in.ensures.left

pub returns-in_err-poll_in-clause-part : goal.returns-in_err-poll_in-clause-part
returns-in_err-poll_in-clause-part c = on_err c.from_residual.result _ (polled_cut c.args.self.now c.poll_in.new.self c.args.lines.now c.poll_in.new.lines (Reads c.args.name ∷ left_in c.args.left.now.items) (Drains ∷ Again c.args.name c.in-Some.next ∷ left_in c.args.left.now.items) (Takes (events.Poll c.args.name))
    (reads_on c.args.self.now c.args.lines.now c.args.name c.args.self.now.readers c.requires.reached.parts.readers.readers (left_in c.args.left.now.items) c.in-Some.next c.in-Some.ensures (sym c.is_finished.ensures ∙ c.if-is_finished.false))
    c.in_err-poll_in.ensures.part)
