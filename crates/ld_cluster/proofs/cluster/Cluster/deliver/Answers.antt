use Rattle.std.proofs.Common.{◌∙◌, sym, ap}
use Rattle.ld_cluster.specs.Standing.{state_of}
use Rattle.std.proofs.Common.{Some}
use Rattle.ld_cluster.proofs.Delivering.{no_message, is_message, marked_stands, delivered}
use Rattle.ld_cluster.proofs.cluster.Cluster.deliver.Goals as goal

pub returns-in_default-clause-done : goal.returns-in_default-clause-done
returns-in_default-clause-done c = no_message c.args.self.now (state_of c.args.self.now) c.args.number c.nothing.result c.requires.reached.parts (sym c.in_default.ensures) c.nothing.ensures.lines c.nothing.ensures.sends

pub come-requires-clause-message : goal.come-requires-clause-message
come-requires-clause-message c = is_message c.args.self.now c.args.number c.in_ok-msg.msg c.requires.reached (sym c.in-Some.ensures ∙ ap Some (sym c.in_ok-msg.ensures))

pub come-requires-clause-stands : goal.come-requires-clause-stands
come-requires-clause-stands c = marked_stands c.args.self.now c.mark.new.self c.args.number c.requires.reached c.mark.ensures

pub returns-clause-done : goal.returns-clause-done
returns-clause-done c = delivered c.args.self.now c.come.new.self c.mark.new.self c.args.number c.in_ok-msg.msg c.in_ok-outcome.outcome c.requires.reached.parts (sym c.in-Some.ensures ∙ ap Some (sym c.in_ok-msg.ensures)) c.in_ok-outcome.ensures.done
