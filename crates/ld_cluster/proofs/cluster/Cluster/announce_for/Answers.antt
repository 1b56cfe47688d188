use Rattle.std.proofs.Common.{◌∷◌, ◌∙◌, Some, ap, refl, inl}
use Rattle.ld_machine.specs.Calm.{Announces, Calms}
use Rattle.ld_register.proofs.Committing.{on_err}
use Rattle.ld_cluster.specs.Calming.{left_in}
use Rattle.ld_cluster.proofs.Beginning.{announces_none, announces_one, cut_off}
use Rattle.ld_cluster.proofs.cluster.Cluster.announce_for.Goals as goal

pub returns-in_default-clause-begins : goal.returns-in_default-clause-begins
returns-in_default-clause-begins c = announces_none c.args.self.now c.args.lines.now c.args.log c.args.self.now.sequencers c.requires.reached.parts.sequencers (left_in c.args.left.now.items) c.in_default.ensures

pub returns-clause-begins : goal.returns-clause-begins
returns-clause-begins c = record {
  move = Calms c.in_ok-name.name;
  next = announces_one c.args.self.now c.args.lines.now c.args.log c.args.self.now.sequencers c.requires.reached.parts.sequencers (left_in c.args.left.now.items) c.in_ok-name.name (ap Some c.in_ok-name.ensures ∙ c.in-Some.ensures);
  step = c.in_ok-note.ensures.whole c.args.self.now c.requires.reached tt c.in_ok-outcome.ensures.done;
}

pub returns-in_err-name-clause-part : goal.returns-in_err-name-clause-part
returns-in_err-name-clause-part c = on_err c.from_residual.result _ (inl (record { config = refl; past = refl }, refl))

pub returns-in_err-outcome-clause-part : goal.returns-in_err-outcome-clause-part
returns-in_err-outcome-clause-part c = on_err c.from_residual-in_err-outcome.result _ (inl (c.in_err-outcome.ensures.same, refl))

pub returns-in_err-note-clause-part : goal.returns-in_err-note-clause-part
returns-in_err-note-clause-part c = on_err c.from_residual-in_err-note.result _ (cut_off c.args.self.now c.note.new.self c.args.lines.now c.note.new.lines (Announces c.args.log ∷ left_in c.args.left.now.items) (left_in c.args.left.now.items) (Calms c.in_ok-name.name)
    (announces_one c.args.self.now c.args.lines.now c.args.log c.args.self.now.sequencers c.requires.reached.parts.sequencers (left_in c.args.left.now.items) c.in_ok-name.name (ap Some c.in_ok-name.ensures ∙ c.in-Some.ensures)) (c.in_err-note.ensures.part c.args.self.now c.in_ok-outcome.ensures.done))
