use Rattle.std.proofs.Common.{◌∙◌, sym, ap}
use Rattle.ld_transcript.specs.declared.line.Actor.TheVariants as actors
use Rattle.ld_machine.specs.State.{actor_of}
use Rattle.ld_cluster.specs.Outcomes.{name_or_empty}
use Rattle.ld_cluster.proofs.Finishing.{sequencer_name, reader_name}
use Rattle.ld_cluster.proofs.cluster.Cluster.actor.Goals as goal

pub returns-in_ok-name-in-Sequencer : goal.returns-in_ok-name-in-Sequencer
returns-in_ok-name-in-Sequencer c = λ s p. ap actors.Sequencer (c.in_ok-name-in-Sequencer.ensures ∙ (ap name_or_empty c.name_of.ensures.name ∙ sequencer_name c.args.self.now s p c.args.log c.in-Sequencer.epoch)) ∙ ap (actor_of s c.args.log) (sym c.in-Sequencer.is)

pub returns-in_ok-name-in-Reader : goal.returns-in_ok-name-in-Reader
returns-in_ok-name-in-Reader c = λ s p. ap actors.Reader (c.in_ok-name-in-Reader.ensures ∙ (ap name_or_empty c.name_of-in-Reader.ensures.name ∙ reader_name c.args.self.now s p c.in-Reader.number)) ∙ ap (actor_of s c.args.log) (sym c.in-Reader.is)
