use Rattle.std.proofs.Common.{sym, subst}
use Rattle.ld_schedule.specs.declared.event.Event.TheVariants.{Retry}
use Rattle.ld_machine.specs.Step.{happens}
use Rattle.ld_clients.proofs.Rows.{on_ok}
use Rattle.ld_rounds.specs.Acts.{IsActed}
use Rattle.ld_append.specs.Acting.{Serves}
use Rattle.ld_append.proofs.acting.ActingAppends.retry.Goals as goal

pub returns-clause-retried : goal.returns-clause-retried
returns-clause-retried g c = on_ok _ _ c.again.result
    (λ x d k s b sound h. subst (λ n. IsActed (Serves c.again.new.self.name c.again.new.self.sequencer (g.G.Register.tells c.again.new.self.register) k) s x.lines.items x.sends (happens k s (Retry n))) (sym c.requires.named) (d k s b sound h))
    c.again.ensures.retried
