use Rattle.std.proofs.Common.{ap, sym, subst, ◌∙◌}
use Rattle.ld_schedule.specs.declared.event.Event.{Event}
use Rattle.ld_schedule.specs.declared.event.Event.TheVariants.{Append, Trim}
use Rattle.ld_machine.specs.Step.{happens}
use Rattle.ld_clients.proofs.Rows.{on_ok}
use Rattle.ld_rounds.specs.Acts.{IsActed}
use Rattle.ld_rounds.specs.Requests.{request_event}
use Rattle.ld_append.specs.Acting.{Serves}
use Rattle.ld_append.proofs.acting.ActingAppends.append.Goals as goal

pub returns-in-Append-clause-appended : goal.returns-in-Append-clause-appended
returns-in-Append-clause-appended g c =
    let is = ap (request_event c.args.name.now) c.in-Append.is ∙ ap (λ n. Append n c.in-Append.payload) c.requires.named in
    on_ok _ _ c.add.result
    (λ x d k s b sound h. subst (λ (e : Event). IsActed (Serves c.add.new.self.name c.add.new.self.sequencer (g.G.Register.tells c.add.new.self.register) k) s x.heard.lines.items x.heard.sends (happens k s e)) (sym is) (d k s h))
    c.add.ensures.appended

pub returns-in-Trim-clause-appended : goal.returns-in-Trim-clause-appended
returns-in-Trim-clause-appended g c =
    let is = ap (request_event c.args.name.now) c.in-Trim.is ∙ ap (λ n. Trim n c.in-Trim.point) c.requires.named in
    on_ok _ _ c.trim.result
    (λ x d k s b sound h. subst (λ (e : Event). IsActed (Serves c.args.self.now.name c.args.self.now.sequencer (g.G.Register.tells c.args.self.now.register) k) s x.heard.lines.items x.heard.sends (happens k s e)) (sym is) (d k s h))
    c.trim.ensures.trimmed
