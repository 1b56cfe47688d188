use Rattle.std.proofs.Common.{refl, inl, inr, false, Some}
use Rattle.ld_schedule.specs.declared.event.Event.TheVariants.{Retry}
use Rattle.ld_rounds.specs.Acts.{driver}
use Rattle.ld_rounds.specs.Rounds.{IsRetry, MayRetry}
use Rattle.ld_rounds.proofs.Driving.{acted_on}
use Rattle.ld_rounds.proofs.Steps.{retry_is}
use Rattle.ld_rounds.proofs.Going.{unframed, stopped_here, goes_told}
use Rattle.ld_rounds.proofs.appends.again.Goals as goal

pub returns-in_default-clause-held : goal.returns-in_default-clause-held
returns-in_default-clause-held g c own k first s far b h = stopped_here (driver c.args.name.now own) ⊥ k first b (MayRetry c.args.name.now false) s (Some (g.O.Sink.written c.args.out.now)) (inl refl)

pub returns-clause-held : goal.returns-clause-held
returns-clause-held g c own k first s far b h =
    let name = c.args.name.now in
    let old = c.args.sequencer.now in
    let new = c.retry.new.self in
    let heard = c.in-Ok.heard in
    let moved = acted_on (driver c.args.name.now own) ⊥ k first b (g.A.Actor.stands old) (g.met.A.Actor.stands_apart old) (IsRetry name false) (g.A.Actor.stands new) (g.met.A.Actor.stands_apart new) s far c.args.queues.now (Retry name) heard.lines.items heard.sends refl refl tt (retry_is k s name) h
    (c.in-Ok.ensures.retried k s b h.sound h.actor) in
    goes_told (driver c.args.name.now own) ⊥ k first b (IsRetry name false) (λ e. MayRetry name false) (g.A.Actor.stands new) s far c.args.queues.now c.tell.new.queues (Some (g.O.Sink.written c.args.out.now)) (Some (g.O.Sink.written c.tell.new.out)) heard moved (λ e es x. inr x) c.tell.result (unframed heard.lines.items heard.end c.in-Ok.ensures.said) c.tell.ensures.told
