use Rattle.std.proofs.Common.{refl, inl, inr, Some}
use Rattle.ld_schedule.specs.declared.event.Event.TheVariants.{Poll}
use Rattle.ld_rounds.specs.Acts.{driver}
use Rattle.ld_rounds.specs.Rounds.{IsOne, IsBegun}
use Rattle.ld_rounds.proofs.Driving.{acted_on}
use Rattle.ld_rounds.proofs.Steps.{poll_is}
use Rattle.ld_rounds.proofs.Going.{unframed, stopped_here, goes_told}
use Rattle.ld_rounds.proofs.reads.ask.Goals as goal

pub returns-in_default-clause-held : goal.returns-in_default-clause-held
returns-in_default-clause-held g c own k first s far b h = stopped_here (driver c.args.name.now own) ⊥ k first b (IsBegun (Poll c.args.name.now)) s (Some (g.O.Sink.written c.args.out.now)) (inl refl)

pub returns-clause-held : goal.returns-clause-held
returns-clause-held g c own k first s far b h =
    let name = c.args.name.now in
    let old = c.args.reader.now in
    let new = c.poll.new.self in
    let heard = c.in-Ok.heard in
    let moved = acted_on (driver c.args.name.now own) ⊥ k first b (g.R.Actor.stands old) (g.met.R.Actor.stands_apart old) (IsOne (Poll name)) (g.R.Actor.stands new) (g.met.R.Actor.stands_apart new) s far c.args.queues.now (Poll name) heard.lines.items heard.sends refl refl tt (poll_is k s name) h
    (c.in-Ok.ensures.polled k s b h.sound h.actor) in
    goes_told (driver c.args.name.now own) ⊥ k first b (IsOne (Poll name)) (λ e. IsBegun (Poll name)) (g.R.Actor.stands new) s far c.args.queues.now c.tell.new.queues (Some (g.O.Sink.written c.args.out.now)) (Some (g.O.Sink.written c.tell.new.out)) heard moved (λ e es x. inr x) c.tell.result (unframed heard.lines.items heard.end c.in-Ok.ensures.said) c.tell.ensures.told
