use Rattle.std.proofs.Common.{Some}
use Rattle.ld_rounds.specs.declared.ended.Ended.TheVariants.{NoMemory as Memory}
use Rattle.ld_rounds.specs.Rounds.{IsDelivered, VisitEnd}
use Rattle.ld_rounds.proofs.Joining.{delivered_visits}
use Rattle.ld_rounds.proofs.Driving.{hear_first}
use Rattle.ld_rounds.proofs.Going.{unframed, stopped_here, goes_told}
use Rattle.ld_rounds.proofs.Listening.{told_writes}
use Rattle.ld_rounds.proofs.visits.take.Goals as goal

pub returns-in_default-clause-held : goal.returns-in_default-clause-held
returns-in_default-clause-held g c who y k first s far rest b of taken e h = stopped_here who ⊥ k first b (VisitEnd k first y Memory) s (Some (g.O.Sink.written c.args.out.now)) (tt, tt, tt)

pub returns-clause-held : goal.returns-clause-held
returns-clause-held g c who y k first s far rest b of taken e h =
    let old = c.args.actor.now in
    let new = c.hear.new.self in
    let heard = c.in-Ok.heard in
    let m = c.args.answer.now in
    let moved = hear_first who ⊥ k first b (g.A.Actor.stands old) (g.met.A.Actor.stands_apart old) (g.A.Actor.stands new) (g.met.A.Actor.stands_apart new) s far c.args.queues.now m rest heard.lines.items heard.sends h e taken
    (λ t sound there. c.in-Ok.ensures.acted k t b sound there) in
    goes_told who ⊥ k first b (IsDelivered first m) (VisitEnd k first y) (g.A.Actor.stands new) s (record far { answers = rest }) c.args.queues.now c.tell.new.queues (Some (g.O.Sink.written c.args.out.now)) (Some (g.O.Sink.written c.tell.new.out)) heard moved (λ e es x. delivered_visits k first y m of s es x) c.tell.result (unframed heard.lines.items heard.end c.in-Ok.ensures.said) c.tell.ensures.told

pub returns-clause-wrote : goal.returns-clause-wrote
returns-clause-wrote g c = told_writes c.in-Ok.heard c.args.queues.now c.tell.new.queues (Some (g.O.Sink.written c.args.out.now)) (Some (g.O.Sink.written c.tell.new.out)) c.tell.result c.tell.ensures.told
