use Rattle.std.proofs.Common.{refl, inl, None, Some}
use Rattle.ld_schedule.specs.declared.event.Event.TheVariants.{Activate}
use Rattle.ld_rounds.specs.Rounds.{IsBegun}
use Rattle.ld_rounds.proofs.Going.{stopped_here}
use Rattle.ld_append.specs.Acting.{MayCrowd, HoldsSome, LacksRoom}
use Rattle.ld_append.specs.Appends.{sequencing}
use Rattle.ld_append.proofs.Appending.{started_on}
use Rattle.ld_append.proofs.Ending.{start_cause, start_off, start_unframed}
use Rattle.ld_append.proofs.Keeping.{told_refused}
use Rattle.ld_append.proofs.drives.start.Goals as goal

pub returns-clause-cause : goal.returns-clause-cause
returns-clause-cause g c =
    start_cause (g.G.Register.told c.args.acting.now.register → MayCrowd (g.G.Register.may_hold c.args.acting.now.register) c.args.spec.now.log) (λ place. g.G.Register.told c.args.acting.now.register → g.G.Register.damaged c.args.acting.now.register place) (g.O.Sink.faults c.args.out.now) (g.O.Sink.faults c.tell.new.out) (Some (g.O.Sink.written c.args.out.now)) (Some (g.O.Sink.written c.tell.new.out)) c.in-Ok.heard c.args.queues.now c.tell.new.queues
    c.in-Ok.ensures.told c.in-Ok.ensures.crowded c.in-Ok.ensures.damaged c.tell.result c.tell.ensures.told c.tell.ensures.cause

pub returns-in_default-clause-started : goal.returns-in_default-clause-started
returns-in_default-clause-started g c none first s far b is unset h = stopped_here (sequencing c.args.acting.now.name) ⊥ c.args.config.now first b (IsBegun (Activate c.args.acting.now.name c.args.spec.now.log)) s (Some (g.O.Sink.written c.args.out.now)) (inl refl)

pub returns-clause-started : goal.returns-clause-started
returns-clause-started g c none first s far b is unset h =
    let k = c.args.config.now in
    let old = c.args.acting.now in
    let new = c.activate.new.self in
    started_on (sequencing old.name) ⊥ k b first old.name new.name None new.sequencer (g.G.Register.tells old.register) (g.G.Register.tells new.register) s far c.args.queues.now c.tell.new.queues (Some (g.O.Sink.written c.args.out.now)) (Some (g.O.Sink.written c.tell.new.out)) c.in-Ok.heard h (start_unframed c.in-Ok.heard.lines.items c.in-Ok.heard.end c.in-Ok.ensures.told) c.tell.result c.tell.ensures.told
    c.args.spec.now.log (c.in-Ok.ensures.activated none s b is unset h.sound h.actor)

pub returns-clause-refused : goal.returns-clause-refused
returns-clause-refused g c = told_refused (λ place. g.G.Register.told c.args.acting.now.register → g.G.Register.damaged c.args.acting.now.register place) (g.G.Register.told c.args.acting.now.register → HoldsSome (g.G.Register.holds c.args.acting.now.register) × LacksRoom (g.G.Register.holds c.activate.new.self.register)) (g.G.Register.faults c.args.acting.now.register) (g.G.Register.faults c.activate.new.self.register) (g.O.Sink.faults c.args.out.now) (g.O.Sink.faults c.tell.new.out) c.in-Ok.heard.end c.in-Ok.ensures.refused c.tell.result c.tell.ensures.cause

pub returns-clause-off : goal.returns-clause-off
returns-clause-off g c = λ off. start_off (g.O.Sink.faults c.args.out.now) (g.O.Sink.faults c.tell.new.out) c.in-Ok.heard.lines.items c.in-Ok.heard.end off c.tell.result c.in-Ok.ensures.told c.tell.ensures.cause
