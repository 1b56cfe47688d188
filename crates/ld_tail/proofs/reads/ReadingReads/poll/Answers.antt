use Rattle.std.proofs.Common.{Some, None, sym, subst}
use Rattle.ld_register.specs.declared.fault.RegisterFault.TheVariants.{Failed}
use Rattle.ld_reader.specs.declared.fault.ReaderFault.TheVariants.{Register}
use Rattle.ld_clients.specs.declared.outcome.Outcome.{Outcome}
use Rattle.ld_schedule.specs.declared.event.Event.TheVariants.{Poll}
use Rattle.ld_node_bounds.specs.Messages.{AreMessages}
use Rattle.ld_machine.specs.Step.{happens}
use Rattle.ld_tail.specs.Looking.{HasLooked, looked_here}
use Rattle.ld_tail.proofs.Looked.{answer_looked, reader_looked}
use Rattle.ld_tail.proofs.Clients.{reader_acted, poll_client, told_acted}
use Rattle.ld_tail.proofs.reads.ReadingReads.poll.Goals as goal

pub returns-in-Ok-clause-messages : goal.returns-in-Ok-clause-messages
returns-in-Ok-clause-messages g c = subst AreMessages (sym c.told.ensures.sends) c.in-Ok.ensures.messages

pub returns-in-Ok-clause-polled : goal.returns-in-Ok-clause-polled
returns-in-Ok-clause-polled g c = λ k s b sound there.
    let new = c.poll.new.self in
    let o = c.in-Ok.outcome in
    let U = g.G.Register.tells c.poll.new.reg in
    let done = happens k s (Poll c.args.name.now) in
    told_acted _ s o.lines.items c.told.result.lines.items o.sends c.told.result.sends done c.told.ensures.lines c.told.ensures.sends
    (reader_acted k s new o U U done (c.in-Ok.ensures.done k s there.readers there.register) (λ r h. h) (poll_client k s c.args.name.now) (c.in-Ok.ensures.logs k there.readers.logs))

pub returns-in_default-clause-since : goal.returns-in_default-clause-since
returns-in_default-clause-since g c =
    let r = c.args.self.now.register in
    looked_here c.args.self.now.end (g.G.Register.told r) (g.G.Register.holds r) (g.G.Register.may_hold r) (g.G.Register.faults r) (g.G.Register.identity r)

pub returns-in-Ok-clause-since : goal.returns-in-Ok-clause-since
returns-in-Ok-clause-since g c =
    let r = c.args.self.now.register in
    let z = c.poll.new.reg in
    answer_looked (g.G.Register.told r) (g.G.Register.told z) (g.G.Register.holds r) (g.G.Register.holds z) (g.G.Register.may_hold r) (g.G.Register.may_hold z) (g.G.Register.faults r) (g.G.Register.faults z) (g.G.Register.identity r) (g.G.Register.identity z) c.in-Ok.ensures.told c.in-Ok.ensures.same c.in-Ok.ensures.counts c.in-Ok.ensures.itself c.args.self.now.end c.in-Ok.outcome (Register Failed) c.in-Ok.ensures.keeps

pub returns-in-Err-clause-since : goal.returns-in-Err-clause-since
returns-in-Err-clause-since g c =
    let r = c.args.self.now.register in
    let z = c.poll.new.reg in
    let looked = reader_looked (g.G.Register.told r) (g.G.Register.told z) (g.G.Register.holds r) (g.G.Register.holds z) (g.G.Register.may_hold r) (g.G.Register.may_hold z) (g.G.Register.faults r) (g.G.Register.faults z) (g.G.Register.identity r) (g.G.Register.identity z) c.in-Err.ensures.told c.in-Err.ensures.same c.in-Err.ensures.counts c.in-Err.ensures.itself {T = Outcome} c.in-Err.fault c.in-Err.ensures.keeps c.in-Err.ensures.failed
    (λ place e x h. g.met.G.Register.held_is_whole r x place h (c.in-Err.ensures.damaged place e (g.met.G.Register.held_is_told r x h))) c.in-Err.ensures.refused in
    subst (λ o. HasLooked o (Some c.look_end.result) (g.G.Register.told r) (g.G.Register.told z) (g.G.Register.holds r) (g.G.Register.holds z) (g.G.Register.may_hold r) (g.G.Register.may_hold z) (g.G.Register.faults r) (g.G.Register.faults z) (g.G.Register.identity r) (g.G.Register.identity z)) (sym c.in-None.is) (subst (λ e. HasLooked None (Some e) (g.G.Register.told r) (g.G.Register.told z) (g.G.Register.holds r) (g.G.Register.holds z) (g.G.Register.may_hold r) (g.G.Register.may_hold z) (g.G.Register.faults r) (g.G.Register.faults z) (g.G.Register.identity r) (g.G.Register.identity z)) (sym c.look_end.ensures) looked)
