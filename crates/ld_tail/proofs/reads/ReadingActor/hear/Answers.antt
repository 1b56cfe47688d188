use Rattle.std.proofs.Common.{Some, None, sym, subst}
use Rattle.ld_register.specs.declared.fault.RegisterFault.TheVariants.{Failed}
use Rattle.ld_reader.specs.declared.fault.ReaderFault.TheVariants.{Register}
use Rattle.ld_clients.specs.declared.outcome.Outcome.{Outcome}
use Rattle.ld_node_bounds.specs.Messages.{AreMessages}
use Rattle.ld_machine.specs.State.{reader_of}
use Rattle.ld_machine.specs.Step.{comes_to, to_reader}
use Rattle.ld_rounds.specs.Acts.{IsActed}
use Rattle.ld_tail.specs.Readers.{Follows}
use Rattle.ld_tail.specs.Looking.{HasLooked, looked_here}
use Rattle.ld_tail.proofs.Looked.{answer_looked, reader_looked}
use Rattle.ld_tail.proofs.Clients.{reader_acted, reader_client, told_acted, none_final}
use Rattle.ld_tail.proofs.reads.ReadingActor.hear.Goals as goal

pub returns-in-Ok-clause-messages : goal.returns-in-Ok-clause-messages
returns-in-Ok-clause-messages g c = subst AreMessages (sym c.told.ensures.sends) c.in-Ok.ensures.messages

pub returns-in-Ok-clause-acted : goal.returns-in-Ok-clause-acted
returns-in-Ok-clause-acted g c = λ k s b sound there.
    let m = c.args.message.now in
    let new = c.on_reply.new.self in
    let o = c.in-Ok.outcome in
    let U = g.G.Register.tells c.on_reply.new.reg in
    let found = reader_of c.in-Reader.number s.readers in
    let acted = reader_acted k s new o U U (to_reader k s m found) (c.in-Ok.ensures.done k s there.readers there.register) (λ r h. h) (reader_client k s m found) (c.in-Ok.ensures.logs k there.readers.logs) in
    told_acted _ s o.lines.items c.told.result.lines.items o.sends c.told.result.sends (comes_to k s m m.to) c.told.ensures.lines c.told.ensures.sends
    (subst (λ w. IsActed (Follows new U k) s o.lines.items o.sends (comes_to k s m w)) (sym c.in-Reader.is) acted)

pub returns-in_default-end-clause-since : goal.returns-in_default-end-clause-since
returns-in_default-end-clause-since g c =
    let r = c.args.self.now.register in
    looked_here c.args.self.now.end (g.G.Register.told r) (g.G.Register.holds r) (g.G.Register.may_hold r) (g.G.Register.faults r) (g.G.Register.identity r)

pub returns-in-Ok-clause-since : goal.returns-in-Ok-clause-since
returns-in-Ok-clause-since g c =
    let r = c.args.self.now.register in
    let z = c.on_reply.new.reg in
    answer_looked (g.G.Register.told r) (g.G.Register.told z) (g.G.Register.holds r) (g.G.Register.holds z) (g.G.Register.may_hold r) (g.G.Register.may_hold z) (g.G.Register.faults r) (g.G.Register.faults z) (g.G.Register.identity r) (g.G.Register.identity z) c.in-Ok.ensures.told c.in-Ok.ensures.same c.in-Ok.ensures.counts c.in-Ok.ensures.itself c.args.self.now.end c.in-Ok.outcome (Register Failed) c.in-Ok.ensures.keeps

pub returns-in-Err-clause-since : goal.returns-in-Err-clause-since
returns-in-Err-clause-since g c =
    let r = c.args.self.now.register in
    let z = c.on_reply.new.reg in
    let looked = reader_looked (g.G.Register.told r) (g.G.Register.told z) (g.G.Register.holds r) (g.G.Register.holds z) (g.G.Register.may_hold r) (g.G.Register.may_hold z) (g.G.Register.faults r) (g.G.Register.faults z) (g.G.Register.identity r) (g.G.Register.identity z) c.in-Err.ensures.told c.in-Err.ensures.same c.in-Err.ensures.counts c.in-Err.ensures.itself {T = Outcome} c.in-Err.fault c.in-Err.ensures.keeps c.in-Err.ensures.failed
    (λ place e x h. g.met.G.Register.held_is_whole r x place h (c.in-Err.ensures.damaged place e (g.met.G.Register.held_is_told r x h))) c.in-Err.ensures.refused in
    subst (λ o. HasLooked o (Some c.look_end.result) (g.G.Register.told r) (g.G.Register.told z) (g.G.Register.holds r) (g.G.Register.holds z) (g.G.Register.may_hold r) (g.G.Register.may_hold z) (g.G.Register.faults r) (g.G.Register.faults z) (g.G.Register.identity r) (g.G.Register.identity z)) (sym c.in-None.is) (subst (λ e. HasLooked None (Some e) (g.G.Register.told r) (g.G.Register.told z) (g.G.Register.holds r) (g.G.Register.holds z) (g.G.Register.may_hold r) (g.G.Register.may_hold z) (g.G.Register.faults r) (g.G.Register.faults z) (g.G.Register.identity r) (g.G.Register.identity z)) (sym c.look_end.ensures) looked)

pub returns-in-Ok-clause-ends : goal.returns-in-Ok-clause-ends
returns-in-Ok-clause-ends g c = λ none. none_final c.told.result.lines.items
