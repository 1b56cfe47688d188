use Rattle.std.proofs.Common.{Option, Err, IfSome, subst}
use Rattle.ld_msg.specs.declared.msg.Msg.{Msg}
use Rattle.ld_framed.specs.Hearing.{HearsSome}
use Rattle.ld_framed.proofs.Hearing.{heard_as}
use Rattle.ld_dial.specs.Far.{CountsFault}
use Rattle.ld_dial.specs.Framed.{IsUnheard}
use Rattle.ld_dial.proofs.framed.FramedNodes.receive.Goals as goal

pub returns-in-Err-clause-heard : goal.returns-in-Err-clause-heard
returns-in-Err-clause-heard g c fine =
    subst (λ line. IfSome (g.L.Link.peers line.link) (λ old. HearsSome old (g.L.Link.peers c.next_frame.new.link) line.held.bytes (λ held. IsUnheard held c.fault_of.result))) c.self.view_is
    (heard_as _ _ _ _ _ c.fault_of.ensures.told c.in-Err.ensures.heard)

pub returns-in-Err-clause-counts : goal.returns-in-Err-clause-counts
returns-in-Err-clause-counts g c =
    subst (λ line. CountsFault {T = Option Msg} (g.L.Link.faults line.link) (g.L.Link.faults c.next_frame.new.link) (Err c.fault_of.result)) c.self.view_is
    (c.fault_of.ensures.counts _ _ c.in-Err.ensures.counts)
