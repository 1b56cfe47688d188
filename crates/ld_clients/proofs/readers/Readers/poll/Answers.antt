use Rattle.std.proofs.Common.{sym, subst}
use Rattle.ld_clients.specs.Followers.{KnowTheirLogs}
use Rattle.ld_clients.proofs.Followings.{know_polled}
use Rattle.ld_clients.proofs.Reading.{poll_done}
use Rattle.ld_clients.proofs.readers.Readers.poll.Goals as goal

pub returns-in_err-ask-clause-logs : goal.returns-in_err-ask-clause-logs
returns-in_err-ask-clause-logs g c = λ d k. subst (KnowTheirLogs d) (sym c.in_err-ask.ensures.err) k

pub returns-clause-done : goal.returns-clause-done
returns-clause-done g c = λ d s h t. poll_done d s c.args.self.now h c.args.name.now c.ask.new.self (record { lines = c.new.result; sends = c.ask.new.sends }) (g.G.Register.tells c.ask.new.reg) c.empty-sends.result c.new.ensures.items c.empty-sends.ensures
    (λ f e. c.in_ok-ask.ensures.exact f e s.register t)
    (λ e. ((c.in_ok-ask.ensures.none e).0, (c.in_ok-ask.ensures.none e).1, (c.in_ok-ask.ensures.none e).2 s.register t))

pub returns-clause-logs : goal.returns-clause-logs
returns-clause-logs g c = λ d k. know_polled d c.args.self.now c.ask.new.self c.args.name.now c.empty-sends.result c.ask.new.sends c.in_ok-ask.ensures.acted (λ e. (c.in_ok-ask.ensures.none e).0) k
