use Rattle.std.proofs.Common.{◌≡◌, ◌⊎◌, rules, List, ℕ, inr, refl, subst, true, codes, Some}
use Rattle.ld_rounds.specs.Drives.{counted}
use Rattle.ld_rounds.specs.Endings.{IsOffAs, IsEndedOff}
use Rattle.ld_rounds.proofs.Endings.{none_ended}
use Rattle.ld_tail.specs.Tails.{IsTailed, IsTailEnd}
use Rattle.ld_cli.specs.Clients.{EndsDrive}
use Rattle.ld_cli.proofs.Drives.{ends_so, driven_so, nothing_read}
use Rattle.ld_cli.proofs.clients.tailed.Goals as goal

pub returns-in_default-clause-tailed : goal.returns-in_default-clause-tailed
returns-in_default-clause-tailed g c = λ s far told begins.
    inr (nothing_read (record { name = codes "r"; log = c.args.words.now.of.log; from = c.args.words.now.from; until = c.args.words.now.until; style = c.args.words.now.style }) (counted (g.N.Nodes.faults c.args.nodes.now) (g.N.Nodes.faults c.args.nodes.now) (g.N.Nodes.endings c.args.nodes.now) (g.N.Nodes.endings c.args.nodes.now)) c.args.words.now.of.rounds c.args.words.now.of.config s (Some (g.O.Sink.written c.args.out.now)))

pub returns-clause-tailed : goal.returns-clause-tailed
returns-clause-tailed g c = λ s far told begins.
    subst
    (λ r.
    (g.N.Nodes.silent c.tail-ended.new.nodes ≡ true) ⊎ EndsDrive (g.N.Nodes.faults c.args.nodes.now) (g.N.Nodes.faults c.tail-ended.new.nodes)
    (IsTailed (record { name = codes "r"; log = c.args.words.now.of.log; from = c.args.words.now.from; until = c.args.words.now.until; style = c.args.words.now.style }) (counted (g.N.Nodes.faults c.args.nodes.now) (g.N.Nodes.faults c.tail-ended.new.nodes) (g.N.Nodes.endings c.args.nodes.now) (g.N.Nodes.endings c.tail-ended.new.nodes)) c.args.words.now.of.rounds
    (g.N.Nodes.tells c.tail-ended.new.nodes) (g.G.Register.tells r) c.args.words.now.of.config s (Some (g.O.Sink.written c.args.out.now)) (Some (g.O.Sink.written c.tail-ended.new.out))) c.status_of.result)
    (search rules)
    (driven_so (g.N.Nodes.silent c.tail-ended.new.nodes ≡ true)
    (λ rounds.
    IsTailed (record { name = codes "r"; log = c.args.words.now.of.log; from = c.args.words.now.from; until = c.args.words.now.until; style = c.args.words.now.style }) (counted (g.N.Nodes.faults c.args.nodes.now) (g.N.Nodes.faults c.tail-ended.new.nodes) (g.N.Nodes.endings c.args.nodes.now) (g.N.Nodes.endings c.tail-ended.new.nodes)) rounds
    (g.N.Nodes.tells c.tail-ended.new.nodes) (g.G.Register.tells c.tail-ended.result.1.now) c.args.words.now.of.config s (Some (g.O.Sink.written c.args.out.now)) (Some (g.O.Sink.written c.tail-ended.new.out)))
    c.args.words.now.of.rounds c.args.words.now.of.rounds refl
    (g.N.Nodes.faults c.args.nodes.now) (g.N.Nodes.faults c.tail-ended.new.nodes) c.failures-before.result c.failures-now.result c.tail-ended.result.0 c.status_of.result c.failures-before.ensures c.failures-now.ensures c.status_of.ensures
    (subst
    (λ (name : List ℕ).
    (g.N.Nodes.silent c.tail-ended.new.nodes ≡ true) ⊎ IsTailed (record { name = name; log = c.args.words.now.of.log; from = c.args.words.now.from; until = c.args.words.now.until; style = c.args.words.now.style }) (counted (g.N.Nodes.faults c.args.nodes.now) (g.N.Nodes.faults c.tail-ended.new.nodes) (g.N.Nodes.endings c.args.nodes.now) (g.N.Nodes.endings c.tail-ended.new.nodes)) c.args.words.now.of.rounds
    (g.N.Nodes.tells c.tail-ended.new.nodes) (g.G.Register.tells c.tail-ended.result.1.now) c.args.words.now.of.config s (Some (g.O.Sink.written c.args.out.now)) (Some (g.O.Sink.written c.tail-ended.new.out)) c.tail-ended.result.0)
    c.in-Ok.ensures (c.tail-ended.ensures.tailed s far told begins)))

pub returns-clause-ends : goal.returns-clause-ends
returns-clause-ends g c =
    subst
    (λ r.
    EndsDrive (g.N.Nodes.faults c.args.nodes.now) (g.N.Nodes.faults c.tail-ended.new.nodes)
    (IsTailEnd (λ place. g.G.Register.told c.args.reg.now → g.G.Register.damaged c.args.reg.now place) (g.G.Register.faults c.args.reg.now) (g.G.Register.faults r) (g.O.Sink.faults c.args.out.now) (g.O.Sink.faults c.tail-ended.new.out)) c.status_of.result)
    (search rules)
    (ends_so (g.N.Nodes.faults c.args.nodes.now) (g.N.Nodes.faults c.tail-ended.new.nodes) c.failures-before.result c.failures-now.result
    (IsTailEnd (λ place. g.G.Register.told c.args.reg.now → g.G.Register.damaged c.args.reg.now place) (g.G.Register.faults c.args.reg.now) (g.G.Register.faults c.tail-ended.result.1.now) (g.O.Sink.faults c.args.out.now) (g.O.Sink.faults c.tail-ended.new.out))
    c.tail-ended.result.0 c.status_of.result c.failures-before.ensures c.failures-now.ensures c.status_of.ensures c.tail-ended.ensures.cause)

pub returns-clause-off : goal.returns-clause-off
returns-clause-off g c = ends_so (g.N.Nodes.faults c.args.nodes.now) (g.N.Nodes.faults c.tail-ended.new.nodes) c.failures-before.result c.failures-now.result (IsOffAs (g.N.Nodes.off c.tail-ended.new.nodes))
    c.tail-ended.result.0 c.status_of.result c.failures-before.ensures c.failures-now.ensures c.status_of.ensures c.tail-ended.ensures.off

pub returns-clause-ended : goal.returns-clause-ended
returns-clause-ended g c = ends_so (g.N.Nodes.faults c.args.nodes.now) (g.N.Nodes.faults c.tail-ended.new.nodes) c.failures-before.result c.failures-now.result (IsEndedOff (g.N.Nodes.off c.args.nodes.now) (g.N.Nodes.off c.tail-ended.new.nodes))
    c.tail-ended.result.0 c.status_of.result c.failures-before.ensures c.failures-now.ensures c.status_of.ensures c.tail-ended.ensures.ended

pub returns-in_default-clause-ended : goal.returns-in_default-clause-ended
returns-in_default-clause-ended g c = λ none. none_ended _ _ none
