use Rattle.std.proofs.Common.{◌≡◌, ◌⊎◌, rules, refl, subst, true, Some}
use Rattle.std.specs.Io.KnownBytes.{prepend_known}
use Rattle.ld_io.specs.Input.{left_of}
use Rattle.ld_append.specs.Acting.{MayCrowd, HoldsSome, LacksRoom}
use Rattle.ld_append.specs.Appends.{IsAppended, IsEndOfAppend, IsRefused}
use Rattle.ld_cli.specs.Clients.{EndsDrive}
use Rattle.ld_cli.specs.Payloads.{input_after}
use Rattle.ld_rounds.specs.Drives.{counted}
use Rattle.ld_rounds.specs.Endings.{IsOffAs, IsEndedOff}
use Rattle.ld_cli.proofs.Drives.{ends_so, driven_so}
use Rattle.ld_cli.proofs.clients.append_lines.Goals as goal

pub returns-clause-ends : goal.returns-clause-ends
returns-clause-ends g c = ends_so (g.N.Nodes.faults c.args.nodes.now) (g.N.Nodes.faults c.append-ended.new.nodes) c.failures-before.result c.failures-now.result
    (IsEndOfAppend (g.G.Register.told c.args.reg.now → MayCrowd (g.G.Register.may_hold c.args.reg.now) c.args.spec.now.log) (λ place. g.G.Register.told c.args.reg.now → g.G.Register.damaged c.args.reg.now place) (input_after c.args.lines.now.held.now.batches c.args.lines.now.held.now.number (prepend_known c.args.lines.now.held.now.buffer (left_of (g.I.Source.known c.args.lines.now.input.now) (g.I.Source.gave c.args.lines.now.input.now)))) (g.I.Source.faults c.args.lines.now.input.now) (g.I.Source.faults c.append-ended.new.input.input.now) (g.O.Sink.faults c.args.out.now)
    (g.O.Sink.faults c.append-ended.new.out) (Some (g.O.Sink.written c.args.out.now)) (Some (g.O.Sink.written c.append-ended.new.out)))
    c.append-ended.result.0 c.status_of.result c.failures-before.ensures c.failures-now.ensures c.status_of.ensures c.append-ended.ensures.cause

pub returns-clause-appended : goal.returns-clause-appended
returns-clause-appended g c = λ s far bounds spec unset told begins.
    subst
    (λ r.
    (g.N.Nodes.silent c.append-ended.new.nodes ≡ true) ⊎ EndsDrive (g.N.Nodes.faults c.args.nodes.now) (g.N.Nodes.faults c.append-ended.new.nodes)
    (IsAppended c.args.name c.args.spec.now.log (counted (g.N.Nodes.faults c.args.nodes.now) (g.N.Nodes.faults c.append-ended.new.nodes) (g.N.Nodes.endings c.args.nodes.now) (g.N.Nodes.endings c.append-ended.new.nodes)) (input_after c.args.lines.now.held.now.batches c.args.lines.now.held.now.number (prepend_known c.args.lines.now.held.now.buffer (left_of (g.I.Source.known c.args.lines.now.input.now) (g.I.Source.gave c.args.lines.now.input.now)))) c.args.words.now.rounds
    (g.N.Nodes.tells c.append-ended.new.nodes) (g.G.Register.tells r) c.args.words.now.config s (Some (g.O.Sink.written c.args.out.now)) (Some (g.O.Sink.written c.append-ended.new.out))) c.status_of.result)
    (search rules)
    (driven_so (g.N.Nodes.silent c.append-ended.new.nodes ≡ true)
    (λ rounds.
    IsAppended c.args.name c.args.spec.now.log (counted (g.N.Nodes.faults c.args.nodes.now) (g.N.Nodes.faults c.append-ended.new.nodes) (g.N.Nodes.endings c.args.nodes.now) (g.N.Nodes.endings c.append-ended.new.nodes)) (input_after c.args.lines.now.held.now.batches c.args.lines.now.held.now.number (prepend_known c.args.lines.now.held.now.buffer (left_of (g.I.Source.known c.args.lines.now.input.now) (g.I.Source.gave c.args.lines.now.input.now)))) rounds
    (g.N.Nodes.tells c.append-ended.new.nodes) (g.G.Register.tells c.append-ended.result.1.now) c.args.words.now.config s (Some (g.O.Sink.written c.args.out.now)) (Some (g.O.Sink.written c.append-ended.new.out)))
    c.args.words.now.rounds c.args.words.now.rounds refl
    (g.N.Nodes.faults c.args.nodes.now) (g.N.Nodes.faults c.append-ended.new.nodes) c.failures-before.result c.failures-now.result c.append-ended.result.0 c.status_of.result c.failures-before.ensures c.failures-now.ensures c.status_of.ensures
    (c.append-ended.ensures.appended s far bounds spec unset told begins))

pub returns-clause-refused : goal.returns-clause-refused
returns-clause-refused g c =
    subst (λ r. EndsDrive (g.N.Nodes.faults c.args.nodes.now) (g.N.Nodes.faults c.append-ended.new.nodes) (IsRefused (λ place. g.G.Register.told c.args.reg.now → g.G.Register.damaged c.args.reg.now place) (g.G.Register.told c.args.reg.now → HoldsSome (g.G.Register.holds c.args.reg.now) × LacksRoom (g.G.Register.holds r)) (g.G.Register.faults c.args.reg.now) (g.G.Register.faults r)) c.status_of.result) (search rules)
    (ends_so (g.N.Nodes.faults c.args.nodes.now) (g.N.Nodes.faults c.append-ended.new.nodes) c.failures-before.result c.failures-now.result
    (IsRefused (λ place. g.G.Register.told c.args.reg.now → g.G.Register.damaged c.args.reg.now place) (g.G.Register.told c.args.reg.now → HoldsSome (g.G.Register.holds c.args.reg.now) × LacksRoom (g.G.Register.holds c.append-ended.result.1.now)) (g.G.Register.faults c.args.reg.now) (g.G.Register.faults c.append-ended.result.1.now))
    c.append-ended.result.0 c.status_of.result c.failures-before.ensures c.failures-now.ensures c.status_of.ensures c.append-ended.ensures.refused)

pub returns-clause-off : goal.returns-clause-off
returns-clause-off g c = ends_so (g.N.Nodes.faults c.args.nodes.now) (g.N.Nodes.faults c.append-ended.new.nodes) c.failures-before.result c.failures-now.result (IsOffAs (g.N.Nodes.off c.append-ended.new.nodes))
    c.append-ended.result.0 c.status_of.result c.failures-before.ensures c.failures-now.ensures c.status_of.ensures c.append-ended.ensures.off

pub returns-clause-ended : goal.returns-clause-ended
returns-clause-ended g c = ends_so (g.N.Nodes.faults c.args.nodes.now) (g.N.Nodes.faults c.append-ended.new.nodes) c.failures-before.result c.failures-now.result (IsEndedOff (g.N.Nodes.off c.args.nodes.now) (g.N.Nodes.off c.append-ended.new.nodes))
    c.append-ended.result.0 c.status_of.result c.failures-before.ensures c.failures-now.ensures c.status_of.ensures c.append-ended.ensures.ended
