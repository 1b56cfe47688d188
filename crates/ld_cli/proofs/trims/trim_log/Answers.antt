use Rattle.std.proofs.Common.{◌≡◌, ◌⊎◌, rules, subst, true, Some}
use Rattle.ld_append.specs.Acting.{HoldsSome, LacksRoom}
use Rattle.ld_append.specs.Appends.{IsAppended, IsRefused}
use Rattle.ld_rounds.specs.Drives.{counted}
use Rattle.ld_cli.specs.Trims.{trim_coming}
use Rattle.ld_cli.proofs.trims.trim_log.Goals as goal

pub returns-clause-appended : goal.returns-clause-appended
returns-clause-appended g c = λ s far bounds spec unset told begins.
    subst
    (λ r.
    (g.N.Nodes.silent c.append-ended.new.nodes ≡ true) ⊎ IsAppended c.args.name c.args.spec.now.log (counted (g.N.Nodes.faults c.args.nodes.now) (g.N.Nodes.faults c.append-ended.new.nodes) (g.N.Nodes.endings c.args.nodes.now) (g.N.Nodes.endings c.append-ended.new.nodes)) (Some (trim_coming c.args.asked.now.upto)) c.args.words.now.rounds
    (g.N.Nodes.tells c.append-ended.new.nodes) (g.G.Register.tells r) c.args.words.now.config s (Some (g.O.Sink.written c.args.out.now)) (Some (g.O.Sink.written c.append-ended.new.out)) c.append-ended.result.0)
    (search rules)
    (c.append-ended.ensures.appended s far bounds spec unset told begins)

pub returns-clause-refused : goal.returns-clause-refused
returns-clause-refused g c =
    subst (λ r. IsRefused (λ place. g.G.Register.told c.args.reg.now → g.G.Register.damaged c.args.reg.now place) (g.G.Register.told c.args.reg.now → HoldsSome (g.G.Register.holds c.args.reg.now) × LacksRoom (g.G.Register.holds r)) (g.G.Register.faults c.args.reg.now) (g.G.Register.faults r) c.append-ended.result.0) (search rules)
    c.append-ended.ensures.refused
