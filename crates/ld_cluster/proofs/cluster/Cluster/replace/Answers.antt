use Rattle.std.proofs.Common.{◌∙◌, sym, refl}
use Rattle.ld_cluster.specs.Standing.{state_of}
use Rattle.ld_cluster.proofs.Swapping.{not_there, replaced_done}
use Rattle.ld_cluster.proofs.cluster.Cluster.replace.Goals as goal

pub returns-then-not-has-clause-done : goal.returns-then-not-has-clause-done
returns-then-not-has-clause-done c = not_there c.args.self.now (state_of c.args.self.now) c.requires.reached.parts c.args.node c.args.other c.args.log c.nothing.result (sym c.has.ensures.member ∙ c.if-not-has.true) c.nothing.ensures.lines c.nothing.ensures.sends

pub returns-clause-done : goal.returns-clause-done
returns-clause-done c =
    let d = c.in_ok-outcome.ensures.lines _ _ _ c.requires.reached.parts.nodes c.requires.reached.parts.register in
    replaced_done c.args.self.now (state_of c.args.self.now) c.requires.reached.parts c.args.node c.args.other c.args.log c.in_ok-outcome.outcome (record c.args.self.now { register = c.swap.new.reg }) refl refl refl refl refl refl refl
    (sym c.has.ensures.member ∙ c.if-not-has.false) d.1 d.0 c.in_ok-outcome.ensures.sends
