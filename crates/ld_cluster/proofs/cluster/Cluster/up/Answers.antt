use Rattle.std.proofs.Common.{◌∙◌, sym}
use Rattle.ld_cluster.specs.Standing.{state_of}
use Rattle.ld_machine.specs.Step.{kept_lines}
use Rattle.ld_cluster.proofs.Stopping.{not_loaded, loaded_done}
use Rattle.ld_cluster.proofs.cluster.Cluster.up.Goals as goal

pub returns-then-not-is_down-clause-done : goal.returns-then-not-is_down-clause-done
returns-then-not-is_down-clause-done c = not_loaded c.args.self.now (state_of c.args.self.now) c.requires.reached.parts c.args.node c.nothing.result (sym (c.is_down.ensures (state_of c.args.self.now) c.requires.reached.parts) ∙ c.if-not-is_down.true) c.nothing.ensures.lines c.nothing.ensures.sends

pub returns-clause-done : goal.returns-clause-done
returns-clause-done c =
    let d = c.in_ok-end.ensures _ c.requires.reached.parts.nodes in
    loaded_done c.args.self.now (state_of c.args.self.now) c.requires.reached.parts c.args.node _ c.load.new.self (sym (c.is_down.ensures (state_of c.args.self.now) c.requires.reached.parts) ∙ c.if-not-is_down.false) d.0
    (c.in_ok-lines.ensures ∙ (λ i. kept_lines c.args.node (c.in_ok-up.ensures i) (d.1 i))) c.empty.ensures
