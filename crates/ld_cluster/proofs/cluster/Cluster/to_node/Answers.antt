use Rattle.std.proofs.Common.{◌∙◌, sym}
use Rattle.ld_cluster.specs.Standing.{state_of}
use Rattle.ld_machine.specs.Step.{marked, kept_lines}
use Rattle.ld_cluster.proofs.Chosen.{first_of, second_of}
use Rattle.ld_cluster.proofs.Parting.{up_is}
use Rattle.ld_cluster.proofs.Delivering.{not_served, served_done}
use Rattle.ld_cluster.proofs.cluster.Cluster.to_node.Goals as goal

pub returns-then-not-serves-clause-done : goal.returns-then-not-serves-clause-done
returns-then-not-serves-clause-done c = not_served c.args.self.now (marked (state_of c.args.self.now) c.args.number) c.args.node c.args.msg.now c.nothing.result c.requires.stands.parts (sym (c.serves.ensures (marked (state_of c.args.self.now) c.args.number) c.requires.stands.parts) ∙ c.if-not-serves.true) c.nothing.ensures.lines c.nothing.ensures.sends

pub returns-clause-done : goal.returns-clause-done
returns-clause-done c =
    let b = sym (c.serves.ensures (marked (state_of c.args.self.now) c.args.number) c.requires.stands.parts) ∙ c.if-not-serves.false in
    let d = c.in_ok-end.ensures.up _ (marked (state_of c.args.self.now) c.args.number).nodes c.requires.stands.parts.nodes (up_is _ (first_of _ _ b)) c.requires.to (second_of _ _ b) in
    served_done c.args.self.now (marked (state_of c.args.self.now) c.args.number) c.on_msg.new.self c.args.node c.args.msg.now (record { lines = c.in_ok-lines.lines; sends = c.in_ok-end.sends }) c.requires.stands.parts b d.0
    (c.in_ok-lines.ensures ∙ (λ i. kept_lines c.args.node (c.new.ensures.items i) (d.1 i))) d.2
