use Rattle.std.proofs.Common.{◌∙◌, sym, refl}
use Rattle.ld_cluster.specs.Standing.{config_of, state_of}
use Rattle.ld_host.specs.Standing.{node_in}
use Rattle.ld_cluster.proofs.Chosen.{second_of}
use Rattle.ld_cluster.proofs.Parting.{blank_is}
use Rattle.ld_cluster.proofs.Formatting.{not_blank, formatted_done, draws_as, known_as, told_is}
use Rattle.ld_cluster.proofs.cluster.Cluster.format.Goals as goal

pub returns-then-not-is_blank-clause-done : goal.returns-then-not-is_blank-clause-done
returns-then-not-is_blank-clause-done c = not_blank c.args.self.now (state_of c.args.self.now) c.args.node c.nothing.result c.requires.reached.parts (sym (c.is_blank.ensures (state_of c.args.self.now) c.requires.reached.parts) ∙ c.if-not-is_blank.true) c.nothing.ensures.lines c.nothing.ensures.sends

pub returns-clause-done : goal.returns-clause-done
returns-clause-done c =
    let b = sym (c.is_blank.ensures (state_of c.args.self.now) c.requires.reached.parts) ∙ c.if-not-is_blank.false in
    let d = c.in_ok-formatted.ensures.blank _ _ c.requires.reached.parts.nodes (blank_is _ (second_of _ _ b)) c.requires.reached.parts.register in
    formatted_done c.args.self.now (record c.args.self.now { hosts = c.format.new.self; register = c.format.new.reg }) (state_of c.args.self.now) c.args.node c.in_ok-formatted.formatted d.node d.register _ c.requires.reached.parts refl refl refl refl refl refl b d.stands d.told d.does
    (c.in_ok-lines.ensures ∙ told_is (config_of c.args.self.now) (config_of c.args.self.now) c.args.node d.register c.in_ok-formatted.formatted (known_as (config_of c.args.self.now) (node_in (state_of c.args.self.now).nodes c.args.node) c.args.node (state_of c.args.self.now).register c.in_ok-formatted.formatted d.node d.register d.does c.requires.reached.sound.register.logs) (draws_as (node_in (state_of c.args.self.now).nodes c.args.node) c.args.node (state_of c.args.self.now).register c.in_ok-formatted.formatted d.node d.register d.does)) c.empty.ensures
