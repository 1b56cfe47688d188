use Rattle.std.proofs.Common.{◌≡◌, ◌∙◌, true, false, sym, ap, refl}
use Rattle.ld_cluster.specs.Standing.{config_of, state_of}
use Rattle.ld_machine.specs.Step.{kept_lines}
use Rattle.ld_cluster.specs.Ticking.{tick_lines, asks_of}
use Rattle.ld_cluster.proofs.Chosen.{first_of, second_of}
use Rattle.ld_cluster.proofs.Parting.{up_is, closed_are}
use Rattle.ld_cluster.proofs.Ticking.{cleaned_is, cleaned_not, nowhere, not_ticking, ticked_done}
use Rattle.ld_cluster.proofs.cluster.Cluster.look.Goals as goal

pub returns-then-not-has-clause-done : goal.returns-then-not-has-clause-done
returns-then-not-has-clause-done c = nowhere c.args.self.now (state_of c.args.self.now) c.requires.reached.parts c.args.node c.args.log c.nothing.result (sym c.has.ensures.member ∙ c.if-not-has.true) c.nothing.ensures.lines c.nothing.ensures.sends

pub returns-then-not-serves-clause-done : goal.returns-then-not-serves-clause-done
returns-then-not-serves-clause-done c = not_ticking c.args.self.now (state_of c.args.self.now) c.requires.reached.parts c.args.node c.args.log c.nothing-then-not-serves.result (sym c.has.ensures.member ∙ c.if-not-has.false) (sym (c.serves.ensures (state_of c.args.self.now) c.requires.reached.parts) ∙ c.if-not-serves.true) c.nothing-then-not-serves.ensures.lines c.nothing-then-not-serves.ensures.sends

pub returns-clause-done : goal.returns-clause-done
returns-clause-done c =
    let b = sym (c.serves.ensures (state_of c.args.self.now) c.requires.reached.parts) ∙ c.if-not-serves.false in
    let d = c.in_ok-end.ensures.up _ _ _ c.requires.reached.parts.nodes (up_is _ (first_of _ _ b)) (second_of _ _ b) (closed_are (config_of c.args.self.now) (state_of c.args.self.now) c.requires.reached.sound c.args.log) c.requires.reached.parts.register in
    ticked_done c.args.self.now (state_of c.args.self.now) c.requires.reached.parts c.args.node c.args.log _ (record c.args.self.now { hosts = c.tick.new.self; register = c.tick.new.reg }) refl refl refl refl refl refl (sym c.has.ensures.member ∙ c.if-not-has.false) b d.0 d.1
    (c.in_ok-lines.ensures ∙ (λ i. kept_lines c.args.node ((c.in_ok-line.ensures ∙ ap (tick_lines c.args.node c.args.log) d.3) i) (d.2 i))) (c.asks-sends.ensures ∙ ap asks_of d.3)

pub returns-then-not-has-clause-cleans : goal.returns-then-not-has-clause-cleans
returns-then-not-has-clause-cleans c = λ h g. let e : true ≡ false = sym h ∙ (sym c.has.ensures.member ∙ c.if-not-has.true) in absurd cc

pub returns-then-not-serves-clause-cleans : goal.returns-then-not-serves-clause-cleans
returns-then-not-serves-clause-cleans c = λ h g. cleaned_not (config_of c.args.self.now) (state_of c.args.self.now) c.args.node c.args.log g (sym (c.serves.ensures (state_of c.args.self.now) c.requires.reached.parts) ∙ c.if-not-serves.true)

pub returns-clause-cleans : goal.returns-clause-cleans
returns-clause-cleans c = λ h g.
    let b = sym (c.serves.ensures (state_of c.args.self.now) c.requires.reached.parts) ∙ c.if-not-serves.false in
    let d = c.in_ok-end.ensures.up _ _ _ c.requires.reached.parts.nodes (up_is _ (first_of _ _ b)) (second_of _ _ b) (closed_are (config_of c.args.self.now) (state_of c.args.self.now) c.requires.reached.sound c.args.log) c.requires.reached.parts.register in
    cleaned_is (config_of c.args.self.now) (state_of c.args.self.now) c.args.node c.args.log _ _ (first_of _ _ b) d.3 c.has_cleaned-cleaned.ensures
