use Rattle.std.proofs.Common.{List, arith, ap, subst, sym}
use Rattle.std.proofs.lemmas.List.{nil_from_length}
use Rattle.ld_register.proofs.Committing.{on_err}
use Rattle.ld_cluster.specs.Calming.{as_left, left_in, AreOf}
use Rattle.ld_cluster.specs.declared.cluster.Cluster.{Cluster}
use Rattle.ld_cluster.specs.declared.part.Part.{Part}
use Rattle.ld_cluster.specs.Standing.{config_of}
use Rattle.ld_cluster.proofs.Calming.{left_last, passed_all, passed_cut, passed_fewer, passed_here, passed_of, passed_one, passed_start, passed_took}
use Rattle.ld_cluster.proofs.cluster.Cluster.calm_step.Goals as goal

pub parts-init : goal.parts-init
parts-init c = passed_start c.args.self.now c.args.lines.now (left_in c.args.left.now.items) c.requires.of

pub begin-requires : goal.begin-requires
begin-requires c =
    let last = left_last c.pop.new.self.items c.parts.left.items c.in-Some.part c.in-Some.ensures.items in
    let h = passed_of c.args.self.now c.parts.self c.args.lines.now c.parts.lines (left_in c.args.left.now.items) (left_in c.parts.left.items) (left_in c.pop.new.self.items) (as_left c.in-Some.part) c.parts.invariant last in
    record { reached = passed_here c.args.self.now c.parts.self c.args.lines.now c.parts.lines (left_in c.args.left.now.items) (left_in c.parts.left.items) c.parts.invariant c.requires.reached; own = h.0; of = h.1 }

pub parts-preserved : goal.parts-preserved
parts-preserved c = passed_one c.args.self.now c.parts.self c.begin.new.self c.args.lines.now c.parts.lines c.begin.new.lines (left_in c.args.left.now.items) (left_in c.parts.left.items) (left_in c.pop.new.self.items) (left_in c.begin.new.left.items) (as_left c.in-Some.part) c.in_ok-begun.begun c.parts.invariant
    (left_last c.pop.new.self.items c.parts.left.items c.in-Some.part c.in-Some.ensures.items) c.if-begun.false c.in_ok-begun.ensures.begins c.in_ok-begun.ensures.of

pub returns-then-begun-clause-took : goal.returns-then-begun-clause-took
returns-then-begun-clause-took c = passed_took c.args.self.now c.parts.self c.begin.new.self c.args.lines.now c.parts.lines c.begin.new.lines (left_in c.args.left.now.items) (left_in c.parts.left.items) (left_in c.pop.new.self.items) (left_in c.begin.new.left.items) (as_left c.in-Some.part) c.in_ok-begun.begun c.parts.invariant
    (left_last c.pop.new.self.items c.parts.left.items c.in-Some.part c.in-Some.ensures.items) c.if-begun.true c.in_ok-begun.ensures.begins

pub returns-in_err-begun-clause-part : goal.returns-in_err-begun-clause-part
returns-in_err-begun-clause-part c = on_err c.from_residual.result _ (passed_cut c.args.self.now c.parts.self c.begin.new.self c.args.lines.now c.parts.lines c.begin.new.lines (left_in c.args.left.now.items) (left_in c.parts.left.items) (left_in c.pop.new.self.items) (as_left c.in-Some.part) c.parts.invariant
    (left_last c.pop.new.self.items c.parts.left.items c.in-Some.part c.in-Some.ensures.items) c.in_err-begun.ensures.part)

pub returns-clause-took : goal.returns-clause-took
returns-clause-took c = passed_all c.args.self.now c.parts.self c.args.lines.now c.parts.lines (left_in c.args.left.now.items) (left_in c.parts.left.items) c.parts.invariant (ap left_in (nil_from_length c.parts.left.items (omega (arith, c.in_default.ensures.cases.0))))

pub returns-clause-of : goal.returns-clause-of
returns-clause-of c = subst (λ (ps : List Part). AreOf (config_of c.args.self.now) (left_in ps)) (sym (nil_from_length c.pop.new.self.items (omega (arith, c.in_default.ensures.cases.1)))) tt

pub parts-smaller : goal.parts-smaller
parts-smaller c = passed_fewer c.parts.self c.begin.new.self c.parts.lines c.begin.new.lines (left_in c.parts.left.items) (left_in c.pop.new.self.items) (left_in c.begin.new.left.items) (as_left c.in-Some.part) c.in_ok-begun.begun
    (left_last c.pop.new.self.items c.parts.left.items c.in-Some.part c.in-Some.ensures.items) c.if-begun.false c.in_ok-begun.ensures.begins

pub returns-then-begun-clause-of : goal.returns-then-begun-clause-of
returns-then-begun-clause-of c = subst (λ (k : Cluster). AreOf (config_of k) (left_in c.begin.new.left.items)) c.parts.invariant.same c.in_ok-begun.ensures.of
