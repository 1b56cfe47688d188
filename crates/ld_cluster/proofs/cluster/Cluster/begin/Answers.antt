use Rattle.std.proofs.Common.{◌∷◌, sym, subst}
use Rattle.std.specs.Prelude.{IfOk, OnErr}
use Rattle.ld_cluster.specs.declared.part.Part.{Part}
use Rattle.ld_cluster.specs.Calming.{as_left, left_in, Begins, IsCut, IsOf}
use Rattle.ld_cluster.specs.Standing.{config_of}
use Rattle.ld_cluster.proofs.cluster.Cluster.begin.Goals as goal

pub tick_in-requires-clause-own : goal.tick_in-requires-clause-own
tick_in-requires-clause-own c = subst (λ (p : Part). IsOf (config_of c.args.self.now) (as_left p)) c.in-Ticks.is c.requires.own

pub returns-in-Announces-clause-begins : goal.returns-in-Announces-clause-begins
returns-in-Announces-clause-begins c = subst (λ (p : Part). IfOk c.announce_for.result (λ begun. Begins begun c.args.self.now c.args.lines.now (as_left p ∷ left_in c.args.left.now.items) (left_in c.args.left.now.items) c.announce_for.new.self c.announce_for.new.lines (left_in c.announce_for.new.left.items))) (sym c.in-Announces.is) c.announce_for.ensures.begins

pub returns-in-Announces-clause-part : goal.returns-in-Announces-clause-part
returns-in-Announces-clause-part c = subst (λ (p : Part). OnErr c.announce_for.result (IsCut c.args.self.now c.args.lines.now (as_left p ∷ left_in c.args.left.now.items) c.announce_for.new.self c.announce_for.new.lines)) (sym c.in-Announces.is) c.announce_for.ensures.part

pub returns-in-Settles-clause-begins : goal.returns-in-Settles-clause-begins
returns-in-Settles-clause-begins c = subst (λ (p : Part). IfOk c.deliver_in.result (λ begun. Begins begun c.args.self.now c.args.lines.now (as_left p ∷ left_in c.args.left.now.items) (left_in c.args.left.now.items) c.deliver_in.new.self c.deliver_in.new.lines (left_in c.deliver_in.new.left.items))) (sym c.in-Settles.is) c.deliver_in.ensures.begins

pub returns-in-Settles-clause-part : goal.returns-in-Settles-clause-part
returns-in-Settles-clause-part c = subst (λ (p : Part). OnErr c.deliver_in.result (IsCut c.args.self.now c.args.lines.now (as_left p ∷ left_in c.args.left.now.items) c.deliver_in.new.self c.deliver_in.new.lines)) (sym c.in-Settles.is) c.deliver_in.ensures.part

pub returns-in-Ticks-clause-begins : goal.returns-in-Ticks-clause-begins
returns-in-Ticks-clause-begins c = subst (λ (p : Part). IfOk c.tick_in.result (λ begun. Begins begun c.args.self.now c.args.lines.now (as_left p ∷ left_in c.args.left.now.items) (left_in c.args.left.now.items) c.tick_in.new.self c.tick_in.new.lines (left_in c.tick_in.new.left.items))) (sym c.in-Ticks.is) c.tick_in.ensures.begins

pub returns-in-Ticks-clause-part : goal.returns-in-Ticks-clause-part
returns-in-Ticks-clause-part c = subst (λ (p : Part). OnErr c.tick_in.result (IsCut c.args.self.now c.args.lines.now (as_left p ∷ left_in c.args.left.now.items) c.tick_in.new.self c.tick_in.new.lines)) (sym c.in-Ticks.is) c.tick_in.ensures.part

pub returns-in-Reads-clause-begins : goal.returns-in-Reads-clause-begins
returns-in-Reads-clause-begins c = subst (λ (p : Part). IfOk c.read_in.result (λ begun. Begins begun c.args.self.now c.args.lines.now (as_left p ∷ left_in c.args.left.now.items) (left_in c.args.left.now.items) c.read_in.new.self c.read_in.new.lines (left_in c.read_in.new.left.items))) (sym c.in-Reads.is) c.read_in.ensures.begins

pub returns-in-Reads-clause-part : goal.returns-in-Reads-clause-part
returns-in-Reads-clause-part c = subst (λ (p : Part). OnErr c.read_in.result (IsCut c.args.self.now c.args.lines.now (as_left p ∷ left_in c.args.left.now.items) c.read_in.new.self c.read_in.new.lines)) (sym c.in-Reads.is) c.read_in.ensures.part

pub returns-in-Drains-clause-begins : goal.returns-in-Drains-clause-begins
returns-in-Drains-clause-begins c = subst (λ (p : Part). IfOk c.deliver_in-in-Drains.result (λ begun. Begins begun c.args.self.now c.args.lines.now (as_left p ∷ left_in c.args.left.now.items) (left_in c.args.left.now.items) c.deliver_in-in-Drains.new.self c.deliver_in-in-Drains.new.lines (left_in c.deliver_in-in-Drains.new.left.items))) (sym c.in-Drains.is) c.deliver_in-in-Drains.ensures.begins

pub returns-in-Drains-clause-part : goal.returns-in-Drains-clause-part
returns-in-Drains-clause-part c = subst (λ (p : Part). OnErr c.deliver_in-in-Drains.result (IsCut c.args.self.now c.args.lines.now (as_left p ∷ left_in c.args.left.now.items) c.deliver_in-in-Drains.new.self c.deliver_in-in-Drains.new.lines)) (sym c.in-Drains.is) c.deliver_in-in-Drains.ensures.part

pub returns-in-Again-clause-begins : goal.returns-in-Again-clause-begins
returns-in-Again-clause-begins c = subst (λ (p : Part). IfOk c.ask_again.result (λ begun. Begins begun c.args.self.now c.args.lines.now (as_left p ∷ left_in c.args.left.now.items) (left_in c.args.left.now.items) c.ask_again.new.self c.ask_again.new.lines (left_in c.ask_again.new.left.items))) (sym c.in-Again.is) c.ask_again.ensures.begins

pub returns-in-Again-clause-part : goal.returns-in-Again-clause-part
returns-in-Again-clause-part c = subst (λ (p : Part). OnErr c.ask_again.result (IsCut c.args.self.now c.args.lines.now (as_left p ∷ left_in c.args.left.now.items) c.ask_again.new.self c.ask_again.new.lines)) (sym c.in-Again.is) c.ask_again.ensures.part
