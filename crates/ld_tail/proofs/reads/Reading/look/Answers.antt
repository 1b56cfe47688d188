use Rattle.std.proofs.Common.{Some, None, Err, ap, sym, subst, ◌∙◌}
use Rattle.ld_register.specs.declared.fault.RegisterFault.{RegisterFault}
use Rattle.ld_register.specs.declared.fault.RegisterFault.TheVariants.{Failed}
use Rattle.ld_tail.specs.Looking.{HasLooked}
use Rattle.ld_tail.proofs.Looked.{answer_looked, register_looked, damaged_by}
use Rattle.ld_tail.proofs.reads.Reading.look.Goals as goal

pub returns-in-Ok-clause-looked : goal.returns-in-Ok-clause-looked
returns-in-Ok-clause-looked g c = λ none.
    let r = c.args.self.now.register in
    let z = c.look.new.self in
    subst (λ o. HasLooked None o (g.G.Register.told r) (g.G.Register.told z) (g.G.Register.holds r) (g.G.Register.holds z) (g.G.Register.may_hold r) (g.G.Register.may_hold z) (g.G.Register.faults r) (g.G.Register.faults z) (g.G.Register.identity r) (g.G.Register.identity z)) (sym none)
    (answer_looked (g.G.Register.told r) (g.G.Register.told z) (g.G.Register.holds r) (g.G.Register.holds z) (g.G.Register.may_hold r) (g.G.Register.may_hold z) (g.G.Register.faults r) (g.G.Register.faults z) (g.G.Register.identity r) (g.G.Register.identity z) c.in-Ok.ensures.told c.in-Ok.ensures.same c.in-Ok.ensures.counts c.in-Ok.ensures.itself None _ Failed c.in-Ok.ensures.keeps)

pub returns-in-Err-clause-looked : goal.returns-in-Err-clause-looked
returns-in-Err-clause-looked g c = λ none.
    let r = c.args.self.now.register in
    let z = c.look.new.self in
    subst (λ e. HasLooked None (Some e) (g.G.Register.told r) (g.G.Register.told z) (g.G.Register.holds r) (g.G.Register.holds z) (g.G.Register.may_hold r) (g.G.Register.may_hold z) (g.G.Register.faults r) (g.G.Register.faults z) (g.G.Register.identity r) (g.G.Register.identity z)) (sym c.register_end.ensures)
    (register_looked (g.G.Register.told r) (g.G.Register.told z) (g.G.Register.holds r) (g.G.Register.holds z) (g.G.Register.may_hold r) (g.G.Register.may_hold z) (g.G.Register.faults r) (g.G.Register.faults z) (g.G.Register.identity r) (g.G.Register.identity z) c.in-Err.ensures.told c.in-Err.ensures.same c.in-Err.ensures.counts c.in-Err.ensures.itself c.in-Err.fault c.in-Err.ensures.free c.in-Err.ensures.keeps c.in-Err.ensures.failed
    (λ place e x h. g.met.G.Register.held_is_whole r x place h (c.in-Err.ensures.damaged place e (g.met.G.Register.held_is_told r x h))))

pub returns-in-Err-clause-damaged : goal.returns-in-Err-clause-damaged
returns-in-Err-clause-damaged g c = λ none place is told.
    c.in-Err.ensures.damaged place (ap (λ (x : RegisterFault). Err x) (damaged_by c.in-Err.fault place (ap Some (sym c.register_end.ensures) ∙ is))) told
