use Rattle.ld_register.proofs.Growing.{a_call_passes}
use Rattle.ld_register.proofs.laws.calls_are_steps.Goals as goal

pub returns : goal.returns
returns g c old new = λ result answer change answers whole settled done d m.
    a_call_passes (g.R.Register.holds old) (g.R.Register.holds new) (g.R.Register.may_hold old) (g.R.Register.may_hold new) result answer change
    (λ a b h k. g.met.R.Register.holds_one new a b h k) (λ a h. g.met.R.Register.held_may_be old a h) answers whole settled done d m
