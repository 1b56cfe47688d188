use Rattle.std.proofs.Common.{rules, ◌≡◌, ℕ, Err, refl, arith}
use Rattle.ld_schedule.specs.declared.nodes.Extras.{Extras}
use Rattle.ld_schedule.proofs.Faults.{fault_along}
use Rattle.ld_schedule.proofs.nodes.ExtrasField.read.Goals as goal

make : ℕ → Extras
make n = record { extras = n }

pub returns-in_err-extras : goal.returns-in_err-extras
unfolding make
returns-in_err-extras c =
    let is : c.from_residual.result ≡ Err c.in_err-extras.field-0.0 = search rules in
    rw is (fault_along _ _ _ _ c.args.line.now c.in_err-extras.field-0.0 make (λ n can. (can.1, refl)) (λ w can. (w.extras, (omega arith, can), refl)) c.in_err-extras.ensures)
