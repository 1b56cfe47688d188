use Rattle.std.proofs.Common.{rules, ◌≡◌, ℕ, Err, refl}
use Rattle.ld_schedule.specs.declared.nodes.Factor.{Factor}
use Rattle.ld_schedule.proofs.Faults.{fault_along}
use Rattle.ld_schedule.proofs.nodes.FactorField.read.Goals as goal

make : ℕ → Factor
make n = record { r = n }

pub returns-in_err-r : goal.returns-in_err-r
unfolding make
returns-in_err-r c =
    let is : c.from_residual.result ≡ Err c.in_err-r.field-0.0 = search rules in
    rw is (fault_along _ _ _ _ c.args.line.now c.in_err-r.field-0.0 make (λ n can. (can, refl)) (λ w can. (w.r, can, refl)) c.in_err-r.ensures)
