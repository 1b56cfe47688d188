-- The one trim that is asked for.
use Rattle.std.proofs.Common.{◌≡◌, ℕ, [], Option, None, Some, ap, sym}
use Rattle.ld_rounds.specs.Input.{all_taken, GivesNext}
use Rattle.ld_rounds.specs.declared.request.Request.TheVariants as asks
use Rattle.ld_cli.specs.Trims.{trim_coming}

-- it was taken
pub trim_taken : (o : Option ℕ) → o ≡ None → (trim_coming o ≡ all_taken) × (Some (trim_coming o) ≡ Some all_taken)
trim_taken o e = (ap trim_coming e, ap (λ p. Some (trim_coming p)) e)

-- it is taken
pub trim_given : (o : Option ℕ) (upto : ℕ) → o ≡ Some upto → GivesNext (trim_coming o) (Some (trim_coming None)) (asks.Trim upto)
trim_given o upto e = record { rest = []; first = ap (λ p. (trim_coming p).requests) e; left = ap (λ p. Some (record { requests = []; off = (trim_coming p).off })) (sym e) }
