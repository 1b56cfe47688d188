-- The one way in which an input is a schedule and a rest.
use Rattle.std.specs.Prelude.{◌≡◌, ◌⊎◌, ℕ, List, []}
use Rattle.ld_cli.specs.Schedule.{IsOffLater}

-- there is no more, or the next line has a syntax error at some offset
pub record IsOff (rest : List ℕ) : Type 0 where
  pub place : ℕ
  pub off : IsOffLater rest place

abbrev pub Ends : List ℕ → Type 0
Ends rest = (rest ≡ []) ⊎ IsOff rest
