-- A group's gate lies within the limit of journals.
use Rattle.std.specs.Prelude.{◌≤◌, ℕ, Option, None, Some}
use Rattle.std.specs.Coded.{Unit-prop, le_prop}
use Rattle.ld_msg.specs.Register.{journal_limit}

abbrev pub IsLow : Option ℕ → Type 0
IsLow None = Unit {0}
IsLow (Some gate) = gate ≤ journal_limit

pub IsLow-prop : (staged : Option ℕ) → IsProp (IsLow staged)
IsLow-prop None = Unit-prop
IsLow-prop (Some gate) = le_prop
