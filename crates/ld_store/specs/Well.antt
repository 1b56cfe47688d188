-- What holds of each plain state that ops of a journal add up to.
use Rattle.ld_op.specs.Plain.{Plain}
use Rattle.ld_node_bounds.specs.States.{last_carried, IsPlain, IsPlain-prop}

-- its numbers are what a journal's body can carry; its entries rise and stand under their numbers, and its summaries are of the epochs that they stand under
abbrev pub IsWell : Plain → Type 0
IsWell p = IsPlain last_carried p

pub IsWell-prop : (p : Plain) → IsProp (IsWell p)
IsWell-prop p = IsPlain-prop last_carried p
