-- Whether a log moves: whether its next epoch has other nodes, another factor or other extras than its greatest one.
use Rattle.std.specs.Prelude.{ℕ, ◌≡◌, ◌≢◌, ◌⊎◌, ◌-◌, ◌^◌, Option, None, Some}
use Rattle.ld_ids.specs.declared.set.Spec.{Spec}
use Rattle.ld_msg.specs.Register.{Register}
use Rattle.ld_register.specs.Calls.{spec_told}

-- what is fixed for the log's greatest epoch, as swaps left it, if there is one: a look at 2^32-1 shows it, which is handed out to nobody
abbrev pub greatest_set : Register → ℕ → Option Spec
greatest_set c log = spec_told c log (2 ^ 32 - 1)

-- what is fixed is told where it isn't what is wanted
abbrev pub IsMove : Option Spec → Spec → Option Spec → Type 0
IsMove fixed wanted (Some from) = (fixed ≡ Some from) × (from ≢ wanted)
IsMove fixed wanted None = (fixed ≡ None) ⊎ (fixed ≡ Some wanted)
