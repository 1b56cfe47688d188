-- When the arguments are refused.
use Rattle.std.specs.Prelude.{◌≢◌}
use Rattle.ld_words.specs.declared.refusal.Refusal.{Refusal}
use Rattle.ld_words.specs.declared.refusal.Refusal.TheVariants.{NoMemory}

-- each refusal but running out of memory has this cause
abbrev pub Refuses : Type 0 → Refusal → Type 0
Refuses cause refusal = refusal ≢ NoMemory → cause
