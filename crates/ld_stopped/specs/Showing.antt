-- Why a store isn't shown.
use Rattle.std.specs.Prelude.{ℕ, List, Option}
use Rattle.ld_io.specs.Causes.{Rose}
use Rattle.ld_stopped.specs.declared.stop.Stop.{Stop}
use Rattle.ld_stopped.specs.declared.stop.Stop.TheVariants as stops
use Rattle.ld_stopped.specs.Opening.{IsLoadStop}

-- it wasn't loaded, or the output failed
abbrev pub IsShowStop : ℕ → ℕ → Option (List ℕ) → ℕ → ℕ → Stop → Type 0
IsShowStop before now seen output output_now stops.Write = Rose output output_now
IsShowStop before now seen output output_now stop = IsLoadStop before now seen stop
