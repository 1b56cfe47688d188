-- A number above a bound is the next one, or above that.
use Rattle.std.proofs.Common.{◌≡◌, ◌⊎◌, ◌∙◌, inl, inr, ℕ, ◌+◌, ◌<◌, List, refl, sym, ap, arith, decimal, Err}
use Rattle.std.proofs.lemmas.Bool.{cases_eq}
use Rattle.ld_schedule.specs.declared.fault.LineFault.{LineFault}
use Rattle.ld_schedule.specs.declared.fault.LineFault.TheVariants.{Bad}
use Rattle.ld_schedule.specs.Reading.{IsOff, IsText, IsRead, Always, furthest}
use Rattle.ld_schedule.specs.Rising.{IsAbove}
use Rattle.ld_schedule.proofs.Languages.{off_along}
use Rattle.ld_schedule.proofs.OneOf.{Into, only, fault_either}

from_above : (low : ℕ) → Into (IsAbove (low + 1)) decimal (IsAbove low) decimal
from_above low n can = (n, (omega (arith, can.0), can.1), refl)

from_next : (low : ℕ) → low < 16 → Into Always (only (decimal (low + 1))) (IsAbove low) decimal
from_next low small v can = (low + 1, (omega arith, omega arith), refl)

which : (low n : ℕ) → IsAbove low n → ((m : ℕ) × IsAbove (low + 1) m × (decimal m ≡ decimal n)) ⊎ ((v : Unit {0}) × Always v × (only (decimal (low + 1)) v ≡ decimal n))
which low n can = elim (cases_eq n (low + 1)) [
  | inl same ↦ inr (tt, tt, ap decimal (sym same))
  | inr other ↦ inl (n, (omega (arith, can.0, other), can.1), refl)
]

-- neither the next number nor one above it
pub fault_above : (low : ℕ) (line : List ℕ) (fault : LineFault) (k : ℕ) → low < 16 → IsRead (IsAbove (low + 1)) decimal line (Err fault) → IsOff Always (only (decimal (low + 1))) line k
    → IsRead (IsAbove low) decimal line (Err (furthest fault (Bad k)))
fault_above low line fault k small one other =
    fault_either (IsAbove (low + 1)) decimal Always (only (decimal (low + 1))) (IsAbove low) decimal line fault (Bad k) (from_above low) (from_next low small) (which low) one other

-- not the last node
pub off_sixteenth : (low : ℕ) (line : List ℕ) (k : ℕ) → low + 1 ≡ 16 → IsOff Always (only (decimal (low + 1))) line k → IsOff (IsAbove low) decimal line k
off_sixteenth low line k last off =
    off_along Always (only (decimal (low + 1))) (IsAbove low) decimal line k (λ v. low + 1) (λ v can. ((omega arith, omega arith), refl))
    (λ n can. let same : low + 1 ≡ n = omega (arith, can.0, can.1) in (tt, tt, ap decimal same)) off

pub next_read : (low n : ℕ) (line : List ℕ) → low < 16 → n ≡ low + 1 → line ≡ decimal (low + 1) → IsText (IsAbove low) decimal line n
next_read low n line small same is = record { can = (omega arith, omega arith); is = is ∙ ap decimal (sym same) }

pub above_read : (low n : ℕ) (line : List ℕ) → IsText (IsAbove (low + 1)) decimal line n → IsText (IsAbove low) decimal line n
above_read low n line read = record { can = (omega (arith, read.can.0), read.can.1); is = read.is }
