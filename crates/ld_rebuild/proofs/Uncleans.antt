-- The lowest unclean epoch, where the greatest number of 32 bits is no clean epoch.
use Rattle.std.proofs.Common.{◌≡◌, ◌<◌, ◌≤◌, ◌-◌, ◌^◌, true, Option, Some, None, is_some, refl, arith}
use Rattle.ld_table.specs.Table.{find}
use Rattle.ld_msg.specs.declared.msg.Summary.{Summary}
use Rattle.ld_op.specs.Plain.{Log}
use Rattle.ld_op.specs.Ticks.{lowest_unclean}
use Rattle.ld_op.proofs.Gaps.{gap_clean}

isnt_there : (o : Option Summary) → ((y : Summary) → o ≡ Some y → ⊥) → is_some o ≡ true → ⊥
isnt_there None n h = cc
isnt_there (Some y) n h = n y refl

-- it is a number of 32 bits
pub lowest_fits : (g : Log) → ((y : Summary) → find (2 ^ 32 - 1) g.summaries ≡ Some y → ⊥) → lowest_unclean g < 2 ^ 32
lowest_fits g none =
    let n : 2 ^ 32 ≤ lowest_unclean g → ⊥ = λ l. isnt_there (find (2 ^ 32 - 1) g.summaries) none (gap_clean 1 (2 ^ 32 - 1) g.summaries (omega arith) (omega arith)) in
    omega (arith, n)
