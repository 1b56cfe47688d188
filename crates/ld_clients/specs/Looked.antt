-- Where a log is looked for.
use Rattle.std.specs.Prelude.{ℕ, ◌≡◌, ◌==◌, List}
use Rattle.ld_table.specs.Words.{any_of}
use Rattle.ld_ids.specs.declared.set.Spec.{Spec}
use Rattle.ld_machine.specs.Config.{spec_in}

-- the log is none of the ones before
pub record IsLooked (l : ℕ) (all left : List Spec) : Type 0 where
  pub spec : spec_in l left ≡ spec_in l all
  pub there : any_of (λ s. s.log == l) left ≡ any_of (λ s. s.log == l) all
