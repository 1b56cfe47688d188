-- Where a log is looked for.
use Rattle.std.specs.Prelude.{◌≡◌, ◌==◌, ℕ, List}
use Rattle.ld_table.specs.Words.{any_of}
use Rattle.ld_ids.specs.declared.set.Spec.{Spec}

-- the log is none of those before the ones that are left
abbrev pub IsAmong : ℕ → List Spec → List Spec → Type 0
IsAmong l all left = any_of (λ s. s.log == l) left ≡ any_of (λ s. s.log == l) all
