-- What holds of what is fixed for an epoch.
use Rattle.std.specs.Prelude.{◌≡◌, ◌≤◌, ℕ, length}
use Rattle.ld_ids.specs.Id.{IsLog}
use Rattle.ld_ids.specs.Set.{members, IsSet}
use Rattle.ld_ids.specs.declared.set.Spec.{Spec}

-- a record is stored on at least one of the log's nodes and at most all, and few more are asked
pub record IsSpec (spec : Spec) : Type 0 where
  pub log : IsLog spec.log
  pub set : IsSet spec.set
  pub least : 1 ≤ spec.r
  pub most : spec.r ≤ length (members spec.set)
  pub few : spec.extras ≤ 3

-- and it is this log's
pub record IsSpecFor (l : ℕ) (spec : Spec) : Type 0 where
  pub is : IsSpec spec
  pub log : spec.log ≡ l
