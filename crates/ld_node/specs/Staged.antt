-- A store whose ops are staged, or were made durable before.
use Rattle.std.specs.Prelude.{◌≡◌, ◌⊎◌, ℕ, List, Option}
use Rattle.ld_disk.specs.declared.disk.Disk.{Ghosts}
use Rattle.ld_op.specs.Plain.{Plain}
use Rattle.ld_store.specs.Ahead.{HoldsOr}
use Rattle.ld_store.specs.declared.store.Store.{Store}

-- what a crash leaves represents one of these two plain states
abbrev pub HoldsEither : {D : Type 0} {g : Ghosts D} (seen : D → Option (List ℕ)) (may_leave : D → List ℕ → Type 0) → Store D g → Plain → Plain → Type 0
HoldsEither seen may_leave store p r = (q : Plain) × ((q ≡ p) ⊎ (q ≡ r)) × HoldsOr seen may_leave store q
