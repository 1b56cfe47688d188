-- A message that is read for before it is kept.
use Rattle.std.proofs.Common.{◌≡◌, inl, ℕ, List, Option, ◌∙◌}
use Rattle.ld_disk.specs.Moments.{LeavesOnly, Unchanged}
use Rattle.ld_disk.specs.declared.disk.Disk.{Ghosts}
use Rattle.ld_disk.proofs.Runs.{started, stays_on}
use Rattle.ld_op.specs.Plain.{Plain}
use Rattle.ld_store.specs.Ops.{StandsForEither}
use Rattle.ld_store.specs.Ahead.{HoldsOr}
use Rattle.ld_store.specs.Open.{disk_of, plain_of, told_plain, Holds}
use Rattle.ld_store.specs.declared.store.Store.{Store}
use Rattle.ld_store.proofs.Ahead.{leaves_stand}
use Rattle.ld_store.proofs.Holding.{images_stand}

module _ {D : Type 0} (seen : D → Option (List ℕ)) (may_leave : D → List ℕ → Type 0) (moment : D → ℕ) (left_since : D → ℕ → List ℕ → Type 0) where
  -- two calls that change nothing
  pub unchanged_too : (old mid new : D) → Unchanged seen may_leave moment left_since old mid → Unchanged seen may_leave moment left_since mid new → Unchanged seen may_leave moment left_since old new
  unchanged_too old mid new first next = record {
    bytes = next.bytes ∙ first.bytes;
    crash = λ c left. first.crash c (next.crash c left);
    crash_back = λ c left. next.crash_back c (first.crash_back c left);
    time = next.time ∙ first.time;
    past = λ t c left. first.past t c (next.past t c left);
    past_back = λ t c left. next.past_back t c (first.past_back t c left);
  }

  -- what a crash leaves, where a store is read alone
  pub reads_leave : {g : Ghosts D} (old : Store D g) (new : D) (q : Plain) → ((d : D) (c : List ℕ) → left_since d (moment d) c → may_leave d c) → Holds seen may_leave old
      → Unchanged seen may_leave moment left_since (disk_of old) new → LeavesOnly moment left_since (disk_of old) new (StandsForEither (plain_of old) q)
  reads_leave old new q now holds same =
      stays_on moment left_since seen may_leave (disk_of old) (disk_of old) new (StandsForEither (plain_of old) q)
      (started moment left_since (disk_of old) (StandsForEither (plain_of old) q) (λ c left. inl (images_stand seen may_leave old holds c (now (disk_of old) c left)))) same

  -- and where ops are staged
  pub reads_leave_staged : {g : Ghosts D} (old : Store D g) (new : D) (p q : Plain) → ((d : D) (c : List ℕ) → left_since d (moment d) c → may_leave d c) → HoldsOr seen may_leave old p
      → Unchanged seen may_leave moment left_since (disk_of old) new → LeavesOnly moment left_since (disk_of old) new (StandsForEither p q)
  reads_leave_staged old new p q now holds same =
      stays_on moment left_since seen may_leave (disk_of old) (disk_of old) new (StandsForEither p q)
      (started moment left_since (disk_of old) (StandsForEither p q) (λ c left. inl (leaves_stand seen may_leave old p holds c (now (disk_of old) c left)))) same

-- an index that stays, on a disk that reads the same, represents the same
pub stands_for_same : (told told_now : Option (List ℕ)) (i j : Plain) → told_now ≡ told → j ≡ i → told_plain told_now j ≡ told_plain told i
stands_for_same told told_now i j same is = (λ k. told_plain (same k) (is k))
