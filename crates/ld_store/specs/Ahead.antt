-- What an open store knows of its disk where ops are staged.
use Rattle.std.specs.Prelude.{◌≡◌, ◌⊎◌, ◌==◌, ℕ, List, length, Option, Some, IfSome, false}
use Rattle.ld_disk.specs.declared.disk.Disk.{Ghosts}
use Rattle.ld_op.specs.Plain.{Plain}
use Rattle.ld_op.specs.Cells.{each_plain}
use Rattle.ld_segment.specs.Groups.{IsStaged}
use Rattle.ld_store.specs.Open.{disk_of, must_load, is_blank, staged_of, index_of, layout_of, slots_of, plain_of, within, Holds}
use Rattle.ld_store.specs.declared.store.Store.{Store}

module _ {D : Type 0} {g : Ghosts D} (seen : D → Option (List ℕ)) (may_leave : D → List ℕ → Type 0) where
  -- ops are staged: the store has them, in memory and in what is read of the disk, and a crash leaves what represents this plain state, without them
  pub record IsAhead (store : Store D g) (p : Plain) : Type 0 where
    pub gate : ℕ
    pub staged_is : staged_of store ≡ Some gate
    pub staged : IsStaged seen may_leave (disk_of store) gate p (layout_of store) (slots_of store)
    -- each payload stands before the disk's end
    pub inside : IfSome (seen (disk_of store)) (λ bytes. each_plain (within (length bytes)) (index_of store) ≡ index_of store)
    pub blank : is_blank store ≡ ((layout_of store).ops == 0)
    pub works : must_load store ≡ false

  -- nothing is staged, or something: a crash leaves what represents this plain state
  abbrev pub HoldsOr : Store D g → Plain → Type 0
  HoldsOr store p = (Holds seen may_leave store × (p ≡ plain_of store)) ⊎ IsAhead store p
