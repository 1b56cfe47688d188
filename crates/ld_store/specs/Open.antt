-- What an open store knows of its disk.
use Rattle.std.specs.Prelude.{◌≡◌, ◌==◌, ℕ, List, [], length, Option, None, IfSome, Bool, true, false}
use Rattle.ld_disk.specs.declared.disk.Disk.{Ghosts}
use Rattle.ld_op.specs.Plain.{Plain}
use Rattle.ld_op.specs.Cells.{each_plain, read_plain}
use Rattle.ld_layout.specs.Layout.{Layout}
use Rattle.ld_segment.specs.Stays.{Rests}
use Rattle.ld_segment.specs.Lies.{Slots, LiesAs, IsSound, written}
use Rattle.ld_store.specs.Ops.{IsJournalOf, StandsFor}
use Rattle.ld_store.specs.Laid.{layout_in, slots_in}
use Rattle.ld_store.specs.declared.store.Store.{Store}
pub use Rattle.ld_store.specs.Ops.{within}
pub use Rattle.ld_store.specs.Group.{told_plain}

module _ {D : Type 0} {g : Ghosts D} where
  -- the disk that the store owns
  abbrev pub disk_of : Store D g → D
  disk_of store = store.disk

  -- an earlier call answered that the disk failed
  abbrev pub must_load : Store D g → Bool
  must_load store = store.failed

  -- no record stands in the journal
  abbrev pub is_blank : Store D g → Bool
  is_blank store = store.blank

  -- the gate of the group that is staged, where one is
  abbrev pub staged_of : Store D g → Option ℕ
  staged_of store = store.staged

  -- the plain state in memory, with the places of its payloads
  abbrev pub index_of : Store D g → Plain
  index_of store = store.index.state

  -- how the journal lies on the disk
  abbrev pub layout_of : Store D g → Layout
  layout_of store = layout_in store.laid store.index.state

  -- the slots that tell its later segment, where there is one
  abbrev pub slots_of : Store D g → Slots
  slots_of store = slots_in store.laid

  -- the plain state that it represents on its disk; where the disk doesn't tell what it has, that is not known
  abbrev pub plain_of : Store D g → Plain
  plain_of store = told_plain (g.seen (disk_of store)) (index_of store)

module _ {D : Type 0} {g : Ghosts D} (seen : D → Option (List ℕ)) (may_leave : D → List ℕ → Type 0) where
  -- the disk has these bytes, safe from a crash, which lie as the store's layout says; live areas share no byte, and each payload stands in one
  pub record Holds (store : Store D g) : Type 0 where
    pub bytes : List ℕ
    pub rests : Rests seen may_leave (disk_of store) bytes
    pub lies : LiesAs (written (layout_of store)) (layout_of store) (slots_of store) bytes
    pub sound : IsSound (layout_of store)
    pub plain : plain_of store ≡ read_plain bytes (index_of store)
    -- each payload stands before the disk's end
    pub inside : IfSome (seen (disk_of store)) (λ bytes. each_plain (within (length bytes)) (index_of store) ≡ index_of store)
    pub blank : is_blank store ≡ ((layout_of store).ops == 0)
    pub works : must_load store ≡ false
    -- nothing is staged
    pub none : staged_of store ≡ None

  -- where these bytes represent a plain state, the store holds it, with a mark behind a journal of the first version; it is blank exactly where they have no record
  pub record IsOpened (store : Store D g) (bytes : List ℕ) : Type 0 where
    pub holds : (p : Plain) → StandsFor p bytes → Holds store
    pub plain : (p : Plain) → StandsFor p bytes → plain_of store ≡ p
    pub blank : is_blank store ≡ true → IsJournalOf [] bytes
    pub some : is_blank store ≡ false → IsJournalOf [] bytes → ⊥
