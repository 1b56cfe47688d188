-- What is left of a disk that was settled, read and marked.
use Rattle.std.specs.Prelude.{◌≡◌, ◌<◌, ◌==◌, ℕ, List, [], length, Option, Bool, true, false}
use Rattle.ld_op.specs.Plain.{Plain}
use Rattle.ld_op.specs.Cells.{read_plain}
use Rattle.ld_segment.specs.Stays.{Rests}
use Rattle.ld_segment.specs.Lies.{LiesAs, IsSound, written}
use Rattle.ld_store.specs.Ops.{IsJournalOf, StandsFor}
use Rattle.ld_store.specs.Laid.{layout_in, slots_in}
use Rattle.ld_store.specs.declared.laid.Laid.{Laid}

module _ {D : Type 0} (seen : D → Option (List ℕ)) (may_leave : D → List ℕ → Type 0) where
  -- a disk has these bytes, which are so many and some, safe from a crash
  pub record IsSettled (disk : D) (len : ℕ) (bytes : List ℕ) : Type 0 where
    pub rests : Rests seen may_leave disk bytes
    pub long : len ≡ length bytes
    pub some : 0 < len

  -- its bytes lie so as a journal that is written to, and represent this plain state
  pub record HoldsAs (disk : D) (l : Laid) (index : Plain) (blank : Bool) (p : Plain) : Type 0 where
    pub now : List ℕ
    pub rests : Rests seen may_leave disk now
    pub lies : LiesAs (written (layout_in l index)) (layout_in l index) (slots_in l) now
    pub sound : IsSound (layout_in l index)
    pub plain : p ≡ read_plain now index
    pub blank_is : blank ≡ ((layout_in l index).ops == 0)

  -- so it is where the bytes represented a plain state
  pub record IsOpen (disk : D) (l : Laid) (index : Plain) (blank : Bool) (bytes : List ℕ) : Type 0 where
    pub holds : (p : Plain) → StandsFor p bytes → HoldsAs disk l index blank p

-- no record stands in these bytes, or some do
pub record IsBlank (blank : Bool) (bytes : List ℕ) : Type 0 where
  pub none : blank ≡ true → IsJournalOf [] bytes
  pub some : blank ≡ false → IsJournalOf [] bytes → ⊥
