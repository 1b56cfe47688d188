-- What a disk has on which ops are staged.
use Rattle.std.specs.Prelude.{◌≡◌, ◌⊎◌, ℕ, List, Option, None, Some, Bool, if◌then◌else◌}
use Rattle.ld_op.specs.declared.op.Op.{Op}
use Rattle.ld_op.specs.Plain.{Plain, apply, op_length}
use Rattle.ld_op.specs.Cells.{read_plain}
use Rattle.ld_layout.specs.Layout.{Layout, kept_in}
use Rattle.ld_segment.specs.Stays.{Rests}
use Rattle.ld_segment.specs.Lies.{Slots, LiesAs, IsSound, written, slots_with}
use Rattle.ld_segment.specs.Groups.{IsStaged}

-- what an index represents on a disk of these bytes, where it tells them
abbrev pub told_plain : Option (List ℕ) → Plain → Plain
told_plain None index = index
told_plain (Some bytes) index = read_plain bytes index

-- the gate of the group that a record at this gate belongs to; one that a switch comes before begins another
abbrev pub first_in : Option ℕ → Bool → ℕ → ℕ
first_in None is_full gate = gate
first_in (Some first) is_full gate = if is_full then gate else first

module _ {D : Type 0} (seen : D → Option (List ℕ)) (may_leave : D → List ℕ → Type 0) where
  -- the disk has bytes, safe from a crash, which lie as a layout says and represent this plain state
  pub record IsSafeAs (disk : D) (p : Plain) (y : Layout) (z : Slots) : Type 0 where
    pub bytes : List ℕ
    pub rests : Rests seen may_leave disk bytes
    pub lies : LiesAs (written y) y z bytes
    pub sound : IsSound y
    pub plain : p ≡ read_plain bytes y.index

  -- so it is where nothing is staged; else ops are, behind the shut gate at this offset, and a crash leaves what represents the plain state
  abbrev pub IsGroupOn : D → Option ℕ → Plain → Layout → Slots → Type 0
  IsGroupOn disk None p y z = IsSafeAs disk p y z
  IsGroupOn disk (Some gate) p y z = IsStaged seen may_leave disk gate p y z

  -- with an op more, which is staged, too; a crash leaves what represents the plain state that it did, or that with all that was staged before
  pub record IsGroupWith (old new : D) (gate : ℕ) (p : Plain) (y : Layout) (z : Slots) (o : Op) : Type 0 where
    pub q : Plain
    pub either : (q ≡ p) ⊎ (q ≡ told_plain (seen old) y.index)
    pub staged : IsStaged seen may_leave new gate q (kept_in y o) (slots_with y z (op_length o))
    pub plain : told_plain (seen new) (kept_in y o).index ≡ apply (told_plain (seen old) y.index) o
