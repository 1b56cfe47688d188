-- Records that are staged behind one shut gate, and made durable together by opening it.
use Rattle.std.specs.Prelude.{◌≡◌, ◌⊎◌, ◌<◌, ◌+◌, ℕ, List, [], ◌∷◌, ◌++◌, length, Option, None, Some}
use Rattle.ld_disk.specs.Images.{overwrite, Torn}
use Rattle.ld_disk.specs.Plain.{Call}
use Rattle.ld_journal.specs.Format.{behind}
use Rattle.ld_op.specs.Plain.{Plain}
use Rattle.ld_op.specs.Cells.{read_plain}
use Rattle.ld_layout.specs.Layout.{Layout, Segment}
use Rattle.ld_segment.specs.Lies.{Slots, LiesAs, IsSound, written, gate_in}
use Rattle.ld_segment.specs.Plans.{Planned, calls_before, made_before, IsBeforeTorn}

-- ---- the calls ----

-- those of a group's first record: a switch, where there is one, and the write behind the gate
abbrev pub stage_calls : Planned → List Call
stage_calls p = calls_before p.before ++ Some (p.gate + 1, behind p.body) ∷ []

-- those of a later one: the write behind its gate, and that gate, which is none that the group waits for
abbrev pub next_calls : ℕ → List ℕ → List Call
next_calls gate body = Some (gate + 1, behind body) ∷ Some (gate, 1 ∷ []) ∷ []

-- those that open the group's gate, once what is behind it is safe
abbrev pub open_calls : ℕ → List Call
open_calls gate = None ∷ Some (gate, 1 ∷ []) ∷ None ∷ []

-- ---- what a crash leaves of them ----

-- of the first record: a switch torn, or what is behind the gate, which stays shut
abbrev pub IsStageTorn : Planned → List ℕ → List ℕ → Type 0
IsStageTorn p old new = IsBeforeTorn p.before old new ⊎ Torn (p.gate + 1) (length (behind p.body)) (made_before p.before old) new

-- of the calls that open the gate: so many bytes behind it torn, or all of them there and the gate torn
abbrev pub IsGroupTorn : ℕ → ℕ → List ℕ → List ℕ → List ℕ → Type 0
IsGroupTorn gate n safe shown new = Torn (gate + 1) n safe new ⊎ Torn gate 1 shown new

-- ---- what is staged ----

-- the bytes once the gate of a group is open
abbrev pub opened_at : ℕ → List ℕ → List ℕ
opened_at gate shown = overwrite gate (1 ∷ []) shown

-- the current segment of a layout is that of another one, but for the records that were added to it
abbrev pub IsSameSegment : Layout → Option Segment → Layout → Option Segment → Type 0
IsSameSegment y None x None = Unit {0}
IsSameSegment y None x (Some h) = ⊥
IsSameSegment y (Some g) x None = ⊥
IsSameSegment y (Some g) x (Some h) = (x.end ≡ y.end) × ((h.place ≡ g.place) × (h.areas ≡ g.areas))

-- behind the gate of the layout that the safe bytes have records are staged: what is read lies as another layout says once that gate is open, and its payloads are read already
pub record IsGroup (p : Plain) (y : Layout) (z : Slots) (gate : ℕ) (safe shown : List ℕ) : Type 0 where
  pub begun : Layout
  pub slots : Slots
  pub was : LiesAs (written begun) begun slots safe
  pub was_sound : IsSound begun
  pub plain : p ≡ read_plain safe begun.index
  pub gate_is : gate ≡ gate_in begun begun.later
  pub segment : IsSameSegment begun begun.later y y.later
  pub past : gate < gate_in y y.later
  pub lies : LiesAs (written y) y z (opened_at gate shown)
  pub sound : IsSound y
  pub read : read_plain shown y.index ≡ read_plain (opened_at gate shown) y.index

module _ {D : Type 0} (seen : D → Option (List ℕ)) (may_leave : D → List ℕ → Type 0) where
  -- what is read, and that a crash leaves the safe bytes, with so many from an offset on torn
  pub record Tears (disk : D) (at n : ℕ) (safe shown : List ℕ) : Type 0 where
    pub bytes_are : seen disk ≡ Some shown
    pub images : (c : List ℕ) → may_leave disk c → Torn at n safe c

  -- ops are staged behind the shut gate at an offset: a crash leaves what represents p, and once the gate is open the bytes lie as the layout says
  pub record IsStaged (disk : D) (gate : ℕ) (p : Plain) (y : Layout) (z : Slots) : Type 0 where
    pub safe : List ℕ
    pub shown : List ℕ
    pub size : ℕ
    pub size_is : gate + size ≡ gate_in y y.later
    pub tears : Tears disk (gate + 1) size safe shown
    pub group : IsGroup p y z gate safe shown
