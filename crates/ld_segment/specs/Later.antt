-- What is read behind the head: the Base that the slots name.
use Rattle.std.specs.Prelude.{◌≡◌, ◌⊎◌, ◌<◌, ◌+◌, ◌^◌, ℕ, List, length, Some}
use Rattle.ld_ids.specs.Bytes.{AreBytes}
use Rattle.ld_fields.specs.Fields.{Got}
use Rattle.ld_journal.specs.Format.{framed}
use Rattle.ld_op.specs.declared.version.Version.{Version}
use Rattle.ld_op.specs.Plain.{Plain}
use Rattle.ld_layout.specs.Base.{Base, judge_base}
use Rattle.ld_layout.specs.LaidOut.{base_of}
use Rattle.ld_layout.specs.Layout.{Segment}
use Rattle.ld_segment.specs.Stays.{StandsAt}
use Rattle.ld_segment.specs.Lies.{Slots, after_base, behind_base}
use Rattle.ld_segment.specs.Found.{IsFound, IsNoneThere}
use Rattle.ld_segment.specs.declared.found.Found.{Found}
use Rattle.ld_segment.specs.declared.later.Later.{Later}

-- the record of this body stands at an offset, and a byte behind it
pub record IsRecordAt (at : ℕ) (body bytes : List ℕ) : Type 0 where
  pub there : StandsAt at (framed body) bytes
  pub behind : at + 5 + length body < length bytes
  pub fits : length body < 2 ^ 32

-- a Base's record stands at an offset, and a version may stand behind it where the first segment is of that one
pub record IsBaseAt (opening : Version) (at : ℕ) (b : Base) (version : Version) (bytes : List ℕ) : Type 0 where
  pub body : List ℕ
  pub there : IsRecordAt at body bytes
  pub based : judge_base body ≡ Got b (length body)
  pub version_is : after_base b.kind opening ≡ Some version

-- what stands behind the head, as it was read
pub record IsThere (opening : Version) (head : ℕ) (c : Later) (bytes : List ℕ) : Type 0 where
  pub found : IsFound head c.found bytes
  pub base : IsBaseAt opening c.found.place (base_of c.based) c.version bytes
  pub gate_is : c.gate ≡ c.found.place + 5 + length base.body

-- no slot counts, or the one that does names no Base
abbrev pub HasNoBase : Version → ℕ → List ℕ → Type 0
HasNoBase opening at bytes = (b : Base) (version : Version) → IsBaseAt opening at b version bytes → ⊥

abbrev pub IsDamagedBehind : Version → ℕ → ℕ → List ℕ → Type 0
IsDamagedBehind opening head place bytes = IsNoneThere head place bytes ⊎ ((c : Found) × IsFound head c bytes × (place ≡ c.place) × HasNoBase opening place bytes)

-- on each disk the Base is what a body says that was read, and the gate is the one behind that
pub record IsJudged (c : Later) : Type 0 where
  pub body : List ℕ
  pub bytes : AreBytes body
  pub fits : length body < 2 ^ 32
  pub is : judge_base body ≡ Got (base_of c.based) (length body)
  pub gate_is : c.gate ≡ c.found.place + 5 + length body

-- it is this segment, with these slots and this Base
pub record IsReadAs (c : Later) (z : Slots) (g : Segment) (kind : ℕ) (base : Plain) (from : Version) : Type 0 where
  pub slots : (c.found.this ≡ z.this) × (c.found.other ≡ z.other)
  pub number : c.found.number ≡ g.number
  pub place : c.found.place ≡ g.place
  pub kind_is : c.based.kind ≡ kind
  pub index : c.based.index.state ≡ base
  pub areas : c.based.areas ≡ g.areas
  pub version_is : c.version ≡ from
  pub gate_is : c.gate ≡ behind_base g base
