-- What the bytes of a node's disk represent, where they are of the first version, and where something in them is out of place.
use Rattle.std.specs.Prelude.{◌≡◌, ◌⊎◌, ◌<◌, ◌+◌, ◌-◌, ◌^◌, ◌==◌, ℕ, List, [], ◌∷◌, ◌++◌, length, drop, Option, Some, None, Bool, true, false, nat_lt, if◌then◌else◌}
use Rattle.ld_journal.specs.Format.{framed, records, IsJournal, IsCutShort}
use Rattle.ld_journal.specs.Rest.{IsShut}
use Rattle.ld_msg.specs.Register.{journal_limit}
use Rattle.ld_op.specs.declared.record.Record.{Record}
use Rattle.ld_op.specs.declared.version.Version.{Version}
use Rattle.ld_op.specs.declared.version.Version.TheVariants.{Blank, First}
use Rattle.ld_op.specs.Plain.{Plain}
use Rattle.ld_op.specs.Records.{version_after}
use Rattle.ld_op.specs.Bounds.{IsRecord}
use Rattle.ld_op.specs.Bytes.{record_bytes}
use Rattle.ld_op.specs.Cells.{each_plain}
use Rattle.ld_table.specs.Named.{same}
use Rattle.ld_table.specs.Table.{find}
use Rattle.ld_layout.specs.Layout.{Layout, Segment, least_for, room_for, growth_told}
use Rattle.ld_segment.specs.Stays.{StandsAt}
use Rattle.ld_segment.specs.Slots.{head_bytes, slot_length}
use Rattle.ld_segment.specs.Ops.{bodies_of, place_behind, indexed, ArePlaced}
use Rattle.ld_segment.specs.Lies.{Slots, LiesAs, IsSound, first_length, mark_passes}
use Rattle.ld_segment.specs.Later.{IsThere, IsDamagedBehind}
use Rattle.ld_segment.specs.declared.later.Later.{Later}
pub use Rattle.ld_op.specs.Records.{is_format}
pub use Rattle.ld_segment.specs.Ops.{IsJournalOf}
pub use Rattle.ld_segment.specs.Lies.{StandsFor, StandsForEither}
use Rattle.ld_layout.specs.declared.segment.Growth.TheVariants.{Still}

-- so many bytes, those that the disk gave, whatever it has, were compared with a payload
pub record IsCompared (count : ℕ) (payload : List ℕ) (is_there : Bool) : Type 0 where
  pub bytes : List ℕ
  pub long : length bytes ≡ count
  pub same : is_there ≡ same bytes payload

-- ---- journals of the first version ----

-- where there is a later segment, the slot that doesn't count is open or it isn't
pub record IsOpenAs (z : Slots) (bytes : List ℕ) : Type 0 where
  pub gate : ℕ
  pub there : StandsAt z.other (gate ∷ []) bytes
  pub open_is : z.is_open ≡ (gate == 1)

abbrev pub IfOpenAs : Option Segment → Slots → List ℕ → Type 0
IfOpenAs None z bytes = Unit {0}
IfOpenAs (Some g) z bytes = IsOpenAs z bytes

-- bytes lie as a journal of the first version, and represent a plain state
pub record IsOfFirst (bytes : List ℕ) : Type 0 where
  pub layout : Layout
  pub slots : Slots
  pub lies : LiesAs First layout slots bytes
  pub sound : IsSound layout
  pub slots_are : IfOpenAs layout.later slots bytes
  -- what a mark begins is a segment of the first version, whose room doesn't grow
  pub still : layout.grows ≡ Still

-- where bytes represent a plain state
abbrev pub IfStands : (List ℕ → Type 0) → List ℕ → Type 0
IfStands P bytes = (p : Plain) → StandsFor p bytes → P bytes

-- bytes represent nothing, or are a journal of the first version, and other bytes represent the same
abbrev pub IsMarkedOrNot : List ℕ → List ℕ → Type 0
IsMarkedOrNot bytes other = (p : Plain) → StandsFor p bytes → IsOfFirst bytes × StandsFor p other

-- a mark's record, or the segment that it needs, would pass the limit
pub record HasNoRoom (bytes : List ℕ) : Type 0 where
  pub was : IsOfFirst bytes
  pub long : mark_passes was.layout ≡ true

-- ---- bytes in which something is out of place ----

-- an offset before the end of so many bytes stays, and any other doesn't
abbrev pub within : ℕ → ℕ → ℕ
within count place = if nat_lt place count then place else place + 1

-- from an offset on records stand, each in place behind one version, and another one behind them; then come these bytes
pub record AreThere (from : ℕ) (opening : Version) (found : List Record) (version : Version) (rest bytes : List ℕ) : Type 0 where
  pub bytes_are : drop from bytes ≡ records (bodies_of found) ++ rest
  pub placed : ArePlaced opening found version

-- the body of a record that may stand behind a version
pub record IsBodyOf (version : Version) (body : List ℕ) : Type 0 where
  pub found : Record
  pub next : Version
  pub is : IsRecord found
  pub next_is : version_after version found ≡ Some next
  pub body_is : body ≡ record_bytes found

-- a whole record, and more, whose body is none that may stand there
pub record IsForeign (MayStand : List ℕ → Type 0) (rest : List ℕ) : Type 0 where
  pub body : List ℕ
  pub after : List ℕ
  pub rest_is : rest ≡ framed body ++ after
  pub some : 0 < length after
  pub fits : length body < 2 ^ 32
  pub none : MayStand body → ⊥

abbrev pub IsOff : (List ℕ → Type 0) → List ℕ → Type 0
IsOff MayStand rest = IsCutShort rest ⊎ IsForeign MayStand rest

-- the body of a head, whatever offset it names
pub record IsHead (body : List ℕ) : Type 0 where
  pub head : ℕ
  pub body_is : body ≡ head_bytes head

-- what may stand behind a version in the first segment; in a later one no head may
abbrev pub IsBodyOrHead : Version → List ℕ → Type 0
IsBodyOrHead version body = IsBodyOf version body ⊎ IsHead body

-- behind records from an offset on there is, at this offset, one that is cut short, or one whose body is none that may stand there
pub record IsDamagedRow (MayStand : Version → List ℕ → Type 0) (from : ℕ) (opening : Version) (place : ℕ) (bytes : List ℕ) : Type 0 where
  pub found : List Record
  pub version : Version
  pub rest : List ℕ
  pub there : AreThere from opening found version rest bytes
  pub place_is : place ≡ from + place_behind found
  pub cause : IsOff (MayStand version) rest

-- the least space for records behind this Base, by its first byte and the gate behind it
abbrev pub least_behind : Later → ℕ
least_behind c = least_for (growth_told c.based.kind) (c.gate - (c.found.place + 5))

-- the segment of this Base, with the records behind it, would pass the limit
pub record PassesLimit (c : Later) (bytes : List ℕ) : Type 0 where
  pub found : List Record
  pub version : Version
  pub journal : IsJournal (bodies_of found) (drop c.gate bytes)
  pub placed : ArePlaced c.version found version
  pub long : journal_limit < c.gate + 1 + room_for (least_behind c) (first_length found)

-- an older area of this Base ends past the disk's end
pub record HasAreaPast (c : Later) (bytes : List ℕ) : Type 0 where
  pub place : ℕ
  pub size : ℕ
  pub area : find place c.based.areas ≡ Some size
  pub past : length bytes < place + size

-- behind the records of its segment a payload stands past the disk's end, which none of them put there
pub record HasPayloadPast (c : Later) (bytes : List ℕ) : Type 0 where
  pub found : List Record
  pub version : Version
  pub journal : IsJournal (bodies_of found) (drop c.gate bytes)
  pub placed : ArePlaced c.version found version
  pub past : each_plain (within (length bytes)) (indexed c.gate c.based.index.state found) ≡ indexed c.gate c.based.index.state found → ⊥

-- what this Base tells can't be
abbrev pub IsNoBase : Later → List ℕ → Type 0
IsNoBase c bytes = PassesLimit c bytes ⊎ (HasAreaPast c bytes ⊎ HasPayloadPast c bytes)

-- behind the Base that the slots name a record is out of place, or the segment passes the limit, or an area or a payload ends past the disk's end, which the Base's offset tells
pub record IsDamagedIn (opening : Version) (head place : ℕ) (bytes : List ℕ) : Type 0 where
  pub later : Later
  pub there : IsThere opening head later bytes
  pub cause : IsDamagedRow IsBodyOf later.gate later.version place bytes ⊎ ((place ≡ later.found.place) × IsNoBase later bytes)

-- the head whose gate is at this end is no journal's last record, or the slots that it names pass the limit, or what they name isn't there, or is damaged
abbrev pub IsOffBehind : Version → ℕ → ℕ → List ℕ → ℕ → List ℕ → Type 0
IsOffBehind version end head after place bytes =
    ((place ≡ end + 14) × (IsShut after → ⊥)) ⊎ (((place ≡ head) × (journal_limit < head + slot_length + slot_length)) ⊎ (IsDamagedBehind version head place bytes ⊎ IsDamagedIn version head place bytes))

-- the first segment ends with the head, and of what that names something is out of place
pub record IsDamagedLater (place : ℕ) (bytes : List ℕ) : Type 0 where
  pub found : List Record
  pub version : Version
  pub head : ℕ
  pub after : List ℕ
  pub there : AreThere 0 Blank found version (framed (head_bytes head) ++ after) bytes
  pub fits : head < 2 ^ 64
  pub some : 0 < length after
  pub cause : IsOffBehind version (place_behind found) head after place bytes

-- the bytes represent nothing, and this is the place where that shows
pub record IsDamaged (place : ℕ) (bytes : List ℕ) : Type 0 where
  pub none : (p : Plain) → StandsFor p bytes → ⊥
  pub cause : ((place ≡ 0) × (bytes ≡ [])) ⊎ (IsDamagedRow IsBodyOrHead 0 Blank place bytes ⊎ IsDamagedLater place bytes)
