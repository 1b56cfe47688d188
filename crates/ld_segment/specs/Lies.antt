-- How the bytes of a disk lie: segments of a journal, and what they represent.
use Rattle.std.specs.Prelude.{◌≡◌, ◌⊎◌, ◌<◌, ◌≤◌, ◌+◌, ◌^◌, ℕ, List, [], ◌∷◌, ◌++◌, length, drop, Option, Some, None, Bool, true, false, is_some, is_none, ◌&&◌, ◌||◌, not, ◌==◌, nat_le, nat_lt, if◌then◌else◌}
use Rattle.ld_disk.specs.Images.{overwrite}
use Rattle.ld_disk.specs.Plain.{Call}
use Rattle.ld_disk.specs.declared.disk.Picture.{Picture}
use Rattle.ld_journal.specs.Format.{framed, IsJournal, append_calls}
use Rattle.ld_journal.specs.Pictures.{gate_reads, seen_by}
use Rattle.ld_msg.specs.Register.{record_length, journal_limit}
use Rattle.ld_op.specs.declared.op.Op.{Op}
use Rattle.ld_op.specs.declared.record.Record.{Record}
use Rattle.ld_op.specs.declared.record.Record.TheVariants.{Mark}
use Rattle.ld_op.specs.declared.version.Version.{Version}
use Rattle.ld_op.specs.declared.version.Version.TheVariants.{Blank, First, Second}
use Rattle.ld_op.specs.Plain.{Plain, unformatted, apply, op_length}
use Rattle.ld_op.specs.Records.{body_length, is_format, is_blank, is_first}
use Rattle.ld_op.specs.Bounds.{IsOp}
use Rattle.ld_op.specs.Bytes.{op_bytes, record_bytes}
use Rattle.ld_op.specs.Cells.{read_plain}
use Rattle.ld_table.specs.Table.{find}
use Rattle.ld_layout.specs.Base.{base_bytes, is_second_kind}
use Rattle.ld_layout.specs.Layout.{Layout, Segment, switches, new_segment, base_length, entry_count, least_for, room_for, growth_told, kind_of, calls_before, laid_for, kept_in, switched_to, passes_limit, IsLaid, AreHeld}
use Rattle.ld_segment.specs.Left.{Switching, FirstSwitch, safe_calls, switch_calls, staged, laid_out, switched, IsRecordTorn, IsSwitchTorn, IsFirstSwitchTorn}
use Rattle.ld_segment.specs.Slots.{head_bytes, says_bytes, slot_length, Tells, IsShut, IsLesser}
use Rattle.ld_segment.specs.Bases.{IsIndex, IsBase, HasNoLoss}
use Rattle.ld_segment.specs.Ops.{bodies_of, place_behind, op_count, indexed, ArePlaced}

-- ---- the slots ----

-- the offset of the slot that counts, that of the other, and whether the other's gate is open
pub record Slots : Type 0 where
  pub this : ℕ
  pub other : ℕ
  pub is_open : Bool

-- the two slots behind the head, which names the first of them
abbrev pub ArePlacedAt : ℕ → Slots → Type 0
ArePlacedAt head z = ((z.this ≡ head) × (z.other ≡ head + slot_length)) ⊎ ((z.this ≡ head + slot_length) × (z.other ≡ head))

-- a slot that isn't known to be open is shut, and an open one is of a lesser number
abbrev pub IsOther : Bool → ℕ → ℕ → List ℕ → Type 0
IsOther true other number bytes = IsLesser other number bytes
IsOther false other number bytes = IsShut other bytes

-- ---- a later segment ----

-- how long the first of some records is, where there is one
abbrev pub first_length : List Record → ℕ
first_length [] = 0
first_length (v ∷ vs) = record_length (body_length v)

-- the gate behind a Base
abbrev pub behind_base : Segment → Plain → ℕ
behind_base g base = g.place + record_length (base_length base g.areas)

-- the version behind a Base, where it may stand in a journal whose first segment is of that version: one of the second may stand in each that isn't blank, and one of the first in no other
abbrev pub after_base : ℕ → Version → Option Version
after_base kind opening = if is_blank opening then None else if is_second_kind kind then Some Second else if (kind == 9) && is_first opening then Some First else None

-- a segment's Base and the records behind it; its area has room for the record that caused the switch, where that is there, and where its first byte says so for as many bytes as the Base has
pub record IsCurrent (opening version : Version) (g : Segment) (index : Plain) (bytes : List ℕ) : Type 0 where
  pub kind : ℕ
  pub base : Plain
  pub from : Version
  pub kind_is : after_base kind opening ≡ Some from
  pub older : kind ≡ 9 → HasNoLoss base
  pub is_base : IsBase base g.areas
  pub records : List Record
  pub journal : IsJournal (base_bytes kind base g.areas ∷ bodies_of records) (drop g.place bytes)
  pub placed : ArePlaced from records version
  pub based_is : g.based ≡ entry_count base.logs
  pub ops_is : g.ops ≡ op_count records
  pub grows_is : g.grows ≡ growth_told kind
  pub end_is : g.end ≡ behind_base g base + place_behind records
  pub limit_is : g.limit ≡ behind_base g base + 1 + room_for (least_for g.grows (base_length base g.areas)) (first_length records)
  pub index_is : index ≡ indexed (behind_base g base) base records

-- the slots behind the head, the one that counts, and the segment that it names
pub record IsLater (opening version : Version) (head : ℕ) (z : Slots) (g : Segment) (index : Plain) (bytes : List ℕ) : Type 0 where
  pub at : ArePlacedAt head z
  pub tells : Tells z.this z.other g.number g.place bytes
  pub other : IsOther z.is_open z.other g.number bytes
  pub current : IsCurrent opening version g index bytes
  -- the older areas are there
  pub within : (k v : ℕ) → find k g.areas ≡ Some v → k + v ≤ length bytes

-- ---- the whole disk ----

-- what stands behind the first segment's records: nothing that counts, or the head
abbrev pub head_of : Layout → Option Segment → List (List ℕ)
head_of y None = []
head_of y (Some g) = head_bytes (y.end + 15) ∷ []

-- the version of a journal that is written to: no record stands there, or it is of the second
abbrev pub written : Layout → Version
written y = if y.ops == 0 then Blank else Second

abbrev pub IsIndexed : Version → Version → Layout → Slots → Option Segment → List Record → List ℕ → Type 0
IsIndexed opening version y z None vs bytes = (version ≡ opening) × (y.index ≡ indexed 0 unformatted vs)
IsIndexed opening version y z (Some g) vs bytes = IsLater opening version (y.end + 15) z g y.index bytes

-- the bytes lie as the layout says, with these slots, and the journal is of this version behind its last record
pub record LiesAs (version : Version) (y : Layout) (z : Slots) (bytes : List ℕ) : Type 0 where
  pub records : List Record
  pub journal : IsJournal (bodies_of records ++ head_of y y.later) bytes
  pub first : Version
  pub placed : ArePlaced Blank records first
  pub ops_is : y.ops ≡ op_count records
  pub end_is : y.end ≡ place_behind records
  pub index_is : IsIndexed first version y z y.later records bytes

-- numbers and offsets of a later segment fit their fields; the first segment's area is what lies before the head
pub record IsBounded (end : ℕ) (g : Segment) : Type 0 where
  pub number : g.number < 2 ^ 64
  pub limit : g.limit ≤ journal_limit
  pub ends : (k v : ℕ) → find k g.areas ≡ Some v → k + v ≤ journal_limit
  pub first : (v : ℕ) → find 0 g.areas ≡ Some v → v ≡ end + 1

abbrev pub IfBounded : ℕ → Option Segment → Type 0
IfBounded end None = Unit {0}
IfBounded end (Some g) = IsBounded end g

-- live areas share no byte, and hold each payload, so what is written next leaves all that counts; and the index is one that a Base can carry
pub record IsSound (y : Layout) : Type 0 where
  pub laid : IsLaid y
  pub held : AreHeld y
  pub index : IsIndex y.index
  pub bounded : IfBounded y.end y.later

-- the bytes represent this plain state
pub record StandsFor (p : Plain) (bytes : List ℕ) : Type 0 where
  pub version : Version
  pub layout : Layout
  pub slots : Slots
  pub lies : LiesAs version layout slots bytes
  pub sound : IsSound layout
  pub plain : p ≡ read_plain bytes layout.index

abbrev pub StandsForEither : Plain → Plain → List ℕ → Type 0
StandsForEither p q bytes = StandsFor p bytes ⊎ StandsFor q bytes

-- ---- the writing calls of an op ----

-- a record of this body, and a shut gate behind it
abbrev pub base_record : ℕ → Layout → Segment → List ℕ
base_record kind y g = framed (base_bytes kind y.index g.areas) ++ 0 ∷ []

-- both slots, the first open and naming the segment behind them, and the segment's Base
abbrev pub first_slots : ℕ → Layout → Segment → List ℕ
first_slots kind y g = 1 ∷ (says_bytes 1 g.place ++ (0 ∷ (says_bytes 0 0 ++ base_record kind y g)))

abbrev pub shut_over : Bool → List ℕ
shut_over true = 0 ∷ []
shut_over false = []

abbrev pub next_switch : ℕ → Layout → Slots → Segment → Switching
next_switch kind y z g = record { base_at = g.place; base = base_record kind y g; slot_at = z.other; shut = shut_over z.is_open; says = says_bytes g.number g.place }

abbrev pub switch_row : ℕ → Layout → Slots → Segment → Option Segment → List Call
switch_row kind y z g None = safe_calls (y.end + 15) (first_slots kind y g) ++ append_calls y.end (head_bytes (y.end + 15))
switch_row kind y z g (Some old) = switch_calls (next_switch kind y z g)

abbrev pub gate_in : Layout → Option Segment → ℕ
gate_in y None = y.end
gate_in y (Some g) = g.end

-- the new segment of a switch before a record whose body has so many bytes
abbrev pub segment_for : Layout → ℕ → Segment
segment_for y body = new_segment y (record_length body) (record_length body)

-- the calls of a switch, where there is one, whose Base has this first byte, and the four of a record of this body
abbrev pub calls_by : ℕ → Layout → Slots → List ℕ → ℕ → Bool → List Call
calls_by kind y z body n true = switch_row kind y z (segment_for y n) y.later ++ append_calls (segment_for y n).end body
calls_by kind y z body n false = append_calls (gate_in y y.later) body

abbrev pub row_of : ℕ → Layout → Slots → List ℕ → List Call
row_of kind y z body = calls_by kind y z body (length body) (switches y (length body))

abbrev pub op_row : Layout → Slots → Op → List Call
op_row y z o = row_of (kind_of y) y z (op_bytes o)

-- those of the mark that makes a journal of the first version one of the second
abbrev pub mark_row : Layout → Slots → List Call
mark_row y z = row_of 9 y z (record_bytes Mark)

-- ---- what a crash leaves of them ----

abbrev pub first_switch : ℕ → Layout → Segment → FirstSwitch
first_switch kind y g = record { gate_at = y.end; slots_at = y.end + 15; slots = first_slots kind y g; head = head_bytes (y.end + 15) }

-- the bytes once a record is there
abbrev pub with_body : ℕ → List ℕ → List ℕ → List ℕ
with_body gate body bytes = overwrite gate (1 ∷ []) (staged gate body bytes)

-- the bytes after a switch
abbrev pub switched_bytes : ℕ → Layout → Slots → Segment → Option Segment → List ℕ → List ℕ
switched_bytes kind y z g None bytes = with_body y.end (head_bytes (y.end + 15)) (laid_out (first_switch kind y g) bytes)
switched_bytes kind y z g (Some old) bytes = switched (next_switch kind y z g) bytes

abbrev pub IsAnySwitchTorn : ℕ → Layout → Slots → Segment → Option Segment → List ℕ → List ℕ → Type 0
IsAnySwitchTorn kind y z g None old new = IsFirstSwitchTorn (first_switch kind y g) old new
IsAnySwitchTorn kind y z g (Some s) old new = IsSwitchTorn (next_switch kind y z g) old new

-- a crash in the calls of a switch, where there is one, or in those of the record
abbrev pub IsTornBy : ℕ → Layout → Slots → List ℕ → List ℕ → List ℕ → ℕ → Bool → Type 0
IsTornBy kind y z body b c n true = IsAnySwitchTorn kind y z (segment_for y n) y.later b c ⊎ IsRecordTorn (segment_for y n).end body (switched_bytes kind y z (segment_for y n) y.later b) c
IsTornBy kind y z body b c n false = IsRecordTorn (gate_in y y.later) body b c

abbrev pub IsRowTorn : ℕ → Layout → Slots → List ℕ → List ℕ → List ℕ → Type 0
IsRowTorn kind y z body b c = IsTornBy kind y z body b c (length body) (switches y (length body))

-- all of them made
abbrev pub made_by : ℕ → Layout → Slots → List ℕ → List ℕ → ℕ → Bool → List ℕ
made_by kind y z body b n true = with_body (segment_for y n).end body (switched_bytes kind y z (segment_for y n) y.later b)
made_by kind y z body b n false = with_body (gate_in y y.later) body b

abbrev pub row_made : ℕ → Layout → Slots → List ℕ → List ℕ → List ℕ
row_made kind y z body b = made_by kind y z body b (length body) (switches y (length body))

-- the slots after a switch: the other one counts, and the one that did is open
abbrev pub slots_after : Layout → Slots → Option Segment → Slots
slots_after y z None = record { this = y.end + 15; other = y.end + 15 + slot_length; is_open = false }
slots_after y z (Some g) = record { this = z.other; other = z.this; is_open = true }

abbrev pub slots_with : Layout → Slots → ℕ → Slots
slots_with y z body = if switches y body then slots_after y z y.later else z

-- ---- an op that may be kept ----

-- an op that a journal's body can carry, a format exactly where nothing is kept yet, and within all limits
pub record MayKeep (y : Layout) (o : Op) : Type 0 where
  pub op : IsOp o
  pub format : is_format o ≡ (y.ops == 0)
  pub fits : passes_limit y o ≡ false

-- ---- a fault in its calls ----

-- the calls of a switch before it
abbrev pub switching : Layout → Op → ℕ
switching y o = calls_before y (op_length o)

-- whether the gate that the last but one of so many calls writes is read as open
abbrev pub gate_shows : ℕ → ℕ → Option Picture → List Picture → Bool
gate_shows calls call how later = ((call == calls) || (is_some how && (call + 1 == calls))) && gate_reads (seen_by how later)

-- what a load finds: the layout with the record, or switched alone, or as it was
abbrev pub layout_left : Layout → Op → ℕ → Option Picture → List Picture → Layout
layout_left y o call how later =
    if gate_shows (switching y o + 4) call how later then kept_in y o
    else if not (nat_le call (switching y o)) || gate_shows (switching y o) call how later then laid_for y o 0
    else y

abbrev pub plain_left : Plain → Layout → Op → ℕ → Option Picture → List Picture → Plain
plain_left p y o call how later = if gate_shows (switching y o + 4) call how later then apply p o else p

-- ---- a mark ----

-- the layout once a mark stands there: it is no op, and its seven bytes change no index
abbrev pub marked_later : Option Segment → Option Segment
marked_later None = None
marked_later (Some g) = Some (record g { end = g.end + 7 })

abbrev pub with_mark : Layout → Layout
with_mark y = record y { end = if is_none y.later then y.end + 7 else y.end; later = marked_later y.later }

-- in the current segment, or in a new one where that is full
abbrev pub marked_in : Layout → Layout
marked_in y = if switches y 2 then with_mark (switched_to y 7 7) else with_mark y

-- the mark or an area would pass the limit, or a Base or the count of switches would be too long
abbrev pub mark_passes_in : Layout → Option Segment → Bool
mark_passes_in y None = nat_lt journal_limit (y.end + 8)
mark_passes_in y (Some g) = switches y 2 && (nat_lt journal_limit g.limit || (nat_le (2 ^ 32) (base_length y.index g.areas) || nat_le (2 ^ 64) g.number))

abbrev pub mark_passes : Layout → Bool
mark_passes y = let z : Layout = if switches y 2 then switched_to y 7 7 else y in mark_passes_in y z.later
