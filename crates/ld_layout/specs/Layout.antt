-- How a journal's segments lie on their disk: which is full, where the next one lies, and which writing calls that takes.
use Rattle.std.specs.Prelude.{◌≡◌, ◌<◌, ◌≤◌, ℕ, ◌+◌, ◌-◌, ◌*◌, ◌^◌, max, List, [], ◌∷◌, length, filter, Option, Some, None, Bool, true, false, ◌&&◌, ◌||◌, ◌==◌, nat_lt, nat_le, if◌then◌else◌}
use Rattle.ld_table.specs.Table.{find, put, Ordered}
use Rattle.ld_table.specs.Words.{any_of}
use Rattle.ld_msg.specs.declared.msg.What.{What}
use Rattle.ld_msg.specs.declared.msg.What.TheVariants.{Rec, Hole, Bridge, Plug, Withheld}
use Rattle.ld_msg.specs.declared.msg.Entry.{Entry}
use Rattle.ld_msg.specs.Register.{record_length, journal_limit}
use Rattle.ld_op.specs.declared.op.Op.{Op}
use Rattle.ld_op.specs.Plain.{Plain, Log, unformatted, apply, op_length}
use Rattle.ld_op.specs.Cells.{placed}
use Rattle.ld_layout.specs.declared.segment.Growth.{Growth}
use Rattle.ld_layout.specs.declared.segment.Growth.TheVariants.{Still, Based, Wide}
use Rattle.ld_layout.specs.Areas.{is_inside, least_place, AreLive, IsHeld}

-- a later segment: its offset, the entries of its Base, the op records after it, its ending gate, the offset behind its area, the older areas in which its entries' payloads stand, by offset with their lengths,
-- how many switches there were, and how its room grew
pub record Segment : Type 0 where
  pub place : ℕ
  pub based : ℕ
  pub ops : ℕ
  pub end : ℕ
  pub limit : ℕ
  pub areas : List (ℕ × ℕ)
  pub number : ℕ
  pub grows : Growth

-- how a journal lies on its disk: the op records of the first segment and its ending gate, the current later segment, the index, which is the plain state with the places of each payload's bytes in place of the bytes,
-- and how the room of the next segment grows, which no byte tells: it is the choice of whoever writes
pub record Layout : Type 0 where
  pub ops : ℕ
  pub end : ℕ
  pub later : Option Segment
  pub index : Plain
  pub grows : Growth

abbrev pub new_layout : Layout
new_layout = record { ops = 0; end = 0; later = None; index = unformatted; grows = Still }

-- the least number of op records in a full segment, and the least space for records in a later one that doesn't grow
abbrev pub full_ops : ℕ
full_ops = 64

abbrev pub least_room : ℕ
least_room = 131072

-- both in one that is wide
abbrev pub wide_ops : ℕ
wide_ops = 4096

abbrev pub wide_room : ℕ
wide_room = 4194304

-- how many times its Base the space in one that is wide takes
abbrev pub wide_bases : ℕ
wide_bases = 16

abbrev pub full_for : Growth → ℕ
full_for Still = full_ops
full_for Based = full_ops
full_for Wide = wide_ops

-- the offset behind the first segment and the head: its record and two slots
abbrev pub head_end : ℕ → ℕ
head_end end = end + 15 + 34

-- a record takes five bytes beside its body, and the next gate follows it
abbrev pub is_full_later : ℕ → Option Segment → Bool
is_full_later body None = false
is_full_later body (Some g) = nat_le (max (full_for g.grows) g.based) g.ops || nat_le g.limit (g.end + record_length body)

-- a switch comes before a record of so many bytes
abbrev pub is_full_first : Layout → Option Segment → Bool
is_full_first y None = nat_le full_ops y.ops
is_full_first y (Some g) = false

unfoldable pub switches : Layout → ℕ → Bool
switches y body = is_full_first y y.later || is_full_later body y.later

-- ---- a Base ----

abbrev pub based_length : What → ℕ
based_length (Rec p) = 23
based_length _ = 13

abbrev pub entries_based : List (ℕ × Entry) → ℕ
entries_based [] = 0
entries_based (e ∷ es) = based_length e.1.what + entries_based es

-- what a log takes: its fields, summaries, last known good offsets and entries
abbrev pub log_based : Log → ℕ
log_based g = 33 + (25 * length g.summaries + (8 * length g.lngs + entries_based g.entries))

abbrev pub logs_based : List (ℕ × Log) → ℕ
logs_based [] = 0
logs_based (l ∷ ls) = log_based l.1 + logs_based ls

abbrev pub entry_count : List (ℕ × Log) → ℕ
entry_count [] = 0
entry_count (l ∷ ls) = length l.1.entries + entry_count ls

-- a payload's bytes stand side by side, so in the area in which the first one does; one without bytes stands nowhere
abbrev pub stands_in : ℕ × ℕ → List ℕ → Bool
stands_in a [] = false
stands_in a (k ∷ ks) = is_inside a k

abbrev pub points_into : ℕ × ℕ → What → Bool
points_into a (Rec p) = stands_in a p
points_into a Hole = false
points_into a Bridge = false
points_into a Plug = false
points_into a Withheld = false

-- an entry's payload stands in the area
abbrev pub holds_payload : ℕ × ℕ → ℕ × Log → Bool
holds_payload a l = any_of (λ e. points_into a e.1.what) l.1.entries

-- the areas in which payloads of entries stand
abbrev pub used : Plain → List (ℕ × ℕ) → List (ℕ × ℕ)
used index areas = filter (λ a. any_of (holds_payload a) index.logs) areas

abbrev pub base_length : Plain → List (ℕ × ℕ) → ℕ
base_length index areas = 11 + (logs_based index.logs + 16 * length areas)

-- ---- a switch ----

-- the areas of the closed segments into which entries may point, once the current one is closed; the first segment's ends behind its last record's gate
abbrev pub closed_areas : Layout → Option Segment → List (ℕ × ℕ)
closed_areas y None = (0, y.end + 1) ∷ []
closed_areas y (Some g) = put g.place (g.end + 1 - g.place) g.areas

-- no new segment may overlap these
abbrev pub live_areas : Layout → Option Segment → List (ℕ × ℕ)
live_areas y None = (0, head_end y.end) ∷ []
live_areas y (Some g) = put g.place (g.limit - g.place) (put 0 (head_end y.end) g.areas)

abbrev pub switch_number : Option Segment → ℕ
switch_number None = 0
switch_number (Some g) = g.number

-- a segment with a Base and room for a record of so many bytes
abbrev pub segment_at : ℕ → ℕ → ℕ → ℕ → List (ℕ × ℕ) → ℕ → Growth → Segment
segment_at place base entries room areas number grows = record {
  place = place;
  based = entries;
  ops = 0;
  end = place + 5 + base;
  limit = place + 6 + base + room;
  areas = areas;
  number = number;
  grows = grows;
}

-- the least space for records behind a Base: where it grows, what they take is no less than what the Base does, or than so many Bases
abbrev pub least_for : Growth → ℕ → ℕ
least_for Still base = least_room
least_for Based base = max least_room base
least_for Wide base = max wide_room (wide_bases * base)

-- room is for the record that causes the switch, by its length, where that is on the disk
abbrev pub room_for : ℕ → ℕ → ℕ
room_for least cause = max least cause

-- the first byte of a Base of the second version, which tells how its segment grows
abbrev pub kind_by : Growth → ℕ
kind_by Still = 13
kind_by Based = 14
kind_by Wide = 15

-- how the segment of a Base with this first byte grew
abbrev pub growth_told : ℕ → Growth
growth_told kind = if kind == 15 then Wide else if kind == 14 then Based else Still

abbrev pub kind_of : Layout → ℕ
kind_of y = kind_by y.grows

abbrev pub new_segment : Layout → ℕ → ℕ → Segment
new_segment y cause room =
    let areas : List (ℕ × ℕ) = used y.index (closed_areas y y.later) in
    let base : ℕ = base_length y.index areas in
    let least : ℕ = least_for y.grows base in
    segment_at (least_place (base + 6 + room_for least cause) 0 (live_areas y y.later)) base (entry_count y.index.logs) (room_for least room) areas (switch_number y.later + 1) y.grows

-- the layout after a switch for a record of so many bytes that isn't there yet, or that is
unfoldable pub switched_to : Layout → ℕ → ℕ → Layout
switched_to y cause room = record y { later = Some (new_segment y cause room) }

-- the writing calls of a switch
abbrev pub switch_calls : Option Segment → ℕ
switch_calls None = 6
switch_calls (Some g) = 7

abbrev pub calls_before : Layout → ℕ → ℕ
calls_before y body = if switches y body then switch_calls y.later else 0

-- ---- a record in a layout ----

abbrev pub gate_of : Layout → Option Segment → ℕ
gate_of y None = y.end
gate_of y (Some g) = g.end

abbrev pub record_in : Segment → ℕ → Segment
record_in g body = record g { ops = g.ops + 1; end = g.end + record_length body }

abbrev pub later_with : Option Segment → ℕ → Option Segment
later_with None body = None
later_with (Some g) body = Some (record_in g body)

abbrev pub is_first : Option Segment → Bool
is_first None = true
is_first (Some g) = false

-- a record's body begins five bytes behind its gate
unfoldable pub with_record : Layout → Op → Layout
with_record y o = record {
  ops = if is_first y.later then y.ops + 1 else y.ops;
  end = if is_first y.later then y.end + record_length (op_length o) else y.end;
  later = later_with y.later (op_length o);
  index = apply y.index (placed (gate_of y y.later + 5) o);
  grows = y.grows;
}

-- the layout in which a record is written: after a switch, where there is one; room is for the record as far as it is on the disk
abbrev pub laid_for : Layout → Op → ℕ → Layout
laid_for y o room = if switches y (op_length o) then switched_to y (record_length (op_length o)) room else y

-- the layout once the record of an op is there
abbrev pub kept_in : Layout → Op → Layout
kept_in y o = with_record (laid_for y o (record_length (op_length o))) o

-- a record or an area would pass the limit, or a Base or the count of switches would be too long
abbrev pub passes_in : Layout → Op → Option Segment → Bool
passes_in y o None = nat_lt journal_limit (y.end + 1 + record_length (op_length o))
passes_in y o (Some g) =
    switches y (op_length o) && (nat_lt journal_limit g.limit || (nat_le (2 ^ 32) (base_length y.index g.areas) || nat_le (2 ^ 64) g.number))

unfoldable pub passes_limit : Layout → Op → Bool
passes_limit y o = let z : Layout = laid_for y o (record_length (op_length o)) in passes_in y o z.later

-- ---- what holds of each layout ----

-- a later segment lies behind the head, and its records within its area
pub record IsSegment (g : Segment) : Type 0 where
  pub behind : 0 < g.place
  pub begun : g.place ≤ g.end
  pub within : g.end + 1 ≤ g.limit
  pub ordered : Ordered g.areas

abbrev pub IfSegment : Option Segment → Type 0
IfSegment None = Unit {0}
IfSegment (Some g) = IsSegment g

-- no two live areas share a byte
pub record IsLaid (y : Layout) : Type 0 where
  pub live : AreLive (live_areas y y.later)
  pub segment : IfSegment y.later

-- each payload stands in the area of a segment that is closed, or will be at the next switch
abbrev pub AreHeld : Layout → Type 0
AreHeld y = (l n : ℕ) (g : Log) (e : Entry) (p : List ℕ) → find l y.index.logs ≡ Some g → find n g.entries ≡ Some e → e.what ≡ Rec p → IsHeld p (closed_areas y y.later)
