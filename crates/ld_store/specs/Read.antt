-- What was read of a disk.
use Rattle.std.specs.Prelude.{◌≡◌, ◌⊎◌, ◌≤◌, ◌+◌, ◌-◌, ◌^◌, ℕ, List, length, min, Some, None, false, ◌==◌}
use Rattle.ld_journal.specs.Rest.{IsShut}
use Rattle.ld_op.specs.declared.version.Version.{Version}
use Rattle.ld_op.specs.declared.version.Version.TheVariants.{Blank}
use Rattle.ld_op.specs.Plain.{Plain, unformatted}
use Rattle.ld_op.specs.Cells.{each_plain}
use Rattle.ld_table.specs.Table.{find}
use Rattle.ld_layout.specs.declared.segment.Segment.{Segment as Stretch}
use Rattle.ld_layout.specs.LaidOut.{segment_of}
use Rattle.ld_op.specs.Indexed.{entry_count}
use Rattle.ld_layout.specs.Layout.{Segment, room_for, growth_told}
use Rattle.ld_segment.specs.Found.{slots_of}
use Rattle.ld_segment.specs.Later.{IsThere}
use Rattle.ld_segment.specs.declared.later.Later.{Later}
use Rattle.ld_store.specs.Ops.{IsBodyOrHead, IsDamagedRow, IsDamagedLater, within, least_behind}
use Rattle.ld_store.specs.Laid.{slots_in}
use Rattle.ld_store.specs.Replayed.{Replayed}
use Rattle.ld_store.specs.declared.laid.Laid.{Laid}
use Rattle.ld_store.specs.declared.replay.Walk.{Walk}
use Rattle.ld_layout.specs.declared.segment.Growth.TheVariants.{Still}

-- the segment of a Base, with the records behind it
abbrev pub read_segment : Later → Walk → Segment
read_segment c w = record {
  place = c.found.place;
  based = min (entry_count c.based.index.state.logs) (2 ^ 64 - 1);
  ops = w.ops;
  end = w.at;
  limit = c.gate + 1 + room_for (least_behind c) w.first;
  areas = c.based.areas;
  number = c.found.number;
  grows = growth_told c.based.kind;
}

-- these bytes are a journal of one segment
pub record IsFirstRead (bytes : List ℕ) (l : Laid) (index : Plain) (version : Version) : Type 0 where
  pub walk : Walk
  pub all : Replayed 0 Blank unformatted bytes walk index None
  pub layout_is : l.layout ≡ record { ops = walk.ops; end = walk.at; later = None; grows = Still }
  pub version_is : version ≡ walk.version

-- the first segment's records end at the head, and behind the Base that its slots name stand those of another one
pub record IsLaterRead (bytes : List ℕ) (l : Laid) (index : Plain) (version : Version) : Type 0 where
  pub walk : Walk
  pub closed : Plain
  pub head : ℕ
  pub first : Replayed 0 Blank unformatted bytes walk closed (Some head)
  pub shut : IsShut first.stops.begins.after
  pub later : Later
  pub there : IsThere walk.version head later bytes
  pub last : Walk
  pub rest : Replayed later.gate later.version later.based.index.state bytes last index None
  -- no area of the Base and no payload behind its records ends past the disk's end
  pub areas : (place size : ℕ) → find place later.based.areas ≡ Some size → place + size ≤ length bytes
  pub inside : each_plain (within (length bytes)) index ≡ index
  pub segment : Stretch
  pub segment_is : segment_of segment ≡ read_segment later last
  pub layout_is : l.layout ≡ record { ops = walk.ops; end = walk.at; later = Some segment; grows = Still }
  pub slots_are : slots_in l ≡ slots_of later.found
  pub version_is : version ≡ last.version

abbrev pub IsRead : List ℕ → Laid → Plain → Version → Type 0
IsRead bytes l index version = IsFirstRead bytes l index version ⊎ IsLaterRead bytes l index version

-- at this offset something is out of place
abbrev pub IsOut : ℕ → List ℕ → Type 0
IsOut place bytes = IsDamagedRow IsBodyOrHead 0 Blank place bytes ⊎ IsDamagedLater place bytes
