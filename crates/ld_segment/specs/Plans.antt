-- The writing calls of a record, and of the switch before it, as a plan has them.
use Rattle.std.specs.Prelude.{◌≡◌, ◌⊎◌, ◌<◌, ◌+◌, ◌^◌, ℕ, max, List, [], ◌++◌, length, Option, None, Some, Bool, true, false}
use Rattle.ld_disk.specs.Plain.{Call}
use Rattle.ld_journal.specs.Format.{behind, append_calls}
use Rattle.ld_layout.specs.Layout.{Layout, Segment, switches}
use Rattle.ld_segment.specs.Left.{Switching, FirstSwitch, safe_calls, switch_calls, laid_out, switched, IsRecordTorn, IsSwitchTorn, IsFirstSwitchTorn}
use Rattle.ld_segment.specs.Lies.{Slots, first_switch, next_switch, shut_over, segment_for, gate_in, with_body}
use Rattle.ld_segment.specs.declared.plan.Plan.{Plan}
use Rattle.ld_segment.specs.declared.plan.Switch.{Switch}
use Rattle.ld_segment.specs.declared.plan.Switch.TheVariants as switches_are

-- ---- what a plan holds ----

-- a record goes into the segment as it is, or a switch comes before it
pub data Before : Type 0 where
  Stays : Before
  First : (w : FirstSwitch) → Before
  Later : (w : Switching) → Before

pub record Planned : Type 0 where
  pub before : Before
  pub gate : ℕ
  pub body : List ℕ

abbrev pub seen_switch : Switch → Before
seen_switch switches_are.Stay = Stays
seen_switch (switches_are.First gate_at slots_at slots head piece) = First (record { gate_at = gate_at; slots_at = slots_at; slots = slots.items; head = head })
seen_switch (switches_are.Later base_at base slot_at is_open says) = Later (record { base_at = base_at; base = base.items; slot_at = slot_at; shut = shut_over is_open; says = says })

abbrev pub seen_plan : Plan → Planned
seen_plan a = record { before = seen_switch a.switch; gate = a.gate; body = a.body.items }

-- what is written behind the head's gate
abbrev pub IsReadySwitch : Switch → Type 0
IsReadySwitch switches_are.Stay = Unit {0}
IsReadySwitch (switches_are.First gate_at slots_at slots head piece) = piece ≡ behind head
IsReadySwitch (switches_are.Later base_at base slot_at is_open says) = Unit {0}

-- and behind the record's, whose length fits its field
pub record IsReady (a : Plan) : Type 0 where
  pub switch : IsReadySwitch a.switch
  pub piece : a.piece.items ≡ behind a.body.items
  pub fits : length a.body.items < 2 ^ 32

-- ---- its calls ----

abbrev pub calls_before : Before → List Call
calls_before Stays = []
calls_before (First w) = safe_calls w.slots_at w.slots ++ append_calls w.gate_at w.head
calls_before (Later w) = switch_calls w

abbrev pub planned_calls : Planned → List Call
planned_calls p = calls_before p.before ++ append_calls p.gate p.body

-- how many
abbrev pub count_before : Before → ℕ
count_before Stays = 0
count_before (First w) = 6
count_before (Later w) = 7

abbrev pub planned_count : Planned → ℕ
planned_count p = count_before p.before + 4

-- the offset behind all that they write
abbrev pub end_before : Before → ℕ
end_before Stays = 0
end_before (First w) = max (w.slots_at + length w.slots) (w.gate_at + length w.head + 6)
end_before (Later w) = max (w.base_at + length w.base) (w.slot_at + 1 + length w.says)

abbrev pub planned_end : Planned → ℕ
planned_end p = max (end_before p.before) (p.gate + length p.body + 6)

-- ---- what they leave ----

abbrev pub made_before : Before → List ℕ → List ℕ
made_before Stays bytes = bytes
made_before (First w) bytes = with_body w.gate_at w.head (laid_out w bytes)
made_before (Later w) bytes = switched w bytes

abbrev pub planned_made : Planned → List ℕ → List ℕ
planned_made p bytes = with_body p.gate p.body (made_before p.before bytes)

abbrev pub IsBeforeTorn : Before → List ℕ → List ℕ → Type 0
IsBeforeTorn Stays old new = new ≡ old
IsBeforeTorn (First w) old new = IsFirstSwitchTorn w old new
IsBeforeTorn (Later w) old new = IsSwitchTorn w old new

abbrev pub IsPlanTorn : Planned → List ℕ → List ℕ → Type 0
IsPlanTorn p old new = IsBeforeTorn p.before old new ⊎ IsRecordTorn p.gate p.body (made_before p.before old) new

-- ---- the plan of a record ----

abbrev pub before_by : ℕ → Layout → Slots → Segment → Option Segment → Before
before_by kind y z g None = First (first_switch kind y g)
before_by kind y z g (Some old) = Later (next_switch kind y z g)

abbrev pub planned_by : ℕ → Layout → Slots → List ℕ → ℕ → Bool → Planned
planned_by kind y z body n true = record { before = before_by kind y z (segment_for y n) y.later; gate = (segment_for y n).end; body = body }
planned_by kind y z body n false = record { before = Stays; gate = gate_in y y.later; body = body }

-- of a record of this body, in this layout, with these slots
abbrev pub planned : ℕ → Layout → Slots → List ℕ → Planned
planned kind y z body = planned_by kind y z body (length body) (switches y (length body))
