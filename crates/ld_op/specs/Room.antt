-- A node's plain state beside the room that was made for ops to come.
use Rattle.std.specs.Prelude.{◌≡◌, ℕ, List, [], ◌∷◌, Option, Some, None, Bool, true, false, ◌&&◌, if◌then◌else◌}
use Rattle.ld_table.specs.Table.{find, map_values}
use Rattle.ld_lsn.specs.Number.{epoch_of}
use Rattle.ld_msg.specs.declared.msg.Entry.{Entry}
use Rattle.ld_msg.specs.declared.msg.Summary.{Summary}
use Rattle.ld_op.specs.declared.op.Op.{Op}
use Rattle.ld_op.specs.declared.op.Op.TheVariants as ops
use Rattle.ld_op.specs.Plain.{Log, Plain, empty_log, accepted, sealed_by, cleaned, trimmed_to, refilled_with, refilled, lost_logs}
use Rattle.ld_op.specs.Places.{filled, has_place}

-- one log's state: whether the log is there yet, what it holds, and the places made for entries, summaries and last known good places
pub record Held : Type 0 where
  pub there : Bool
  pub log : Log
  pub places : List (ℕ × Option Entry)
  pub epochs : List (ℕ × Option Summary)
  pub lngs : List (ℕ × Option ℕ)

abbrev pub if_there : Held → Option Log
if_there h = if h.there then Some h.log else None

-- the logs that are there
abbrev pub there_of : List (ℕ × Held) → List (ℕ × Log)
there_of m = filled (map_values if_there m)

abbrev pub held_log : Option Held → Log
held_log None = empty_log
held_log (Some h) = h.log

-- a node's: the plain state, each log's room, and the logs made for a format
pub record Kept : Type 0 where
  pub state : Plain
  pub room : List (ℕ × Held)
  pub fresh : List (ℕ × Log)

-- ---- what an op wants ----

-- the log of an op, which a format lacks
abbrev pub log_named : Op → Option ℕ
log_named (ops.Format generation epochs) = None
log_named (ops.Accept l lng e) = Some l
log_named (ops.Seal l b) = Some l
log_named (ops.Clean l epoch y) = Some l
log_named (ops.Trim l t) = Some l
log_named (ops.Refill l es) = Some l
log_named (ops.Refilled l) = Some l

-- what an op makes of its log
abbrev pub log_after : Log → Op → Log
log_after g (ops.Format generation epochs) = g
log_after g (ops.Accept l lng e) = accepted g lng e
log_after g (ops.Seal l b) = sealed_by g b
log_after g (ops.Clean l epoch y) = cleaned g epoch y
log_after g (ops.Trim l t) = trimmed_to g t
log_after g (ops.Refill l es) = refilled_with g es
log_after g (ops.Refilled l) = refilled g

abbrev pub have_places : List Entry → List (ℕ × Option Entry) → Bool
have_places [] m = true
have_places (e ∷ es) m = has_place e.number m && have_places es m

-- a place for each entry, summary and last known good place of an op
abbrev pub log_has_room : Held → Op → Bool
log_has_room h (ops.Format generation epochs) = true
log_has_room h (ops.Accept l lng e) = has_place e.number h.places && has_place (epoch_of e.number) h.lngs
log_has_room h (ops.Seal l b) = true
log_has_room h (ops.Clean l epoch y) = has_place epoch h.epochs
log_has_room h (ops.Trim l t) = true
log_has_room h (ops.Refill l es) = have_places es h.places
log_has_room h (ops.Refilled l) = true

abbrev pub has_room_in : Op → Option Held → Bool
has_room_in o None = false
has_room_in o (Some h) = log_has_room h o

abbrev pub HasRoomAt : Kept → Op → Option ℕ → Type 0
HasRoomAt k o None = Unit {0}
HasRoomAt k o (Some l) = has_room_in o (find l k.room) ≡ true

abbrev pub IsFresh : Kept → Op → Type 0
IsFresh k (ops.Format generation epochs) = k.fresh ≡ lost_logs epochs
IsFresh k _ = Unit {0}

-- the room for an op is made
abbrev pub HasRoom : Kept → Op → Type 0
HasRoom k o = IsFresh k o × HasRoomAt k o (log_named o)
