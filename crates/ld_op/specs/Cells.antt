-- A payload is a list of numbers: its bytes, or, in an index, the offsets of its bytes. What ops and answers do with payloads is the same for both, so a plain state, an op and a message are defined once, and an index is a plain state too.
use Rattle.std.specs.Prelude.{ℕ, ◌+◌, ◌≡◌, List, [], ◌∷◌, length, map, get_or, Some, Bool, true, false}
use Rattle.ld_table.specs.Table.{find, map_values, Ordered}
use Rattle.ld_table.specs.Words.{is_in, numbers_from}
use Rattle.ld_msg.specs.declared.msg.What.{What}
use Rattle.ld_msg.specs.declared.msg.What.TheVariants.{Rec, Hole, Bridge, Plug, Withheld}
use Rattle.ld_msg.specs.declared.msg.Entry.{Entry}
use Rattle.ld_msg.specs.declared.msg.Body.{Body}
use Rattle.ld_msg.specs.declared.msg.Body.TheVariants as bodies
use Rattle.ld_msg.specs.declared.msg.Msg.{Msg}
use Rattle.ld_op.specs.declared.op.Op.{Op}
use Rattle.ld_op.specs.declared.op.Op.TheVariants as ops
use Rattle.ld_op.specs.Plain.{Plain, Log, entry_length}

-- ---- with a function at each number of each payload ----
module _ (f : ℕ → ℕ) where
  abbrev pub each_what : What → What
  each_what (Rec p) = Rec (map f p)
  each_what Hole = Hole
  each_what Bridge = Bridge
  each_what Plug = Plug
  each_what Withheld = Withheld

  abbrev pub each_entry : Entry → Entry
  each_entry e = record e { what = each_what e.what }

  abbrev pub each_log : Log → Log
  each_log g = record g { entries = map_values each_entry g.entries }

  abbrev pub each_plain : Plain → Plain
  each_plain p = record p { logs = map_values each_log p.logs }

  abbrev pub each_op : Op → Op
  each_op (ops.Accept l lng e) = ops.Accept l lng (each_entry e)
  each_op (ops.Refill l es) = ops.Refill l (map each_entry es)
  each_op o = o

  abbrev pub each_body : Body → Body
  each_body (bodies.DigestPage from upto trim lng es) = bodies.DigestPage from upto trim lng (map each_entry es)
  each_body (bodies.ReadPage round from upto clean es) = bodies.ReadPage round from upto clean (map each_entry es)
  each_body b = b

  abbrev pub each_msg : Msg → Msg
  each_msg m = record m { body = each_body m.body }

-- a record, with its payload or the offsets of it
abbrev pub is_rec : What → Bool
is_rec (Rec p) = true
is_rec Hole = false
is_rec Bridge = false
is_rec Plug = false
is_rec Withheld = false

-- with another payload, where it is a record
abbrev pub filled_what : List ℕ → What → What
filled_what q (Rec p) = Rec q
filled_what q Hole = Hole
filled_what q Bridge = Bridge
filled_what q Plug = Plug
filled_what q Withheld = Withheld

-- ---- the bytes that an index stands for ----

-- the byte at an offset; past the end it is 0
abbrev pub byte_at : List ℕ → ℕ → ℕ
byte_at bytes k = get_or bytes k 0

-- the plain state that an index represents, on a disk of these bytes
abbrev pub read_plain : List ℕ → Plain → Plain
read_plain bytes index = each_plain (byte_at bytes) index

-- ---- an op whose body stands at a place of a disk, with the places of its payloads' bytes ----

-- what an entry's tag tells: a payload stands behind its length, two bytes
abbrev pub placed_what : ℕ → What → What
placed_what at (Rec p) = Rec (numbers_from (at + 2) (length p))
placed_what at Hole = Hole
placed_what at Bridge = Bridge
placed_what at Plug = Plug
placed_what at Withheld = Withheld

-- an entry's number, ballot and tag take thirteen bytes
abbrev pub placed_entry : ℕ → Entry → Entry
placed_entry at e = record e { what = placed_what (at + 13) e.what }

abbrev pub placed_entries : ℕ → List Entry → List Entry
placed_entries at [] = []
placed_entries at (e ∷ es) = placed_entry at e ∷ placed_entries (at + entry_length e) es

abbrev pub placed : ℕ → Op → Op
placed at (ops.Accept l lng e) = ops.Accept l lng (placed_entry (at + 9) e)
placed at (ops.Refill l es) = ops.Refill l (placed_entries (at + 7) es)
placed at o = o

-- the logs rise, and each one's entries do
pub record IsOrdered (p : Plain) : Type 0 where
  pub logs : Ordered p.logs
  pub entries : (l : ℕ) (g : Log) → find l p.logs ≡ Some g → Ordered g.entries

-- two functions agree on each number of each payload
abbrev pub AgreeOn : (ℕ → ℕ) → (ℕ → ℕ) → Plain → Type 0
AgreeOn f g i = (l n : ℕ) (h : Log) (e : Entry) (p : List ℕ) (k : ℕ) → find l i.logs ≡ Some h → find n h.entries ≡ Some e → e.what ≡ Rec p → is_in k p ≡ true → f k ≡ g k
