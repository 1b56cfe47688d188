-- Whether the payloads of an index end at an offset or before it.
use Rattle.std.specs.Prelude.{ℕ, List, [], ◌∷◌, Option, Some, None, Bool, true, ◌&&◌, nat_lt, if◌then◌else◌}
use Rattle.ld_table.specs.Words.{all_of}
use Rattle.ld_msg.specs.declared.msg.What.{What}
use Rattle.ld_msg.specs.declared.msg.What.TheVariants.{Rec, Hole, Bridge, Plug, Withheld}
use Rattle.ld_msg.specs.declared.msg.Entry.{Entry}
use Rattle.ld_op.specs.Plain.{Log}
use Rattle.ld_op.specs.Room.{Held}

module _ (end : ℕ) where
  -- each of these offsets lies before the end
  abbrev pub places_within : List ℕ → Bool
  places_within p = all_of (λ k. nat_lt k end) p

  abbrev pub what_within : What → Bool
  what_within (Rec p) = places_within p
  what_within Hole = true
  what_within Bridge = true
  what_within Plug = true
  what_within Withheld = true

  abbrev pub entries_within : List (ℕ × Entry) → Bool
  entries_within [] = true
  entries_within (e ∷ m) = what_within e.1.what && entries_within m

  -- each offset of each payload lies before the end
  abbrev pub logs_within : List (ℕ × Log) → Bool
  logs_within [] = true
  logs_within (l ∷ m) = entries_within l.1.entries && logs_within m

  -- an entry's, where there is one, and a log's, where it is there
  abbrev pub entry_within : Option Entry → Bool
  entry_within None = true
  entry_within (Some e) = what_within e.what

  abbrev pub log_within : Held → Bool
  log_within h = if h.there then entries_within h.log.entries else true
