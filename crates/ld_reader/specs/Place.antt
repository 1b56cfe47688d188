-- Where a reader stands.
use Rattle.std.specs.Prelude.{ℕ, ◌+◌, min, Bool, nat_lt, Option, Some, None}
use Rattle.ld_msg.specs.Reading.{Item}
use Rattle.ld_msg.specs.Reader.{item_end}

-- its next number, and its last one
pub record Place : Type 0 where
  pub next : ℕ
  pub until : ℕ

-- past the last number there is no next one to ask for
abbrev pub shown_next : Option ℕ → ℕ → ℕ
shown_next None until = until + 1
shown_next (Some next) until = next

-- all numbers are behind it
abbrev pub is_past : Place → Bool
is_past p = nat_lt p.until p.next

-- behind an item that stands there
abbrev pub behind : Place → Item → Place
behind p i = record { next = min (item_end p.next i) p.until + 1; until = p.until }
