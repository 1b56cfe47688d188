-- What a reader gives while a row of its table holds.
use Rattle.std.specs.Prelude.{ℕ, zero, suc, ◌+◌, List, [], ◌∷◌, nat_le, if◌then◌else◌}
use Rattle.ld_lsn.specs.Number.{home_epoch}
use Rattle.ld_msg.specs.declared.msg.Entry.{Entry}
use Rattle.ld_msg.specs.declared.msg.Body.{Body}
use Rattle.ld_msg.specs.declared.msg.Body.TheVariants as bodies
use Rattle.ld_msg.specs.Reading.{Held, Item, Gives, Confirms, AsksAll, NotYet}
use Rattle.ld_msg.specs.Reader.{Reader, is_finished, after_item, verdict}

-- how many entries stand from a number on
abbrev pub entries_from : ℕ → List Entry → ℕ
entries_from s [] = 0
entries_from s (e ∷ es) = if nat_le s e.number then suc (entries_from s es) else entries_from s es

-- how many items an answer can give from a number on
abbrev pub rows_of : ℕ → Body → ℕ
rows_of s (bodies.ReadPage round from upto clean entries) = entries_from s entries
rows_of s (bodies.ReadTrim round from trim) = if nat_le s trim then 1 else 0
rows_of s (bodies.ReadEnded round from end loss) = if nat_le (home_epoch s) (home_epoch end) then 1 else 0
rows_of s _ = 0

abbrev pub rows_from : ℕ → List (ℕ × Held) → ℕ
rows_from s [] = 0
rows_from s (h ∷ hs) = rows_of s h.1.body + rows_from s hs

-- above the number of items that a reader can still give
abbrev pub rows_left : Reader → ℕ
rows_left d = if is_finished d then 0 else suc (rows_from d.next d.held)

unfoldable pub given_by : ℕ → Reader → List (ℕ × Item)
given_by zero d = []
given_by (suc k) d = elim (verdict d) [ Gives i ↦ (d.next, i) ∷ given_by k (after_item d i) | Confirms lost ↦ [] | AsksAll ↦ [] | NotYet ↦ [] ]

unfoldable pub after_by : ℕ → Reader → Reader
after_by zero d = d
after_by (suc k) d = elim (verdict d) [ Gives i ↦ after_by k (after_item d i) | Confirms lost ↦ d | AsksAll ↦ d | NotYet ↦ d ]

-- the items that a reader gives, and what it is then
unfoldable pub given : Reader → List (ℕ × Item)
given d = given_by (rows_left d) d

unfoldable pub after : Reader → Reader
after d = after_by (rows_left d) d
