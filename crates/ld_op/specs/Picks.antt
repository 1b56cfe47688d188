-- Which entries a page picks.
use Rattle.std.specs.Prelude.{ℕ, List, filter, Option, Some, None, Bool, true, false, ◌&&◌, not, nat_le, if◌then◌else◌}
use Rattle.ld_table.specs.Words.{values}
use Rattle.ld_msg.specs.declared.msg.Entry.{Entry}
use Rattle.ld_msg.specs.Digest.{is_bridge}
use Rattle.ld_op.specs.Answers.{withheld_what}

-- a page may leave bridges out
abbrev pub picks : Bool → Entry → Bool
picks true e = true
picks false e = not (is_bridge e.what)

-- of a table of entries those from one number to another
abbrev pub picked : Bool → List (ℕ × Entry) → ℕ → ℕ → List Entry
picked true m from last = filter (λ e. nat_le from e.number && nat_le e.number last) (values m)
picked false m from last = filter (λ e. not (is_bridge e.what)) (filter (λ e. nat_le from e.number && nat_le e.number last) (values m))

abbrev pub picked_one : Bool → Option Entry → Option Entry
picked_one b None = None
picked_one b (Some e) = if picks b e then Some e else None

-- an entry as a page shows it, with the payload of its record or without it
abbrev pub carried : Bool → Entry → Entry
carried mine e = record e { what = withheld_what mine e.what }
