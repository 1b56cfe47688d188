-- What an offset in an index takes: nothing where there is none yet.
use Rattle.std.specs.Prelude.{ℕ, ◌+◌, length, Option, Some, None, if◌then◌else◌}
use Rattle.ld_msg.specs.declared.msg.Entry.{Entry}
use Rattle.ld_op.specs.Room.{Held}
use Rattle.ld_op.specs.Indexed.{what_based, tables_based}

-- the bytes of a log, its number and four fields beside its tables
abbrev pub log_length : Held → ℕ
log_length h = if h.there then 21 + length (tables_based h.log) else 0

-- the bytes of an entry, its number and ballot beside what stands there
abbrev pub entry_length : Option Entry → ℕ
entry_length None = 0
entry_length (Some e) = 12 + length (what_based e.what)

-- the entries of a log
abbrev pub entries_there : Held → ℕ
entries_there h = if h.there then length h.log.entries else 0
