-- What a log has beside its tables.
use Rattle.std.specs.Prelude.{[]}
use Rattle.ld_op.specs.declared.index_read.Marks.{Marks}
use Rattle.ld_op.specs.Plain.{Log}

-- a log with these, and empty tables
abbrev pub marked : Marks → Log
marked m = record { sealed = m.sealed; trim = m.trim; entries = []; summaries = []; lngs = []; lost = m.lost; lost_to = m.lost_to }
