-- What a log's state shows.
use Rattle.ld_op.specs.declared.log.LogState.TheInside.{Inside}
use Rattle.ld_op.specs.Plain.{Log}
use Rattle.ld_op.specs.Places.{filled}
use Rattle.ld_op.specs.Room.{Held}

abbrev pub shown_log : Inside → Log
shown_log a = record { sealed = a.sealed; trim = a.trim; entries = filled a.entries; summaries = filled a.summaries; lngs = filled a.lngs; lost = a.lost; lost_to = a.lost_to }

abbrev pub shown : Inside → Held
shown a = record { there = a.there; log = shown_log a; places = a.entries; epochs = a.summaries; lngs = a.lngs }
