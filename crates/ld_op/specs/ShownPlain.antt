-- What a plain state shows.
use Rattle.ld_op.specs.declared.plain.Plain.TheInside.{Inside}
use Rattle.ld_op.specs.Room.{Kept, there_of}

abbrev pub shown : Inside → Kept
shown a = record { state = record { generation = a.generation; logs = there_of a.logs }; room = a.logs; fresh = there_of a.fresh }
