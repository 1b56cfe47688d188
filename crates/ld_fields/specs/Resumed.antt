-- A walk over the parts of a list, with some of them read.
use Rattle.std.specs.Prelude.{List, ◌++◌}
use Rattle.ld_fields.specs.Fields.{Read, Got, Off}

abbrev pub resumed : {X : Type 0} → List X → Read (List X) → Read (List X)
resumed acc (Got xs last) = Got (acc ++ xs) last
resumed acc (Off place) = Off place
