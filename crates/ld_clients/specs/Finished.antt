-- Whether a reader that is looked for is finished.
use Rattle.std.specs.Prelude.{Option, Some, None, Bool, false}
use Rattle.ld_msg.specs.Reader.{is_finished}
use Rattle.ld_reader.specs.Following.{Following}

-- it is there and finished
abbrev pub finished_in : Option Following → Bool
finished_in None = false
finished_in (Some f) = is_finished f.reader
