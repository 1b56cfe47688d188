-- All that a stream of bytes gives.
use Rattle.std.specs.Prelude.{ℕ, zero, suc, List, [], ◌∷◌, ◌++◌, length, Option, None, Some}
use Rattle.ld_msg.specs.declared.msg.Msg.{Msg}
use Rattle.ld_wire.specs.declared.fault.WireFault.{WireFault}
use Rattle.ld_msg.specs.Bounds.{IsMessage}
use Rattle.ld_wire.specs.Frames.{frame_of}
use Rattle.ld_wire.specs.Judging.{Reading, Complete, Waits, Refused, judge}

-- the messages that were taken, and the bytes and the fault that are left
pub record Drained : Type 0 where
  pub messages : List Msg
  pub rest : List ℕ
  pub fault : Option WireFault

abbrev pub first : Msg → Drained → Drained
first m d = record { messages = m ∷ d.messages; rest = d.rest; fault = d.fault }

-- what a first reading gives, where the rest is drained so
abbrev pub onward : Reading → List ℕ → (List ℕ → Drained) → Drained
onward (Complete m rest) bs drain = first m (drain rest)
onward Waits bs drain = record { messages = []; rest = bs; fault = None }
onward (Refused f) bs drain = record { messages = []; rest = bs; fault = Some f }

unfoldable pub drained_by : ℕ → List ℕ → Drained
drained_by zero bs = record { messages = []; rest = bs; fault = None }
drained_by (suc n) bs = onward (judge bs) bs (drained_by n)

-- takes frames until none is whole, or one is at fault; each has at least one byte
unfoldable pub drained : List ℕ → Drained
drained bs = drained_by (length bs) bs

-- a piece is fed, and all that is whole is taken
abbrev pub fed_with : Option WireFault → Drained → List ℕ → Drained
fed_with None d piece = record { messages = d.messages ++ (drained (d.rest ++ piece)).messages; rest = (drained (d.rest ++ piece)).rest; fault = (drained (d.rest ++ piece)).fault }
fed_with (Some f) d piece = record { messages = d.messages; rest = d.rest ++ piece; fault = d.fault }

abbrev pub fed : Drained → List ℕ → Drained
fed d piece = fed_with d.fault d piece

abbrev pub all_fed : Drained → List (List ℕ) → Drained
all_fed d [] = d
all_fed d (piece ∷ pieces) = all_fed (fed d piece) pieces

abbrev pub joined : List (List ℕ) → List ℕ
joined [] = []
joined (piece ∷ pieces) = piece ++ joined pieces

-- fed nothing
abbrev pub untouched : Drained
untouched = record { messages = []; rest = []; fault = None }

abbrev pub AreMessages : List Msg → Type 0
AreMessages [] = Unit {0}
AreMessages (m ∷ ms) = IsMessage m × AreMessages ms

abbrev pub frames_of : List Msg → List ℕ
frames_of [] = []
frames_of (m ∷ ms) = frame_of m ++ frames_of ms
