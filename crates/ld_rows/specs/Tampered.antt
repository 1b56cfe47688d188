-- Runs whose lines were changed afterwards.
use Rattle.std.specs.Prelude.{ℕ, ◌-◌, List, [], ◌∷◌, map, ◌==◌, if◌then◌else◌}
use Rattle.ld_lsn.specs.Number.{numbered}
use Rattle.ld_schedule.specs.declared.event.Event.{Event}
use Rattle.ld_transcript.specs.declared.line.Line.{Line}
use Rattle.ld_transcript.specs.declared.line.Line.TheVariants as lines
use Rattle.ld_transcript.specs.declared.line.GapKind.TheVariants as gaps
use Rattle.ld_config.specs.declared.config.Config.{Config}
use Rattle.ld_machine.specs.Facts.{Happened}
use Rattle.ld_machine.specs.Run.{history}

abbrev pub without_record : (List ℕ → ℕ → Line) → Line → Line
without_record f (lines.Record name n p) = f name n
without_record f x = x

abbrev pub rewritten : (Line → Line) → List Happened → List Happened
rewritten g hs = map (λ h. record { event = h.event; lines = map g h.lines; made = h.made; swapped = h.swapped }) hs

abbrev pub tampered : (List ℕ → ℕ → Line) → List Happened → List Happened
tampered f hs = rewritten (without_record f) hs

abbrev pub tampered_run : (List ℕ → ℕ → Line) → Config → List Event → List Happened
tampered_run f c es = tampered f (history c es)

-- what represents each record
abbrev pub another_payload : List ℕ → ℕ → Line
another_payload name n = lines.Record name n (0 ∷ [])

abbrev pub a_hole : List ℕ → ℕ → Line
a_hole name n = lines.Gap name gaps.Hole n n

abbrev pub a_loss : List ℕ → ℕ → Line
a_loss name n = lines.Gap name gaps.DataLoss n n

-- beyond every point that was issued
abbrev pub a_trim : List ℕ → ℕ → Line
a_trim name n = lines.Gap name gaps.Trim n n

-- of no batch
abbrev pub a_message : List ℕ → ℕ → Line
a_message name n = lines.BatchMessage name n 0 (0 ∷ [])

-- gaps are left out: what a reader gets has spaces
abbrev pub without_gap : Line → Line
without_gap (lines.Gap name kind low high) = lines.Nothing
without_gap x = x

-- the numbers of epoch 1 are taken from its end: they fall
abbrev pub from_the_end : Line → Line
from_the_end (lines.Appended name n) = lines.Appended name (numbered 2 0 - n)
from_the_end x = x

-- the second message of a batch is told first
abbrev pub second_first : Line → Line
second_first (lines.BatchMessage name n index m) = lines.BatchMessage name n (1 - index) m
second_first x = x

-- the second message of a batch is left out
abbrev pub without_second : Line → Line
without_second (lines.BatchMessage name n index m) = if index == 1 then lines.Nothing else lines.BatchMessage name n index m
without_second x = x

abbrev pub rewritten_run : (Line → Line) → Config → List Event → List Happened
rewritten_run g c es = rewritten g (history c es)
