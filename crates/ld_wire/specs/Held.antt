-- What a decoder holds, and what it answers.
use Rattle.std.specs.Prelude.{ℕ, List, Option, None, Some}
use Rattle.ld_wire.specs.declared.fault.WireFault.{WireFault}
use Rattle.ld_wire.specs.declared.fault.WireFault.TheVariants as faults
use Rattle.ld_wire.specs.Judging.{Reading, Refused, judge}

-- the bytes that were fed and not taken, and the fault that they were found to have
pub record Held : Type 0 where
  pub bytes : List ℕ
  pub fault : Option WireFault

-- a fault that was found is answered for good
abbrev pub answer_with : Option WireFault → List ℕ → Reading
answer_with None bs = judge bs
answer_with (Some f) bs = Refused f

abbrev pub answered : Held → Reading
answered h = answer_with h.fault h.bytes

-- what is held once a fault was answered; running out of memory changes nothing
abbrev pub kept_fault : Option WireFault → WireFault → Option WireFault
kept_fault old faults.NoMemory = old
kept_fault old (faults.TooLong n) = Some (faults.TooLong n)
kept_fault old (faults.BadKind k) = Some (faults.BadKind k)
kept_fault old (faults.BadField k place) = Some (faults.BadField k place)

abbrev pub kept : Held → WireFault → Held
kept h f = record { bytes = h.bytes; fault = kept_fault h.fault f }
