-- The lines of refusals.
use Rattle.std.proofs.Common.{◌≡◌, ℕ, List, [], ◌∷◌, refl}
use Rattle.ld_transcript.specs.declared.line.Line.TheVariants as lines
use Rattle.ld_register.specs.declared.fault.RegisterFault.{RegisterFault}
use Rattle.ld_register.specs.declared.fault.RegisterFault.TheVariants as registers
use Rattle.ld_sequencer.specs.declared.fault.SequencerFault.TheVariants as faults
use Rattle.ld_clients.specs.Refusing.{fault_lines}

-- any refusal of the register but that its epochs are used up
pub register_line : (name : List ℕ) (f : RegisterFault) → (f ≡ registers.EpochLimit → ⊥) → lines.RefusedRegister name ∷ [] ≡ fault_lines name (faults.Register f)
register_line name registers.Failed n = refl
register_line name (registers.Damaged place) n = refl
register_line name registers.LogLimit n = refl
register_line name (registers.Behind lce next) n = refl
register_line name (registers.Overtaken epoch) n = refl
register_line name registers.EpochLimit n = absurd (n refl)
register_line name registers.GenLimit n = refl
register_line name registers.SwapLimit n = refl
register_line name registers.Full n = refl
register_line name registers.NoMemory n = refl
