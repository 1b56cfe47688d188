-- What a swap writes.
use Rattle.std.specs.Prelude.{ℕ, ◌==◌, List, [], ◌∷◌, Ok, Err, if◌then◌else◌}
use Rattle.std.specs.declared.result.Result.{Result}
use Rattle.ld_transcript.specs.declared.line.Line.{Line}
use Rattle.ld_transcript.specs.declared.line.Line.TheVariants as lines
use Rattle.ld_register.specs.declared.fault.RegisterFault.{RegisterFault}
use Rattle.ld_register.specs.declared.fault.RegisterFault.TheVariants as faults

-- of the register's refusals the end of the swaps has a line of its own
abbrev pub swap_lines : ℕ → ℕ → ℕ → Result ℕ RegisterFault → List Line
swap_lines n l other (Ok count) = if count == 0 then [] else lines.NodeReplaced n l other count ∷ []
swap_lines n l other (Err faults.SwapLimit) = lines.NodeRefusedSwapLimit n ∷ []
swap_lines n l other (Err _) = lines.NodeRefusedRegister n ∷ []
