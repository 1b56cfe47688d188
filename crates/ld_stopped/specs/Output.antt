-- What came of writing a text.
use Rattle.std.specs.Prelude.{◌≡◌, ◌++◌, ℕ, List}
use Rattle.std.specs.declared.result.Result.{Result}
use Rattle.std.specs.declared.result.Result.TheVariants.{Ok, Err}
use Rattle.ld_mend.specs.Output.{WritesPart}
use Rattle.ld_stopped.specs.declared.stop.Stop.{Stop}
use Rattle.ld_stopped.specs.declared.stop.Stop.TheVariants as stops

-- it was written; a part of it was, from the front, as the output failed; or nothing, for want of memory
abbrev pub Tells : List ℕ → List ℕ → List ℕ → Result Unit Stop → Type 0
Tells old new text (Ok done) = new ≡ old ++ text
Tells old new text (Err stops.Write) = WritesPart old new text
Tells old new text (Err stops.NoMemory) = new ≡ old
Tells old new text (Err _) = ⊥
