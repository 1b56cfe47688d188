use Rattle.std.proofs.Common.{◌≡◌, ◌++◌, drop}
use Rattle.ld_op.specs.Plain.{log_of}
use Rattle.ld_op.specs.Ticks.{lacking}
use Rattle.ld_rebuild.proofs.pages.missing_of.Given as goal

abbrev pub invariant-loop-entry : goal.invariant-loop-entry
invariant-loop-entry l = l.missing.items ++ lacking (log_of l.plain.state l.log) (drop l.entry-index l.entries) ≡ lacking (log_of l.plain.state l.log) l.entries
