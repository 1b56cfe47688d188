use Rattle.std.proofs.Common.{◌≡◌, ◌==◌, drop}
use Rattle.ld_table.specs.Words.{any_of}
use Rattle.ld_words.proofs.arguments.has.Given as goal

abbrev pub invariant-loop-spec : goal.invariant-loop-spec
invariant-loop-spec l = any_of (λ s. s.log == l.log) (drop l.spec-index l.config.logs) ≡ any_of (λ s. s.log == l.log) l.config.logs
