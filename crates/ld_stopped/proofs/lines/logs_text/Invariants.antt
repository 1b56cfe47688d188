use Rattle.std.proofs.Common.{◌≡◌, ◌++◌, drop}
use Rattle.ld_stopped.specs.Shown.{logs_text}
use Rattle.ld_stopped.proofs.lines.logs_text.Given as goal

abbrev pub invariant-logs : goal.invariant-logs
invariant-logs l = l.text.items ++ logs_text l.json l.index.state (drop l.spec-index l.logs) ≡ l.fn.text.items ++ logs_text l.json l.index.state l.logs
