use Rattle.std.proofs.Common.{subst, sym, List, ℕ, arith}
use Rattle.ld_msg.specs.Register.{Epochs}
use Rattle.ld_register.specs.Kept.{AreFewLogs}
use Rattle.ld_register.proofs.Tables.{no_logs}
use Rattle.ld_register.proofs.contents.Contents.new.Goals as goal

pub invariant_of-result : goal.invariant_of-result
invariant_of-result c = subst (λ (m : List (ℕ × Epochs)). AreFewLogs m) (sym c.new.ensures.empty) (record { logs = no_logs; few = omega arith })
