use Rattle.std.proofs.Common.{subst, sym, List, [], ℕ}
use Rattle.ld_msg.specs.declared.msg.Summary.{Summary}
use Rattle.ld_register.specs.declared.fixed.Fixed.{Fixed}
use Rattle.ld_register.specs.Kept.{IsLogSound}
use Rattle.ld_register.proofs.Logs.{sound_new, log_with}
use Rattle.ld_register.proofs.log.LogState.new.Goals as goal

pub invariant_of-result : goal.invariant_of-result
invariant_of-result c = subst (λ (p : List (ℕ × Fixed)). IsLogSound (log_with 0 0 0 p c.new-2.result.entries)) (sym c.new.ensures.empty)
    (subst (λ (m : List (ℕ × Summary)). IsLogSound (log_with 0 0 0 [] m)) (sym c.new-2.ensures.empty) sound_new)
