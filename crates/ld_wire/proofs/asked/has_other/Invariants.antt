use Rattle.std.proofs.Common.{◌≡◌, drop}
use Rattle.std.specs.Prelude.{not}
use Rattle.ld_table.specs.Words.{is_in, any_of}
use Rattle.ld_ids.specs.Set.{members}
use Rattle.ld_msg.specs.Bounds.{share_out}
use Rattle.ld_wire.proofs.asked.has_other.Given as goal

abbrev pub invariant-loop-place : goal.invariant-loop-place
invariant-loop-place l = any_of (λ n. not (is_in n (members l.others))) (drop l.place (members l.set)) ≡ share_out l.others l.set
