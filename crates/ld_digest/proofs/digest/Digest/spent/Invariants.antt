use Rattle.std.proofs.Common.{◌≡◌, drop}
use Rattle.std.specs.Prelude.{◌&&◌, ◌||◌}
use Rattle.ld_table.specs.Words.{all_of}
use Rattle.ld_digest.proofs.digest.Digest.spent.Given as goal

abbrev pub invariant-loop-told : goal.invariant-loop-told
invariant-loop-told l = (l.each && all_of (λ t. t.whole || t.lost) (drop l.told-index l.told-items)) ≡ all_of (λ t. t.whole || t.lost) l.self.told
