use Rattle.std.proofs.Common.{◌≡◌, ◌≤◌, ◌+◌, drop}
use Rattle.std.specs.Prelude.{◌&&◌, not}
use Rattle.ld_table.specs.Words.{how_many}
use Rattle.ld_digest.proofs.digest.Digest.enough.Given as goal

abbrev pub invariant-loop-told : goal.invariant-loop-told
invariant-loop-told l = (l.whole + how_many (λ t. t.whole && not t.lost) (drop l.told-index l.told-items) ≡ how_many (λ t. t.whole && not t.lost) l.self.told) × (l.whole ≤ l.told-index)
