use Rattle.std.proofs.Common.{◌≡◌, ◌≤◌, ◌+◌, drop}
use Rattle.std.specs.Prelude.{◌&&◌, ◌||◌, not}
use Rattle.ld_table.specs.Words.{how_many, all_of}
use Rattle.ld_digest.proofs.Spending.{lost_by}
use Rattle.ld_digest.proofs.digest.Digest.spent_by_loss.Given as goal

abbrev pub invariant-loop-told : goal.invariant-loop-told
invariant-loop-told l = ((l.count.each && all_of (λ t. t.whole || lost_by l.node t) (drop l.told-index l.told-items)) ≡ all_of (λ t. t.whole || lost_by l.node t) l.self.told)
    × (l.count.found + how_many (λ t. t.whole && not (lost_by l.node t)) (drop l.told-index l.told-items) ≡ how_many (λ t. t.whole && not (lost_by l.node t)) l.self.told)
    × (l.count.found ≤ l.told-index)
