use Rattle.std.proofs.Common.{◌≡◌, ◌≤◌, ◌+◌, drop}
use Rattle.std.specs.Prelude.{◌&&◌, ◌||◌, not}
use Rattle.ld_table.specs.Words.{how_many, all_of}
use Rattle.ld_msg.specs.Sequencer.{takes_any}
use Rattle.ld_digest.proofs.Spending.{whole_by}
use Rattle.ld_digest.proofs.digest.Digest.spent_by_page.Given as goal

abbrev pub invariant-loop-told : goal.invariant-loop-told
invariant-loop-told l = ((l.taken || takes_any l.node l.from (drop l.told-index l.told-items)) ≡ takes_any l.node l.from l.self.told)
    × ((l.count.each && all_of (λ t. whole_by l.node l.from l.ends t || t.lost) (drop l.told-index l.told-items)) ≡ all_of (λ t. whole_by l.node l.from l.ends t || t.lost) l.self.told)
    × (l.count.found + how_many (λ t. whole_by l.node l.from l.ends t && not t.lost) (drop l.told-index l.told-items) ≡ how_many (λ t. whole_by l.node l.from l.ends t && not t.lost) l.self.told)
    × (l.count.found ≤ l.told-index)
