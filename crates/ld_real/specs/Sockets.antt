-- Whose turn it is over sockets.
use Rattle.std.specs.Prelude.{◌≡◌, ◌<◌, ℕ}
use Rattle.ld_crowd.specs.declared.Turn.{Turn}
use Rattle.ld_crowd.specs.declared.Turn.TheVariants as turns

-- one that comes has the next number, and one that was silent an earlier one
abbrev pub IsNext : ℕ → Turn → Type 0
IsNext next (turns.Came peer) = peer ≡ next
IsNext next (turns.Of peer) = Unit {0}
IsNext next (turns.Silent peer) = peer < next
IsNext next turns.Nobody = Unit {0}
