-- The choice of the nodes that a number is sent to.
use Rattle.std.specs.Prelude.{ℕ, ◌+◌, ◌%◌, Bool, List, ◌++◌, length, take, drop, Option, nat_lt, if◌then◌else◌}
use Rattle.ld_table.specs.Words.{without, first}
use Rattle.ld_ids.specs.Set.{members}
use Rattle.ld_ids.specs.declared.set.Spec.{Spec}

-- a log's nodes, rising
abbrev pub nodes_of : Spec → List ℕ
nodes_of s = members s.set

-- the nodes, factor and extras of an epoch: the same in each
abbrev pub at_epoch : Spec → ℕ → Spec
at_epoch s epoch = s

-- the list from a place on, then round to its start
abbrev pub ring : ℕ → List ℕ → List ℕ
ring p xs = drop p xs ++ take p xs

-- the excluded nodes are left out, unless fewer than the factor would be left
abbrev pub left_out : Spec → List ℕ → List ℕ → List ℕ
left_out s excluded around = if nat_lt (length (without excluded around)) s.r then around else without excluded around

-- the nodes that follow a place round the ring of a log's nodes: as many as its factor and extras say, or all that are left
unfoldable pub choice_at : Spec → List ℕ → ℕ → List ℕ
choice_at s excluded place = take (s.r + s.extras) (left_out s excluded (ring (place % length (nodes_of s)) (nodes_of s)))

-- the first node of a set from a place on and round that isn't excluded
unfoldable pub first_left : List Bool → List Bool → ℕ → Option ℕ
first_left set excluded place = first (without (members excluded) (ring (place % length (members set)) (members set)))
