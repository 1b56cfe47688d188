-- For each node, a count of a plan's items. The first count is node 1's.
use Rattle.std.specs.Prelude.{ℕ, ◌-◌, ◌≡◌, List, length, get_or, set, replicate, max}

-- there is a count for each node
abbrev pub IsMarks : List ℕ → Type 0
IsMarks marks = length marks ≡ 16

abbrev pub no_marks : List ℕ
no_marks = replicate 16 0

abbrev pub mark : ℕ → List ℕ → ℕ
mark node marks = get_or marks (node - 1) 0

-- the node's count is raised, where it was less
abbrev pub with_mark : ℕ → ℕ → List ℕ → List ℕ
with_mark node count marks = set marks (node - 1) (max (mark node marks) count)
