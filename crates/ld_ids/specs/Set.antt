-- Sets of nodes as 16 flags, the first one for node 1.
use Rattle.std.specs.Prelude.{ℕ, zero, suc, ◌+◌, ◌-◌, ◌*◌, ◌/◌, ◌%◌, ◌≡◌, ◌==◌, List, [], ◌∷◌, ◌++◌, decimal, Bool, true, false, if◌then◌else◌, length, set, get_or, replicate}
use Rattle.ld_table.specs.Words.{is_in, any_of}

-- there is a flag for each node
abbrev pub IsSet : List Bool → Type 0
IsSet flags = length flags ≡ 16

abbrev pub no_nodes : List Bool
no_nodes = replicate 16 false

abbrev pub with_node : ℕ → List Bool → List Bool
with_node node flags = set flags (node - 1) true

abbrev pub without_node : ℕ → List Bool → List Bool
without_node node flags = set flags (node - 1) false

abbrev pub has_node : ℕ → List Bool → Bool
has_node node flags = get_or flags (node - 1) false

-- the nodes of the flags from this node on, rising
unfoldable pub members_from : ℕ → List Bool → List ℕ
members_from node [] = []
members_from node (b ∷ flags) = if b then node ∷ members_from (node + 1) flags else members_from (node + 1) flags

-- the nodes of a set, rising
abbrev pub members : List Bool → List ℕ
members flags = members_from 1 flags

-- numbers with commas between them
abbrev pub numbers_text : List ℕ → List ℕ
numbers_text [] = []
numbers_text (n ∷ []) = decimal n
numbers_text (n ∷ m ∷ ns) = decimal n ++ (44 ∷ numbers_text (m ∷ ns))

-- each node of the one set is in the other
abbrev pub IsSubset : List Bool → List Bool → Type 0
IsSubset some all = (node : ℕ) → is_in node (members some) ≡ true → is_in node (members all) ≡ true

-- whether some node is in both sets
abbrev pub share : List Bool → List Bool → Bool
share one other = any_of (λ node. is_in node (members other)) (members one)

-- the flags as bits of a number, the first one being the lowest
unfoldable pub set_bits : List Bool → ℕ
set_bits [] = 0
set_bits (b ∷ flags) = (if b then 1 else 0) + 2 * set_bits flags

-- so many of a number's bits as flags, the lowest one first
unfoldable pub bits_flags : ℕ → ℕ → List Bool
bits_flags zero bits = []
bits_flags (suc count) bits = (bits % 2 == 1) ∷ bits_flags count (bits / 2)

-- the set whose flags are the bits of a number
abbrev pub bits_set : ℕ → List Bool
bits_set bits = bits_flags 16 bits
