-- The members of a set are nodes.
use Rattle.std.proofs.Common.{◌≤◌, ◌<◌, ℕ, ◌+◌, Bool, List, [], ◌∷◌, length, arith}
use Rattle.std.specs.List.{AllByRecursion}
use Rattle.std.proofs.lemmas.Bool.{cond_both}
use Rattle.ld_ids.specs.Id.{IsNode}
use Rattle.ld_ids.specs.Set.{IsSet, members, members_from}

abbrev Between : ℕ → ℕ → ℕ → Type 0
Between low high n = (low ≤ n) × (n < high)

members_between : (low node high : ℕ) (flags : List Bool) → low ≤ node → node + length flags ≤ high → AllByRecursion (Between low high) (members_from node flags)
unfolding members_from
members_between low node high [] l h = tt
members_between low node high (b ∷ flags) l h =
    let rest : AllByRecursion (Between low high) (members_from (node + 1) flags) = members_between low (node + 1) high flags (omega arith) (omega (arith, h)) in
    cond_both b (node ∷ members_from (node + 1) flags) (members_from (node + 1) flags) (AllByRecursion (Between low high)) (λ t. ((l, omega (arith, h)), rest)) (λ t. rest)

all_nodes : (ns : List ℕ) → AllByRecursion (Between 1 17) ns → AllByRecursion IsNode ns
all_nodes [] a = tt
all_nodes (n ∷ ns) a = let p = a.0 in ((p.0, omega (arith, p.1)), all_nodes ns a.1)

pub members_nodes : (flags : List Bool) → IsSet flags → AllByRecursion IsNode (members flags)
members_nodes flags h = all_nodes (members flags) (members_between 1 1 17 flags (omega arith) (omega (arith, h)))
