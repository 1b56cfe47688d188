-- The choice, by the nodes that are left.
use Rattle.std.proofs.Common.{◌≡◌, ℕ, ◌+◌, ◌%◌, ◌≤◌, ◌<◌, List, [], ◌∷◌, length, take, refl, sym, ap}
use Rattle.std.specs.Prelude.{Bool, true, false, nat_lt, slice_get}
use Rattle.std.proofs.lemmas.Bool.{lt-ltb, le-ltb}
use Rattle.ld_table.specs.Words.{without, first}
use Rattle.ld_ids.specs.declared.set.Spec.{Spec}
use Rattle.ld_ids.specs.Set.{members, members_from, no_nodes}
use Rattle.ld_ids.specs.Choice.{choice_at, first_left, ring}
use Rattle.ld_copyset.specs.Copyset.{left_at}

pub choice-enough : (spec : Spec) (excluded : List Bool) (place : ℕ) → spec.r ≤ length (left_at spec.set excluded place)
    → choice_at spec (members excluded) place ≡ take (spec.r + spec.extras) (left_at spec.set excluded place)
unfolding choice_at
choice-enough spec excluded place h =
    let enough : nat_lt (length (left_at spec.set excluded place)) spec.r ≡ false = le-ltb (length (left_at spec.set excluded place)) spec.r h in
    rw enough refl

without-none : (nodes : List ℕ) → without [] nodes ≡ nodes
without-none [] = refl
without-none (node ∷ nodes) = ap (λ ns. node ∷ ns) (without-none nodes)

left-none : (set : List Bool) (place : ℕ) → left_at set no_nodes place ≡ ring (place % length (members set)) (members set)
unfolding members_from
left-none set place = without-none (ring (place % length (members set)) (members set))

pub choice-few : (spec : Spec) (excluded : List Bool) (place : ℕ) → length (left_at spec.set excluded place) < spec.r
    → choice_at spec (members excluded) place ≡ take (spec.r + spec.extras) (left_at spec.set no_nodes place)
unfolding choice_at
choice-few spec excluded place h =
    let few : nat_lt (length (left_at spec.set excluded place)) spec.r ≡ true = lt-ltb (length (left_at spec.set excluded place)) spec.r h in
    rw few (ap (take (spec.r + spec.extras)) (sym (left-none spec.set place)))

get-first : (nodes : List ℕ) → slice_get nodes 0 ≡ first nodes
get-first [] = refl
get-first (node ∷ nodes) = refl

pub first-is : (set excluded : List Bool) (place : ℕ) → slice_get (left_at set excluded place) 0 ≡ first_left set excluded place
unfolding first_left
first-is set excluded place = get-first (left_at set excluded place)
