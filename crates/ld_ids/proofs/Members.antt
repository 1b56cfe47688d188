-- The nodes of a set.
use Rattle.std.proofs.Common.{◌≡◌, ◌≢◌, ◌∙◌, ℕ, zero, suc, ◌+◌, ◌-◌, ◌≤◌, ◌<◌, List, [], ◌∷◌, ◌++◌, length, take, drop, set, get_or, true, false, refl, sym, ap, subst, arith, add-zero, add-one, append-nil, length-append, Option, Some, None, inl, inr}
use Rattle.std.specs.Prelude.{Bool, IfSome, IfNone, ◌==◌, ◌&&◌, ◌||◌, not, filter, if◌then◌else◌}
use Rattle.std.specs.List.{slice_get}
use Rattle.std.specs.List.Sorted.{IsStrictlyIncreasing}
use Rattle.std.proofs.lemmas.Bool.{cases_eq, cases_Bool, eq-eqb, ne_eqb, or_left, or_right, or_cases, false≢true}
use Rattle.std.proofs.lemmas.Grind.{common_steps, get_or-set_at}
use Rattle.std.proofs.lemmas.List.{take_more, drop_more, drop_all, get_or-set_same, get_or-set_other, ext_get_or}
use Rattle.ld_table.specs.Words.{is_in, without, any_of}
use Rattle.ld_ids.specs.Id.{IsNode}
use Rattle.ld_ids.specs.Set.{members, members_from, has_node, with_node, without_node, no_nodes, IsSet, IsSubset, share}

-- no node is below the first
below : (k n : ℕ) (flags : List Bool) → n < k → is_in n (members_from k flags) ≡ false
unfolding members_from
below k n [] h = refl
below k n (true ∷ flags) h = grind (arith, below (k + 1) n flags)
below k n (false ∷ flags) h = below (k + 1) n flags (omega arith)

from : (k i : ℕ) (flags : List Bool) → is_in (k + i) (members_from k flags) ≡ get_or flags i false
unfolding members_from
from k i [] = refl
from k zero (true ∷ flags) = grind arith
from k (suc i) (true ∷ flags) =
    let later : is_in (k + 1 + i) (members_from (k + 1) flags) ≡ get_or flags i false = from (k + 1) i flags in
    let same : k + 1 + i ≡ k + suc i = omega arith in
    grind (arith, rw same at later)
from k zero (false ∷ flags) = below (k + 1) (k + 0) flags (omega arith)
from k (suc i) (false ∷ flags) =
    let same : k + 1 + i ≡ k + suc i = omega arith in
    subst (λ n. is_in n (members_from (k + 1) flags) ≡ get_or flags i false) same (from (k + 1) i flags)

-- a node is one of the members where its flag is up
pub has-members : (node : ℕ) (flags : List Bool) → 1 ≤ node → has_node node flags ≡ is_in node (members flags)
has-members node flags h =
    let same : 1 + (node - 1) ≡ node = omega arith in
    subst (λ n. get_or flags (node - 1) false ≡ is_in n (members flags)) same (sym (from 1 (node - 1) flags))

flag_below : (i : ℕ) (flags : List Bool) → get_or flags i false ≡ true → i < length flags
flag_below i [] h = absurd (cc)
flag_below zero (b ∷ flags) h = omega arith
flag_below (suc i) (b ∷ flags) h = omega (arith, flag_below i flags h)

-- each member is a node
pub member_bounds : (node : ℕ) (flags : List Bool) → IsSet flags → is_in node (members flags) ≡ true → IsNode node
member_bounds zero flags all h = absurd (let none : is_in 0 (members flags) ≡ false = below 1 0 flags (omega arith) in cc)
member_bounds (suc i) flags all h =
    let e : suc i ≡ 1 + i = omega arith in
    let there : get_or flags i false ≡ true = sym (from 1 i flags) ∙ subst (λ n. is_in n (members flags) ≡ true) e h in
    let inside = flag_below i flags there in
    (omega arith, omega arith)

-- each element is at least the bound
first_bound : (k : ℕ) (flags : List Bool) → 0 < length (members_from k flags) → k ≤ get_or (members_from k flags) 0 0
unfolding members_from
first_bound k [] h = omega arith
first_bound k (true ∷ flags) h = omega arith
first_bound k (false ∷ flags) h = omega (arith, first_bound (k + 1) flags h)

rise_from : (k : ℕ) (flags : List Bool) → IsStrictlyIncreasing (members_from k flags)
unfolding members_from
rise_from k [] i h = absurd (omega arith)
rise_from k (true ∷ flags) zero h = omega (arith, first_bound (k + 1) flags (omega arith))
rise_from k (true ∷ flags) (suc i) h =
    let e : suc i + 1 ≡ suc (i + 1) = omega arith in
    rw e (rise_from (k + 1) flags i (omega arith))
rise_from k (false ∷ flags) i h = rise_from (k + 1) flags i h

-- the members strictly rise
pub members_rise : (flags : List Bool) → IsStrictlyIncreasing (members flags)
members_rise flags = rise_from 1 flags

-- the flag of a node after a change of one flag
changed : (node : ℕ) (there : Bool) (flags : List Bool) (i : ℕ) → IsNode node → IsSet flags → get_or (set flags (node - 1) there) i false ≡ (if suc i == node then there else get_or flags i false)
changed node there flags i is all =
    elim (cases_eq (suc i) node) [
      | inl same ↦
          let e : i ≡ node - 1 = omega arith in
          let here : get_or (set flags (node - 1) there) i false ≡ there = get_or-set_at flags (node - 1) i there false e (omega arith) in
          rw (eq-eqb (suc i) node same) here
      | inr other ↦
          let e : i ≢ node - 1 = λ q. other (omega arith) in
          rw (ne_eqb (suc i) node other) (get_or-set_other flags (node - 1) i there false e)
    ]

-- what is in a set, by the flags
in_set : (i : ℕ) (flags : List Bool) → is_in (suc i) (members flags) ≡ get_or flags i false
in_set i flags =
    let e : 1 + i ≡ suc i = omega arith in
    subst (λ n. is_in n (members flags) ≡ get_or flags i false) e (from 1 i flags)

if_or : (b c : Bool) → (if b then true else c) ≡ (b || c)
if_or true c = refl
if_or false c = refl

if_and : (b c : Bool) → (if b then false else c) ≡ (not b && c)
if_and true c = refl
if_and false c = refl

-- the members of a set with a node more
pub members-with : (node : ℕ) (flags : List Bool) (n : ℕ) → IsNode node → IsSet flags → is_in n (members (with_node node flags)) ≡ ((n == node) || is_in n (members flags))
members-with node flags zero is all =
    let other : 0 ≡ node → ⊥ = λ e. omega arith in
    rw (ne_eqb 0 node other) (below 1 0 (with_node node flags) (omega arith) ∙ sym (below 1 0 flags (omega arith)))
members-with node flags (suc i) is all =
    rw (in_set i flags) (in_set i (with_node node flags) ∙ changed node true flags i is all ∙ if_or (suc i == node) (get_or flags i false))

-- the members of a set with a node less
pub members-without : (node : ℕ) (flags : List Bool) (n : ℕ) → IsNode node → IsSet flags → is_in n (members (without_node node flags)) ≡ (not (n == node) && is_in n (members flags))
members-without node flags zero is all =
    let other : 0 ≡ node → ⊥ = λ e. omega arith in
    rw (ne_eqb 0 node other) (below 1 0 (without_node node flags) (omega arith) ∙ sym (below 1 0 flags (omega arith)))
members-without node flags (suc i) is all =
    rw (in_set i flags) (in_set i (without_node node flags) ∙ changed node false flags i is all ∙ if_and (suc i == node) (get_or flags i false))

-- the members of a longer list of flags
pub members_push : (k : ℕ) (flags : List Bool) (b : Bool) → members_from k (flags ++ b ∷ []) ≡ members_from k flags ++ (if b then (k + length flags) ∷ [] else [])
unfolding members_from
members_push k [] true = ap (λ n. n ∷ []) (sym (add-zero k))
members_push k [] false = refl
members_push k (true ∷ flags) b =
    let e : k + 1 + length flags ≡ k + length (true ∷ flags) = omega arith in
    ap (λ ns. k ∷ ns) (rw e at (members_push (k + 1) flags b))
members_push k (false ∷ flags) b =
    let e : k + 1 + length flags ≡ k + length (false ∷ flags) = omega arith in
    rw e at (members_push (k + 1) flags b)

counted : (flags : List Bool) (b : Bool) → length (members (flags ++ b ∷ [])) ≡ (if b then length (members flags) + 1 else length (members flags))
counted flags true = ap length (members_push 1 flags true) ∙ length-append (members flags) ((1 + length flags) ∷ [])
counted flags false = ap length (members_push 1 flags false ∙ append-nil (members flags))

-- there are no more members than flags
pub count_bound : (k : ℕ) (flags : List Bool) → length (members_from k flags) ≤ length flags
unfolding members_from
count_bound k [] = omega arith
count_bound k (true ∷ flags) = omega (arith, count_bound (k + 1) flags)
count_bound k (false ∷ flags) = omega (arith, count_bound (k + 1) flags)

-- the set is told by its members
pub same_set : (a b : List Bool) → IsSet a → IsSet b → ((n : ℕ) → is_in n (members a) ≡ is_in n (members b)) → a ≡ b
same_set a b m n h = ext_get_or false a b (m ∙ sym n) (λ i lt. sym (in_set i a) ∙ h (suc i) ∙ in_set i b)

-- a set's members, from a place on
members_at : (i : ℕ) (flags : List Bool) → i < length flags → members_from (i + 1) (drop i flags) ≡ (if get_or flags i false then (i + 1) ∷ members_from (i + 1 + 1) (drop (i + 1) flags) else members_from (i + 1 + 1) (drop (i + 1) flags))
unfolding members_from
members_at i flags h = ap (members_from (i + 1)) (drop_more flags i false h)

pub nth_skips : (i left : ℕ) (flags : List Bool) → i < length flags → get_or flags i false ≡ false → slice_get (members_from (i + 1) (drop i flags)) left ≡ slice_get (members_from (i + 1 + 1) (drop (i + 1) flags)) left
nth_skips i left flags h lacks = ap (λ ns. slice_get ns left) (rw lacks at (members_at i flags h))

pub nth_here : (i left : ℕ) (flags : List Bool) → i < length flags → get_or flags i false ≡ true → left ≡ 0 → slice_get (members_from (i + 1) (drop i flags)) left ≡ Some (i + 1)
nth_here i left flags h has none = rw none (ap (λ ns. slice_get ns 0) (rw has at (members_at i flags h)))

pub nth_later : (i left : ℕ) (flags : List Bool) → i < length flags → get_or flags i false ≡ true → (left ≡ 0 → ⊥) → slice_get (members_from (i + 1) (drop i flags)) left ≡ slice_get (members_from (i + 1 + 1) (drop (i + 1) flags)) (left - 1)
nth_later i zero flags h has more = absurd (more refl)
nth_later i (suc left) flags h has more =
    let e : suc left - 1 ≡ left = omega arith in
    rw e (ap (λ ns. slice_get ns (suc left)) (rw has at (members_at i flags h)))

pub nth_past : (i left : ℕ) (flags : List Bool) → length flags ≤ i → slice_get (members_from (i + 1) (drop i flags)) left ≡ None
unfolding members_from
nth_past i left flags h = ap (λ fs. slice_get (members_from (i + 1) fs) left) (drop_all i flags h)

-- the other set has a member of this one, from a place on
abbrev pub share_from : ℕ → List Bool → List Bool → Bool
share_from i one other = any_of (λ node. is_in node (members other)) (members_from (i + 1) (drop i one))

pub share_here : (i : ℕ) (one other : List Bool) → i < length one → get_or one i false ≡ true → get_or other i false ≡ true → share_from i one other ≡ true
share_here i one other h has too =
    let e : suc i ≡ i + 1 = omega arith in
    let there : is_in (i + 1) (members other) ≡ true = subst (λ n. is_in n (members other) ≡ true) e (in_set i other ∙ too) in
    ap (any_of (λ node. is_in node (members other))) (rw has at (members_at i one h)) ∙ or_left _ _ there

pub share_skips : (i : ℕ) (one other : List Bool) → i < length one → get_or one i false ≡ false → share_from i one other ≡ share_from (i + 1) one other
share_skips i one other h lacks = ap (any_of (λ node. is_in node (members other))) (rw lacks at (members_at i one h))

pub share_later : (i : ℕ) (one other : List Bool) → i < length one → get_or other i false ≡ false → share_from i one other ≡ share_from (i + 1) one other
share_later i one other h lacks = elim (cases_Bool (get_or one i false)) [
  | inl has ↦
      let e : suc i ≡ i + 1 = omega arith in
      let there : is_in (i + 1) (members other) ≡ false = subst (λ n. is_in n (members other) ≡ false) e (in_set i other ∙ lacks) in
      ap (any_of (λ node. is_in node (members other))) (rw has at (members_at i one h)) ∙ ap (λ b. b || share_from (i + 1) one other) there
  | inr none ↦ share_skips i one other h none
]

pub share_past : (i : ℕ) (one other : List Bool) → length one ≤ i → share_from i one other ≡ false
unfolding members_from
share_past i one other h = ap (λ fs. any_of (λ node. is_in node (members other)) (members_from (i + 1) fs)) (drop_all i one h)

-- how many members there are, as far as a loop has come
pub count-more : (flags : List Bool) (i : ℕ) → i < length flags → length (members (take (i + 1) flags)) ≡ (if get_or flags i false then length (members (take i flags)) + 1 else length (members (take i flags)))
count-more flags i h = ap (λ fs. length (members fs)) (take_more flags i false h) ∙ counted (take i flags) (get_or flags i false)

-- the node of a number that is one
pub node_is : (o : Option ℕ) (n : ℕ) → IfSome o (λ x. x ≡ n) → IfNone o (IsNode n → ⊥) → IsNode n → o ≡ Some n
node_is None n h k is = absurd (k is)
node_is (Some x) n h k is = ap Some h

-- what holds of one element holds of some
any_in : (p : ℕ → Bool) (n : ℕ) (ns : List ℕ) → is_in n ns ≡ true → p n ≡ true → any_of p ns ≡ true
any_in p n [] h holds = absurd (cc)
any_in p n (m ∷ ns) h holds = elim (cases_eq m n) [
  | inl same ↦ or_left (p m) (any_of p ns) (subst (λ x. p x ≡ true) (sym same) holds)
  | inr other ↦ or_right (p m) (any_of p ns) (any_in p n ns (rw (ne_eqb m n other) at h) holds)
]

-- and an element of which it holds
in_any : (p : ℕ → Bool) (ns : List ℕ) → any_of p ns ≡ true → (n : ℕ) × (is_in n ns ≡ true) × (p n ≡ true)
in_any p [] h = absurd (cc)
in_any p (m ∷ ns) h = elim (or_cases (p m) (any_of p ns) h) [
  | inl here ↦ (m, or_left (m == m) (is_in m ns) (eq-eqb m m refl), here)
  | inr later ↦ let found = in_any p ns later in (found.0, or_right (m == found.0) (is_in found.0 ns) found.1, found.2)
]

-- a node that is in both
pub shared_node : (one other : List Bool) → share one other ≡ true → (n : ℕ) × (is_in n (members one) ≡ true) × (is_in n (members other) ≡ true)
shared_node one other h = in_any (λ node. is_in node (members other)) (members one) h

pub share_from_node : (one other : List Bool) (n : ℕ) → is_in n (members one) ≡ true → is_in n (members other) ≡ true → share one other ≡ true
share_from_node one other n h k = any_in (λ node. is_in node (members other)) n (members one) h k

abbrev IsWithin : List Bool → List Bool → Type 0
IsWithin some all = (i : ℕ) → get_or some i false ≡ true → get_or all i false ≡ true

next : (one other : List Bool) (x y : Bool) → ((i : ℕ) × (get_or one i false ≡ true) × (get_or other i false ≡ true)) → (i : ℕ) × (get_or (x ∷ one) i false ≡ true) × (get_or (y ∷ other) i false ≡ true)
next one other x y found = (suc found.0, found.1, found.2)

-- more flags in two sets together than in all: one is up in both
meeting : (k : ℕ) (all one other : List Bool) → length one ≡ length all → length other ≡ length all → IsWithin one all → IsWithin other all → length (members_from k all) < length (members_from k one) + length (members_from k other) → (i : ℕ) × (get_or one i false ≡ true) × (get_or other i false ≡ true)
unfolding members_from
meeting k [] [] [] e f h g more = absurd (omega arith)
meeting k [] (x ∷ one) other e f h g more = absurd (omega arith)
meeting k [] [] (y ∷ other) e f h g more = absurd (omega arith)
meeting k (a ∷ all) [] other e f h g more = absurd (omega arith)
meeting k (a ∷ all) (x ∷ one) [] e f h g more = absurd (omega arith)
meeting k (a ∷ all) (true ∷ one) (true ∷ other) e f h g more = (0, refl, refl)
meeting k (true ∷ all) (true ∷ one) (false ∷ other) e f h g more = next one other _ _ (meeting (k + 1) all one other (omega arith) (omega arith) (λ i. h (suc i)) (λ i. g (suc i)) (omega arith))
meeting k (true ∷ all) (false ∷ one) (true ∷ other) e f h g more = next one other _ _ (meeting (k + 1) all one other (omega arith) (omega arith) (λ i. h (suc i)) (λ i. g (suc i)) (omega arith))
meeting k (true ∷ all) (false ∷ one) (false ∷ other) e f h g more = next one other _ _ (meeting (k + 1) all one other (omega arith) (omega arith) (λ i. h (suc i)) (λ i. g (suc i)) (omega arith))
meeting k (false ∷ all) (false ∷ one) (false ∷ other) e f h g more = next one other _ _ (meeting (k + 1) all one other (omega arith) (omega arith) (λ i. h (suc i)) (λ i. g (suc i)) (omega arith))
meeting k (false ∷ all) (true ∷ one) (false ∷ other) e f h g more = absurd (false≢true (h 0 refl))
meeting k (false ∷ all) (false ∷ one) (true ∷ other) e f h g more = absurd (false≢true (g 0 refl))

-- two subsets with more nodes together than the set share one
pub subsets_meet : (all one other : List Bool) → IsSet all → IsSet one → IsSet other → IsSubset one all → IsSubset other all → length (members all) < length (members one) + length (members other) → share one other ≡ true
subsets_meet all one other a b c h g more =
    let found = meeting 1 all one other (b ∙ sym a) (c ∙ sym a) (λ i up. sym (in_set i all) ∙ h (suc i) (in_set i one ∙ up)) (λ i up. sym (in_set i all) ∙ g (suc i) (in_set i other ∙ up)) more in
    share_from_node one other (suc found.0) (in_set found.0 one ∙ found.1) (in_set found.0 other ∙ found.2)
