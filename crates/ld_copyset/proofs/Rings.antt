-- Lists of nodes that are parts of a ring.
use Rattle.std.proofs.Common.{◌≡◌, ◌∙◌, ℕ, zero, suc, ◌+◌, ◌-◌, ◌%◌, ◌≤◌, ◌<◌, List, [], ◌∷◌, ◌++◌, length, take, drop, true, false, refl, sym, ap, subst, arith, append-nil, append_assoc, length-drop, Some, inl, inr}
use Rattle.std.specs.Prelude.{Bool, ◌==◌, ◌||◌, not, slice_get, if◌then◌else◌}
use Rattle.std.specs.List.{list_any, All}
use Rattle.std.proofs.lemmas.Bool.{cases_Bool, cases_eq, or_cases, or_left, or_right, or_parts, or_from, eqb-true, eqb-false, eq-eqb, ne_eqb}
use Rattle.std.proofs.lemmas.List.{take-append-drop, take-take, length-take}
use Rattle.std.proofs.lemmas.List.Elements.{filter-append}
use Rattle.std.proofs.Math.Bool.{or_comm}
use Rattle.ld_table.specs.Words.{is_in, without}
use Rattle.ld_ids.specs.Id.{IsNode}
use Rattle.ld_ids.specs.Set.{members, members_from}
use Rattle.ld_ids.specs.Choice.{ring}
use Rattle.ld_copyset.specs.Copyset.{left_at, AreDistinct}

pub any_is_in : (node : ℕ) (nodes : List ℕ) → list_any (λ x. x == node) nodes ≡ is_in node nodes
any_is_in node [] = refl
any_is_in node (x ∷ nodes) = ap (λ b. (x == node) || b) (any_is_in node nodes)

-- ---- what is in a part ----

pub is_in-append : (node : ℕ) (xs ys : List ℕ) → is_in node (xs ++ ys) ≡ (is_in node xs || is_in node ys)
is_in-append node [] ys = refl
is_in-append node (x ∷ xs) ys = grind (arith, is_in-append node xs ys)

is_in-take : (node k : ℕ) (xs : List ℕ) → is_in node (take k xs) ≡ true → is_in node xs ≡ true
is_in-take node zero xs h = absurd (cc)
is_in-take node (suc k) [] h = absurd (cc)
is_in-take node (suc k) (x ∷ xs) h = grind (arith, is_in-take node k xs)

is_in-without : (node : ℕ) (ys xs : List ℕ) → is_in node (without ys xs) ≡ true → (is_in node xs ≡ true) × (is_in node ys ≡ false)
is_in-without node ys [] h = absurd (cc)
is_in-without node ys (x ∷ xs) h = elim (cases_Bool (is_in x ys)) [
  | inl gone ↦
      let later = is_in-without node ys xs (rw gone at h) in
      (or_right (x == node) (is_in node xs) later.0, later.1)
  | inr stays ↦ elim (or_cases (x == node) (is_in node (without ys xs)) (rw stays at h)) [
    | inl here ↦ (or_left (x == node) (is_in node xs) here, subst (λ n. is_in n ys ≡ false) (eqb-true x node here) stays)
    | inr later ↦
        let found = is_in-without node ys xs later in
        (or_right (x == node) (is_in node xs) found.0, found.1)
  ]
]

is_in-ring : (node place : ℕ) (xs : List ℕ) → is_in node (ring place xs) ≡ is_in node xs
is_in-ring node place xs =
    is_in-append node (drop place xs) (take place xs) ∙ or_comm (is_in node (drop place xs)) (is_in node (take place xs))
    ∙ sym (is_in-append node (take place xs) (drop place xs)) ∙ ap (is_in node) (take-append-drop place xs)

-- ---- no node twice ----

below : (k n : ℕ) (flags : List Bool) → n < k → is_in n (members_from k flags) ≡ false
unfolding members_from
below k n [] h = refl
below k n (true ∷ flags) h = grind (arith, below (k + 1) n flags)
below k n (false ∷ flags) h = below (k + 1) n flags (omega arith)

distinct-members : (k : ℕ) (flags : List Bool) → AreDistinct (members_from k flags)
unfolding members_from
distinct-members k [] = tt
distinct-members k (true ∷ flags) = (below (k + 1) k flags (omega arith), distinct-members (k + 1) flags)
distinct-members k (false ∷ flags) = distinct-members (k + 1) flags

-- no node is in both
abbrev AreApart : List ℕ → List ℕ → Type 0
AreApart xs ys = (node : ℕ) → is_in node xs ≡ true → is_in node ys ≡ false

-- a part of the nodes
abbrev IsPart : List ℕ → List ℕ → Type 0
IsPart xs ys = (node : ℕ) → is_in node xs ≡ true → is_in node ys ≡ true

lacks : (node : ℕ) (xs ys : List ℕ) → IsPart xs ys → is_in node ys ≡ false → is_in node xs ≡ false
lacks node xs ys part h = elim (cases_Bool (is_in node xs)) [
  | inl there ↦ absurd (let both = part node there in cc)
  | inr not_there ↦ not_there
]

pub distinct-take : (k : ℕ) (xs : List ℕ) → AreDistinct xs → AreDistinct (take k xs)
distinct-take zero xs h = tt
distinct-take (suc k) [] h = tt
distinct-take (suc k) (x ∷ xs) h = (lacks x (take k xs) xs (λ node. is_in-take node k xs) h.0, distinct-take k xs h.1)

distinct-drop : (k : ℕ) (xs : List ℕ) → AreDistinct xs → AreDistinct (drop k xs)
distinct-drop zero xs h = h
distinct-drop (suc k) [] h = tt
distinct-drop (suc k) (x ∷ xs) h = distinct-drop k xs h.1

pub distinct-without : (ys xs : List ℕ) → AreDistinct xs → AreDistinct (without ys xs)
distinct-without ys [] h = tt
distinct-without ys (x ∷ xs) h =
    elim (not (is_in x ys)) as (λ b. AreDistinct (if b then x ∷ without ys xs else without ys xs)) [
      | true ↦ (lacks x (without ys xs) xs (λ node there. (is_in-without node ys xs there).0) h.0, distinct-without ys xs h.1)
      | false ↦ distinct-without ys xs h.1
    ]

distinct-parts : (xs ys : List ℕ) → AreDistinct (xs ++ ys) → AreDistinct xs × AreDistinct ys × AreApart xs ys
distinct-parts [] ys h = (tt, h, λ node there. absurd (cc))
distinct-parts (x ∷ xs) ys h =
    let parts = distinct-parts xs ys h.1 in
    let neither : (is_in x xs || is_in x ys) ≡ false = sym (is_in-append x xs ys) ∙ h.0 in
    let first : is_in x xs ≡ false = grind arith in
    let second : is_in x ys ≡ false = grind arith in (
      (first, parts.0),
      parts.1,
      λ node there. elim (or_cases (x == node) (is_in node xs) there) [
        | inl here ↦ subst (λ n. is_in n ys ≡ false) (eqb-true x node here) second
        | inr later ↦ parts.2 node later
      ],
    )

distinct-join : (xs ys : List ℕ) → AreDistinct xs → AreDistinct ys → AreApart xs ys → AreDistinct (xs ++ ys)
distinct-join [] ys h k apart = k
distinct-join (x ∷ xs) ys h k apart =
    let second : is_in x ys ≡ false = apart x (or_left (x == x) (is_in x xs) (eq-eqb x x refl)) in
    let neither : is_in x (xs ++ ys) ≡ false = is_in-append x xs ys ∙ ap (λ b. b || is_in x ys) h.0 ∙ second in
    (neither, distinct-join xs ys h.1 k (λ node there. apart node (or_right (x == node) (is_in node xs) there)))

apart_swap : (xs ys : List ℕ) → AreApart xs ys → AreApart ys xs
apart_swap xs ys apart node there = elim (cases_Bool (is_in node xs)) [
  | inl both ↦ absurd (let not_there = apart node both in cc)
  | inr not_there ↦ not_there
]

distinct-ring : (place : ℕ) (xs : List ℕ) → AreDistinct xs → AreDistinct (ring place xs)
distinct-ring place xs h =
    let parts = distinct-parts (take place xs) (drop place xs) (subst AreDistinct (sym (take-append-drop place xs)) h) in
    distinct-join (drop place xs) (take place xs) parts.1 parts.0 (apart_swap (take place xs) (drop place xs) parts.2)

-- ---- the nodes that are chosen ----

pub left-distinct : (set excluded : List Bool) (place : ℕ) → AreDistinct (left_at set excluded place)
left-distinct set excluded place =
    distinct-without (members excluded) _ (distinct-ring (place % length (members set)) (members set) (distinct-members 1 set))

pub chosen-distinct : (k : ℕ) (set excluded : List Bool) (place : ℕ) → AreDistinct (take k (left_at set excluded place))
chosen-distinct k set excluded place =
    distinct-take k _ (distinct-without (members excluded) _ (distinct-ring (place % length (members set)) (members set) (distinct-members 1 set)))

pub chosen-members : (k : ℕ) (set excluded : List Bool) (place node : ℕ) → is_in node (take k (left_at set excluded place)) ≡ true
    → (is_in node (members set) ≡ true) × (is_in node (members excluded) ≡ false)
chosen-members k set excluded place node h =
    let left = is_in-without node (members excluded) (ring (place % length (members set)) (members set)) (is_in-take node k (left_at set excluded place) h) in
    (sym (is_in-ring node (place % length (members set)) (members set)) ∙ left.0, left.1)

-- ---- one node more ----

more : (nodes : List ℕ) (i node : ℕ) → slice_get nodes i ≡ Some node → take (i + 1) nodes ≡ take i nodes ++ node ∷ []
more [] i node h = absurd (cc)
more (x ∷ nodes) zero node h = let same : x ≡ node = cc in ap (λ n. n ∷ []) same
more (x ∷ nodes) (suc i) node h = let e : suc i + 1 ≡ suc (i + 1) = omega arith in rw e (ap (λ ns. x ∷ ns) (more nodes i node h))

from_place : (nodes : List ℕ) (from i : ℕ) → slice_get (drop from nodes) i ≡ slice_get nodes (from + i)
from_place nodes zero i = ap (slice_get nodes) (omega arith)
from_place [] (suc from) i = refl
from_place (x ∷ nodes) (suc from) i = let e : suc from + i ≡ suc (from + i) = omega arith in rw e (from_place nodes from i)

-- a loop over the places has come to a node
pub one_more : (excluded nodes : List ℕ) (from place node : ℕ) → from ≤ place → slice_get nodes place ≡ Some node
    → without excluded (take (place + 1 - from) (drop from nodes)) ≡ without excluded (take (place - from) (drop from nodes)) ++ without excluded (node ∷ [])
one_more excluded nodes from place node h there =
    let e : place + 1 - from ≡ place - from + 1 = omega arith in
    let back : from + (place - from) ≡ place = omega arith in
    let here : slice_get (drop from nodes) (place - from) ≡ Some node = from_place nodes from (place - from) ∙ ap (slice_get nodes) back ∙ there in
    rw e (ap (without excluded) (more (drop from nodes) (place - from) node here) ∙ filter-append (λ x. not (is_in x excluded)) (take (place - from) (drop from nodes)) (node ∷ []))

pub taken_in : (left old excluded nodes : List ℕ) (from place node : ℕ) → from ≤ place → slice_get nodes place ≡ Some node → is_in node excluded ≡ false
    → left ≡ old ++ without excluded (take (place - from) (drop from nodes))
    → left ++ node ∷ [] ≡ old ++ without excluded (take (place + 1 - from) (drop from nodes))
taken_in left old excluded nodes from place node h there stays so_far =
    let here : without excluded (node ∷ []) ≡ node ∷ [] = rw stays refl in
    ap (λ ns. ns ++ node ∷ []) so_far ∙ append_assoc old (without excluded (take (place - from) (drop from nodes))) (node ∷ [])
    ∙ ap (λ ns. old ++ ns) (ap (λ ns. without excluded (take (place - from) (drop from nodes)) ++ ns) (sym here) ∙ sym (one_more excluded nodes from place node h there))

pub passed_over : (left old excluded nodes : List ℕ) (from place node : ℕ) → from ≤ place → slice_get nodes place ≡ Some node → is_in node excluded ≡ true
    → left ≡ old ++ without excluded (take (place - from) (drop from nodes))
    → left ≡ old ++ without excluded (take (place + 1 - from) (drop from nodes))
passed_over left old excluded nodes from place node h there gone so_far =
    let here : without excluded (node ∷ []) ≡ [] = rw gone refl in
    let none : without excluded (take (place - from) (drop from nodes)) ++ without excluded (node ∷ []) ≡ without excluded (take (place - from) (drop from nodes)) =
    ap (λ ns. without excluded (take (place - from) (drop from nodes)) ++ ns) here ∙ append-nil (without excluded (take (place - from) (drop from nodes))) in
    so_far ∙ ap (λ ns. old ++ ns) (sym none ∙ sym (one_more excluded nodes from place node h there))

without-le : (excluded nodes : List ℕ) → length (without excluded nodes) ≤ length nodes
without-le excluded [] = omega arith
without-le excluded (x ∷ nodes) =
    let rest = without-le excluded nodes in
    elim (not (is_in x excluded)) as (λ b. length (if b then x ∷ without excluded nodes else without excluded nodes) ≤ suc (length nodes)) [
      | true ↦ omega arith
      | false ↦ omega arith
    ]

-- no more nodes are left than there are
pub part-le : (excluded nodes : List ℕ) (from to : ℕ) → from ≤ to → to ≤ length nodes → length (without excluded (take (to - from) (drop from nodes))) ≤ to - from
part-le excluded nodes from to h k =
    omega (arith, without-le excluded (take (to - from) (drop from nodes)), length-take (to - from) (drop from nodes), length-drop from nodes)

take_all_of : (nodes : List ℕ) (k : ℕ) → length nodes ≤ k → take k nodes ≡ nodes
take_all_of [] zero h = refl
take_all_of [] (suc k) h = refl
take_all_of (x ∷ nodes) zero h = absurd (omega arith)
take_all_of (x ∷ nodes) (suc k) h = ap (λ ns. x ∷ ns) (take_all_of nodes k (omega arith))

-- the ring in two parts
pub around-parts : (excluded nodes : List ℕ) (place : ℕ) → place ≤ length nodes
    → ([] ++ without excluded (take (length nodes - place) (drop place nodes))) ++ without excluded (take (place - 0) (drop 0 nodes)) ≡ without excluded (ring place nodes)
around-parts excluded nodes place h =
    let end : take (length nodes - place) (drop place nodes) ≡ drop place nodes = take_all_of (drop place nodes) (length nodes - place) (omega (arith, length-drop place nodes)) in
    let start : take (place - 0) nodes ≡ take place nodes = ap (λ k. take k nodes) (omega arith) in
    ap (λ ns. without excluded ns ++ without excluded (take (place - 0) nodes)) end ∙ ap (λ ns. without excluded (drop place nodes) ++ without excluded ns) start
    ∙ sym (filter-append (λ x. not (is_in x excluded)) (drop place nodes) (take place nodes))

ring-none : (nodes : List ℕ) (place : ℕ) → length nodes ≡ 0 → ring place nodes ≡ []
ring-none [] zero h = refl
ring-none [] (suc place) h = refl
ring-none (x ∷ nodes) place h = absurd (omega arith)

pub left-empty : (set excluded : List Bool) (place : ℕ) → length (members set) ≡ 0 → left_at set excluded place ≡ []
left-empty set excluded place h = ap (without (members excluded)) (ring-none (members set) (place % length (members set)) h)

-- what two loops over the places add
pub two-parts : (set excluded : List Bool) (place size first : ℕ) (none one both : List ℕ) → size ≡ length (members set) → 0 < size → first ≡ place % size → none ≡ []
    → one ≡ none ++ without (members excluded) (take (size - first) (drop first (members set)))
    → both ≡ one ++ without (members excluded) (take (first - 0) (drop 0 (members set)))
    → both ≡ left_at set excluded place
two-parts set excluded place size first none one both counted some at empty e f =
    let nodes = members set in
    let begin : first ≡ place % length nodes = at ∙ ap (λ n. place % n) counted in
    let inside : first ≤ length nodes = omega arith in
    let lengths : size - first ≡ length nodes - first = omega arith in
    let front : one ≡ [] ++ without (members excluded) (take (length nodes - first) (drop first nodes)) =
    e ∙ ap (λ ns. ns ++ without (members excluded) (take (size - first) (drop first nodes))) empty
    ∙ ap (λ k. [] ++ without (members excluded) (take k (drop first nodes))) lengths in
    f ∙ ap (λ ns. ns ++ without (members excluded) (take (first - 0) (drop 0 nodes))) front ∙ around-parts (members excluded) nodes first inside
    ∙ ap (λ p. without (members excluded) (ring p nodes)) begin

-- ---- there are no more distinct nodes than numbers of nodes ----

-- each of the nodes is from 1 to a bound
abbrev AreUpTo : ℕ → List ℕ → Type 0
AreUpTo bound nodes = (node : ℕ) → is_in node nodes ≡ true → (1 ≤ node) × (node ≤ bound)

same_without : (y : ℕ) (xs : List ℕ) → is_in y xs ≡ false → without (y ∷ []) xs ≡ xs
same_without y [] h = refl
same_without y (x ∷ xs) h =
    let parts = or_parts (x == y) (is_in y xs) h in
    let apart : (y == x) ≡ false = ne_eqb y x (λ e. eqb-false x y parts.0 (sym e)) in
    rw apart (ap (λ ns. x ∷ ns) (same_without y xs parts.1))

one_less : (y : ℕ) (xs : List ℕ) → AreDistinct xs → length xs ≤ length (without (y ∷ []) xs) + 1
one_less y [] h = omega arith
one_less y (x ∷ xs) h = elim (cases_eq y x) [
  | inl same ↦
      let gone : (y == x) ≡ true = eq-eqb y x same in
      let rest : without (y ∷ []) xs ≡ xs = same_without y xs (subst (λ n. is_in n xs ≡ false) (sym same) h.0) in
      rw gone (omega (arith, ap length rest))
  | inr other ↦
      let stays : (y == x) ≡ false = ne_eqb y x other in
      rw stays (omega (arith, one_less y xs h.1))
]

few_up_to : (bound : ℕ) (nodes : List ℕ) → AreDistinct nodes → AreUpTo bound nodes → length nodes ≤ bound
few_up_to zero [] distinct inside = omega arith
few_up_to zero (x ∷ nodes) distinct inside =
    let first = inside x (or_left (x == x) (is_in x nodes) (eq-eqb x x refl)) in
    absurd (omega (arith, first.0, first.1))
few_up_to (suc bound) nodes distinct inside =
    let rest = without (suc bound ∷ []) nodes in
    let less : length rest ≤ bound = few_up_to bound rest (distinct-without (suc bound ∷ []) nodes distinct) (λ node there.
    let found = is_in-without node (suc bound ∷ []) nodes there in
    let bounds = inside node found.0 in
    let other : suc bound ≡ node → ⊥ = λ e. absurd (let same : (suc bound == node) ≡ true = eq-eqb (suc bound) node e in let none = (or_parts (suc bound == node) false found.1).0 in cc) in
    (bounds.0, omega arith)) in
    omega (arith, one_less (suc bound) nodes distinct)

node_within : (nodes : List ℕ) (node : ℕ) → All IsNode nodes → is_in node nodes ≡ true → IsNode node
node_within [] node all h = absurd (cc)
node_within (x ∷ nodes) node all h = elim (or_cases (x == node) (is_in node nodes) h) [
  | inl here ↦ subst IsNode (eqb-true x node here) (all 0 0 (omega arith))
  | inr later ↦ node_within nodes node (λ k d lt. all (suc k) d (omega arith)) later
]

pub at_most_16 : (nodes : List ℕ) → AreDistinct nodes → All IsNode nodes → length nodes ≤ 16
at_most_16 nodes distinct all = few_up_to 16 nodes distinct (λ node there. node_within nodes node all there)

pub distinct-push : (nodes : List ℕ) (node : ℕ) → AreDistinct nodes → is_in node nodes ≡ false → AreDistinct (nodes ++ node ∷ [])
distinct-push nodes node distinct fresh =
    distinct-join nodes (node ∷ []) distinct (refl, tt) (λ n there.
    let other : node ≡ n → ⊥ = λ e. absurd (let both = subst (λ m. is_in m nodes ≡ true) (sym e) there in cc) in
    or_from (node == n) false (ne_eqb node n other) refl)

-- the node that comes next in a part of a list of distinct nodes isn't there yet
pub next_is_new : (left old excluded nodes : List ℕ) (from to place node : ℕ) → AreDistinct (old ++ without excluded (take (to - from) (drop from nodes)))
    → from ≤ place → place < to → slice_get nodes place ≡ Some node → is_in node excluded ≡ false
    → left ≡ old ++ without excluded (take (place - from) (drop from nodes)) → is_in node left ≡ false
next_is_new left old excluded nodes from to place node distinct h k there stays so_far =
    let part = take (to - from) (drop from nodes) in
    let n = place + 1 - from in
    let grown : left ++ node ∷ [] ≡ old ++ without excluded (take n (drop from nodes)) = taken_in left old excluded nodes from place node h there stays so_far in
    let begins : take n part ≡ take n (drop from nodes) = take-take n (to - from) (drop from nodes) (omega arith) in
    let both : without excluded part ≡ without excluded (take n part) ++ without excluded (drop n part) =
    ap (without excluded) (sym (take-append-drop n part)) ∙ filter-append (λ x. not (is_in x excluded)) (take n part) (drop n part) in
    let whole : old ++ without excluded part ≡ (left ++ node ∷ []) ++ without excluded (drop n part) =
    ap (λ ns. old ++ ns) both ∙ sym (append_assoc old (without excluded (take n part)) (without excluded (drop n part)))
    ∙ ap (λ ns. (old ++ without excluded ns) ++ without excluded (drop n part)) begins
    ∙ ap (λ ns. ns ++ without excluded (drop n part)) (sym grown) in
    let front = (distinct-parts (left ++ node ∷ []) (without excluded (drop n part)) (subst AreDistinct whole distinct)).0 in
    let apart = (distinct-parts left (node ∷ []) front).2 in
    elim (cases_Bool (is_in node left)) [
      | inl twice ↦ absurd (let none = (or_parts (node == node) false (apart node twice)).0 in let same = eq-eqb node node refl in cc)
      | inr fresh ↦ fresh
    ]

-- the part that the first of two loops adds is distinct
pub first-distinct : (set excluded : List Bool) (size first : ℕ) (none : List ℕ) → size ≡ length (members set) → none ≡ [] → AreDistinct (none ++ without (members excluded) (take (size - first) (drop first (members set))))
first-distinct set excluded size first none counted empty =
    subst (λ ns. AreDistinct (ns ++ without (members excluded) (take (size - first) (drop first (members set))))) (sym empty)
    (distinct-without (members excluded) _ (distinct-take (size - first) _ (distinct-drop first (members set) (distinct-members 1 set))))
