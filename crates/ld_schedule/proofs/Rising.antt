-- Sets of nodes as rising lists.
use Rattle.std.specs.Prelude.{Bool}
use Rattle.std.proofs.Common.{◌≡◌, ◌∙◌, inl, ℕ, zero, suc, ◌+◌, ◌-◌, ◌≤◌, ◌<◌, List, [], ◌∷◌, length, set, true, false, refl, sym, ap, subst, arith, decimal}
use Rattle.std.proofs.lemmas.List.{length-set}
use Rattle.std.proofs.lemmas.Fmt.{decimal_injective}
use Rattle.ld_lsn.specs.Text.{Lacks}
use Rattle.ld_lsn.proofs.Texts.{parted, Lacks-not}
use Rattle.ld_ids.specs.Id.{IsNode}
use Rattle.ld_ids.specs.Set.{IsSet, no_nodes, with_node, members, members_from, numbers_text}
use Rattle.ld_ids.proofs.Members.{same_set}
use Rattle.ld_schedule.specs.Grammar.{IsNodes, nodes_text}
use Rattle.ld_schedule.specs.Rising.{IsRising, AreListed, AreAbove}
use Rattle.ld_schedule.specs.WordLaws.{decimal_lacks}

rising_from : (low k : ℕ) (flags : List Bool) → low < k → k + length flags ≤ 17 → IsRising low (members_from k flags)
unfolding members_from
rising_from low k [] less fits = tt
rising_from low k (true ∷ flags) less fits = ((less, omega arith), rising_from k (k + 1) flags (omega arith) (omega arith))
rising_from low k (false ∷ flags) less fits = rising_from low (k + 1) flags (omega arith) (omega arith)

pub members_rising : (flags : List Bool) → IsSet flags → IsRising 0 (members flags)
members_rising flags is = rising_from 0 1 flags (omega arith) (omega (arith, is))

pub nodes_above : (flags : List Bool) → IsNodes flags → AreAbove 0 flags
nodes_above flags can = (can.0, (members_rising flags can.0, can.1))

not_below : (low n : ℕ) (ns : List ℕ) → n ≤ low → IsRising low (n ∷ ns) → ⊥
not_below low n ns less rises = omega (arith, rises.0.0)

-- a flag that is put up below all others
first_from : (k i : ℕ) (flags : List Bool) → i < length flags → IsRising (k + i) (members_from k flags) → members_from k (set flags i true) ≡ (k + i) ∷ members_from k flags
unfolding members_from
first_from k i [] inside rises = absurd (omega arith)
first_from k i (true ∷ flags) inside rises = absurd (not_below (k + i) k (members_from (k + 1) flags) (omega arith) rises)
first_from k zero (false ∷ flags) inside rises =
    let here : k + 0 ≡ k = omega arith in
    rw here refl
first_from k (suc i) (false ∷ flags) inside rises =
    let later : k + suc i ≡ k + 1 + i = omega arith in
    rw later (first_from (k + 1) i flags (omega arith) (subst (λ n. IsRising n (members_from (k + 1) flags)) later rises))

pub first_member : (n : ℕ) (flags : List Bool) → IsNode n → IsSet flags → IsRising n (members flags) → members (with_node n flags) ≡ n ∷ members flags
first_member n flags is all rises =
    let same : 1 + (n - 1) ≡ n = omega arith in
    rw same at (first_from 1 (n - 1) flags (omega (arith, all)) (subst (λ m. IsRising m (members flags)) (sym same) rises))

-- the flags of a rising list
abbrev pub flags_of : List ℕ → List Bool
flags_of [] = no_nodes
flags_of (n ∷ ns) = with_node n (flags_of ns)

pub flags_set : (ns : List ℕ) → IsSet (flags_of ns)
flags_set [] = refl
flags_set (n ∷ ns) = length-set (flags_of ns) (n - 1) true ∙ flags_set ns

pub flags_members : (low : ℕ) (ns : List ℕ) → IsRising low ns → members (flags_of ns) ≡ ns
unfolding members_from
flags_members low [] rises = refl
flags_members low (n ∷ ns) rises =
    let rest = flags_members n ns rises.1 in
    first_member n (flags_of ns) (omega (arith, rises.0.0), rises.0.1) (flags_set ns) (subst (IsRising n) (sym rest) rises.1) ∙ ap (λ l. n ∷ l) rest

pub comma_free : (n : ℕ) → n ≤ 16 → Lacks 44 (decimal n)
comma_free n small = decimal_lacks 44 n (inl (omega arith)) (omega arith)

pub same_number : (n m : ℕ) → n ≤ 16 → m ≤ 16 → decimal n ≡ decimal m → n ≡ m
same_number n m small low is = decimal_injective n m (omega arith) (omega arith) is

-- a text is that of one list
one_list : (a b : ℕ) (xs ys : List ℕ) → AreListed a xs → AreListed b ys → numbers_text xs ≡ numbers_text ys → xs ≡ ys
one_list a b [] ys one other is = absurd (omega (arith, one.1))
one_list a b (x ∷ xs) [] one other is = absurd (omega (arith, other.1))
one_list a b (x ∷ []) (y ∷ []) one other is = ap (λ n. n ∷ []) (same_number x y one.0.0.1 other.0.0.1 is)
one_list a b (x ∷ []) (y ∷ z ∷ ys) one other is = absurd (Lacks-not 44 (decimal y) (numbers_text (z ∷ ys)) (subst (Lacks 44) is (comma_free x one.0.0.1)))
one_list a b (x ∷ w ∷ xs) (y ∷ []) one other is = absurd (Lacks-not 44 (decimal x) (numbers_text (w ∷ xs)) (subst (Lacks 44) (sym is) (comma_free y other.0.0.1)))
one_list a b (x ∷ w ∷ xs) (y ∷ z ∷ ys) one other is =
    let parts = parted 44 (decimal x) (decimal y) (numbers_text (w ∷ xs)) (numbers_text (z ∷ ys)) (comma_free x one.0.0.1) (comma_free y other.0.0.1) is in
    let first : x ≡ y = same_number x y one.0.0.1 other.0.0.1 parts.0 in
    let rest = one_list x y (w ∷ xs) (z ∷ ys) (one.0.1, omega arith) (other.0.1, omega arith) parts.1 in
    ap (λ n. n ∷ w ∷ xs) first ∙ ap (λ l. y ∷ l) rest

-- a text is that of one set
pub one_nodes : (v w : List Bool) → IsNodes v → IsNodes w → nodes_text v ≡ nodes_text w → v ≡ w
one_nodes v w a b is =
    let same = one_list 0 0 (members v) (members w) (nodes_above v a).1 (nodes_above w b).1 is in
    same_set v w a.0 b.0 (λ n. rw same refl)
