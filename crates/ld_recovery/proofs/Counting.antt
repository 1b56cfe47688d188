-- How many items of a plan each node has settled, and plans that are ready short.
use Rattle.std.proofs.Common.{◌≡◌, ◌≤◌, ◌<◌, ℕ, zero, suc, ◌+◌, Bool, true, false, not, ◌==◌, List, [], ◌∷◌, ◌++◌, Some, length, get_or, set, drop, if◌then◌else◌, refl, ap, sym, subst, ◌∙◌, arith, inl, inr}
use Rattle.std.specs.Prelude.{◌&&◌, ◌||◌}
use Rattle.std.specs.List.{AllByRecursion}
use Rattle.std.specs.List.{slice_get}
use Rattle.std.proofs.Math.ListN.{drop_of_length-le}
use Rattle.ld_table.proofs.Places.{drop_at_place}
use Rattle.std.proofs.lemmas.Bool.{cases_Bool}
use Rattle.std.proofs.lemmas.Bool.Decides.{nat_tests}
use Rattle.ld_table.specs.Words.{is_in, with_one, how_many, all_of}
use Rattle.ld_ids.specs.Id.{IsNode}
use Rattle.ld_ids.specs.declared.set.Spec.{Spec}
use Rattle.ld_ids.specs.Choice.{nodes_of}
use Rattle.ld_msg.specs.Sequencer.{Planned, Storing, settle, planned, is_ready_short}
use Rattle.ld_msg.specs.Digest.{Item}
use Rattle.ld_recovery.specs.Marks.{mark}
use Rattle.ld_recovery.specs.Planning.{settled_one, has_settled, one_if, AreCounted}
use Rattle.ld_recovery.proofs.Marking.{comes}

-- ---- the node that settles ----

count_if : (p : ℕ × Planned → Bool) (e : ℕ × Planned) (m : List (ℕ × Planned)) (b : Bool) → p e ≡ b → how_many p (e ∷ m) ≡ one_if b + how_many p m
count_if p e m true h = ap (λ (b : Bool). if b then suc (how_many p m) else how_many p m) h ∙ (let s : suc (how_many p m) ≡ 1 + how_many p m = omega arith in s)
count_if p e m false h = ap (λ (b : Bool). if b then suc (how_many p m) else how_many p m) h ∙ (let s : how_many p m ≡ 0 + how_many p m = omega arith in s)

fresh_here : (y : ℕ) (e : ℕ × Planned) (m : List (ℕ × Planned)) (b : Bool) → has_settled y e ≡ b → how_many (has_settled y) (settled_one y e ∷ m) ≡ how_many (has_settled y) (e ∷ m) + one_if (not b)
fresh_here y e m true h =
    let a = count_if (has_settled y) e m true h in
    let d = count_if (has_settled y) (settled_one y e) m true (comes y e.1.settled) in
    omega (arith, a, d)
fresh_here y e m false h =
    let a = count_if (has_settled y) e m false h in
    let d = count_if (has_settled y) (settled_one y e) m true (comes y e.1.settled) in
    omega (arith, a, d)

fresh_behind : (y n : ℕ) (e : ℕ × Planned) (m k : List (ℕ × Planned)) (b : Bool) → has_settled y e ≡ b → how_many (has_settled y) k ≡ how_many (has_settled y) m + n → how_many (has_settled y) (e ∷ k) ≡ how_many (has_settled y) (e ∷ m) + n
fresh_behind y n e m k b h i = let a = count_if (has_settled y) e m b h in let d = count_if (has_settled y) e k b h in omega (arith, a, d, i)

-- the node settles the item at an offset, which it had settled before or not
pub fresh_at : (i y n : ℕ) (m : List (ℕ × Planned)) (e d : ℕ × Planned) (had : Bool) → i < length m → e ≡ get_or m i e → d ≡ settled_one y e → had ≡ is_in y e.1.settled → n ≡ one_if (not had)
    → how_many (has_settled y) (set m i d) ≡ how_many (has_settled y) m + n
fresh_at i y n [] e d had h g w k l = absurd (omega arith)
fresh_at zero y n (c ∷ m) e d had h g w k l =
    ap (λ (x : ℕ × Planned). how_many (has_settled y) (x ∷ m)) (w ∙ ap (settled_one y) g)
    ∙ (fresh_here y c m had (sym (k ∙ ap (λ (x : ℕ × Planned). is_in y x.1.settled) g)) ∙ ap (λ (j : ℕ). how_many (has_settled y) (c ∷ m) + j) (sym l))
fresh_at (suc i) y n (c ∷ m) e d had h g w k l = fresh_behind y n c m (set m i d) (has_settled y c) refl (fresh_at i y n m e d had (omega arith) g w k l)

-- ---- the other nodes ----

last_isnt : (z y : ℕ) (xs : List ℕ) → (y == z) ≡ false → is_in z (xs ++ y ∷ []) ≡ is_in z xs
last_isnt z y [] h = ap (λ (b : Bool). b || false) h
last_isnt z y (x ∷ xs) h = ap (λ (b : Bool). (x == z) || b) (last_isnt z y xs h)

other_if : (z y : ℕ) (xs : List ℕ) (b : Bool) → (y == z) ≡ false → is_in z (if b then xs else xs ++ y ∷ []) ≡ is_in z xs
other_if z y xs true h = refl
other_if z y xs false h = last_isnt z y xs h

other_one : (z y : ℕ) (e : Planned) (b : Bool) → (y == z) ≡ false → is_in z (if b then record { what = e.what; settled = with_one y e.settled } else e).settled ≡ is_in z e.settled
other_one z y e true h = other_if z y e.settled (is_in y e.settled) h
other_one z y e false h = refl

other_counted : (p : ℕ → Bool) (z y : ℕ) (m : List (ℕ × Planned)) → (y == z) ≡ false → how_many (has_settled z) (settle p y m) ≡ how_many (has_settled z) m
other_counted p z y [] h = refl
other_counted p z y (e ∷ m) h =
    ap (λ (b : Bool). if b then suc (how_many (has_settled z) (settle p y m)) else how_many (has_settled z) (settle p y m)) (other_one z y e.1 (p e.0) h)
    ∙ ap (λ (n : ℕ). if has_settled z e then suc n else n) (other_counted p z y m h)

apart : (z y : ℕ) → (z == y) ≡ false → (y == z) ≡ false
apart z y h = grind (arith, nat_tests)

alike : (z y : ℕ) → (z == y) ≡ true → z ≡ y
alike z y h = grind (arith, nat_tests)

counted_case : (p : ℕ → Bool) (y more : ℕ) (old new : List ℕ) (m n : List (ℕ × Planned)) (z : ℕ) (b : Bool) → AreCounted old m → n ≡ settle p y m → how_many (has_settled y) n ≡ how_many (has_settled y) m + more → 1 ≤ z → (z == y) ≡ b
    → mark z new ≡ (if b then mark y old + more else mark z old) → mark z new ≡ how_many (has_settled z) n
counted_case p y more old new m n z true a e g h s w =
    let is : z ≡ y = alike z y s in
    let o : mark y old ≡ how_many (has_settled y) m = a y (subst (λ (x : ℕ). 1 ≤ x) is h) in
    w ∙ (ap (λ (k : ℕ). k + more) o ∙ (sym g ∙ ap (λ (x : ℕ). how_many (has_settled x) n) (sym is)))
counted_case p y more old new m n z false a e g h s w = w ∙ (a z h ∙ (sym (other_counted p z y m (apart z y s)) ∙ ap (how_many (has_settled z)) (sym e)))

pub counted_more : (p : ℕ → Bool) (y more : ℕ) (old new : List ℕ) (m n : List (ℕ × Planned)) → AreCounted old m → n ≡ settle p y m → how_many (has_settled y) n ≡ how_many (has_settled y) m + more
    → ((z : ℕ) → 1 ≤ z → mark z new ≡ (if z == y then mark y old + more else mark z old)) → AreCounted new n
counted_more p y more old new m n a e g w = λ z h. counted_case p y more old new m n z (z == y) a e g h refl (w z h)

many_if : (n k : ℕ) (b : Bool) → n ≤ k → (if b then suc n else n) ≤ suc k
many_if n k true h = omega (arith, h)
many_if n k false h = omega (arith, h)

pub most : {X : Type 0} (p : X → Bool) (xs : List X) → how_many p xs ≤ length xs
most p [] = omega arith
most p (x ∷ xs) = many_if (how_many p xs) (length xs) (p x) (most p xs)

-- a count and what is new stay within the items
pub count_fits : (y more : ℕ) (counts : List ℕ) (m n : List (ℕ × Planned)) → 1 ≤ y → AreCounted counts m → how_many (has_settled y) n ≡ how_many (has_settled y) m + more → mark y counts + more ≤ length n
count_fits y more counts m n h a g = omega (arith, a y h, g, most (has_settled y) n)

none_has : (y : ℕ) (is : List Item) → how_many (has_settled y) (planned is) ≡ 0
none_has y [] = refl
none_has y (i ∷ is) = none_has y is

pub none_counted : (counts : List ℕ) (is : List Item) (m : List (ℕ × Planned)) → m ≡ planned is → ((y : ℕ) → mark y counts ≡ 0) → AreCounted counts m
none_counted counts is m e w = λ y h. w y ∙ (sym (none_has y is) ∙ ap (how_many (has_settled y)) (sym e))

-- ---- each node has settled each item, or is lost ----

same_suc : (a b : ℕ) → (suc a == suc b) ≡ (a == b)
same_suc a b = elim (cases_Bool (a == b)) [
  | inl h ↦ grind (arith, nat_tests)
  | inr h ↦ grind (arith, nat_tests)
]

many_all : {X : Type 0} (p : X → Bool) (x : X) (xs : List X) (b : Bool) → p x ≡ b → (how_many p xs == length xs) ≡ all_of p xs → (how_many p (x ∷ xs) == suc (length xs)) ≡ (p x && all_of p xs)
many_all p x xs true h i =
    ap (λ (b : Bool). (if b then suc (how_many p xs) else how_many p xs) == suc (length xs)) h
    ∙ (same_suc (how_many p xs) (length xs) ∙ (i ∙ ap (λ (b : Bool). b && all_of p xs) (sym h)))
many_all p x xs false h i =
    ap (λ (b : Bool). (if b then suc (how_many p xs) else how_many p xs) == suc (length xs)) h
    ∙ ((let l = most p xs in let s : (how_many p xs == suc (length xs)) ≡ false = grind (arith, nat_tests) in s) ∙ ap (λ (b : Bool). b && all_of p xs) (sym h))

pub count_all : {X : Type 0} (p : X → Bool) (xs : List X) → (how_many p xs == length xs) ≡ all_of p xs
count_all p [] = refl
count_all p (x ∷ xs) = many_all p x xs (p x) refl (count_all p xs)

abbrev pub settled_or : List ℕ → List (ℕ × Planned) → ℕ → Bool
settled_or lost m y = is_in y lost || all_of (has_settled y) m

both_all : (l h a : Bool) → (l || (h && a)) ≡ ((h || l) && (l || a))
both_all true true a = refl
both_all true false a = refl
both_all false true a = refl
both_all false false a = refl

swap_four : (a b c d : Bool) → ((a && b) && (c && d)) ≡ ((a && c) && (b && d))
swap_four true true c d = refl
swap_four true false true d = refl
swap_four true false false d = refl
swap_four false b c d = refl

or_all : (b : Bool) → (b || true) ≡ true
or_all true = refl
or_all false = refl

each_none : (lost : List ℕ) (ns : List ℕ) → all_of (settled_or lost []) ns ≡ true
each_none lost [] = refl
each_none lost (y ∷ ns) = ap (λ (b : Bool). b && all_of (settled_or lost []) ns) (or_all (is_in y lost)) ∙ each_none lost ns

each_more : (lost : List ℕ) (e : ℕ × Planned) (m : List (ℕ × Planned)) (ns : List ℕ) → all_of (settled_or lost (e ∷ m)) ns ≡ (all_of (λ y. is_in y e.1.settled || is_in y lost) ns && all_of (settled_or lost m) ns)
each_more lost e m [] = refl
each_more lost e m (y ∷ ns) =
    ap (λ (b : Bool). b && all_of (settled_or lost (e ∷ m)) ns) (both_all (is_in y lost) (is_in y e.1.settled) (all_of (has_settled y) m))
    ∙ (ap (λ (b : Bool). ((is_in y e.1.settled || is_in y lost) && settled_or lost m y) && b) (each_more lost e m ns)
    ∙ swap_four (is_in y e.1.settled || is_in y lost) (settled_or lost m y) (all_of (λ y. is_in y e.1.settled || is_in y lost) ns) (all_of (settled_or lost m) ns))

-- by nodes and by items
by_items : (lost ns : List ℕ) (m : List (ℕ × Planned)) → all_of (settled_or lost m) ns ≡ all_of (λ i. all_of (λ y. is_in y i.1.settled || is_in y lost) ns) m
by_items lost ns [] = each_none lost ns
by_items lost ns (e ∷ m) = each_more lost e m ns ∙ ap (λ (b : Bool). all_of (λ y. is_in y e.1.settled || is_in y lost) ns && b) (by_items lost ns m)

abbrev pub is_done : List ℕ → List ℕ → ℕ → ℕ → Bool
is_done lost counts many y = is_in y lost || (mark y counts == many)

by_counts : (lost counts ns : List ℕ) (m : List (ℕ × Planned)) → AllByRecursion IsNode ns → AreCounted counts m → all_of (is_done lost counts (length m)) ns ≡ all_of (settled_or lost m) ns
by_counts lost counts [] m a c = refl
by_counts lost counts (y ∷ ns) m a c =
    ap (λ (b : Bool). (is_in y lost || b) && all_of (is_done lost counts (length m)) ns) (ap (λ (n : ℕ). n == length m) (c y (let h = a.0 in h.0)) ∙ count_all (has_settled y) m)
    ∙ ap (λ (b : Bool). settled_or lost m y && b) (by_counts lost counts ns m a.1 c)

pub ready_by_counts : (s : Spec) (lost counts : List ℕ) (g : Storing) → AllByRecursion IsNode (nodes_of s) → AreCounted counts g.items → all_of (is_done lost counts (length g.items)) (nodes_of s) ≡ is_ready_short s lost g
unfolding is_ready_short
ready_by_counts s lost counts g a c = by_counts lost counts (nodes_of s) g.items a c ∙ by_items lost (nodes_of s) g.items

and_assoc : (a b c : Bool) → ((a && b) && c) ≡ (a && (b && c))
and_assoc true b c = refl
and_assoc false b c = refl

and_true : (b : Bool) → (b && true) ≡ b
and_true true = refl
and_true false = refl

-- all nodes are looked at, those from an offset on, of which there is none, among them
pub all_done : (lost counts ns : List ℕ) (many i : ℕ) (each : Bool) → length ns ≤ i → (each && all_of (is_done lost counts many) (drop i ns)) ≡ all_of (is_done lost counts many) ns → each ≡ all_of (is_done lost counts many) ns
all_done lost counts ns many i each h e = sym (and_true each) ∙ (ap (λ (l : List ℕ). each && all_of (is_done lost counts many) l) (sym (drop_of_length-le ns h)) ∙ e)

-- one node more is looked at
pub one_done : (lost counts ns : List ℕ) (many i y : ℕ) (each now all : Bool) → slice_get ns i ≡ Some y → now ≡ (each && is_done lost counts many y) → (each && all_of (is_done lost counts many) (drop i ns)) ≡ all → (now && all_of (is_done lost counts many) (drop (i + 1) ns)) ≡ all
one_done lost counts ns many i y each now all e k h =
    ap (λ (b : Bool). b && all_of (is_done lost counts many) (drop (i + 1) ns)) k
    ∙ (and_assoc each (is_done lost counts many y) (all_of (is_done lost counts many) (drop (i + 1) ns))
    ∙ (ap (λ (l : List ℕ). each && all_of (is_done lost counts many) l) (sym (drop_at_place ns i y e)) ∙ h))
