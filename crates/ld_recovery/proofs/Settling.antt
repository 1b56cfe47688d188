-- Nodes settle items that have numbers which follow each other.
use Rattle.std.specs.List.{slice_get}
use Rattle.std.proofs.Common.{◌≡◌, ◌≢◌, ◌&&◌, not, subst, length-append, get_or, set, Some, ◌≤◌, ◌<◌, ℕ, zero, suc, ◌+◌, ◌-◌, min, Bool, true, false, ◌==◌, List, [], ◌∷◌, ◌++◌, length, nat_le, if◌then◌else◌, refl, ap, sym, ◌∙◌, arith}
use Rattle.std.proofs.lemmas.Bool.Decides.{nat_tests}
use Rattle.ld_table.specs.Words.{is_in, with_one, how_many, all_of, numbers_from}
use Rattle.ld_lsn.specs.Number.{numbered}
use Rattle.ld_msg.specs.declared.msg.What.TheVariants.{Bridge}
use Rattle.ld_msg.specs.Digest.{Item, Told, record_items, plan, plan_end, plan_floor}
use Rattle.ld_msg.specs.Sequencer.{Planned, planned, settle}
use Rattle.ld_recovery.specs.Planning.{AreFrom, settled_one, settle_at, settle_first, lacks, one_if}

isnt : (x n : ℕ) → n < x → (x == n) ≡ false
isnt x n h = grind (arith, nat_tests)

is_same : (x n : ℕ) → x ≡ n → (x == n) ≡ true
is_same x n h = grind (arith, nat_tests)

head_is : (p : ℕ → Bool) (y : ℕ) (e : ℕ × Planned) (m k : List (ℕ × Planned)) (b : Bool) → p e.0 ≡ b → settle p y m ≡ k → settle p y (e ∷ m) ≡ (if b then settled_one y e else e) ∷ k
head_is p y e m k true h i = ap (λ (b : Bool). (e.0, if b then record { what = e.1.what; settled = with_one y e.1.settled } else e.1) ∷ settle p y m) h ∙ ap (λ r. settled_one y e ∷ r) i
head_is p y e m k false h i = ap (λ (b : Bool). (e.0, if b then record { what = e.1.what; settled = with_one y e.1.settled } else e.1) ∷ settle p y m) h ∙ ap (λ r. e ∷ r) i

-- a number below the first one settles nothing
pub settle_below : (n y f : ℕ) (m : List (ℕ × Planned)) → AreFrom f m → n < f → settle (λ s. s == n) y m ≡ m
settle_below n y f [] a h = refl
settle_below n y f (e ∷ m) a h = head_is (λ s. s == n) y e m m false (isnt e.0 n (omega (arith, a.0))) (settle_below n y (f + 1) m a.1 (omega arith))

settle_at_zero : (d y : ℕ) (e : ℕ × Planned) (m : List (ℕ × Planned)) → d ≡ 0 → settle_at d y (e ∷ m) ≡ settled_one y e ∷ m
unfolding settle_at
settle_at_zero zero y e m h = refl
settle_at_zero (suc d) y e m h = absurd (omega arith)

settle_at_suc : (d c y : ℕ) (e : ℕ × Planned) (m : List (ℕ × Planned)) → d ≡ suc c → settle_at d y (e ∷ m) ≡ e ∷ settle_at c y m
unfolding settle_at
settle_at_suc d c y e m h = ap (λ k. settle_at k y (e ∷ m)) h

equal : (x n : ℕ) → (x == n) ≡ true → x ≡ n
equal x n h = grind (arith, nat_tests)

unequal : (x n : ℕ) → (x == n) ≡ false → x ≢ n
unequal x n h = λ e. absurd (grind (arith, nat_tests))

more : (f n : ℕ) → f ≤ n → (f ≡ n → ⊥) → f + 1 ≤ n
more f n h k = omega arith

number_cases : (n y f : ℕ) (e : ℕ × Planned) (m : List (ℕ × Planned)) (b : Bool) → (e.0 == n) ≡ b → AreFrom f (e ∷ m) → f ≤ n → (f + 1 ≤ n → settle (λ s. s == n) y m ≡ settle_at (n - (f + 1)) y m)
    → settle (λ s. s == n) y (e ∷ m) ≡ settle_at (n - f) y (e ∷ m)
number_cases n y f e m true t a h ih =
    let s = equal e.0 n t in
    head_is (λ s. s == n) y e m m true t (settle_below n y (f + 1) m a.1 (omega (arith, a.0))) ∙ sym (settle_at_zero (n - f) y e m (omega (arith, a.0)))
number_cases n y f e m false t a h ih =
    let s = unequal e.0 n t in
    let l : f + 1 ≤ n = more f n h (λ q. s (a.0 ∙ q)) in
    head_is (λ s. s == n) y e m (settle_at (n - (f + 1)) y m) false t (ih l) ∙ sym (settle_at_suc (n - f) (n - (f + 1)) y e m (omega arith))

pub settle_number : (n y f : ℕ) (m : List (ℕ × Planned)) → AreFrom f m → f ≤ n → settle (λ s. s == n) y m ≡ settle_at (n - f) y m
unfolding settle_at
settle_number n y f [] a h = refl
settle_number n y f (e ∷ m) a h = number_cases n y f e m (e.0 == n) refl a h (λ k. settle_number n y (f + 1) m a.1 k)

-- an offset past the last item settles nothing
pub settle_past : (i y : ℕ) (m : List (ℕ × Planned)) → length m ≤ i → settle_at i y m ≡ m
unfolding settle_at
settle_past i y [] h = refl
settle_past zero y (e ∷ m) h = absurd (omega arith)
settle_past (suc i) y (e ∷ m) h = ap (λ r. e ∷ r) (settle_past i y m (omega arith))

first_none : (y : ℕ) (m : List (ℕ × Planned)) → settle_first 0 y m ≡ m
unfolding settle_first
first_none y [] = refl
first_none y (e ∷ m) = refl

first_more : (k c y : ℕ) (e : ℕ × Planned) (m : List (ℕ × Planned)) → k ≡ suc c → settle_first k y (e ∷ m) ≡ settled_one y e ∷ settle_first c y m
unfolding settle_first
first_more k c y e m h = ap (λ k. settle_first k y (e ∷ m)) h

isnt_at_most : (x t : ℕ) → t < x → nat_le x t ≡ false
isnt_at_most x t h = grind (arith, nat_tests)

settle_above : (t y f : ℕ) (m : List (ℕ × Planned)) → AreFrom f m → t < f → settle (λ s. nat_le s t) y m ≡ m
settle_above t y f [] a h = refl
settle_above t y f (e ∷ m) a h = head_is (λ s. nat_le s t) y e m m false (isnt_at_most e.0 t (omega (arith, a.0))) (settle_above t y (f + 1) m a.1 (omega arith))

within : (x t : ℕ) → nat_le x t ≡ true → x ≤ t
within x t h = grind (arith, nat_tests)

past : (x t : ℕ) → nat_le x t ≡ false → t < x
past x t h = grind (arith, nat_tests)

through_cases : (t y f : ℕ) (e : ℕ × Planned) (m : List (ℕ × Planned)) (b : Bool) → nat_le e.0 t ≡ b → AreFrom f (e ∷ m) → settle (λ s. nat_le s t) y m ≡ settle_first (t + 1 - (f + 1)) y m
    → settle (λ s. nat_le s t) y (e ∷ m) ≡ settle_first (t + 1 - f) y (e ∷ m)
through_cases t y f e m true b a ih =
    let s = within e.0 t b in
    head_is (λ s. nat_le s t) y e m (settle_first (t + 1 - (f + 1)) y m) true b ih ∙ sym (first_more (t + 1 - f) (t + 1 - (f + 1)) y e m (omega (arith, a.0)))
through_cases t y f e m false b a ih =
    let s = past e.0 t b in
    let z : t + 1 - f ≡ 0 = omega (arith, a.0) in
    settle_above t y f (e ∷ m) a (omega (arith, a.0)) ∙ sym (ap (λ k. settle_first k y (e ∷ m)) z ∙ first_none y (e ∷ m))

pub settle_through : (t y f : ℕ) (m : List (ℕ × Planned)) → AreFrom f m → settle (λ s. nat_le s t) y m ≡ settle_first (t + 1 - f) y m
unfolding settle_first
settle_through t y f [] a = refl
settle_through t y f (e ∷ m) a = through_cases t y f e m (nat_le e.0 t) refl a (settle_through t y (f + 1) m a.1)

pub first_all : (k y : ℕ) (m : List (ℕ × Planned)) → settle_first (min k (length m)) y m ≡ settle_first k y m
unfolding settle_first
first_all k y [] = refl
first_all zero y (e ∷ m) = ap (λ k. settle_first k y (e ∷ m)) (let z : min 0 (length (e ∷ m)) ≡ 0 = omega arith in z)
first_all (suc k) y (e ∷ m) = first_more (min (suc k) (length (e ∷ m))) (min k (length m)) y e m (omega arith) ∙ ap (λ r. settled_one y e ∷ r) (first_all k y m)

-- one more offset
pub first_then : (k y : ℕ) (m : List (ℕ × Planned)) → settle_at k y (settle_first k y m) ≡ settle_first (k + 1) y m
unfolding settle_at settle_first
first_then k y [] = refl
first_then zero y (e ∷ m) = ap (λ r. settled_one y e ∷ r) (sym (first_none y m))
first_then (suc k) y (e ∷ m) = ap (λ r. settled_one y e ∷ r) (first_then k y m) ∙ sym (first_more (suc k + 1) (k + 1) y e m (omega arith))

pub first_length : (k y : ℕ) (m : List (ℕ × Planned)) → length (settle_first k y m) ≡ length m
unfolding settle_first
first_length k y [] = refl
first_length zero y (e ∷ m) = refl
first_length (suc k) y (e ∷ m) = ap suc (first_length k y m)

-- numbers stay
pub at_from : (i y f : ℕ) (m : List (ℕ × Planned)) → AreFrom f m → AreFrom f (settle_at i y m)
unfolding settle_at
at_from i y f [] a = tt
at_from zero y f (e ∷ m) a = a
at_from (suc i) y f (e ∷ m) a = (a.0, at_from i y (f + 1) m a.1)

pub first_from : (k y f : ℕ) (m : List (ℕ × Planned)) → AreFrom f m → AreFrom f (settle_first k y m)
unfolding settle_first
first_from k y f [] a = tt
first_from zero y f (e ∷ m) a = a
first_from (suc k) y f (e ∷ m) a = (a.0, first_from k y (f + 1) m a.1)

-- an item that is written in its place
pub written : (i y : ℕ) (m : List (ℕ × Planned)) (e d : ℕ × Planned) → slice_get m i ≡ Some e → d ≡ settled_one y e → set m i d ≡ settle_at i y m
unfolding settle_at
written i y [] e d h w = absurd cc
written zero y (c ∷ m) e d h w = let s : c ≡ e = cc in ap (λ r. r ∷ m) (w ∙ ap (settled_one y) (sym s))
written (suc i) y (c ∷ m) e d h w = ap (λ r. c ∷ r) (written i y m e d h w)

count_if : (p : ℕ × Planned → Bool) (e : ℕ × Planned) (m : List (ℕ × Planned)) (b : Bool) → p e ≡ b → how_many p (e ∷ m) ≡ one_if b + how_many p m
count_if p e m true h = ap (λ (b : Bool). if b then suc (how_many p m) else how_many p m) h ∙ (let s : suc (how_many p m) ≡ 1 + how_many p m = omega arith in s)
count_if p e m false h = ap (λ (b : Bool). if b then suc (how_many p m) else how_many p m) h ∙ (let s : how_many p m ≡ 0 + how_many p m = omega arith in s)

enough_cases : (r : ℕ) (e : ℕ × Planned) (m : List (ℕ × Planned)) (b : Bool) → lacks r e ≡ b → (how_many (lacks r) m == 0) ≡ all_of (λ e. nat_le r (length e.1.settled)) m
    → (how_many (lacks r) (e ∷ m) == 0) ≡ all_of (λ e. nat_le r (length e.1.settled)) (e ∷ m)
enough_cases r e m true h ih =
    let n : nat_le r (length e.1.settled) ≡ false = grind (arith, nat_tests) in
    ap (λ k. k == 0) (count_if (lacks r) e m true h) ∙ (isnt (1 + how_many (lacks r) m) 0 (omega arith) ∙ sym (ap (λ b. b && all_of (λ e. nat_le r (length e.1.settled)) m) n))
enough_cases r e m false h ih =
    let n : nat_le r (length e.1.settled) ≡ true = grind (arith, nat_tests) in
    ap (λ k. k == 0) (count_if (lacks r) e m false h ∙ (let s : 0 + how_many (lacks r) m ≡ how_many (lacks r) m = omega arith in s)) ∙ (ih ∙ sym (ap (λ b. b && all_of (λ e. nat_le r (length e.1.settled)) m) n))

pub all_enough : (r : ℕ) (m : List (ℕ × Planned)) → (how_many (lacks r) m == 0) ≡ all_of (λ e. nat_le r (length e.1.settled)) m
all_enough r [] = refl
all_enough r (e ∷ m) = enough_cases r e m (lacks r e) refl (all_enough r m)

-- ---- how many items lack nodes ----

longer_if : (y : ℕ) (xs : List ℕ) (b : Bool) → length xs ≤ length (if b then xs else xs ++ y ∷ [])
longer_if y xs true = omega arith
longer_if y xs false = omega (arith, length-append xs (y ∷ []))

pub longer : (y : ℕ) (xs : List ℕ) → length xs ≤ length (with_one y xs)
longer y xs = longer_if y xs (is_in y xs)

stays_enough : (r y : ℕ) (e : ℕ × Planned) → lacks r e ≡ false → lacks r (settled_one y e) ≡ true → ⊥
stays_enough r y e h k = let l = longer y e.1.settled in let a : r ≤ length e.1.settled = grind (arith, nat_tests) in let b : length (with_one y e.1.settled) < r = grind (arith, nat_tests) in omega arith

count_here : (r y : ℕ) (e : ℕ × Planned) (m : List (ℕ × Planned)) (b c : Bool) → lacks r e ≡ b → lacks r (settled_one y e) ≡ c → how_many (lacks r) (e ∷ m) ≡ how_many (lacks r) (settled_one y e ∷ m) + one_if (b && not c)
count_here r y e m true true h k = let a = count_if (lacks r) e m true h in let d = count_if (lacks r) (settled_one y e) m true k in omega (arith, a, d)
count_here r y e m true false h k = let a = count_if (lacks r) e m true h in let d = count_if (lacks r) (settled_one y e) m false k in omega (arith, a, d)
count_here r y e m false true h k = absurd (stays_enough r y e h k)
count_here r y e m false false h k = let a = count_if (lacks r) e m false h in let d = count_if (lacks r) (settled_one y e) m false k in omega (arith, a, d)

count_behind : (r n : ℕ) (e : ℕ × Planned) (m k : List (ℕ × Planned)) (b : Bool) → lacks r e ≡ b → how_many (lacks r) m ≡ how_many (lacks r) k + n → how_many (lacks r) (e ∷ m) ≡ how_many (lacks r) (e ∷ k) + n
count_behind r n e m k b h i = let a = count_if (lacks r) e m b h in let d = count_if (lacks r) e k b h in omega (arith, a, d, i)

pub count_at : (r i y : ℕ) (m : List (ℕ × Planned)) (e : ℕ × Planned) → slice_get m i ≡ Some e → how_many (lacks r) m ≡ how_many (lacks r) (settle_at i y m) + one_if (lacks r e && not (lacks r (settled_one y e)))
unfolding settle_at
count_at r i y [] e h = absurd cc
count_at r zero y (d ∷ m) e h = let s : d ≡ e = cc in subst (λ (x : ℕ × Planned). how_many (lacks r) (d ∷ m) ≡ how_many (lacks r) (settled_one y d ∷ m) + one_if (lacks r x && not (lacks r (settled_one y x)))) s (count_here r y d m (lacks r d) (lacks r (settled_one y d)) refl refl)
count_at r (suc i) y (d ∷ m) e h = count_behind r _ d m (settle_at i y m) (lacks r d) refl (count_at r i y m e h)

-- ---- the items of a plan ----

-- at first each item lacks nodes
all_lack : (r : ℕ) (is : List Item) → 1 ≤ r → length (planned is) ≡ how_many (lacks r) (planned is)
all_lack r [] h = refl
all_lack r (i ∷ is) h =
    let e : lacks r (i.number, record { what = i.what; settled = [] }) ≡ true = grind (arith, nat_tests) in
    let c = count_if (lacks r) (i.number, record { what = i.what; settled = [] }) (planned is) true e in
    let n = all_lack r is h in
    omega (arith, c, n)

pub at_first : (r n f : ℕ) (is : List Item) (m : List (ℕ × Planned)) → 1 ≤ r → m ≡ planned is → n ≡ length m → AreFrom f (planned is) → (n ≡ how_many (lacks r) m) × AreFrom f m
at_first r n f is m h e l a =
    let c = ap length e in
    let d = ap (how_many (lacks r)) e in
    let k = all_lack r is h in
    (omega (arith, c, d, k, l), subst (λ (x : List (ℕ × Planned)). AreFrom f x) (sym e) a)

items_from : (epoch : ℕ) (loss : Bool) (n k end : ℕ) (d : List Told) → end ≡ n + k → AreFrom (numbered epoch n) (planned (record_items epoch loss d (numbers_from n k) ++ record { number = numbered epoch end; what = Bridge } ∷ []))
items_from epoch loss n zero end d h = (omega arith, tt)
items_from epoch loss n (suc k) end d h = (refl, subst (λ f. AreFrom f (planned (record_items epoch loss d (numbers_from (n + 1) k) ++ record { number = numbered epoch end; what = Bridge } ∷ []))) (let s : numbered epoch (n + 1) ≡ numbered epoch n + 1 = omega arith in s) (items_from epoch loss (n + 1) k end d (omega arith)))

pub plan_from : (epoch : ℕ) (loss : Bool) (d : List Told) → AreFrom (numbered epoch (plan_floor epoch d + 1)) (planned (plan epoch loss d).items)
unfolding plan plan_end
plan_from epoch loss d = items_from epoch loss (plan_floor epoch d + 1) (plan_end epoch d - 1 - plan_floor epoch d) (plan_end epoch d) d (let l : plan_floor epoch d + 1 ≤ plan_end epoch d = omega arith in omega arith)

pub from_planned : (items : List Item) (epoch : ℕ) (loss : Bool) (d : List Told) → items ≡ (plan epoch loss d).items → (f : ℕ) × AreFrom f (planned items)
from_planned items epoch loss d h = (numbered epoch (plan_floor epoch d + 1), subst (λ (l : List Item). AreFrom (numbered epoch (plan_floor epoch d + 1)) (planned l)) (sym h) (plan_from epoch loss d))

pub ends_above : (end epoch : ℕ) (loss : Bool) (d : List Told) → end ≡ (plan epoch loss d).end → 1 ≤ end
unfolding plan plan_end
ends_above end epoch loss d h = omega (arith, h)

pub settle_from : (p : ℕ → Bool) (y f : ℕ) (m : List (ℕ × Planned)) → AreFrom f m → AreFrom f (settle p y m)
settle_from p y f [] a = tt
settle_from p y f (e ∷ m) a = (a.0, settle_from p y (f + 1) m a.1)

pub first_counted : (r k c y : ℕ) (m : List (ℕ × Planned)) (new : List (ℕ × Planned)) (n : ℕ) → how_many (lacks r) m ≡ how_many (lacks r) new + c → how_many (lacks r) new ≡ how_many (lacks r) (settle_at k y new) + n → how_many (lacks r) m ≡ how_many (lacks r) (settle_at k y new) + (c + n)
first_counted r k c y m new n h i = omega (arith, h, i)

-- ---- in the words of the code ----

there_at : (m : List (ℕ × Planned)) (i : ℕ) (e : ℕ × Planned) → i < length m → e ≡ get_or m i e → slice_get m i ≡ Some e
there_at [] i e h g = absurd (omega arith)
there_at (d ∷ m) zero e h g = ap Some (sym g)
there_at (d ∷ m) (suc i) e h g = there_at m i e (omega arith) g

pub settles_at : (i y : ℕ) (m : List (ℕ × Planned)) (e d : ℕ × Planned) → i < length m → e ≡ get_or m i e → d ≡ settled_one y e → set m i d ≡ settle_at i y m
settles_at i y m e d h g w = written i y m e d (there_at m i e h g) w

pub counts_at : (r i y n : ℕ) (m : List (ℕ × Planned)) (e d : ℕ × Planned) (b c : Bool) → i < length m → e ≡ get_or m i e → d ≡ settled_one y e → n ≡ one_if (b && not c) → b ≡ lacks r e → c ≡ lacks r d
    → how_many (lacks r) m ≡ how_many (lacks r) (set m i d) + n
counts_at r i y n m e d b c h g w k bb cc' =
    let l = ap (λ x. not (lacks r x)) w in
    let is : n ≡ one_if (lacks r e && not (lacks r (settled_one y e))) = k ∙ (ap (λ x. one_if (x && not c)) bb ∙ ap (λ x. one_if (lacks r e && x)) (ap not cc' ∙ l)) in
    let at = count_at r i y m e (there_at m i e h g) in
    let where_is = ap (how_many (lacks r)) (settles_at i y m e d h g w) in
    omega (arith, is, at, where_is)

pub none_there : (n y f i : ℕ) (m : List (ℕ × Planned)) → AreFrom f m → f ≤ n → n - f ≡ i → length m ≤ i → m ≡ settle (λ s. s == n) y m
none_there n y f i m a h e l = sym (settle_number n y f m a h ∙ (ap (λ k. settle_at k y m) e ∙ settle_past i y m l))

pub one_there : (n y f i : ℕ) (m k : List (ℕ × Planned)) → AreFrom f m → f ≤ n → n - f ≡ i → k ≡ settle_at i y m → k ≡ settle (λ s. s == n) y m
one_there n y f i m k a h e l = l ∙ sym (settle_number n y f m a h ∙ ap (λ k. settle_at k y m) e)

pub through : (t y f c : ℕ) (m k : List (ℕ × Planned)) → AreFrom f m → c ≡ min (t + 1 - f) (length m) → k ≡ settle_first c y m → k ≡ settle (λ s. nat_le s t) y m
through t y f c m k a e l = l ∙ (ap (λ n. settle_first n y m) e ∙ (first_all (t + 1 - f) y m ∙ sym (settle_through t y f m a)))

pub stay_from : (p : ℕ → Bool) (y f : ℕ) (m k : List (ℕ × Planned)) → AreFrom f m → k ≡ settle p y m → AreFrom f k
stay_from p y f m k a e = subst (λ (l : List (ℕ × Planned)). AreFrom f l) (sym e) (settle_from p y f m a)

pub all_place : (k c y : ℕ) (m n : List (ℕ × Planned)) → n ≡ settle_first k y m → k < c → c ≤ length m → k < length n
all_place k c y m n e h l = let g = ap length e ∙ first_length k y m in omega (arith, g)

pub places_then : (k y : ℕ) (m n o : List (ℕ × Planned)) → n ≡ settle_first k y m → o ≡ settle_at k y n → o ≡ settle_first (k + 1) y m
places_then k y m n o e g = g ∙ (ap (settle_at k y) e ∙ first_then k y m)

planned-append : (is : List Item) (i : Item) → planned (is ++ i ∷ []) ≡ planned is ++ (i.number, record { what = i.what; settled = [] }) ∷ []
planned-append [] i = refl
planned-append (j ∷ is) i = ap (λ r. (j.number, record { what = j.what; settled = [] }) ∷ r) (planned-append is i)

pub planned_more : (is : List Item) (i : Item) (m k : List (ℕ × Planned)) → m ≡ planned is → k ≡ m ++ (i.number, record { what = i.what; settled = [] }) ∷ [] → k ≡ planned (is ++ i ∷ [])
planned_more is i m k e g = g ∙ (ap (λ l. l ++ (i.number, record { what = i.what; settled = [] }) ∷ []) e ∙ sym (planned-append is i))
