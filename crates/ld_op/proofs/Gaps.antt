-- The lowest epoch without a summary.
use Rattle.std.proofs.Common.{◌≡◌, ◌<◌, ◌≤◌, ◌+◌, ◌==◌, ℕ, Bool, true, false, cond, if◌then◌else◌, List, [], ◌∷◌, Option, Some, None, is_some, refl, ap, sym, ◌∙◌, arith, eqb, nat_cmp, Less}
use Rattle.std.specs.BTreeMap.{is_at}
use Rattle.std.specs.Map as map
use Rattle.std.specs.List.{AllByRecursion}
use Rattle.std.specs.List.Sorted.{IsStrictlySortedBy}
use Rattle.std.proofs.lemmas.Bool.{eq-eqb, eqb-true}
use Rattle.std.proofs.lemmas.Bool.Decides.{nat_tests}
use Rattle.ld_table.specs.Table.{find, Ordered}
use Rattle.ld_table.proofs.Laws.{same_key, tied}
use Rattle.ld_msg.specs.declared.msg.Summary.{Summary}
use Rattle.ld_op.specs.Closed.{AreClean}
use Rattle.ld_op.specs.Ticks.{gap_from}

-- ---- the keys of a table ----

other_key : (q x : ℕ) → (q ≡ x → ⊥) → is_at (nat_cmp q) x ≡ false
other_key q x n = by (is_at (nat_cmp q) x) refl where
  by : (b : Bool) → is_at (nat_cmp q) x ≡ b → b ≡ false
  by false h = refl
  by true h = absurd (n (same_key q x h))

less_key : (q x y : ℕ) → q ≤ x → nat_cmp x y ≡ Less → q ≡ y → ⊥
less_key q x y l h e = grind (arith, nat_tests)

module _ {X : Type 0} where
  abbrev pub AreAbove : ℕ → List (ℕ × X) → Type 0
  AreAbove x m = AllByRecursion (λ y. nat_cmp x y ≡ Less) (map.keys_of m)

  -- nothing stands under a key that is at most another, above which all keys are
  pub find_low : (q x : ℕ) (m : List (ℕ × X)) → q ≤ x → AreAbove x m → find q m ≡ None
  unfolding find
  find_low q x [] l a = refl
  find_low q x (s ∷ m) l a = ap (λ b. cond b (Some s.1) (find q m)) (other_key q s.0 (less_key q x s.0 l a.0)) ∙ find_low q x m l a.1

  pub find_first : (q : ℕ) (s : ℕ × X) (m : List (ℕ × X)) → q ≡ s.0 → find q (s ∷ m) ≡ Some s.1
  unfolding find
  find_first q s m e = ap (λ b. cond b (Some s.1) (find q m)) (tied q s.0 ∙ eq-eqb q s.0 e)

  pub find_behind : (q : ℕ) (s : ℕ × X) (m : List (ℕ × X)) → (q ≡ s.0 → ⊥) → find q (s ∷ m) ≡ find q m
  unfolding find
  find_behind q s m n = ap (λ b. cond b (Some s.1) (find q m)) (other_key q s.0 n)

-- ---- the lowest epoch ----

there_not : {X : Type 0} (o : Option X) → is_some o ≡ true → o ≡ None → ⊥
there_not o h n = let e = ap is_some n in cc

seen_or_behind : (a k : ℕ) (s : ℕ × Summary) (m : List (ℕ × Summary)) (b : Bool) → eqb k s.0 ≡ b → s.0 ≡ a → a ≤ k → (a + 1 ≤ k → is_some (find k m) ≡ true) → is_some (find k (s ∷ m)) ≡ true
seen_or_behind a k s m true t e l ih = ap is_some (find_first k s m (eqb-true k s.0 t))
seen_or_behind a k s m false t e l ih =
    let n : k ≡ s.0 → ⊥ = λ i. let j = eq-eqb k s.0 i in cc in
    ap is_some (find_behind k s m n) ∙ ih (let i : k ≡ a → ⊥ = λ j. n (j ∙ sym e) in omega (arith, i))

seen : (a k : ℕ) (s : ℕ × Summary) (m : List (ℕ × Summary)) (b : Bool) → (s.0 == a) ≡ b → a ≤ k → k < (if b then gap_from (a + 1) m else a) → (a + 1 ≤ k → k < gap_from (a + 1) m → is_some (find k m) ≡ true) → is_some (find k (s ∷ m)) ≡ true
seen a k s m false t l h ih = absurd (omega arith)
seen a k s m true t l h ih = seen_or_behind a k s m (eqb k s.0) refl (eqb-true s.0 a t) l (λ i. ih i h)

-- each epoch below the lowest has a summary
pub gap_clean : (a k : ℕ) (m : List (ℕ × Summary)) → a ≤ k → k < gap_from a m → is_some (find k m) ≡ true
gap_clean a k [] l h = absurd (omega arith)
gap_clean a k (s ∷ m) l h = seen a k s m (s.0 == a) refl l h (gap_clean (a + 1) k m)

-- an epoch without a summary, where each one below it from a first one on has one, and none below that
pub record IsGap (a e : ℕ) (m : List (ℕ × Summary)) : Type 0 where
  pub low : (k : ℕ) → k < a → find k m ≡ None
  pub least : a ≤ e
  pub below : AreClean a e m
  pub absent : find e m ≡ None

none_in : (a e : ℕ) → IsGap a e [] → a ≡ e
unfolding find
none_in a e g = let n : a < e → ⊥ = λ l. let i = g.below a (omega arith) l in cc in let l = g.least in omega (arith, n)

module _ (a e : ℕ) (s : ℕ × Summary) (m : List (ℕ × Summary)) (above : AreAbove s.0 m) (g : IsGap a e (s ∷ m)) where
  isnt : s.0 ≡ e → ⊥
  isnt i = let f = sym (find_first e s m (sym i)) ∙ g.absent in cc

  is_low : s.0 < a → ⊥
  is_low l = let f = sym (find_first s.0 s m refl) ∙ g.low s.0 l in cc

  here : s.0 ≡ a → IsGap (a + 1) e m
  here i = record {
    low = λ k l. find_low k s.0 m (omega arith) above;
    least = let n : a ≡ e → ⊥ = λ j. isnt (i ∙ j) in let l = g.least in omega (arith, n);
    below = λ k l h. sym (ap is_some (find_behind k s m (λ j. omega arith))) ∙ g.below k (omega arith) h;
    absent = sym (find_behind e s m (λ j. isnt (sym j))) ∙ g.absent;
  }

  elsewhere : (s.0 ≡ a → ⊥) → a ≡ e
  elsewhere i =
      let higher : a < s.0 = omega (arith, i, is_low) in
      let nothing : find a (s ∷ m) ≡ None = find_behind a s m (λ j. omega arith) ∙ find_low a s.0 m (omega arith) above in
      let n : a < e → ⊥ = λ l. there_not (find a (s ∷ m)) (g.below a (omega arith) l) nothing in
      let l = g.least in omega (arith, n)

  pub gap_step : (b : Bool) → (s.0 == a) ≡ b → (IsGap (a + 1) e m → gap_from (a + 1) m ≡ e) → (if b then gap_from (a + 1) m else a) ≡ e
  gap_step true t ih = ih (here (eqb-true s.0 a t))
  gap_step false t ih = elsewhere (λ i. let j = eq-eqb s.0 a i in cc)

-- that epoch is the lowest
pub gap_is : (a e : ℕ) (m : List (ℕ × Summary)) → Ordered m → IsGap a e m → gap_from a m ≡ e
unfolding IsStrictlySortedBy
gap_is a e [] o g = none_in a e g
gap_is a e (s ∷ m) o g = gap_step a e s m o.0 g (s.0 == a) refl (gap_is (a + 1) e m o.1)

not_first : (s : ℕ × Summary) (m : List (ℕ × Summary)) (b : Bool) → (s.0 == 1) ≡ b → AreAbove s.0 m → is_some (find 0 (s ∷ m)) ≡ true → (if b then gap_from 2 m else 1) ≡ 1
not_first s m false t a h = refl
not_first s m true t a h =
    let i : s.0 ≡ 1 = eqb-true s.0 1 t in
    absurd (there_not (find 0 (s ∷ m)) h (find_behind 0 s m (λ j. omega arith) ∙ find_low 0 s.0 m (omega arith) a))

-- where epoch 0 has a summary, the search for the lowest from 1 on ends at once
pub gap_zero : (m : List (ℕ × Summary)) → Ordered m → is_some (find 0 m) ≡ true → gap_from 1 m ≡ 1
unfolding IsStrictlySortedBy
gap_zero [] o h = refl
gap_zero (s ∷ m) o h = not_first s m (s.0 == 1) refl o.0 h
