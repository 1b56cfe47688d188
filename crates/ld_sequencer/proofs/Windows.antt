-- A row of appends as a table: numbers one after the other.
use Rattle.std.proofs.Common.{◌≡◌, ℕ, zero, suc, ◌+◌, ◌<◌, ◌≤◌, Bool, true, false, List, [], ◌∷◌, ◌++◌, length, drop, set, slice_get, None, refl, ap, ◌∙◌, arith, if◌then◌else◌, nat_cmp, Equal, Greater}
use Rattle.std.proofs.lemmas.Bool.{eq-eqb, ne_eqb}
use Rattle.std.proofs.lemmas.Bool.Decides.{nat_tests}
use Rattle.ld_table.specs.Table.{find, put}
use Rattle.ld_table.proofs.Laws.{tied}
use Rattle.ld_ids.specs.declared.set.Spec.{Spec}
use Rattle.ld_msg.specs.Sequencer.{Append, is_acked, acked_first, unacked_from}
use Rattle.ld_sequencer.specs.Appends.{numbered_from}

-- how many of the first appends are acknowledged
abbrev pub acked_run : Spec → List Append → ℕ
acked_run s [] = 0
acked_run s (p ∷ ps) = if is_acked s p then suc (acked_run s ps) else 0

cmp_equal : (a b : ℕ) → a ≡ b → nat_cmp a b ≡ Equal
cmp_equal a b h = grind (arith, nat_tests)

cmp_greater : (a b : ℕ) → b < a → nat_cmp a b ≡ Greater
cmp_greater a b h = grind (arith, nat_tests)

module _ {X : Type 0} where
  pub find_below : (n f : ℕ) (xs : List X) → n < f → find n (numbered_from f xs) ≡ None
  unfolding find
  find_below n f [] h = refl
  find_below n f (x ∷ xs) h = rw (tied n f, ne_eqb n f (omega arith)) (find_below n (f + 1) xs (omega arith))

  pub find_above : (n f : ℕ) (xs : List X) → f + length xs ≤ n → find n (numbered_from f xs) ≡ None
  unfolding find
  find_above n f [] h = refl
  find_above n f (x ∷ xs) h = rw (tied n f, ne_eqb n f (omega arith)) (find_above n (f + 1) xs (omega arith))

  pub find_at : (n f i : ℕ) (xs : List X) → n ≡ f + i → find n (numbered_from f xs) ≡ slice_get xs i
  unfolding find
  find_at n f i [] h = refl
  find_at n f zero (x ∷ xs) h = rw (tied n f, eq-eqb n f (omega arith)) refl
  find_at n f (suc i) (x ∷ xs) h = rw (tied n f, ne_eqb n f (omega arith)) (find_at n (f + 1) i xs (omega arith))

  pub put_at : (n f i : ℕ) (v : X) (xs : List X) → n ≡ f + i → i < length xs → put n v (numbered_from f xs) ≡ numbered_from f (set xs i v)
  unfolding put
  put_at n f i v [] h l = absurd (omega arith)
  put_at n f zero v (x ∷ xs) h l = rw (cmp_equal n f (omega arith)) refl
  put_at n f (suc i) v (x ∷ xs) h l = rw (cmp_greater n f (omega arith)) (ap (λ m. (f, x) ∷ m) (put_at n (f + 1) i v xs (omega arith) (omega arith)))

  pub numbered_from-push : (n f : ℕ) (v : X) (xs : List X) → n ≡ f + length xs → numbered_from f xs ++ (n, v) ∷ [] ≡ numbered_from f (xs ++ v ∷ [])
  numbered_from-push n f v [] h = ap (λ k. (k, v) ∷ []) (omega arith)
  numbered_from-push n f v (x ∷ xs) h = ap (λ m. (f, x) ∷ m) (numbered_from-push n (f + 1) v xs (omega arith))

  pub length-numbered_from : (f : ℕ) (xs : List X) → length (numbered_from f xs) ≡ length xs
  length-numbered_from f [] = refl
  length-numbered_from f (x ∷ xs) = ap suc (length-numbered_from (f + 1) xs)

pub acked_first_is : (s : Spec) (f : ℕ) (xs : List Append) → acked_first s (numbered_from f xs) ≡ acked_run s xs
acked_first_is s f [] = refl
acked_first_is s f (p ∷ ps) = ap (λ k. if is_acked s p then suc k else 0) (acked_first_is s (f + 1) ps)

unacked_step : (b : Bool) (s : Spec) (f g : ℕ) (p : Append) (ps : List Append) → g ≡ f + (if b then suc (acked_run s ps) else 0)
    → unacked_from s (numbered_from (f + 1) ps) ≡ numbered_from (f + 1 + acked_run s ps) (drop (acked_run s ps) ps)
    → (if b then unacked_from s (numbered_from (f + 1) ps) else (f, p) ∷ numbered_from (f + 1) ps) ≡ numbered_from g (drop (if b then suc (acked_run s ps) else 0) (p ∷ ps))
unacked_step true s f g p ps e ih = ih ∙ ap (λ k. numbered_from k (drop (acked_run s ps) ps)) (omega arith)
unacked_step false s f g p ps e ih = ap (λ k. numbered_from k (p ∷ ps)) (omega arith)

pub unacked_is : (s : Spec) (f g : ℕ) (xs : List Append) → g ≡ f + acked_run s xs → unacked_from s (numbered_from f xs) ≡ numbered_from g (drop (acked_run s xs) xs)
unacked_is s f g [] e = refl
unacked_is s f g (p ∷ ps) e = unacked_step (is_acked s p) s f g p ps e (unacked_is s (f + 1) (f + 1 + acked_run s ps) ps refl)
