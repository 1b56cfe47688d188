-- The register of a sound state holds only logs of the configuration, so there is room for each of them.
use Rattle.std.proofs.Common.{inl, inr, ◌≡◌, ◌∙◌, ◌≤◌, ◌<◌, ℕ, suc, ◌+◌, refl, ap, sym, Bool, true, false, ◌==◌, not, cond, List, [], ◌∷◌, length, nat_cmp, Less, arith}
use Rattle.std.specs.Map as map
use Rattle.std.specs.List.{AllByRecursion}
use Rattle.std.specs.List.Sorted.{IsStrictlySortedBy}
use Rattle.std.proofs.lemmas.Bool.{cond_both, cases_Bool, eqb-true, eqb-false, or_cases, or_left, or_right, lt-leb}
use Rattle.std.proofs.lemmas.Bool.Decides.{nat_tests}
use Rattle.ld_table.specs.Table.{Ordered}
use Rattle.ld_table.specs.Words.{how_many, any_of}
use Rattle.ld_ids.specs.declared.set.Spec.{Spec}
use Rattle.ld_config.specs.declared.config.Config.{Config}
use Rattle.ld_config.specs.Bounds.{IsInBounds}
use Rattle.ld_msg.specs.Register.{Register, Epochs, epochs_in, is_crowded, log_limit}
use Rattle.ld_op.specs.Bounds.{AreEpochs}
use Rattle.ld_machine.specs.Config.{has_log}
use Rattle.ld_bounds.specs.Registers.{IsKnownLog, IsRegister}
use Rattle.ld_bounds.proofs.Configs.{log_is}

-- ---- room ----

abbrev names : ℕ → List Spec → Bool
names l specs = any_of (λ (s : Spec). s.log == l) specs

-- without the first one of a log
abbrev without_log : ℕ → List Spec → List Spec
without_log l [] = []
without_log l (s ∷ specs) = cond (s.log == l) specs (s ∷ without_log l specs)

shorter : (l : ℕ) (specs : List Spec) → names l specs ≡ true → length (without_log l specs) + 1 ≡ length specs
shorter l [] h = absurd cc
shorter l (s ∷ specs) h = elim (or_cases (s.log == l) (names l specs) h) [
  | inl t ↦ cond_both (s.log == l) specs (s ∷ without_log l specs) (λ n. length n + 1 ≡ suc (length specs)) (λ u. omega arith) (λ u. absurd (let z : true ≡ false = sym t ∙ u in cc))
  | inr t ↦ (let ih = shorter l specs t in cond_both (s.log == l) specs (s ∷ without_log l specs) (λ n. length n + 1 ≡ suc (length specs)) (λ u. omega arith) (λ u. omega (arith, ih)))
]

-- another log is still there
stays : (l k : ℕ) (specs : List Spec) → (k ≡ l → ⊥) → names k specs ≡ true → names k (without_log l specs) ≡ true
stays l k [] n h = absurd cc
stays l k (s ∷ specs) n h = elim (or_cases (s.log == k) (names k specs) h) [
  | inl t ↦ cond_both (s.log == l) specs (s ∷ without_log l specs) (λ m. names k m ≡ true) (λ u. absurd (n (sym (eqb-true s.log k t) ∙ eqb-true s.log l u))) (λ u. or_left (s.log == k) (names k (without_log l specs)) t)
  | inr t ↦ cond_both (s.log == l) specs (s ∷ without_log l specs) (λ m. names k m ≡ true) (λ u. t) (λ u. or_right (s.log == k) (names k (without_log l specs)) (stays l k specs n t))
]

above : (x y : ℕ) → nat_cmp x y ≡ Less → x < y
above x y h = grind (arith, nat_tests)

-- all are named, and none of them is below this one
abbrev NamedAbove : List Spec → ℕ → ℕ × Epochs → Type 0
NamedAbove specs x e = (names e.0 specs ≡ true) × (x < e.0)

named_above : (specs : List Spec) (x : ℕ) (m : List (ℕ × Epochs)) → AllByRecursion (λ (e : ℕ × Epochs). names e.0 specs ≡ true) m → AllByRecursion (λ y. nat_cmp x y ≡ Less) (map.keys_of m) → AllByRecursion (λ (e : ℕ × Epochs). names e.0 (without_log x specs) ≡ true) m
named_above specs x [] a b = tt
named_above specs x (e ∷ m) a b = (stays x e.0 specs (λ q. let z = above x e.0 b.0 in absurd (omega arith)) a.0, named_above specs x m a.1 b.1)

-- those but one are at most as many as the others that are named
others : (l : ℕ) (specs : List Spec) (m : List (ℕ × Epochs)) → Ordered m → AllByRecursion (λ (e : ℕ × Epochs). names e.0 specs ≡ true) m → names l specs ≡ true → how_many (λ (k : ℕ × Epochs). not (k.0 == l)) m + 1 ≤ length specs
unfolding IsStrictlySortedBy
others l specs [] o a h = let z = shorter l specs h in omega arith
others l specs (e ∷ m) o a h = elim (cases_Bool (e.0 == l)) [
  | inl t ↦ (let q = counted_not (not (e.0 == l)) m (ap not t) in let r = all_named specs m o.1 e.0 (named_above specs e.0 m a.1 o.0) a.0 in omega arith)
  | inr t ↦ (let q = counted (not (e.0 == l)) m (ap not t) in
      let r = others l (without_log e.0 specs) m o.1 (named_above specs e.0 m a.1 o.0) (stays e.0 l specs (λ z. eqb-false e.0 l t (sym z)) h) in let s = shorter e.0 specs a.0 in omega arith)
] where
  counted_not : (b : Bool) (m : List (ℕ × Epochs)) → b ≡ false → cond b (suc (how_many (λ (k : ℕ × Epochs). not (k.0 == l)) m)) (how_many (λ (k : ℕ × Epochs). not (k.0 == l)) m) ≡ how_many (λ (k : ℕ × Epochs). not (k.0 == l)) m
  counted_not b m h = rw h refl

  counted : (b : Bool) (m : List (ℕ × Epochs)) → b ≡ true → cond b (suc (how_many (λ (k : ℕ × Epochs). not (k.0 == l)) m)) (how_many (λ (k : ℕ × Epochs). not (k.0 == l)) m) ≡ suc (how_many (λ (k : ℕ × Epochs). not (k.0 == l)) m)
  counted b m h = rw h refl

  all_named : (specs : List Spec) (m : List (ℕ × Epochs)) → Ordered m → (x : ℕ) → AllByRecursion (λ (e : ℕ × Epochs). names e.0 (without_log x specs) ≡ true) m → names x specs ≡ true → how_many (λ (k : ℕ × Epochs). not (k.0 == l)) m + 1 ≤ length specs
  all_named specs m o x a h = let s = shorter x specs h in let t = many (without_log x specs) m o a in omega arith where
    many : (specs : List Spec) (m : List (ℕ × Epochs)) → Ordered m → AllByRecursion (λ (e : ℕ × Epochs). names e.0 specs ≡ true) m → how_many (λ (k : ℕ × Epochs). not (k.0 == l)) m ≤ length specs
    many specs [] o a = omega arith
    many specs (e ∷ m) o a = let r = many (without_log e.0 specs) m o.1 (named_above specs e.0 m a.1 o.0) in let s = shorter e.0 specs a.0 in
        cond_both (not (e.0 == l)) (suc (how_many (λ (k : ℕ × Epochs). not (k.0 == l)) m)) (how_many (λ (k : ℕ × Epochs). not (k.0 == l)) m) (λ n. n ≤ length specs) (λ t. omega arith) (λ t. omega arith)

known_names : (c : Config) (m : List (ℕ × Epochs)) → AllByRecursion (IsKnownLog c) m → AllByRecursion (λ (e : ℕ × Epochs). names e.0 c.logs ≡ true) m
known_names c [] a = tt
known_names c (e ∷ m) a = (a.0.log, known_names c m a.1)

-- ---- epochs ----

epochs_down : (low high : ℕ) (ds : List (ℕ × ℕ)) → low ≤ high → AreEpochs high ds → AreEpochs low ds
epochs_down low high [] h a = tt
epochs_down low high (d ∷ ds) h a = (let z = a.0 in omega arith, a.1, a.2, a.3, a.4)

all_above : (x : ℕ) (ks : List ℕ) → AllByRecursion (λ y. nat_cmp x y ≡ Less) ks → AllByRecursion (λ y. x + 1 ≤ y) ks
all_above x [] a = tt
all_above x (k ∷ ks) a = (let z = above x k a.0 in omega arith, all_above x ks a.1)

module _ (c : Config) (B : IsInBounds c) where
  epochs_from : (from : ℕ) (m : List (ℕ × Epochs)) → Ordered m → AllByRecursion (IsKnownLog c) m → AllByRecursion (λ y. from ≤ y) (map.keys_of m) → AreEpochs from (epochs_in m)
  unfolding IsStrictlySortedBy
  epochs_from from [] o a b = tt
  epochs_from from (e ∷ m) o a b =
      let rest : AreEpochs (e.0 + 1) (epochs_in m) = epochs_from (e.0 + 1) m o.1 a.1 (all_above e.0 (map.keys_of m) o.0) in
      let i = a.0.epochs.epoch in let lo = i.0 in let hi = i.1 in
      cond_both (e.1.epoch == 0) (epochs_in m) ((e.0, e.1.epoch) ∷ epochs_in m) (AreEpochs from) (λ t. epochs_down from (e.0 + 1) (epochs_in m) (let z = b.0 in omega arith) rest)
      (λ t. (b.0, log_is c B e.0 a.0.log, lo, omega arith, rest))

  from_one : (m : List (ℕ × Epochs)) → AllByRecursion (IsKnownLog c) m → AllByRecursion (λ y. 1 ≤ y) (map.keys_of m)
  from_one [] a = tt
  from_one (e ∷ m) a = ((log_is c B e.0 a.0.log).0, from_one m a.1)

  pub epochs_rise : (r : Register) → IsRegister c r → AreEpochs 1 (epochs_in r.logs)
  epochs_rise r R = epochs_from 1 r.logs R.rise R.logs (from_one r.logs R.logs)

  pub room_there : (r : Register) (l : ℕ) → IsRegister c r → has_log c l ≡ true → is_crowded r l ≡ false
  room_there r l R h = let n = others l c.logs r.logs R.rise (known_names c r.logs R.logs) h in let f = B.few_logs in lt-leb log_limit (how_many (λ k. not (k.0 == l)) r.logs) (omega arith)
