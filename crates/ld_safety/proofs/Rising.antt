-- Tables whose keys rise, and pages of what they hold.
use Rattle.std.proofs.Common.{◌≡◌, ◌∙◌, ◌⊎◌, ◌≤◌, ◌<◌, ℕ, zero, suc, inl, inr, refl, ap, sym, subst, Bool, true, false, cond, nat_cmp, nat_lt, Ordering, Less, Equal, Greater, List, [], ◌∷◌, length, take, filter, Some, arith, ◌==◌}
use Rattle.ld_table.proofs.Laws.{same_key, tied}
use Rattle.std.specs.BTreeMap.{is_at}
use Rattle.std.specs.Ordering.{match_ordering}
use Rattle.std.proofs.lemmas.Bool.{cases_Bool, cases_order, ltb-true, ltb-false, lt-ltb, le-ltb, eq-eqb}
use Rattle.ld_table.specs.Table.{find, put, keep, keep_keys, passes}
use Rattle.ld_table.specs.Words.{values}
use Rattle.ld_msg.specs.declared.msg.Entry.{Entry}
use Rattle.ld_op.specs.Answers.{page_upto, page_limit, last_number}
use Rattle.ld_machine.specs.World.{In}
use Rattle.ld_safety.proofs.Lists.{cond_both, not_both}
use Rattle.ld_safety.proofs.Members.{In_filter, In_put, In_values}

less_is : (k n : ℕ) → nat_cmp k n ≡ Less → k < n
less_is k n h = elim (cases_Bool (nat_lt k n)) [
  | inl t ↦ ltb-true k n t
  | inr t ↦ absurd (let q : cond (k == n) Equal Greater ≡ Less = sym (ap (λ b. cond b Less (cond (k == n) Equal Greater)) t) ∙ h in elim (cases_Bool (k == n)) [
    | inl u ↦ let z : Equal ≡ Less = sym (ap (λ b. cond b Equal Greater) u) ∙ q in cc
    | inr u ↦ let z : Greater ≡ Less = sym (ap (λ b. cond b Equal Greater) u) ∙ q in cc
  ])
]

greater_is : (k n : ℕ) → nat_cmp k n ≡ Greater → n < k
greater_is k n h = elim (cases_order k n) [
  | inl e ↦ absurd (let z : nat_cmp n n ≡ Greater = subst (λ v. nat_cmp v n ≡ Greater) e h in same_not n z)
  | inr (inl l) ↦ absurd (let z : cond true Less (cond (k == n) Equal Greater) ≡ Greater = subst (λ b. cond b Less (cond (k == n) Equal Greater) ≡ Greater) (lt-ltb k n l) h in cc)
  | inr (inr l) ↦ l
] where
  same_not : (n : ℕ) → nat_cmp n n ≡ Greater → ⊥
  same_not n z = let a : nat_lt n n ≡ false = le-ltb n n (omega arith) in let b = subst (λ t. cond t Less (cond (n == n) Equal Greater) ≡ Greater) a z in let d = subst (λ t. cond t Equal Greater ≡ Greater) (eq-eqb n n refl) b in cc

module _ {X : Type 0} where
  -- each key is below all later ones
  abbrev pub Rising : List (ℕ × X) → Type 0
  Rising [] = Unit {0}
  Rising (e ∷ m) = ((f : ℕ × X) → In f m → e.0 < f.0) × Rising m

  filter_by : (p : ℕ × X → Bool) (e : ℕ × X) (m : List (ℕ × X)) (b : Bool) → ((f : ℕ × X) → In f m → e.0 < f.0) → Rising (filter p m) → Rising (cond b (e ∷ filter p m) (filter p m))
  filter_by p e m true h r = ((λ f i. h f (In_filter p f m i).0), r)
  filter_by p e m false h r = r

  pub Rising-filter : (p : ℕ × X → Bool) (m : List (ℕ × X)) → Rising m → Rising (filter p m)
  Rising-filter p [] r = tt
  Rising-filter p (e ∷ m) r = filter_by p e m (p e) r.0 (Rising-filter p m r.1)

  pub Rising-keep : (p : ℕ → X → Bool) (m : List (ℕ × X)) → Rising m → Rising (keep p m)
  unfolding keep
  Rising-keep p m r = Rising-filter _ m r

  pub Rising-keep_keys : (p : ℕ → Bool) (m : List (ℕ × X)) → Rising m → Rising (keep_keys p m)
  unfolding keep_keys
  Rising-keep_keys p m r = Rising-filter _ m r

  put_step : (o : Ordering) (k : ℕ) (v : X) (e : ℕ × X) (m : List (ℕ × X)) → nat_cmp k e.0 ≡ o → Rising (e ∷ m) → Rising (put k v m) → Rising (match_ordering o ((k, v) ∷ e ∷ m) ((e.0, v) ∷ m) (e ∷ put k v m))
  put_step Less k v e m q r ih = ((λ f i. elim i [ inl z ↦ (let a = less_is k e.0 q in let y : f.0 ≡ e.0 = ap (λ (x : ℕ × X). x.0) z in omega arith) | inr j ↦ let a = less_is k e.0 q in let b = r.0 f j in omega arith ]), r)
  put_step Equal k v e m q r ih = (r.0, r.1)
  put_step Greater k v e m q r ih = ((λ f i. elim (In_put k v m f i) [ inl z ↦ (let a = greater_is k e.0 q in let y : f.0 ≡ k = ap (λ (x : ℕ × X). x.0) z in omega arith) | inr j ↦ r.0 f j ]), ih)

  pub Rising-put : (k : ℕ) (v : X) (m : List (ℕ × X)) → Rising m → Rising (put k v m)
  unfolding put
  Rising-put k v [] r = ((λ f i. absurd i), tt)
  Rising-put k v (e ∷ m) r = put_step (nat_cmp k e.0) k v e m refl r (Rising-put k v m r.1)

  -- a member is the one that is found
  pub found_rising : (q : ℕ × X) (m : List (ℕ × X)) → Rising m → In q m → find q.0 m ≡ Some q.1
  unfolding find
  found_rising q [] r i = absurd i
  found_rising q (e ∷ m) r i = by_key (is_at (nat_cmp q.0) e.0) refl i (found_rising q m r.1) where
    by_key : (b : Bool) → is_at (nat_cmp q.0) e.0 ≡ b → In q (e ∷ m) → (In q m → find q.0 m ≡ Some q.1) → cond b (Some e.1) (find q.0 m) ≡ Some q.1
    by_key true k (inl z) ih = ap (λ (x : ℕ × X). Some x.1) (sym z)
    by_key true k (inr j) ih = absurd (let a = r.0 q j in let n = same_key q.0 e.0 k in omega arith)
    by_key false k (inl z) ih = absurd (let n : is_at (nat_cmp q.0) e.0 ≡ true = tied q.0 e.0 ∙ eq-eqb q.0 e.0 (ap (λ (x : ℕ × X). x.0) z) in not_both _ n k)
    by_key false k (inr j) ih = ih j

  -- what a keep leaves passes
  pub kept_rising : (p : ℕ → X → Bool) (m : List (ℕ × X)) (q : ℕ × X) → Rising m → In q (keep p m) → In q m × (p q.0 q.1 ≡ true)
  unfolding keep
  kept_rising p m q r i = let z = In_filter _ q m i in (z.0, subst (λ o. passes p q.0 o ≡ true) (found_rising q m r z.0) z.1)

-- ---- entries whose numbers rise ----
abbrev pub NumbersRising : List Entry → Type 0
NumbersRising [] = Unit {0}
NumbersRising (e ∷ es) = ((f : Entry) → In f es → e.number < f.number) × NumbersRising es

pub rising_values : (m : List (ℕ × Entry)) → ((p : ℕ × Entry) → In p m → p.1.number ≡ p.0) → Rising m → NumbersRising (values m)
rising_values [] h r = tt
rising_values (e ∷ m) h r = ((λ f i. let v = value_in f m i in let a = r.0 (v.0, f) v.1 in let b = h (v.0, f) (inr v.1) in let c = h e (inl refl) in omega arith), rising_values m (λ p i. h p (inr i)) r.1) where
  value_in : (f : Entry) (m : List (ℕ × Entry)) → In f (values m) → (n : ℕ) × In (n, f) m
  value_in f m i = In_values f m i

filter_entries_by : (p : Entry → Bool) (e : Entry) (es : List Entry) (b : Bool) → ((f : Entry) → In f es → e.number < f.number) → NumbersRising (filter p es) → NumbersRising (cond b (e ∷ filter p es) (filter p es))
filter_entries_by p e es true h r = ((λ f i. h f (In_filter p f es i).0), r)
filter_entries_by p e es false h r = r

pub rising_filter : (p : Entry → Bool) (es : List Entry) → NumbersRising es → NumbersRising (filter p es)
rising_filter p [] r = tt
rising_filter p (e ∷ es) r = filter_entries_by p e es (p e) r.0 (rising_filter p es r.1)

-- an entry that isn't among the first ones is above them
beyond : (k : ℕ) (e : Entry) (es : List Entry) (f : Entry) → NumbersRising (e ∷ es) → In f (e ∷ es) → In f (take (suc k) (e ∷ es)) ⊎ (last_number (take (suc k) (e ∷ es)) < f.number)
beyond zero e es f r (inl q) = inl (inl q)
beyond zero e es f r (inr i) = inr (r.0 f i)
beyond (suc k) e [] f r (inl q) = inl (inl q)
beyond (suc k) e [] f r (inr i) = absurd i
beyond (suc k) e (x ∷ es) f r (inl q) = inl (inl q)
beyond (suc k) e (x ∷ es) f r (inr i) = elim (beyond k x es f r.1 i) [ inl a ↦ inl (inr a) | inr a ↦ inr a ]

take_all : (k : ℕ) (es : List Entry) → length es ≤ k → take k es ≡ es
take_all zero [] h = refl
take_all zero (e ∷ es) h = absurd (omega arith)
take_all (suc k) [] h = refl
take_all (suc k) (e ∷ es) h = ap (λ l. e ∷ l) (take_all k es (omega arith))

beyond_any : (es : List Entry) (f : Entry) → NumbersRising es → In f es → In f (take page_limit es) ⊎ (last_number (take page_limit es) < f.number)
beyond_any [] f r i = absurd i
beyond_any (e ∷ es) f r i = beyond 63 e es f r i

-- a page has each entry up to where it reaches
pub page_has : (es : List Entry) (bound : ℕ) (f : Entry) → NumbersRising es → In f es → f.number ≤ page_upto es bound → In f (take page_limit es)
page_has es bound f r i = cond_both (nat_lt page_limit (length es)) (last_number (take page_limit es)) bound (λ u. f.number ≤ u → In f (take page_limit es))
    (λ t l. elim (beyond_any es f r i) [ inl a ↦ a | inr a ↦ absurd (omega arith) ])
    (λ t l. let z = ltb-false page_limit (length es) t in subst (λ x. In f x) (sym (take_all page_limit es (omega arith))) i)
