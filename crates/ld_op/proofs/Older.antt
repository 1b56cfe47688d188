-- How the entries of a smaller ballot leave a tree, the first of them at a time.
use Rattle.std.proofs.Common.{◌≡◌, ◌<◌, ◌≤◌, ◌^◌, nat_lt, ℕ, Bool, true, false, not, cond, ◌&&◌, List, [], ◌∷◌, ◌++◌, Option, Some, None, refl, ap, sym, ◌∙◌, subst, arith, nat_cmp, Less, is_some}
use Rattle.std.specs.declared.ops.Bound.TheVariants.{Included, Excluded}
use Rattle.std.specs.BTreeMap.{is_at}
use Rattle.std.specs.BTreeMap.Range.{range_contains, entries_between}
use Rattle.std.specs.Map as map
use Rattle.std.specs.List.{filter, AllByRecursion}
use Rattle.std.specs.List.Sorted.{IsStrictlySortedBy}
use Rattle.std.proofs.lemmas.Bool.Decides.{nat_tests}
use Rattle.ld_table.specs.Table.{find, keep, keep_keys, take_out, Ordered}
use Rattle.ld_table.proofs.Laws.{tied, kept, find-keep}
use Rattle.ld_table.proofs.Order.{found, keep_is, take_out_is, Ordered-keep, same_table}
use Rattle.ld_lsn.specs.Number.{epoch_of, numbered, last_esn}
use Rattle.ld_msg.specs.declared.msg.Entry.{Entry}
use Rattle.ld_msg.specs.declared.msg.Summary.{Summary}
use Rattle.ld_op.specs.Plain.{survives_bridge, survives_clean}
use Rattle.ld_op.specs.Places.{filled, place_passes, AreUnderTheirNumbers}
use Rattle.ld_op.specs.Older.{stands_between, is_older, first_older}
use Rattle.ld_op.proofs.Places.{Ordered-filled, filled-keep, filled-keep_keys}

-- ---- a walk that looks for the first ----

on_append : (c : Bool) (k : ℕ) (x y z : Option ℕ) → (x ≡ None → y ≡ z) → cond c (Some k) x ≡ None → cond c (Some k) y ≡ z
on_append true k x y z ih h = absurd cc
on_append false k x y z ih h = ih h

none_before : (b : ℕ) (m n : List (ℕ × Option Entry)) → first_older b m ≡ None → first_older b (m ++ n) ≡ first_older b n
none_before b [] n h = refl
none_before b (s ∷ m) n h = on_append (is_older b s.1) s.0 (first_older b m) (first_older b (m ++ n)) (first_older b n) (none_before b m n) h

pub older_found : (b : ℕ) (all ys rest : List (ℕ × Option Entry)) (s : ℕ × Option Entry) → ys ++ s ∷ rest ≡ all → first_older b ys ≡ None → is_older b s.1 ≡ true → first_older b all ≡ Some s.0
older_found b all ys rest s a h o = ap (first_older b) (sym a) ∙ (none_before b ys (s ∷ rest) h ∙ ap (λ c. cond c (Some s.0) (first_older b rest)) o)

pub none_older : (b : ℕ) (ys : List (ℕ × Option Entry)) (s : ℕ × Option Entry) → first_older b ys ≡ None → is_older b s.1 ≡ false → first_older b (ys ++ s ∷ []) ≡ None
none_older b ys s h o = none_before b ys (s ∷ []) h ∙ ap (λ c. cond c (Some s.0) None) o

-- ---- what is true of the first ----

first_case : (P : ℕ → Type 0) (c : Bool) (x k : ℕ) (r : Option ℕ) → P x → (r ≡ Some k → P k) → cond c (Some x) r ≡ Some k → P k
first_case P true x k r p ih e = let i : x ≡ k = cc in subst P i p
first_case P false x k r p ih e = ih e

first_has : (P : ℕ → Type 0) (b k : ℕ) (m : List (ℕ × Option Entry)) → AllByRecursion (λ s. P s.0) m → first_older b m ≡ Some k → P k
first_has P b k [] h e = absurd cc
first_has P b k (s ∷ m) h e = first_case P (is_older b s.1) s.0 k (first_older b m) h.0 (first_has P b k m h.1) e

all_cond : {A : Type 0} (P : A → Type 0) (c : Bool) (x : A) (m : List A) → (c ≡ true → P x) → AllByRecursion P m → AllByRecursion P (cond c (x ∷ m) m)
all_cond P true x m p h = (p refl, h)
all_cond P false x m p h = h

passing : (f : ℕ → Bool) (m : List (ℕ × Option Entry)) → AllByRecursion (λ s. f s.0 ≡ true) (filter (λ s. f s.0) m)
passing f [] = tt
passing f (s ∷ m) = all_cond (λ s. f s.0 ≡ true) (f s.0) s (filter (λ s. f s.0) m) (λ t. t) (passing f m)

above : (x : ℕ) (f : ℕ → Bool) (m : List (ℕ × Option Entry)) → AllByRecursion (λ y. nat_cmp x y ≡ Less) (map.keys_of m) → AllByRecursion (λ s. nat_cmp x s.0 ≡ Less) (filter (λ s. f s.0) m)
above x f [] h = tt
above x f (s ∷ m) h = all_cond (λ s. nat_cmp x s.0 ≡ Less) (f s.0) s (filter (λ s. f s.0) m) (λ t. h.0) (above x f m h.1)

there_all : (t : List (ℕ × Option Entry)) (f : ℕ → Bool) (m : List (ℕ × Option Entry)) → AllByRecursion (λ s. find s.0 t ≡ Some s.1) m → AllByRecursion (λ s. is_some (find s.0 t) ≡ true) (filter (λ s. f s.0) m)
there_all t f [] h = tt
there_all t f (s ∷ m) h = all_cond (λ s. is_some (find s.0 t) ≡ true) (f s.0) s (filter (λ s. f s.0) m) (λ c. ap is_some h.0) (there_all t f m h.1)

abbrev within : ℕ → ℕ → ℕ → Bool
within a z q = range_contains nat_cmp (Excluded a) (Included z) q

inside : (a z q : ℕ) → within a z q ≡ true → (a < q) × (q ≤ z)
inside a z q h = (grind (arith, nat_tests), grind (arith, nat_tests))

outside : (a z q : ℕ) → within a z q ≡ false → (q ≤ z) → q ≤ a
outside a z q h l = grind (arith, nat_tests)

pub older_inside : (b a z k : ℕ) (m : List (ℕ × Option Entry)) → first_older b (entries_between nat_cmp (Excluded a) (Included z) m) ≡ Some k → (a < k) × (k ≤ z)
older_inside b a z k m e = inside a z k (first_has (λ q. within a z q ≡ true) b k _ (passing (within a z) m) e)

pub older_there : (b a z k : ℕ) (m : List (ℕ × Option Entry)) → Ordered m → first_older b (entries_between nat_cmp (Excluded a) (Included z) m) ≡ Some k → is_some (find k m) ≡ true
older_there b a z k m h e = first_has (λ q. is_some (find q m) ≡ true) b k _ (there_all m (within a z) m (found m h)) e

-- ---- what stands ----

abbrev stays : ℕ → ℕ → ℕ → ℕ × Option Entry → Bool
stays b a z s = place_passes (stands_between b a z) s.0 s.1

stays_newer : (b a z k : ℕ) (o : Option Entry) → is_older b o ≡ false → stays b a z (k, o) ≡ true
stays_newer b a z k None h = refl
stays_newer b a z k (Some e) h = grind (arith, nat_tests)

stays_outside : (b a z k : ℕ) (o : Option Entry) → within a z k ≡ false → stays b a z (k, o) ≡ true
stays_outside b a z k None h = refl
stays_outside b a z k (Some e) h = grind (arith, nat_tests)

stays_behind : (b a z k : ℕ) (o : Option Entry) → k ≤ a → stays b a z (k, o) ≡ true
stays_behind b a z k None h = refl
stays_behind b a z k (Some e) h = grind (arith, nat_tests)

goes : (b a z k : ℕ) (o : Option Entry) → is_older b o ≡ true → within a z k ≡ true → stays b a z (k, o) ≡ false
goes b a z k None h w = absurd cc
goes b a z k (Some e) h w = grind (arith, nat_tests)

stays_either : (b a c z k : ℕ) (o : Option Entry) → a < k → c < k → stays b a z (k, o) ≡ stays b c z (k, o)
stays_either b a c z k None h i = refl
stays_either b a c z k (Some e) h i = grind (arith, nat_tests)

-- ---- all of them stand, where none is found ----

first_cond : (b : ℕ) (w : Bool) (s : ℕ × Option Entry) (m : List (ℕ × Option Entry)) → first_older b (cond w (s ∷ m) m) ≡ cond w (cond (is_older b s.1) (Some s.0) (first_older b m)) (first_older b m)
first_cond b true s m = refl
first_cond b false s m = refl

stays_none : (b a z : ℕ) (s : ℕ × Option Entry) (r : Option ℕ) (w o : Bool) → within a z s.0 ≡ w → is_older b s.1 ≡ o → cond w (cond o (Some s.0) r) r ≡ None → (stays b a z s ≡ true) × (r ≡ None)
stays_none b a z s r true true w o e = absurd cc
stays_none b a z s r true false w o e = (stays_newer b a z s.0 s.1 o, e)
stays_none b a z s r false o w p e = (stays_outside b a z s.0 s.1 w, e)

all_stay : (b a z : ℕ) (m : List (ℕ × Option Entry)) → first_older b (entries_between nat_cmp (Excluded a) (Included z) m) ≡ None → filter (stays b a z) m ≡ m
all_stay b a z [] e = refl
all_stay b a z (s ∷ m) e = let p = stays_none b a z s (first_older b (filter (λ s. within a z s.0) m)) (within a z s.0) (is_older b s.1) refl refl (sym (first_cond b (within a z s.0) s (filter (λ s. within a z s.0) m)) ∙ e) in rw (p.0, all_stay b a z m p.1) refl

pub none_goes : (b a z : ℕ) (m : List (ℕ × Option Entry)) → Ordered m → first_older b (entries_between nat_cmp (Excluded a) (Included z) m) ≡ None → keep (place_passes (stands_between b a z)) m ≡ m
none_goes b a z m h e = sym (keep_is (place_passes (stands_between b a z)) m h) ∙ all_stay b a z m e

-- ---- one goes, where it is found ----

not_at : (k q : ℕ) → nat_cmp k q ≡ Less → is_at (nat_cmp k) q ≡ false
not_at k q h = ap (λ o. is_at (λ x. o) q) h

not_at_before : (k q : ℕ) → nat_cmp q k ≡ Less → is_at (nat_cmp k) q ≡ false
not_at_before k q h = tied k q ∙ grind (arith, nat_tests)

-- behind the one that goes the same stand
later : (b a z k : ℕ) (m : List (ℕ × Option Entry)) → a < k → AllByRecursion (λ y. nat_cmp k y ≡ Less) (map.keys_of m) → filter (stays b k z) (filter (λ s. not (is_at (nat_cmp k) s.0)) m) ≡ filter (stays b a z) m
later b a z k [] l h = refl
later b a z k (s ∷ m) l h = let i : k < s.0 = (let c = h.0 in grind (arith, nat_tests)) in let j : a < s.0 = omega arith in
    rw (not_at k s.0 h.0, stays_either b k a z s.0 s.1 i j, later b a z k m l h.1) refl

abbrev Gone : ℕ → ℕ → ℕ → ℕ → List (ℕ × Option Entry) → Type 0
Gone b a z k m = filter (stays b k z) (filter (λ s. not (is_at (nat_cmp k) s.0)) m) ≡ filter (stays b a z) m

gone_on : (b a z k : ℕ) (s : ℕ × Option Entry) (m : List (ℕ × Option Entry)) → nat_cmp s.0 k ≡ Less → stays b a z s ≡ true → Gone b a z k m → Gone b a z k (s ∷ m)
gone_on b a z k s m l t g = let i : s.0 ≤ k = grind (arith, nat_tests) in rw (not_at_before k s.0 l, stays_behind b k z s.0 s.1 i, t, g) refl

gone_here : (b a z k : ℕ) (s : ℕ × Option Entry) (m : List (ℕ × Option Entry)) → s.0 ≡ k → within a z s.0 ≡ true → is_older b s.1 ≡ true → AllByRecursion (λ y. nat_cmp s.0 y ≡ Less) (map.keys_of m) → Gone b a z k (s ∷ m)
gone_here b a z k s m e w o h = subst (λ k. Gone b a z k (s ∷ m)) e
    (let i = inside a z s.0 w in let t : is_at (nat_cmp s.0) s.0 ≡ true = tied s.0 s.0 ∙ grind (arith, nat_tests) in rw (t, goes b a z s.0 s.1 o w, later b a z s.0 m i.0 h) refl)

gone_step : (b a z k : ℕ) (s : ℕ × Option Entry) (m : List (ℕ × Option Entry)) (r : Option ℕ) (w o : Bool) → within a z s.0 ≡ w → is_older b s.1 ≡ o → AllByRecursion (λ y. nat_cmp s.0 y ≡ Less) (map.keys_of m)
    → (r ≡ Some k → nat_cmp s.0 k ≡ Less) → (r ≡ Some k → Gone b a z k m) → cond w (cond o (Some s.0) r) r ≡ Some k → Gone b a z k (s ∷ m)
gone_step b a z k s m r true true w o h l g e = let i : s.0 ≡ k = cc in gone_here b a z k s m i w o h
gone_step b a z k s m r true false w o h l g e = gone_on b a z k s m (l e) (stays_newer b a z s.0 s.1 o) (g e)
gone_step b a z k s m r false o w p h l g e = gone_on b a z k s m (l e) (stays_outside b a z s.0 s.1 w) (g e)

one_gone : (b a z k : ℕ) (m : List (ℕ × Option Entry)) → Ordered m → first_older b (entries_between nat_cmp (Excluded a) (Included z) m) ≡ Some k → Gone b a z k m
unfolding IsStrictlySortedBy
one_gone b a z k [] h e = absurd cc
one_gone b a z k (s ∷ m) h e = gone_step b a z k s m (first_older b (filter (λ s. within a z s.0) m)) (within a z s.0) (is_older b s.1) refl refl h.0
    (first_has (λ q. nat_cmp s.0 q ≡ Less) b k _ (above s.0 (within a z) m h.0)) (one_gone b a z k m h.1) (sym (first_cond b (within a z s.0) s (filter (λ s. within a z s.0) m)) ∙ e)

pub one_goes : (b a z k : ℕ) (m n : List (ℕ × Option Entry)) → Ordered m → Ordered n → n ≡ map.remove_entry (is_at (nat_cmp k)) m → first_older b (entries_between nat_cmp (Excluded a) (Included z) m) ≡ Some k
    → keep (place_passes (stands_between b k z)) n ≡ keep (place_passes (stands_between b a z)) m
unfolding take_out
one_goes b a z k m n h i r e = sym (keep_is (place_passes (stands_between b k z)) n i) ∙ (ap (filter (stays b k z)) (take_out_is k m n h i r) ∙ (one_gone b a z k m h e ∙ keep_is (place_passes (stands_between b a z)) m h))

-- ---- what stands once an epoch ends ----

module _ {X : Type 0} where
  kept_alike : (p q : ℕ → X → Bool) (k : ℕ) (o : Option X) → ((v : X) → o ≡ Some v → p k v ≡ q k v) → kept p k o ≡ kept q k o
  kept_alike p q k None h = refl
  kept_alike p q k (Some v) h = ap (λ c. cond c (Some v) None) (h v refl)

  keep_alike : (p q : ℕ → X → Bool) (m : List (ℕ × X)) → Ordered m → ((k : ℕ) (v : X) → find k m ≡ Some v → p k v ≡ q k v) → keep p m ≡ keep q m
  keep_alike p q m s h = same_table _ _ (Ordered-keep p m s) (Ordered-keep q m s) (λ k. find-keep k p m ∙ (kept_alike p q k (find k m) (h k) ∙ sym (find-keep k q m)))

  kept_both : (p : ℕ → X → Bool) (k : ℕ) (v : X) (c d : Bool) → p k v ≡ d → kept p k (cond c (Some v) None) ≡ cond (c && d) (Some v) None
  kept_both p k v true d e = ap (λ c. cond c (Some v) None) e
  kept_both p k v false d e = refl

  kept_twice : (p q : ℕ → X → Bool) (k : ℕ) (o : Option X) → kept p k (kept q k o) ≡ kept (λ k v. q k v && p k v) k o
  kept_twice p q k None = refl
  kept_twice p q k (Some v) = kept_both p k v (q k v) (p k v) refl

  keep_twice : (p q : ℕ → X → Bool) (m : List (ℕ × X)) → Ordered m → keep p (keep q m) ≡ keep (λ k v. q k v && p k v) m
  keep_twice p q m s = same_table _ _ (Ordered-keep p _ (Ordered-keep q m s)) (Ordered-keep _ m s)
      (λ k. find-keep k p (keep q m) ∙ (ap (kept p k) (find-keep k q m) ∙ (kept_twice p q k (find k m) ∙ sym (find-keep k _ m))))

  by_keys : (p : ℕ → Bool) (m : List (ℕ × X)) → Ordered m → keep_keys p m ≡ keep (λ k v. p k) m
  unfolding keep_keys
  by_keys p m s = keep_is (λ k v. p k) m s

  keep_and_keys : (p : ℕ → X → Bool) (g : ℕ → Bool) (m : List (ℕ × X)) → Ordered m → keep p (keep_keys g m) ≡ keep (λ k v. g k && p k v) m
  keep_and_keys p g m s = ap (keep p) (by_keys g m s) ∙ keep_twice p (λ k v. g k) m s

  pub Ordered-keep_keys : (p : ℕ → Bool) (m : List (ℕ × X)) → Ordered m → Ordered (keep_keys p m)
  Ordered-keep_keys p m s = subst Ordered (sym (by_keys p m s)) (Ordered-keep (λ k v. p k) m s)

bridge_at : (b e : Entry) (k : ℕ) → e.number ≡ k → stands_between b.ballot b.number (numbered (epoch_of b.number) last_esn) k e ≡ survives_bridge b e
bridge_at b e k n = grind (arith, nat_tests)

pub ended_by : (b : Entry) (z : ℕ) (m n : List (ℕ × Option Entry)) → Ordered m → AreUnderTheirNumbers m → z ≡ numbered (epoch_of b.number) last_esn → n ≡ keep (place_passes (stands_between b.ballot b.number z)) m
    → filled n ≡ keep (λ s e. survives_bridge b e) (filled m)
ended_by b z m n h u l e = ap filled (e ∙ ap (λ z. keep (place_passes (stands_between b.ballot b.number z)) m) l) ∙ (filled-keep _ m h ∙ keep_alike _ _ (filled m) (Ordered-filled m h) (λ k v f. bridge_at b v k (u k v f)))

clean_at : (t epoch : ℕ) (y : Summary) (e : Entry) (k : ℕ) → y.lng < 2 ^ 32 → e.number ≡ k → (nat_lt t k && stands_between y.ballot (numbered epoch y.lng) (numbered epoch last_esn) k e) ≡ survives_clean t epoch y e
clean_at t epoch y e k l n = grind (arith, nat_tests)

pub cleaned_by : (t epoch g z : ℕ) (y : Summary) (m o n : List (ℕ × Option Entry)) → Ordered m → AreUnderTheirNumbers m → y.lng < 2 ^ 32 → g ≡ numbered epoch y.lng → z ≡ numbered epoch last_esn
    → o ≡ keep_keys (λ s. nat_lt t s) m → n ≡ keep (place_passes (stands_between y.ballot g z)) o → filled n ≡ keep (λ s e. survives_clean t epoch y e) (filled m)
cleaned_by t epoch g z y m o n h u f i j d e = ap filled (e ∙ (ap (λ g. keep (place_passes (stands_between y.ballot g z)) o) i ∙ (ap (λ z. keep (place_passes (stands_between y.ballot (numbered epoch y.lng) z)) o) j ∙ ap (keep _) d)))
    ∙ (filled-keep _ _ (Ordered-keep_keys (λ s. nat_lt t s) m h) ∙ (ap (keep _) (filled-keep_keys (λ s. nat_lt t s) m)
    ∙ (keep_and_keys _ (λ s. nat_lt t s) (filled m) (Ordered-filled m h) ∙ keep_alike _ _ (filled m) (Ordered-filled m h) (λ k v w. clean_at t epoch y v k f (u k v w)))))

pub stands_itself : (b : Entry) (z : ℕ) (m : List (ℕ × Option Entry)) (v : Entry) → find b.number m ≡ Some (Some v) → stands_between b.ballot b.number z b.number v ≡ true
stands_itself b z m v f = grind (arith, nat_tests)
