-- What a walk over the offsets of a range picks.
use Rattle.std.proofs.Common.{◌≡◌, ◌<◌, ◌≤◌, ℕ, suc, Bool, true, false, not, cond, ◌&&◌, List, [], ◌∷◌, ◌++◌, Option, Some, None, refl, ap, sym, ◌∙◌, arith, length, take, nat_le, nat_lt, nat_cmp, get_or, ◌-◌, map, append_assoc}
use Rattle.std.specs.declared.ops.Bound.TheVariants.{Included}
use Rattle.std.proofs.lemmas.List.{append-nil}
use Rattle.std.specs.BTreeMap.Range.{range_contains, entries_between}
use Rattle.std.proofs.lemmas.Bool.Decides.{nat_tests}
use Rattle.std.proofs.lemmas.Grind.{common_steps}
use Rattle.std.specs.List.{filter, AllByRecursion}
use Rattle.ld_table.specs.Table.{find, Ordered}
use Rattle.ld_table.specs.Words.{values}
use Rattle.ld_table.proofs.Order.{found}
use Rattle.ld_msg.specs.declared.msg.Entry.{Entry}
use Rattle.ld_msg.specs.Digest.{is_bridge}
use Rattle.ld_op.specs.Answers.{page_limit, page_upto, last_number}
use Rattle.ld_op.specs.Places.{filled, filled_one, AreUnderTheirNumbers}
use Rattle.ld_op.specs.Picks.{picks, picked, picked_one}
use Rattle.ld_op.proofs.Places.{find-filled, flat}

abbrev pub with_one : Option Entry → List Entry → List Entry
with_one None es = es
with_one (Some e) es = e ∷ es

-- what is picked of the offsets
abbrev pub gather : Bool → List (ℕ × Option Entry) → List Entry
gather b [] = []
gather b (s ∷ m) = with_one (picked_one b s.1) (gather b m)

with_one-append : (o : Option Entry) (xs ys : List Entry) → with_one o (xs ++ ys) ≡ with_one o xs ++ ys
with_one-append None xs ys = refl
with_one-append (Some e) xs ys = refl

pub gather-append : (b : Bool) (m n : List (ℕ × Option Entry)) → gather b (m ++ n) ≡ gather b m ++ gather b n
gather-append b [] n = refl
gather-append b (s ∷ m) n = ap (with_one (picked_one b s.1)) (gather-append b m n) ∙ with_one-append (picked_one b s.1) (gather b m) (gather b n)

-- the walk goes on by an offset
pub gather_on : (b : Bool) (all ys rest : List (ℕ × Option Entry)) (s : ℕ × Option Entry) (es : List Entry) (e : Entry) → ys ++ s ∷ rest ≡ all → es ≡ gather b ys → picked_one b s.1 ≡ Some e → gather b all ≡ es ++ e ∷ gather b rest
gather_on b all ys rest s es e a g p = ap (gather b) (sym a) ∙ (gather-append b ys (s ∷ rest) ∙ (ap (λ x. x ++ with_one (picked_one b s.1) (gather b rest)) (sym g) ∙ ap (λ o. es ++ with_one o (gather b rest)) p))

pub gather_more : (b : Bool) (ys : List (ℕ × Option Entry)) (s : ℕ × Option Entry) (es : List Entry) (e : Entry) → es ≡ gather b ys → picked_one b s.1 ≡ Some e → es ++ e ∷ [] ≡ gather b (ys ++ s ∷ [])
gather_more b ys s es e g p = sym (gather_on b (ys ++ s ∷ []) ys [] s es e refl g p)

pub gather_same : (b : Bool) (ys : List (ℕ × Option Entry)) (s : ℕ × Option Entry) (es : List Entry) → es ≡ gather b ys → picked_one b s.1 ≡ None → es ≡ gather b (ys ++ s ∷ [])
gather_same b ys s es g p = g ∙ (sym (append-nil (gather b ys)) ∙ (ap (λ o. gather b ys ++ with_one o []) (sym p) ∙ sym (gather-append b ys (s ∷ []))))

pub map_on : {A X : Type 0} (f : A → X) (ys : List A) (y : A) → map f (ys ++ y ∷ []) ≡ map f ys ++ f y ∷ []
map_on f [] y = refl
map_on f (x ∷ ys) y = ap (λ r. f x ∷ r) (map_on f ys y)

-- what a walk has left is what it had left, less one
pub walk_on : {A X : Type 0} (f : A → X) (ys : List A) (y : A) (before after all : List X) → map f ys ++ before ≡ all → before ≡ f y ∷ after → map f (ys ++ y ∷ []) ++ after ≡ all
walk_on f ys y before after all h s = ap (λ r. r ++ after) (map_on f ys y) ∙ (append_assoc (map f ys) (f y ∷ []) after ∙ (ap (λ r. map f ys ++ r) (sym s) ∙ h))

pub walk_at : {A X : Type 0} (f : A → X) (ys : List A) (y : A) (before after all : List X) → map f ys ++ before ≡ all → before ≡ f y ∷ after → map f ys ++ f y ∷ after ≡ all
walk_at f ys y before after all h s = ap (λ r. map f ys ++ r) (sym s) ∙ h

pub walk_end : {A X : Type 0} (f : A → X) (ys : List A) (before all : List X) → map f ys ++ before ≡ all → before ≡ [] → map f ys ≡ all
walk_end f ys before all h s = sym (append-nil (map f ys)) ∙ (ap (λ r. map f ys ++ r) (sym s) ∙ h)

-- ---- the numbers of the entries are their keys ----

abbrev UnderOne : ℕ → Option Entry → Type 0
UnderOne k None = Unit {0}
UnderOne k (Some e) = e.number ≡ k

abbrev UnderAll : List (ℕ × Option Entry) → Type 0
UnderAll [] = Unit {0}
UnderAll (s ∷ m) = UnderOne s.0 s.1 × UnderAll m

under_one : (m : List (ℕ × Option Entry)) (k : ℕ) (o : Option Entry) → Ordered m → AreUnderTheirNumbers m → find k m ≡ Some o → UnderOne k o
under_one m k None h u f = tt
under_one m k (Some e) h u f = u k e (find-filled k m h ∙ ap flat f)

under_all : (m es : List (ℕ × Option Entry)) → Ordered m → AreUnderTheirNumbers m → AllByRecursion (λ s. find s.0 m ≡ Some s.1) es → UnderAll es
under_all m [] h u f = tt
under_all m (s ∷ es) h u f = (under_one m s.0 s.1 h u f.0, under_all m es h u f.1)

-- ---- what is picked by keys is picked by numbers ----

with_cond : (d : Bool) (e : Entry) (es : List Entry) → with_one (cond d (Some e) None) es ≡ cond d (e ∷ es) es
with_cond true e es = refl
with_cond false e es = refl

pick_some : (b c : Bool) (k : ℕ) (e : Entry) (m : List (ℕ × Option Entry)) (fs : List Entry) → gather b m ≡ filter (picks b) fs → gather b (cond c ((k, Some e) ∷ m) m) ≡ filter (picks b) (cond c (e ∷ fs) fs)
pick_some b true k e m fs h = ap (with_one (picked_one b (Some e))) h ∙ with_cond (picks b e) e (filter (picks b) fs)
pick_some b false k e m fs h = h

pick_none : (b c : Bool) (k : ℕ) (m : List (ℕ × Option Entry)) → gather b (cond c ((k, None) ∷ m) m) ≡ gather b m
pick_none b true k m = refl
pick_none b false k m = refl

pick_step : (b : Bool) (p : ℕ → Bool) (k : ℕ) (o : Option Entry) (m : List (ℕ × Option Entry)) (n : List (ℕ × Entry)) → UnderOne k o → gather b m ≡ filter (picks b) (filter (λ e. p e.number) (values n))
    → gather b (cond (p k) ((k, o) ∷ m) m) ≡ filter (picks b) (filter (λ e. p e.number) (values (filled_one k o n)))
pick_step b p k None m n h i = pick_none b (p k) k m ∙ i
pick_step b p k (Some e) m n h i = ap (λ x. gather b (cond (p x) ((k, Some e) ∷ m) m)) (sym h) ∙ pick_some b (p e.number) k e m (filter (λ f. p f.number) (values n)) i

picks_all : (b : Bool) (p : ℕ → Bool) (m : List (ℕ × Option Entry)) → UnderAll m → gather b (filter (λ s. p s.0) m) ≡ filter (picks b) (filter (λ e. p e.number) (values (filled m)))
unfolding filled
picks_all b p [] u = refl
picks_all b p (s ∷ m) u = pick_step b p s.0 s.1 (filter (λ s. p s.0) m) (filled m) u.0 (picks_all b p m u.1)

alike : {A : Type 0} (p q : A → Bool) (m : List A) → ((x : A) → p x ≡ q x) → filter p m ≡ filter q m
alike p q [] h = refl
alike p q (x ∷ m) h = rw (h x, alike p q m h) refl

every : (es : List Entry) → filter (λ e. true) es ≡ es
every [] = refl
every (e ∷ es) = ap (λ r. e ∷ r) (every es)

picked_is : (b : Bool) (m : List (ℕ × Entry)) (from last : ℕ) → filter (picks b) (filter (λ e. nat_le from e.number && nat_le e.number last) (values m)) ≡ picked b m from last
picked_is true m from last = every _
picked_is false m from last = refl

bounds : (from last k : ℕ) → range_contains nat_cmp (Included from) (Included last) k ≡ nat_le from k && nat_le k last
bounds from last k = grind (arith, nat_tests)

-- a walk over the offsets from one number to another picks what is said
pub gather_is : (b : Bool) (m r : List (ℕ × Option Entry)) (from last : ℕ) → Ordered m → AreUnderTheirNumbers m → r ≡ filter (λ s. range_contains nat_cmp (Included from) (Included last) s.0) m → gather b r ≡ picked b (filled m) from last
gather_is b m r from last h u e = ap (gather b) (e ∙ alike _ (λ s. nat_le from s.0 && nat_le s.0 last) m (λ s. bounds from last s.0))
    ∙ (picks_all b (λ k. nat_le from k && nat_le k last) m (under_all m m h u (found m h)) ∙ picked_is b (filled m) from last)

pub ranged : (b : Bool) (m s r i : List (ℕ × Option Entry)) (from last x y : ℕ) → i ≡ r → r ≡ entries_between nat_cmp (Included x) (Included y) m → x ≡ from → y ≡ last → m ≡ s → Ordered m → AreUnderTheirNumbers m → picked b (filled s) from last ≡ gather b i
ranged b m s r i from last x y j e f g v h u = sym (ap (gather b) j ∙ (gather_is b m r x y h u e ∙ (ap (λ n. picked b (filled n) x y) v ∙ (ap (λ k. picked b (filled s) k y) f ∙ ap (picked b (filled s) from) g))))

-- ---- a page of what is picked ----

take_front : (xs ys : List Entry) → take (length xs) (xs ++ ys) ≡ xs
take_front [] ys = refl
take_front (x ∷ xs) ys = ap (λ r. x ∷ r) (take_front xs ys)

take_short : (n : ℕ) (xs : List Entry) → length xs ≤ n → take n xs ≡ xs
take_short n xs h = grind (arith, common_steps)

-- a full page, where more follow
pub full_page : (all xs ys : List Entry) (e : Entry) → all ≡ xs ++ e ∷ ys → length xs ≡ 64 → xs ≡ take page_limit all
full_page all xs ys e h n = sym (ap (take 64) h ∙ (ap (λ k. take k (xs ++ e ∷ ys)) (sym n) ∙ take_front xs (e ∷ ys)))

more : (xs ys : List Entry) (e : Entry) → length xs ≡ 64 → nat_lt page_limit (length (xs ++ e ∷ ys)) ≡ true
more xs ys e n = grind (arith, common_steps, nat_tests)

pub full_upto : (all xs ys : List Entry) (e : Entry) (last : ℕ) → all ≡ xs ++ e ∷ ys → length xs ≡ 64 → last_number xs ≡ page_upto all last
full_upto all xs ys e last h n = ap last_number (full_page all xs ys e h n) ∙ sym (ap (λ b. cond b (last_number (take page_limit all)) last) (ap (λ r. nat_lt page_limit (length r)) h ∙ more xs ys e n))

pub short_page : (all xs : List Entry) → all ≡ xs → length xs ≤ 64 → xs ≡ take page_limit all
short_page all xs h n = sym (ap (take 64) h ∙ take_short 64 xs n)

no_more : (xs : List Entry) → length xs ≤ 64 → nat_lt page_limit (length xs) ≡ false
no_more xs n = grind (arith, nat_tests)

pub short_upto : (all xs : List Entry) (last : ℕ) → all ≡ xs → length xs ≤ 64 → last ≡ page_upto all last
short_upto all xs last h n = sym (ap (λ b. cond b (last_number (take page_limit all)) last) (ap (λ r. nat_lt page_limit (length r)) h ∙ no_more xs n))

-- nothing lies between bounds that cross
crossed : (from last : ℕ) (es : List Entry) → last < from → filter (λ e. nat_le from e.number && nat_le e.number last) es ≡ []
crossed from last [] h = refl
crossed from last (e ∷ es) h = let b : nat_le from e.number && nat_le e.number last ≡ false = grind (arith, nat_tests) in rw (b, crossed from last es h) refl

pub picked-crossed : (b : Bool) (m : List (ℕ × Entry)) (from last : ℕ) → last < from → picked b m from last ≡ []
picked-crossed true m from last h = crossed from last (values m) h
picked-crossed false m from last h = ap (filter (λ e. not (is_bridge e.what))) (crossed from last (values m) h)

-- ---- the last number ----

pub last_number_is : (es : List Entry) (d : Entry) → 0 < length es → last_number es ≡ (get_or es (length es - 1) d).number
last_number_is [] d h = absurd (omega arith)
last_number_is (e ∷ []) d h = refl
last_number_is (e ∷ f ∷ es) d h = let a : suc (length es) - 1 ≡ length es = omega arith in let b : suc (suc (length es)) - 1 ≡ suc (length es) = omega arith in
    last_number_is (f ∷ es) d (omega arith) ∙ (ap (λ k. (get_or (f ∷ es) k d).number) a ∙ sym (ap (λ k. (get_or (e ∷ f ∷ es) k d).number) b))

pub picked-none : (b : Bool) (from last : ℕ) → picked b [] from last ≡ []
picked-none true from last = refl
picked-none false from last = refl

pub ruleset picked_rules = (picked-none)
