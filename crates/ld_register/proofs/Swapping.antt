-- What a swap makes of a set, and of what is fixed for the epochs of a log.
use Rattle.std.proofs.Common.{◌≡◌, ◌≢◌, ◌≤◌, ◌<◌, ◌+◌, ◌-◌, ◌&&◌, inl, inr, ℕ, zero, suc, min, Bool, true, false, not, cond, List, [], ◌∷◌, Option, Some, None, option_map, Less, refl, ap, sym, ◌∙◌, subst, arith, nat_cmp, nat_lt, nat_le, length, set, get_or, if◌then◌else◌}
use Rattle.std.specs.Map as map
use Rattle.std.specs.BTreeMap.{is_at}
use Rattle.std.specs.List.{AllByRecursion}
use Rattle.std.specs.List.Sorted.{IsStrictlySortedBy}
use Rattle.std.proofs.lemmas.Bool.{cases_eq}
use Rattle.std.proofs.lemmas.Bool.Decides.{nat_tests}
use Rattle.std.proofs.lemmas.List.{length-set}
use Rattle.ld_table.specs.Table.{find, keep_keys, Ordered}
use Rattle.ld_table.proofs.Laws.{same_key, put_cases, find-map_values}
use Rattle.ld_table.proofs.Order.{Ordered-put, same_table}
use Rattle.ld_ids.specs.Id.{IsNode}
use Rattle.ld_ids.specs.Set.{members, members_from, has_node, with_node, without_node, IsSet}
use Rattle.ld_ids.specs.declared.set.Spec.{Spec}
use Rattle.ld_msg.specs.Register.{swaps_in, swapped_spec, swapped_specs, swap_count}
use Rattle.ld_register.specs.declared.fixed.Fixed.{Fixed}
use Rattle.ld_register.specs.Bounds.{IsSpec, IsSpecFor}
use Rattle.ld_register.specs.Kept.{is_up_to, fixed_in, swapped_in, swapped_fixed, swapped_up_to, swaps_up_to, swapped_where, swaps_where}

-- ---- sets ----

-- how many flags are up
abbrev ups : List Bool → ℕ
ups [] = 0
ups (b ∷ flags) = if b then suc (ups flags) else ups flags

members_ups : (k : ℕ) (flags : List Bool) → length (members_from k flags) ≡ ups flags
unfolding members_from
members_ups k [] = refl
members_ups k (true ∷ flags) = ap suc (members_ups (k + 1) flags)
members_ups k (false ∷ flags) = members_ups (k + 1) flags

ups_more : (i : ℕ) (flags : List Bool) → i < length flags → get_or flags i false ≡ false → ups (set flags i true) ≡ suc (ups flags)
ups_more i [] h g = absurd (omega arith)
ups_more zero (true ∷ flags) h g = absurd cc
ups_more zero (false ∷ flags) h g = refl
ups_more (suc i) (true ∷ flags) h g = ap suc (ups_more i flags (omega arith) g)
ups_more (suc i) (false ∷ flags) h g = ups_more i flags (omega arith) g

ups_less : (i : ℕ) (flags : List Bool) → get_or flags i false ≡ true → suc (ups (set flags i false)) ≡ ups flags
ups_less i [] g = absurd cc
ups_less zero (true ∷ flags) g = refl
ups_less zero (false ∷ flags) g = absurd cc
ups_less (suc i) (true ∷ flags) g = ap suc (ups_less i flags g)
ups_less (suc i) (false ∷ flags) g = ups_less i flags g

stays_down : (i j : ℕ) (flags : List Bool) → get_or flags j false ≡ false → get_or (set flags i false) j false ≡ false
stays_down i j [] g = refl
stays_down zero zero (b ∷ flags) g = refl
stays_down zero (suc j) (b ∷ flags) g = g
stays_down (suc i) zero (b ∷ flags) g = g
stays_down (suc i) (suc j) (b ∷ flags) g = stays_down i j flags g

-- one node for another one
same_count : (old new : ℕ) (flags : List Bool) → IsNode new → IsSet flags → has_node old flags ≡ true → has_node new flags ≡ false → length (members (with_node new (without_node old flags))) ≡ length (members flags)
same_count old new flags node all there lacks =
    let some : new - 1 < length (without_node old flags) = (let a = node.0 in let b = node.1 in let l = length-set flags (old - 1) false in omega arith) in
    members_ups 1 (with_node new (without_node old flags)) ∙ (ups_more (new - 1) (without_node old flags) some (stays_down (old - 1) (new - 1) flags lacks) ∙ (ups_less (old - 1) flags there ∙ sym (members_ups 1 flags)))

set_is : (old new : ℕ) (flags : List Bool) → IsSet flags → IsSet (with_node new (without_node old flags))
set_is old new flags all = length-set (without_node old flags) (new - 1) true ∙ (length-set flags (old - 1) false ∙ all)

swaps_parts : (a b c : Bool) → (a && (b && not c)) ≡ true → (a ≡ true) × (c ≡ false)
swaps_parts true true false h = (refl, refl)
swaps_parts true true true h = absurd cc
swaps_parts true false c h = absurd cc
swaps_parts false b c h = absurd cc

spec_by : (old new : ℕ) (s : Spec) (b : Bool) → swaps_in old new s.set ≡ b → IsNode new → IsSpec s → IsSpec (record s { set = if b then with_node new (without_node old s.set) else s.set })
spec_by old new s true h node i =
    let p = swaps_parts (has_node old s.set) (nat_lt 0 new && nat_le new (length s.set)) (has_node new s.set) h in record {
      log = i.log;
      set = set_is old new s.set i.set;
      least = i.least;
      most = let c = same_count old new s.set node i.set p.0 p.1 in let m = i.most in omega arith;
      few = i.few;
    }
spec_by old new s false h node i = i

-- what is fixed stays in its bounds
pub swapped_is : (l old new : ℕ) (s : Spec) → IsNode new → IsSpecFor l s → IsSpecFor l (swapped_spec old new s)
swapped_is l old new s node i = record { is = spec_by old new s (swaps_in old new s.set) refl node i.is; log = i.log }

-- a node has a flag in each set
pub in_flags : (new : ℕ) (flags : List Bool) → IsNode new → IsSet flags → (nat_lt 0 new && nat_le new (length flags)) ≡ true
in_flags new flags node all = let a = node.0 in let b = node.1 in grind (arith, nat_tests)

-- ---- tables ----

none_up : (e : ℕ) → is_up_to 0 e ≡ false
none_up e = grind (arith, nat_tests)

pub none_swapped : (old new : ℕ) (m : List (ℕ × Fixed)) → swapped_up_to 0 old new m ≡ m
none_swapped old new [] = refl
none_swapped old new (e ∷ m) = ap (λ b. (e.0, if b then swapped_fixed old new e.1 else e.1) ∷ swapped_up_to 0 old new m) (none_up e.0) ∙ ap (λ l. e ∷ l) (none_swapped old new m)

keys-swapped : (last old new : ℕ) (m : List (ℕ × Fixed)) → map.keys_of (swapped_up_to last old new m) ≡ map.keys_of m
keys-swapped last old new [] = refl
keys-swapped last old new (e ∷ m) = ap (λ ks. e.0 ∷ ks) (keys-swapped last old new m)

Ordered-swapped : (last old new : ℕ) (m : List (ℕ × Fixed)) → Ordered m → Ordered (swapped_up_to last old new m)
Ordered-swapped last old new m o = subst (IsStrictlySortedBy nat_cmp) (sym (keys-swapped last old new m)) o

-- where the value under each key changes by itself
changed_step : {X : Type 0} (f : ℕ → X → X) (q : ℕ) (e : ℕ × X) (b : Bool) (o p : Option X) → is_at (nat_cmp q) e.0 ≡ b → p ≡ option_map (f q) o → cond b (Some (f e.0 e.1)) p ≡ option_map (f q) (cond b (Some e.1) o)
changed_step f q e true o p h ih = ap (λ k. Some (f k e.1)) (sym (same_key q e.0 h))
changed_step f q e false o p h ih = ih

find-swapped : (q last old new : ℕ) (m : List (ℕ × Fixed)) → find q (swapped_up_to last old new m) ≡ option_map (λ x. if is_up_to last q then swapped_fixed old new x else x) (find q m)
unfolding find
find-swapped q last old new [] = refl
find-swapped q last old new (e ∷ m) = changed_step (λ k x. if is_up_to last k then swapped_fixed old new x else x) q e (is_at (nat_cmp q) e.0) (find q m) (find q (swapped_up_to last old new m)) refl (find-swapped q last old new m)

find-specs : (q upto old new : ℕ) (m : List (ℕ × Spec)) → find q (swapped_specs upto old new m) ≡ option_map (λ s. if nat_le q upto then swapped_spec old new s else s) (find q m)
unfolding find
find-specs q upto old new [] = refl
find-specs q upto old new (e ∷ m) = changed_step (λ k s. if nat_le k upto then swapped_spec old new s else s) q e (is_at (nat_cmp q) e.0) (find q m) (find q (swapped_specs upto old new m)) refl (find-specs q upto old new m)

spec_as_is : (old new : ℕ) (b : Bool) (o : Option Spec) → b ≡ false → option_map (λ s. if b then swapped_spec old new s else s) o ≡ o
spec_as_is old new b None h = refl
spec_as_is old new b (Some s) h = ap (λ b. Some (if b then swapped_spec old new s else s)) h

-- what is fixed for an epoch above stays
pub specs_above : (q upto old new : ℕ) (m : List (ℕ × Spec)) → upto < q → find q (swapped_specs upto old new m) ≡ find q m
specs_above q upto old new m h = find-specs q upto old new m ∙ spec_as_is old new (nat_le q upto) (find q m) (grind (arith, nat_tests))

-- an epoch more
not_yet : (k : ℕ) → is_up_to k (k + 1) ≡ false
not_yet k = grind (arith, nat_tests)

now_up : (k : ℕ) → is_up_to (k + 1) (k + 1) ≡ true
now_up k = grind (arith, nat_tests)

same_up : (k q : ℕ) → q ≢ k + 1 → is_up_to k q ≡ is_up_to (k + 1) q
same_up k q n = grind (arith, nat_tests)

as_it_is : (old new : ℕ) (b : Bool) (o : Option Fixed) → b ≡ false → option_map (λ x. if b then swapped_fixed old new x else x) o ≡ o
as_it_is old new b None h = refl
as_it_is old new b (Some x) h = ap (λ b. Some (if b then swapped_fixed old new x else x)) h

none_of : (old new : ℕ) (b : Bool) (o : Option Fixed) → o ≡ None → option_map (λ x. if b then swapped_fixed old new x else x) o ≡ None
none_of old new b o h = ap (option_map (λ x. if b then swapped_fixed old new x else x)) h

other_epoch : (k old new q : ℕ) (m : List (ℕ × Fixed)) → q ≢ k + 1 → find q (swapped_up_to k old new m) ≡ find q (swapped_up_to (k + 1) old new m)
other_epoch k old new q m n = find-swapped q k old new m ∙ (ap (λ b. option_map (λ x. if b then swapped_fixed old new x else x) (find q m)) (same_up k q n) ∙ sym (find-swapped q (k + 1) old new m))

this_epoch : (k old new q : ℕ) (m : List (ℕ × Fixed)) (x : Fixed) → q ≡ k + 1 → find (k + 1) m ≡ Some x → Some (swapped_fixed old new x) ≡ find q (swapped_up_to (k + 1) old new m)
this_epoch k old new q m x e f = sym (ap (λ i. find i (swapped_up_to (k + 1) old new m)) e ∙ (find-swapped (k + 1) (k + 1) old new m
    ∙ (ap (option_map (λ x. if is_up_to (k + 1) (k + 1) then swapped_fixed old new x else x)) f ∙ ap (λ b. Some (if b then swapped_fixed old new x else x)) (now_up k))))

lacking_epoch : (k old new q : ℕ) (m : List (ℕ × Fixed)) → q ≡ k + 1 → find (k + 1) m ≡ None → find q (swapped_up_to k old new m) ≡ find q (swapped_up_to (k + 1) old new m)
lacking_epoch k old new q m e f = let n : find q m ≡ None = ap (λ i. find i m) e ∙ f in
    find-swapped q k old new m ∙ (none_of old new (is_up_to k q) (find q m) n ∙ sym (find-swapped q (k + 1) old new m ∙ none_of old new (is_up_to (k + 1) q) (find q m) n))

more_by : (k old new : ℕ) (m : List (ℕ × Fixed)) (o : Option Fixed) → Ordered m → find (k + 1) m ≡ o → swapped_where (k + 1) old new (swapped_up_to k old new m) o ≡ swapped_up_to (k + 1) old new m
more_by k old new m None h f = same_table _ _ (Ordered-swapped k old new m h) (Ordered-swapped (k + 1) old new m h) (λ q. elim (cases_eq q (k + 1)) [
  | inl e ↦ lacking_epoch k old new q m e f
  | inr n ↦ other_epoch k old new q m n
])
more_by k old new m (Some x) h f = same_table _ _ (Ordered-put (k + 1) (swapped_fixed old new x) _ (Ordered-swapped k old new m h)) (Ordered-swapped (k + 1) old new m h) (λ q. elim (put_cases q (k + 1) (swapped_fixed old new x) (swapped_up_to k old new m)) [
  | inl c ↦ c.1 ∙ this_epoch k old new q m x c.0 f
  | inr c ↦ c.1 ∙ other_epoch k old new q m c.0
])

pub swapped_more : (k e old new : ℕ) (m n : List (ℕ × Fixed)) → e ≡ k + 1 → Ordered m → n ≡ swapped_up_to k old new m → swapped_where e old new n (find e n) ≡ swapped_up_to e old new m
swapped_more k e old new m n is h t =
    subst (λ i. swapped_where i old new n (find i n) ≡ swapped_up_to i old new m) (sym is) (subst (λ n. swapped_where (k + 1) old new n (find (k + 1) n) ≡ swapped_up_to (k + 1) old new m) (sym t)
    (ap (swapped_where (k + 1) old new (swapped_up_to k old new m)) (find-swapped (k + 1) k old new m ∙ as_it_is old new (is_up_to k (k + 1)) (find (k + 1) m) (not_yet k)) ∙ more_by k old new m (find (k + 1) m) h refl))

-- ---- how many ----

add_if : (b : Bool) (n k : ℕ) → n ≡ k → (if b then suc n else n) ≡ (if b then suc k else k)
add_if b n k h = ap (λ n. if b then suc n else n) h

pub none_counted : (old new : ℕ) (m : List (ℕ × Fixed)) → swaps_up_to 0 old new m ≡ 0
none_counted old new [] = refl
none_counted old new (e ∷ m) = ap (λ b. if b && swaps_in old new e.1.swapped.set then suc (swaps_up_to 0 old new m) else swaps_up_to 0 old new m) (none_up e.0) ∙ none_counted old new m

above : (k e : ℕ) → nat_cmp k e ≡ Less → is_up_to k e ≡ false
above k e h = grind (arith, nat_tests)

none_above : (k old new : ℕ) (m : List (ℕ × Fixed)) → AllByRecursion (λ y. nat_cmp k y ≡ Less) (map.keys_of m) → swaps_up_to k old new m ≡ 0
none_above k old new [] h = refl
none_above k old new (e ∷ m) h = ap (λ b. if b && swaps_in old new e.1.swapped.set then suc (swaps_up_to k old new m) else swaps_up_to k old new m) (above k e.0 h.0) ∙ none_above k old new m h.1

later_on : (k : ℕ) (ks : List ℕ) → AllByRecursion (λ y. nat_cmp (k + 1) y ≡ Less) ks → AllByRecursion (λ y. nat_cmp k y ≡ Less) ks
later_on k [] h = tt
later_on k (x ∷ ks) h = (let a = h.0 in grind (arith, nat_tests), later_on k ks h.1)

abbrev pub one_if : Bool → ℕ
one_if b = if b then 1 else 0

at_itself : (k : ℕ) → is_at (nat_cmp k) k ≡ true
at_itself k = grind (arith, nat_tests)

counted_first : (n p : ℕ) (up down b : Bool) → n ≡ 0 → p ≡ 0 → up ≡ true → down ≡ false → (if up && b then suc n else n) ≡ (if down && b then suc p else p) + one_if b
counted_first n p true false true z y u d = omega arith
counted_first n p true false false z y u d = omega arith
counted_first n p true true b z y u d = absurd cc
counted_first n p false down b z y u d = absurd cc

-- the epoch that comes next is the first of the table
this_more : (k old new : ℕ) (e : ℕ × Fixed) (m : List (ℕ × Fixed)) → k + 1 ≡ e.0 → AllByRecursion (λ y. nat_cmp e.0 y ≡ Less) (map.keys_of m)
    → swaps_up_to (k + 1) old new (e ∷ m) ≡ swaps_up_to k old new (e ∷ m) + one_if (swaps_in old new e.1.swapped.set)
this_more k old new e m is h =
    let later : AllByRecursion (λ y. nat_cmp (k + 1) y ≡ Less) (map.keys_of m) = subst (λ i. AllByRecursion (λ y. nat_cmp i y ≡ Less) (map.keys_of m)) (sym is) h in
    let z = none_above (k + 1) old new m later in
    let y = none_above k old new m (later_on k (map.keys_of m) later) in
    let up : is_up_to (k + 1) e.0 ≡ true = subst (λ i. is_up_to (k + 1) i ≡ true) is (now_up k) in
    let down : is_up_to k e.0 ≡ false = subst (λ i. is_up_to k i ≡ false) is (not_yet k) in
    counted_first (swaps_up_to (k + 1) old new m) (swaps_up_to k old new m) (is_up_to (k + 1) e.0) (is_up_to k e.0) (swaps_in old new e.1.swapped.set) z y up down

suc_on : (b : Bool) (n k j : ℕ) → n ≡ k + j → (if b then suc n else n) ≡ (if b then suc k else k) + j
suc_on true n k j h = omega arith
suc_on false n k j h = h

more_if : (k old new : ℕ) (e : ℕ × Fixed) (m : List (ℕ × Fixed)) (o : Option Fixed) (b : Bool) → is_at (nat_cmp (k + 1)) e.0 ≡ b → AllByRecursion (λ y. nat_cmp e.0 y ≡ Less) (map.keys_of m)
    → swaps_up_to (k + 1) old new m ≡ swaps_up_to k old new m + one_if (swaps_where old new o)
    → swaps_up_to (k + 1) old new (e ∷ m) ≡ swaps_up_to k old new (e ∷ m) + one_if (swaps_where old new (cond b (Some e.1) o))
more_if k old new e m o true h later ih = this_more k old new e m (same_key (k + 1) e.0 h) later
more_if k old new e m o false h later ih =
    let apart : e.0 ≢ k + 1 = λ same. absurd (let t : is_at (nat_cmp (k + 1)) e.0 ≡ true = subst (λ i. is_at (nat_cmp (k + 1)) i ≡ true) (sym same) (at_itself (k + 1)) in cc) in
    ap (λ b. if b && swaps_in old new e.1.swapped.set then suc (swaps_up_to (k + 1) old new m) else swaps_up_to (k + 1) old new m) (sym (same_up k e.0 apart))
    ∙ suc_on (is_up_to k e.0 && swaps_in old new e.1.swapped.set) (swaps_up_to (k + 1) old new m) (swaps_up_to k old new m) _ ih

pub one_most : (b : Bool) → one_if b ≤ 1
one_most true = omega arith
one_most false = omega arith

pub count_more : (k old new : ℕ) (m : List (ℕ × Fixed)) → Ordered m → swaps_up_to (k + 1) old new m ≡ swaps_up_to k old new m + one_if (swaps_where old new (find (k + 1) m))
unfolding find IsStrictlySortedBy
count_more k old new [] o = refl
count_more k old new (e ∷ m) o = more_if k old new e m (find (k + 1) m) (is_at (nat_cmp (k + 1)) e.0) refl o.0 (count_more k old new m o.1)

-- an epoch further
pub counted_more : (e n old new : ℕ) (b : Bool) (m : List (ℕ × Fixed)) → 1 ≤ e → Ordered m → n ≡ swaps_up_to (e - 1) old new m → b ≡ swaps_where old new (find e m) → n + one_if b ≡ swaps_up_to ((e + 1) - 1) old new m
counted_more e n old new b m one o h t =
    let is : e ≡ e - 1 + 1 = omega arith in
    let next : e - 1 + 1 ≡ (e + 1) - 1 = omega arith in
    ap (λ k. k + one_if b) h ∙ (ap (λ b. swaps_up_to (e - 1) old new m + one_if b) (t ∙ ap (λ i. swaps_where old new (find i m)) is) ∙ (sym (count_more (e - 1) old new m o) ∙ ap (λ i. swaps_up_to i old new m) next))

-- ---- what is shown ----

pub fixed-swapped : (last old new : ℕ) (m : List (ℕ × Fixed)) → fixed_in (swapped_up_to last old new m) ≡ fixed_in m
fixed-swapped last old new [] = refl
fixed-swapped last old new (e ∷ m) = ap (λ v. (e.0, v) ∷ fixed_in (swapped_up_to last old new m)) (same_fixed (is_up_to last e.0) e.1) ∙ ap (λ l. (e.0, e.1.fixed) ∷ l) (fixed-swapped last old new m)
  where
    same_fixed : (b : Bool) (x : Fixed) → (if b then swapped_fixed old new x else x).fixed ≡ x.fixed
    same_fixed true x = refl
    same_fixed false x = refl

swapped_of : (old new : ℕ) (b : Bool) (x : Fixed) → (if b then swapped_fixed old new x else x).swapped ≡ (if b then swapped_spec old new x.swapped else x.swapped)
swapped_of old new true x = refl
swapped_of old new false x = refl

-- of those that are handed out, up to the last closed one
up_both : (c ep e : ℕ) → is_up_to ep e ≡ true → is_up_to (min c ep) e ≡ nat_le e c
up_both c ep e h = grind (arith, nat_tests)

up_none : (c ep e : ℕ) → is_up_to ep e ≡ false → is_up_to (min c ep) e ≡ false
up_none c ep e h = grind (arith, nat_tests)

shown_if : (c ep old new : ℕ) (e : ℕ × Fixed) (m : List (ℕ × Fixed)) (b : Bool) → is_up_to ep e.0 ≡ b → keep_keys (is_up_to ep) (swapped_in (swapped_up_to (min c ep) old new m)) ≡ swapped_specs c old new (keep_keys (is_up_to ep) (swapped_in m))
    → cond b ((e.0, (if is_up_to (min c ep) e.0 then swapped_fixed old new e.1 else e.1).swapped) ∷ keep_keys (is_up_to ep) (swapped_in (swapped_up_to (min c ep) old new m))) (keep_keys (is_up_to ep) (swapped_in (swapped_up_to (min c ep) old new m)))
    ≡ swapped_specs c old new (cond b ((e.0, e.1.swapped) ∷ keep_keys (is_up_to ep) (swapped_in m)) (keep_keys (is_up_to ep) (swapped_in m)))
shown_if c ep old new e m true h ih = ap (λ v. (e.0, v) ∷ keep_keys (is_up_to ep) (swapped_in (swapped_up_to (min c ep) old new m))) (swapped_of old new (is_up_to (min c ep) e.0) e.1 ∙ ap (λ b. if b then swapped_spec old new e.1.swapped else e.1.swapped) (up_both c ep e.0 h))
    ∙ ap (λ l. (e.0, if nat_le e.0 c then swapped_spec old new e.1.swapped else e.1.swapped) ∷ l) ih
shown_if c ep old new e m false h ih = ih

pub shown-swapped : (c ep old new : ℕ) (m : List (ℕ × Fixed)) → keep_keys (is_up_to ep) (swapped_in (swapped_up_to (min c ep) old new m)) ≡ swapped_specs c old new (keep_keys (is_up_to ep) (swapped_in m))
unfolding keep_keys
shown-swapped c ep old new [] = refl
shown-swapped c ep old new (e ∷ m) = shown_if c ep old new e m (is_up_to ep e.0) refl (shown-swapped c ep old new m)

count_if : (c ep old new : ℕ) (e : ℕ × Fixed) (m : List (ℕ × Fixed)) (b : Bool) → is_up_to ep e.0 ≡ b → swaps_up_to (min c ep) old new m ≡ swap_count c old new (keep_keys (is_up_to ep) (swapped_in m))
    → swaps_up_to (min c ep) old new (e ∷ m) ≡ swap_count c old new (cond b ((e.0, e.1.swapped) ∷ keep_keys (is_up_to ep) (swapped_in m)) (keep_keys (is_up_to ep) (swapped_in m)))
count_if c ep old new e m true h ih = ap (λ b. if b && swaps_in old new e.1.swapped.set then suc (swaps_up_to (min c ep) old new m) else swaps_up_to (min c ep) old new m) (up_both c ep e.0 h)
    ∙ ap (λ n. if nat_le e.0 c && swaps_in old new e.1.swapped.set then suc n else n) ih
count_if c ep old new e m false h ih = ap (λ b. if b && swaps_in old new e.1.swapped.set then suc (swaps_up_to (min c ep) old new m) else swaps_up_to (min c ep) old new m) (up_none c ep e.0 h) ∙ ih

pub shown_count : (c ep old new : ℕ) (m : List (ℕ × Fixed)) → swaps_up_to (min c ep) old new m ≡ swap_count c old new (keep_keys (is_up_to ep) (swapped_in m))
unfolding keep_keys
shown_count c ep old new [] = refl
shown_count c ep old new (e ∷ m) = count_if c ep old new e m (is_up_to ep e.0) refl (shown_count c ep old new m)

-- ---- what is fixed is the log's ----

some_is : {X : Type 0} (y z : X) → Some y ≡ Some z → y ≡ z
some_is y z e = cc

if_swapped : (l old new : ℕ) (b : Bool) (x : Spec) → IsNode new → IsSpecFor l x → IsSpecFor l (if b then swapped_spec old new x else x)
if_swapped l old new true x node i = swapped_is l old new x node i
if_swapped l old new false x node i = i

pub of-swapped : (l last old new : ℕ) (m : List (ℕ × Fixed)) → IsNode new → ((e : ℕ) (s : Spec) → find e (swapped_in m) ≡ Some s → IsSpecFor l s) → (e : ℕ) (s : Spec) → find e (swapped_in (swapped_up_to last old new m)) ≡ Some s → IsSpecFor l s
of-swapped l last old new m node h e s f = by_entry (find e m) refl (sym (ap (option_map (λ x. x.swapped)) (find-swapped e last old new m)) ∙ (sym (find-map_values (λ x. x.swapped) e (swapped_up_to last old new m)) ∙ f))
  where
    by_entry : (o : Option Fixed) → find e m ≡ o → option_map (λ x. x.swapped) (option_map (λ x. if is_up_to last e then swapped_fixed old new x else x) o) ≡ Some s → IsSpecFor l s
    by_entry None g is = absurd cc
    by_entry (Some x) g is =
        let was : IsSpecFor l x.swapped = h e x.swapped (find-map_values (λ x. x.swapped) e m ∙ ap (option_map (λ x. x.swapped)) g) in
        subst (IsSpecFor l) (sym (swapped_of old new (is_up_to last e) x) ∙ some_is _ s is) (if_swapped l old new (is_up_to last e) x.swapped node was)
