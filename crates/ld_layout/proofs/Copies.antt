-- Areas that are taken over in their order.
use Rattle.std.proofs.Common.{◌≡◌, ◌<◌, ◌+◌, ℕ, Bool, true, false, cond, List, [], ◌∷◌, ◌++◌, refl, ap, sym, ◌∙◌, subst, append_assoc, max, nat_le, nat_cmp, Less, Greater, arith}
use Rattle.std.proofs.lemmas.Bool.Decides.{nat_tests}
use Rattle.std.proofs.lemmas.List.{append-nil}
use Rattle.std.specs.List.{filter, AllByRecursion}
use Rattle.std.specs.List.Sorted.{IsStrictlySortedBy}
use Rattle.std.specs.Ordering.{match_ordering}
use Rattle.std.specs.BTreeMap.{insert_entry}
use Rattle.std.specs.Map as map
use Rattle.ld_table.specs.Table.{put, Ordered}
use Rattle.ld_layout.specs.Areas.{end_of, least_place}
use Rattle.ld_layout.specs.Base.{areas_based}

greater : (x y : ℕ) → nat_cmp x y ≡ Less → nat_cmp y x ≡ Greater
greater x y h = let l : x < y = grind (arith, nat_tests) in grind (arith, nat_tests)

module _ {X : Type 0} where
  in_middle : (P : ℕ → Type 0) (m : List (ℕ × X)) (s : ℕ × X) (n : List (ℕ × X)) → AllByRecursion P (map.keys_of (m ++ s ∷ n)) → P s.0
  in_middle P [] s n a = a.0
  in_middle P (e ∷ m) s n a = in_middle P m s n a.1

  without : (P : ℕ → Type 0) (m : List (ℕ × X)) (s : ℕ × X) (n : List (ℕ × X)) → AllByRecursion P (map.keys_of (m ++ s ∷ n)) → AllByRecursion P (map.keys_of (m ++ n))
  without P [] s n a = a.1
  without P (e ∷ m) s n a = (a.0, without P m s n a.1)

  -- an item that stands behind all others comes last
  put_in_order : (m : List (ℕ × X)) (s : ℕ × X) (n : List (ℕ × X)) → Ordered (m ++ s ∷ n) → put s.0 s.1 m ≡ m ++ s ∷ []
  unfolding put IsStrictlySortedBy
  put_in_order [] s n o = refl
  put_in_order (e ∷ m) s n o = ap (λ r. match_ordering r (s ∷ e ∷ m) ((e.0, s.1) ∷ m) (e ∷ insert_entry nat_cmp m s.0 s.1)) (greater e.0 s.0 (in_middle (λ y. nat_cmp e.0 y ≡ Less) m s n o.0))
      ∙ ap (λ r. e ∷ r) (put_in_order m s n o.1)

  ordered_without : (m : List (ℕ × X)) (s : ℕ × X) (n : List (ℕ × X)) → Ordered (m ++ s ∷ n) → Ordered (m ++ n)
  unfolding IsStrictlySortedBy
  ordered_without [] s n o = o.1
  ordered_without (e ∷ m) s n o = (without (λ y. nat_cmp e.0 y ≡ Less) m s n o.0, ordered_without m s n o.1)

  joined : (m n : List (ℕ × X)) (s : ℕ × X) → (m ++ s ∷ []) ++ n ≡ m ++ s ∷ n
  joined m n s = append_assoc m (s ∷ []) n

  -- one item more is taken over
  pub copy_on : (acc before after all new : List (ℕ × X)) (s : ℕ × X) → Ordered all → before ≡ s ∷ after → acc ++ before ≡ all → new ≡ put s.0 s.1 acc → new ++ after ≡ all
  copy_on acc before after all new s o b h n =
      let e : acc ++ s ∷ after ≡ all = ap (λ m. acc ++ m) (sym b) ∙ h in
      ap (λ m. m ++ after) (n ∙ put_in_order acc s after (subst (λ m. Ordered m) (sym e) o)) ∙ (joined acc after s ∙ e)

  pub copied : (acc before all : List (ℕ × X)) → before ≡ [] → acc ++ before ≡ all → acc ≡ all
  copied acc before all b h = sym (append-nil acc) ∙ (ap (λ m. acc ++ m) (sym b) ∙ h)

  -- the items that pass so far, and those that are left
  pub record Picking (P : ℕ × X → Bool) (acc before all : List (ℕ × X)) : Type 0 where
    pub picked : acc ++ filter P before ≡ filter P all
    pub ordered : Ordered (acc ++ before)

  pub picking_starts : (P : ℕ × X → Bool) (acc before all : List (ℕ × X)) → acc ≡ [] → before ≡ all → Ordered all → Picking P acc before all
  picking_starts P acc before all a b o = record {
    picked = ap (λ m. m ++ filter P before) a ∙ ap (filter P) b;
    ordered = subst (λ m. Ordered (m ++ before)) (sym a) (subst (λ m. Ordered m) (sym b) o);
  }

  passes : (P : ℕ × X → Bool) (s : ℕ × X) (m : List (ℕ × X)) → P s ≡ true → filter P (s ∷ m) ≡ s ∷ filter P m
  passes P s m h = ap (λ b. cond b (s ∷ filter P m) (filter P m)) h

  fails : (P : ℕ × X → Bool) (s : ℕ × X) (m : List (ℕ × X)) → P s ≡ false → filter P (s ∷ m) ≡ filter P m
  fails P s m h = ap (λ b. cond b (s ∷ filter P m) (filter P m)) h

  pub picking_with : (P : ℕ × X → Bool) (acc before after all new : List (ℕ × X)) (s : ℕ × X) → Picking P acc before all → before ≡ s ∷ after → P s ≡ true → new ≡ put s.0 s.1 acc → Picking P new after all
  picking_with P acc before after all new s r b p n =
      let o : Ordered (acc ++ s ∷ after) = subst (λ m. Ordered (acc ++ m)) b r.ordered in
      let e : new ≡ acc ++ s ∷ [] = n ∙ put_in_order acc s after o in record {
        picked = ap (λ m. m ++ filter P after) e ∙ (joined acc (filter P after) s ∙ (ap (λ m. acc ++ m) (sym (passes P s after p) ∙ ap (filter P) (sym b)) ∙ r.picked));
        ordered = subst (λ m. Ordered (m ++ after)) (sym e) (subst (λ m. Ordered m) (sym (joined acc after s)) o);
      }

  pub picking_without : (P : ℕ × X → Bool) (acc before after all : List (ℕ × X)) (s : ℕ × X) → Picking P acc before all → before ≡ s ∷ after → P s ≡ false → Picking P acc after all
  picking_without P acc before after all s r b p = record {
    picked = ap (λ m. acc ++ m) (sym (fails P s after p) ∙ ap (filter P) (sym b)) ∙ r.picked;
    ordered = ordered_without acc s after (subst (λ m. Ordered (acc ++ m)) b r.ordered);
  }

  pub picking_on : (P : ℕ × X → Bool) (acc before after all new : List (ℕ × X)) (s : ℕ × X) (b : Bool) → b ≡ P s → Picking P acc before all → before ≡ s ∷ after → new ≡ cond b (put s.0 s.1 acc) acc → Picking P new after all
  picking_on P acc before after all new s true e r b n = picking_with P acc before after all new s r b (sym e) n
  picking_on P acc before after all new s false e r b n = subst (λ m. Picking P m after all) (sym n) (picking_without P acc before after all s r b (sym e))

  pub picking_ends : (P : ℕ × X → Bool) (acc before all : List (ℕ × X)) → Picking P acc before all → before ≡ [] → acc ≡ filter P all
  picking_ends P acc before all r b = sym (append-nil acc) ∙ (ap (λ m. acc ++ filter P m) (sym b) ∙ r.picked)

-- ---- the least place ----

pub place_later : (size at : ℕ) (s : ℕ × ℕ) (before after : List (ℕ × ℕ)) → before ≡ s ∷ after → nat_le (at + size) s.0 ≡ false → least_place size at before ≡ least_place size (max at (end_of s)) after
place_later size at s before after b h = ap (least_place size at) b ∙ ap (λ c. cond c at (least_place size (max at (end_of s)) after)) h

-- ---- bytes ----

pub areas_more : (a : ℕ × ℕ) (m : List (ℕ × ℕ)) → areas_based (a ∷ m) ≡ areas_based (a ∷ []) ++ areas_based m
areas_more a m = refl
