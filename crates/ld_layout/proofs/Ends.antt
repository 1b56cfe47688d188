-- Areas that end at an offset or before it.
use Rattle.std.proofs.Common.{◌≡◌, ◌≤◌, ◌<◌, ◌+◌, ◌&&◌, ℕ, Bool, true, false, cond, List, [], ◌∷◌, Some, nat_le, nat_cmp, refl, ap, sym, ◌∙◌, arith}
use Rattle.std.proofs.lemmas.Bool.{and_parts}
use Rattle.std.proofs.lemmas.Bool.Decides.{nat_tests}
use Rattle.std.specs.BTreeMap.{is_at}
use Rattle.std.specs.List.{AllByRecursion}
use Rattle.ld_table.specs.Table.{find, Ordered}
use Rattle.ld_table.specs.Words.{all_of}
use Rattle.ld_table.proofs.Laws.{same_key}
use Rattle.ld_table.proofs.Order.{found}
use Rattle.ld_layout.specs.Areas.{end_of}

module _ (end : ℕ) where
  abbrev pub all_end : List (ℕ × ℕ) → Bool
  all_end areas = all_of (λ a. nat_le (end_of a) end) areas

  -- ---- a walk over areas ----

  -- one ends past it: not all are within
  pub ends_here : (s : ℕ × ℕ) (before after all : List (ℕ × ℕ)) → before ≡ s ∷ after → nat_le (end_of s) end ≡ false → all_end before ≡ all_end all → all_end all ≡ false
  ends_here s before after all b o h = sym h ∙ (ap all_end b ∙ ap (λ x. x && all_end after) o)

  pub all_walked : (before all : List (ℕ × ℕ)) → before ≡ [] → all_end before ≡ all_end all → all_end all ≡ true
  all_walked before all b h = sym h ∙ ap all_end b

  -- ---- what they tell ----

  one_within : (e : ℕ × ℕ) (areas : List (ℕ × ℕ)) (k v : ℕ) (b : Bool) → is_at (nat_cmp k) e.0 ≡ b → nat_le (end_of e) end ≡ true → (find k areas ≡ Some v → k + v ≤ end) → cond b (Some e.1) (find k areas) ≡ Some v → k + v ≤ end
  one_within e areas k v true t ends rest f =
      let here : e.1 ≡ v = cc f in
      let last : end_of e ≤ end = grind (arith, nat_tests) in
      omega (arith, same_key k e.0 t, here, last)
  one_within e areas k v false t ends rest f = rest f

  pub each_within : (areas : List (ℕ × ℕ)) → all_end areas ≡ true → (k v : ℕ) → find k areas ≡ Some v → k + v ≤ end
  unfolding find
  each_within [] ends k v f = absurd (cc f)
  each_within (e ∷ areas) ends k v f = let parts = and_parts (nat_le (end_of e) end) (all_end areas) ends in one_within e areas k v (is_at (nat_cmp k) e.0) refl parts.0 (each_within areas parts.1 k v) f

  abbrev HasPast : List (ℕ × ℕ) → Type 0
  HasPast areas = (k : ℕ) × (v : ℕ) × (find k areas ≡ Some v) × (end < k + v)

  one_past : (e : ℕ × ℕ) (areas es : List (ℕ × ℕ)) (b : Bool) → nat_le (end_of e) end ≡ b → find e.0 areas ≡ Some e.1 → (all_end es ≡ false → HasPast areas) → (b && all_end es) ≡ false → HasPast areas
  one_past e areas es true t f rest ends = rest ends
  one_past e areas es false t f rest ends = (e.0, e.1, f, grind (arith, nat_tests))

  among : (areas es : List (ℕ × ℕ)) → AllByRecursion (λ e. find e.0 areas ≡ Some e.1) es → all_end es ≡ false → HasPast areas
  among areas [] there ends = absurd (cc ends)
  among areas (e ∷ es) there ends = one_past e areas es (nat_le (end_of e) end) refl there.0 (among areas es there.1) ends

  pub one_is_past : (areas : List (ℕ × ℕ)) → Ordered areas → all_end areas ≡ false → HasPast areas
  one_is_past areas ordered ends = among areas areas (found areas ordered) ends
