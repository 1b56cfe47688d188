-- The least free offset is free, and the least.
use Rattle.std.proofs.Common.{◌≡◌, ◌≤◌, ◌<◌, ◌⊎◌, inl, inr, ⊎_elim, ℕ, ◌+◌, max, Bool, true, false, nat_le, if◌then◌else◌, List, [], ◌∷◌, length, drop, get_or, refl, ap, ◌∙◌, arith}
use Rattle.std.proofs.lemmas.Bool.{leb-true, leb-false}
use Rattle.std.proofs.lemmas.Bool.Decides.{nat_tests}
use Rattle.std.proofs.lemmas.List.{drop_more, drop_all}
use Rattle.ld_layout.specs.Areas.{end_of, IsFree, RiseFrom, least_place}

-- what ends before areas that rise overlaps none of them
pub free_before : (size at from : ℕ) (areas : List (ℕ × ℕ)) → at + size ≤ from → RiseFrom from areas → IsFree size at areas
free_before size at from [] ends rise = tt
free_before size at from (a ∷ areas) ends rise = (inl (omega (arith, ends, rise.0)), free_before size at a.0 areas (omega (arith, ends, rise.0)) rise.1)

-- one area more
abbrev step : ℕ → ℕ → ℕ × ℕ → List (ℕ × ℕ) → Bool → ℕ
step size at a areas b = if b then at else least_place size (max at (end_of a)) areas

no_less_by : (size at : ℕ) (a : ℕ × ℕ) (areas : List (ℕ × ℕ)) (b : Bool) → max at (end_of a) ≤ least_place size (max at (end_of a)) areas → at ≤ step size at a areas b
no_less_by size at a areas true later = omega arith
no_less_by size at a areas false later = omega (arith, later)

pub no_less : (size at : ℕ) (areas : List (ℕ × ℕ)) → at ≤ least_place size at areas
no_less size at [] = omega arith
no_less size at (a ∷ areas) = no_less_by size at a areas (nat_le (at + size) a.0) (no_less size (max at (end_of a)) areas)

is_free_by : (size at : ℕ) (a : ℕ × ℕ) (areas : List (ℕ × ℕ)) (b : Bool) → RiseFrom a.0 areas → nat_le (at + size) a.0 ≡ b → IsFree size (least_place size (max at (end_of a)) areas) areas → IsFree size (step size at a areas b) (a ∷ areas)
is_free_by size at a areas true rise fits later = let ends = leb-true (at + size) a.0 fits in (inl ends, free_before size at a.0 areas ends rise)
is_free_by size at a areas false rise not later = (inr (omega (arith, no_less size (max at (end_of a)) areas)), later)

pub is_free : (size at from : ℕ) (areas : List (ℕ × ℕ)) → RiseFrom from areas → IsFree size (least_place size at areas) areas
is_free size at from [] rise = tt
is_free size at from (a ∷ areas) rise = is_free_by size at a areas (nat_le (at + size) a.0) rise.1 refl (is_free size (max at (end_of a)) a.0 areas rise.1)

is_least_by : (size at place : ℕ) (a : ℕ × ℕ) (areas : List (ℕ × ℕ)) (b : Bool) → at ≤ place → nat_le (at + size) a.0 ≡ b → (place + size ≤ a.0) ⊎ (end_of a ≤ place)
    → (max at (end_of a) ≤ place → least_place size (max at (end_of a)) areas ≤ place) → step size at a areas b ≤ place
is_least_by size at place a areas true from fits apart later = from
is_least_by size at place a areas false from not apart later =
    let above = leb-false (at + size) a.0 not in
    let past : end_of a ≤ place = ⊎_elim (λ before. absurd (omega (arith, before, above, from))) (λ behind. behind) apart in
    later (omega (arith, from, past))

pub is_least : (size at place : ℕ) (areas : List (ℕ × ℕ)) → at ≤ place → IsFree size place areas → least_place size at areas ≤ place
is_least size at place [] from free = from
is_least size at place (a ∷ areas) from free = is_least_by size at place a areas (nat_le (at + size) a.0) from refl free.0 (λ le. is_least size (max at (end_of a)) place areas le free.1)

-- the walk at an area
goes_past : (at size place : ℕ) → place < at + size → nat_le (at + size) place ≡ false
goes_past at size place past = grind (arith, nat_tests)

stops_at : (at size place : ℕ) → at + size ≤ place → nat_le (at + size) place ≡ true
stops_at at size place fits = grind (arith, nat_tests)

pub walks_on : (size at k : ℕ) (areas : List (ℕ × ℕ)) → k < length areas → (get_or areas k (0, 0)).0 < at + size
    → least_place size at (drop k areas) ≡ least_place size (max at (end_of (get_or areas k (0, 0)))) (drop (k + 1) areas)
walks_on size at k areas within past =
    ap (λ l. least_place size at l) (drop_more areas k (0, 0) within) ∙ ap (λ b. step size at (get_or areas k (0, 0)) (drop (k + 1) areas) b) (goes_past at size (get_or areas k (0, 0)).0 past)

pub walk_stops : (size at k : ℕ) (areas : List (ℕ × ℕ)) → k < length areas → at + size ≤ (get_or areas k (0, 0)).0 → least_place size at (drop k areas) ≡ at
walk_stops size at k areas within fits =
    ap (λ l. least_place size at l) (drop_more areas k (0, 0) within) ∙ ap (λ b. step size at (get_or areas k (0, 0)) (drop (k + 1) areas) b) (stops_at at size (get_or areas k (0, 0)).0 fits)

pub walk_ends : (size at k : ℕ) (areas : List (ℕ × ℕ)) → length areas ≤ k → least_place size at (drop k areas) ≡ at
walk_ends size at k areas all = ap (λ l. least_place size at l) (drop_all k areas all)
