-- The greatest offset of a digest at which a record, a hole or a plug stands.
use Rattle.std.proofs.Common.{◌≡◌, ◌⊎◌, ℕ, ◌<◌, ◌≤◌, max, List, [], ◌∷◌, Option, Some, None, Bool, true, false, not, refl, ap, sym, ◌∙◌, subst, arith, nat_lt, inl, inr}
use Rattle.std.specs.Prelude.{◌&&◌, if◌then◌else◌}
use Rattle.std.proofs.lemmas.Bool.{cases_Bool, cases_lt}
use Rattle.ld_lsn.specs.Number.{esn_of, last_esn}
use Rattle.ld_msg.specs.declared.msg.Entry.{Entry}
use Rattle.ld_msg.specs.Digest.{Told, best, statement, says, better, is_bridge, is_content, top_in, top_place}
use Rattle.ld_digest.specs.Gathering.{AreInPlace, IsInPlace}
use Rattle.ld_plan.proofs.Deciding.{IsTop, content_own}

either : (a b : Option Entry) (e : Entry) → better a b ≡ Some e → (a ≡ Some e) ⊎ (b ≡ Some e)
either None b e h = inr h
either (Some x) None e h = inl h
either (Some x) (Some y) e h = elim (cases_Bool (nat_lt x.ballot y.ballot)) [
  | inl less ↦ inr (sym (ap (λ t. if t then Some y else Some x) less) ∙ h)
  | inr more ↦ inl (sym (ap (λ t. if t then Some y else Some x) more) ∙ h)
]

second : (a b : Bool) → (a && b) ≡ true → b ≡ true
second true b h = h
second false b h = absurd cc

module _ (full : List Told) where
  in_step : (x : Entry) (es : List Entry) → top_in full es ≤ top_in full (x ∷ es)
  in_step x es = elim (cases_Bool (not (is_bridge x.what) && is_content (best x.number full))) [
    | inl h ↦ omega (arith, ap (λ t. if t then max (esn_of x.number) (top_in full es) else top_in full es) h)
    | inr h ↦ omega (arith, ap (λ t. if t then max (esn_of x.number) (top_in full es) else top_in full es) h)
  ]

  in_here : (x : Entry) (es : List Entry) → is_bridge x.what ≡ false → is_content (best x.number full) ≡ true → esn_of x.number ≤ top_in full (x ∷ es)
  in_here x es h k =
      let both : (not (is_bridge x.what) && is_content (best x.number full)) ≡ true = ap (λ b. not b && is_content (best x.number full)) h ∙ k in
      omega (arith, ap (λ t. if t then max (esn_of x.number) (top_in full es) else top_in full es) both)

  in_bounds : (s : ℕ) (es : List Entry) (e : Entry) → statement s es ≡ Some e → is_content (Some e) ≡ true → is_content (best s full) ≡ true → esn_of s ≤ top_in full es
  unfolding statement
  in_bounds s [] e h c k = absurd cc
  in_bounds s (x ∷ es) e h c k = elim (either (statement s es) (says s x) e h) [
    | inl later ↦ omega (arith, in_bounds s es e later c k, in_step x es)
    | inr here ↦
        let own = content_own s x (ap is_content here ∙ c) in
        omega (arith, in_here x es own.1 (ap (λ n. is_content (best n full)) (sym own.0) ∙ k), ap esn_of own.0)
  ]

  bounds : (s : ℕ) (d : List Told) (e : Entry) → best s d ≡ Some e → is_content (Some e) ≡ true → is_content (best s full) ≡ true → esn_of s ≤ top_place full d
  unfolding best top_place
  bounds s [] e h c k = absurd cc
  bounds s (t ∷ d) e h c k = elim (either (statement s t.entries) (best s d) e h) [
    | inl here ↦ omega (arith, in_bounds s t.entries e here c k)
    | inr later ↦ omega (arith, bounds s d e later c k)
  ]

  abbrev Reached : ℕ → Type 0
  Reached top = (top ≡ 0) ⊎ ((s : ℕ) × (esn_of s ≡ top) × (is_content (best s full) ≡ true))

  of_max : (a b : ℕ) → Reached a → Reached b → Reached (max a b)
  of_max a b h k = elim (cases_lt a b) [
    | inl less ↦ let m : b ≡ max a b = omega arith in subst Reached m k
    | inr more ↦ let m : a ≡ max a b = omega arith in subst Reached m h
  ]

  in_reached : (es : List Entry) → Reached (top_in full es)
  in_reached [] = inl refl
  in_reached (x ∷ es) = elim (cases_Bool (not (is_bridge x.what) && is_content (best x.number full))) [
    | inl h ↦
        let k : is_content (best x.number full) ≡ true = second (not (is_bridge x.what)) (is_content (best x.number full)) h in
        subst Reached (sym (ap (λ t. if t then max (esn_of x.number) (top_in full es) else top_in full es) h)) (of_max (esn_of x.number) (top_in full es) (inr (x.number, refl, k)) (in_reached es))
    | inr h ↦ subst Reached (sym (ap (λ t. if t then max (esn_of x.number) (top_in full es) else top_in full es) h)) (in_reached es)
  ]

  reached : (d : List Told) → Reached (top_place full d)
  unfolding top_place
  reached [] = inl refl
  reached (t ∷ d) = of_max (top_in full t.entries) (top_place full d) (in_reached t.entries) (reached d)

some_content : (o : Option Entry) → is_content o ≡ true → (e : Entry) × (o ≡ Some e)
some_content None h = absurd cc
some_content (Some e) h = (e, refl)

pub top_of : (d : List Told) → IsTop (λ s. best s d) (top_place d d)
top_of d = record {
  bounds = λ s h. let x = some_content (best s d) h in bounds d s d x.0 x.1 (ap is_content (sym x.1) ∙ h) h;
  reached = reached d d;
}

-- ---- a place below the last one ----

in_place : (s : ℕ) (es : List Entry) (e : Entry) → AreInPlace es → statement s es ≡ Some e → is_content (Some e) ≡ true → esn_of s < last_esn
unfolding statement
in_place s [] e p h c = absurd cc
in_place s (x ∷ es) e p h c = elim (either (statement s es) (says s x) e h) [
  | inl later ↦ in_place s es e p.1 later c
  | inr here ↦
      let own = content_own s x (ap is_content here ∙ c) in
      omega (arith, p.0 own.1, ap esn_of own.0)
]

best_in_place : (s : ℕ) (d : List Told) (e : Entry) → IsInPlace d → best s d ≡ Some e → is_content (Some e) ≡ true → esn_of s < last_esn
unfolding best
best_in_place s [] e p h c = absurd cc
best_in_place s (t ∷ d) e p h c = elim (either (statement s t.entries) (best s d) e h) [
  | inl here ↦ in_place s t.entries e p.0.0 here c
  | inr later ↦ best_in_place s d e p.1 later c
]

pub top_below : (d : List Told) → IsInPlace d → top_place d d < last_esn
top_below d p = elim (top_of d).reached [
  | inl z ↦ omega arith
  | inr w ↦ let x = some_content (best w.0 d) w.2 in omega (arith, best_in_place w.0 d x.0 p x.1 (ap is_content (sym x.1) ∙ w.2), w.1)
]
