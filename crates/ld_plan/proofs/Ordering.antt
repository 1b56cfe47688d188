-- Claims that are sorted by their ballots.
use Rattle.std.proofs.Common.{◌≡◌, ℕ, suc, ◌<◌, ◌≤◌, List, [], ◌∷◌, length, get_or, Some, None, Bool, false, not, refl, ap, sym, ◌∙◌, arith, cond, is_lt, nat_cmp, Less, Equal, Greater, inl, inr}
use Rattle.std.specs.Prelude.{◌==◌, ◌&&◌}
use Rattle.std.specs.List.{filter}
use Rattle.std.specs.List.Sorted.{IsNonDecreasingBy, IsStableByKey, ties}
use Rattle.std.specs.Cmp.{nat_cmp_is}
use Rattle.std.proofs.lemmas.Bool.{cases_lt, eq-eqb, ne_eqb}
use Rattle.ld_table.specs.Words.{or_else}
use Rattle.ld_msg.specs.declared.msg.What.TheVariants.{Hole}
use Rattle.ld_msg.specs.declared.msg.Entry.{Entry}
use Rattle.ld_msg.specs.Digest.{Told, best, says, content, is_content}
use Rattle.ld_plan.specs.Claims.{claims_of, last_for, decided_by, nothing_decided, claimed}
use Rattle.ld_plan.specs.Decision.{IsDecision}
use Rattle.ld_plan.proofs.Choosing.{best_is, same_statement, of_ballot, Rise, last_is, said}
use Rattle.ld_plan.proofs.Deciding.{decides, top_is, one_top}
use Rattle.ld_plan.proofs.Tops.{top_of}

-- ---- a list in order ----

some_place : (s : ℕ) (es : List Entry) (f : Entry) → last_for s es ≡ Some f → (j : ℕ) × (j < length es) × (get_or es j f ≡ f)
unfolding last_for
some_place s [] f h = absurd cc
some_place s (e ∷ es) f h = elim (last_for s es) as (λ o. last_for s es ≡ o → or_else o (says s e) ≡ Some f → (j : ℕ) × (j < suc (length es)) × (get_or (e ∷ es) j f ≡ f)) [
  | Some g ↦ λ k l. let same : g ≡ f = cc in let r = some_place s es f (k ∙ l) in (suc r.0, omega (arith, r.1), r.2)
  | None ↦ λ k l. (0, omega arith, said s e f l)
] refl h

pub rise_of : (es : List Entry) → IsNonDecreasingBy (λ (e : Entry). e.ballot) es → Rise es
rise_of [] h = tt
rise_of (e ∷ es) h = (
  λ f s k. let r = some_place s es f k in
      let le : e.ballot ≤ (get_or es r.0 f).ballot = h 0 (suc r.0) f (omega arith) (omega (arith, r.1)) in
      omega (arith, le, ap (λ (v : Entry). v.ballot) r.2),
  rise_of es (λ i j d le lt. h (suc i) (suc j) d (omega arith) (omega arith)),
)

-- ---- claims of one ballot ----

same_filter : (p q : Entry → Bool) (es : List Entry) → ((e : Entry) → p e ≡ q e) → filter p es ≡ filter q es
same_filter p q [] h = refl
same_filter p q (e ∷ es) h = ap (λ t. cond t (e ∷ filter p es) (filter p es)) (h e) ∙ ap (λ r. cond (q e) (e ∷ r) r) (same_filter p q es h)

tied : (b c : ℕ) → (not (is_lt (nat_cmp b c)) && not (is_lt (nat_cmp c b))) ≡ (c == b)
tied b c = elim (cases_lt b c) [
  | inl less ↦ ap (λ r. not (is_lt r) && not (is_lt (nat_cmp c b))) (sym (nat_cmp_is b c Less less)) ∙ sym (ne_eqb c b (λ e. omega arith))
  | inr more ↦ elim (cases_lt c b) [
    | inl less ↦ ap (λ r. not (is_lt (nat_cmp b c)) && not (is_lt r)) (sym (nat_cmp_is c b Less less)) ∙ (ap (λ r. not (is_lt r) && false) (sym (nat_cmp_is b c Greater less)) ∙ sym (ne_eqb c b (λ e. omega arith)))
    | inr same ↦
        let e : b ≡ c = omega arith in
        ap (λ r. not (is_lt r) && not (is_lt (nat_cmp c b))) (sym (nat_cmp_is b c Equal e)) ∙ (ap (λ r. not (is_lt r)) (sym (nat_cmp_is c b Equal (sym e))) ∙ sym (eq-eqb c b (sym e)))
  ]
]

pub same_classes : (xs ys : List Entry) → IsStableByKey (λ (e : Entry). e.ballot) nat_cmp xs ys → (b : ℕ) → of_ballot b xs ≡ of_ballot b ys
same_classes xs ys h b =
    let x : Entry = record { number = 0; ballot = b; what = Hole } in
    let p : Entry → Bool = ties (λ (e f : Entry). is_lt (nat_cmp e.ballot f.ballot)) x in
    sym (same_filter p (λ e. e.ballot == b) xs (λ e. tied b e.ballot)) ∙ (sym (h x) ∙ same_filter p (λ e. e.ballot == b) ys (λ e. tied b e.ballot))

-- ---- the decision ----

pub decision : (d : List Told) (sorted : List Entry) → IsNonDecreasingBy (λ (e : Entry). e.ballot) sorted → IsStableByKey (λ (e : Entry). e.ballot) nat_cmp (claims_of d) sorted → IsDecision d (decided_by sorted)
decision d sorted rise stable =
    let best_last : (s : ℕ) → last_for s sorted ≡ best s d = (λ s. sym (last_is s sorted (rise_of sorted rise)) ∙ (sym (same_statement s (claims_of d) sorted (same_classes (claims_of d) sorted stable)) ∙ sym (best_is s d))) in
    let of_sorted = top_is sorted in
    record {
      content = λ loss s. (decides sorted).content loss s ∙ ap (content loss) (best_last s);
      top = one_top (λ s. best s d) (decided_by sorted).top _
          (record { bounds = λ s h. of_sorted.bounds s (ap is_content (best_last s) ∙ h); reached = elim of_sorted.reached [ inl z ↦ inl z | inr w ↦ inr (w.0, w.1, ap is_content (sym (best_last w.0)) ∙ w.2) ] })
          (top_of d);
    }

pub decided_none : nothing_decided ≡ decided_by []
unfolding decided_by
decided_none = refl

pub decided_more : (e : Entry) (es : List Entry) → claimed e (decided_by es) ≡ decided_by (e ∷ es)
unfolding decided_by
decided_more e es = refl

pub empty_of : (es : List Entry) → length es ≡ 0 → es ≡ []
empty_of [] h = refl
empty_of (e ∷ es) h = absurd (omega arith)
