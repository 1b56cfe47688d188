-- What a map of summaries keeps beside them after a change.
use Rattle.std.proofs.Common.{◌≡◌, ◌<◌, ◌≤◌, ◌^◌, inl, inr, ℕ, Bool, true, false, cond, List, [], Option, Some, None, is_some, refl, ap, sym, ◌∙◌, subst, arith, eqb}
use Rattle.std.proofs.lemmas.Bool.{cases_order}
use Rattle.ld_table.specs.Table.{find, put, Ordered}
use Rattle.ld_table.proofs.Laws.{find-put, put_cases}
use Rattle.ld_msg.specs.declared.msg.Summary.{Summary}
use Rattle.ld_op.specs.Places.{filled, has_place}
use Rattle.ld_op.specs.Closed.{AreClean, AreEpochs, AreSummaries}
use Rattle.ld_op.specs.Ticks.{gap_from}
use Rattle.ld_op.proofs.Places.{flat, find-filled}
use Rattle.ld_op.proofs.Gaps.{gap_is}

pub no_summaries : AreSummaries [] 1
unfolding filled find has_place
no_summaries = record {
  epochs = λ k h. absurd cc;
  ends = λ e y h. absurd cc;
  positive = omega arith;
  below = λ k l h. absurd (omega arith);
  absent = refl;
}

pub epochs_stay : (n m : List (ℕ × Option Summary)) → ((q : ℕ) → has_place q n ≡ has_place q m) → AreEpochs m → AreEpochs n
epochs_stay n m places i = λ q h. i q (sym (places q) ∙ h)

stays : {X : Type 0} (b : Bool) (v : X) (o : Option X) → is_some o ≡ true → is_some (cond b (Some v) o) ≡ true
stays true v o h = refl
stays false v o h = h

clean_or_passed : (from upto k : ℕ) (m n : List (ℕ × Summary)) → AreClean 1 from m → ((q : ℕ) → is_some (find q m) ≡ true → is_some (find q n) ≡ true) → AreClean from upto n → AreClean 1 upto n
clean_or_passed from upto k m n i j p = λ q a b. elim (cases_order q from) [
  | inl e ↦ p q (omega arith) b
  | inr (inl l) ↦ j q (i q a l)
  | inr (inr l) ↦ p q (omega arith) b
]

ends_after : (e k : ℕ) (y v : Summary) (m : List (ℕ × Summary)) → v.end < 2 ^ 32 → (find e m ≡ Some y → y.end < 2 ^ 32) → find e (put k v m) ≡ Some y → y.end < 2 ^ 32
ends_after e k y v m l i h = elim (put_cases e k v m) [
  | inl s ↦ let same : v ≡ y = (let f = sym s.1 ∙ h in cc) in subst (λ (x : Summary). x.end < 2 ^ 32) same l
  | inr s ↦ i (sym s.1 ∙ h)
]

-- a summary comes where there was an offset, and the lowest epoch without one is sought from the one before on
pub with_summary : (k : ℕ) (v : Summary) (n m : List (ℕ × Option Summary)) (from upto : ℕ) → v.end < 2 ^ 32 → filled n ≡ put k v (filled m) → ((q : ℕ) → has_place q n ≡ has_place q m) → from ≤ upto → AreClean from upto (filled n) → find upto (filled n) ≡ None → AreSummaries m from → AreSummaries n upto
with_summary k v n m from upto l same places rises passed absent i = record {
  epochs = epochs_stay n m places i.epochs;
  ends = λ e y h. ends_after e k y v (filled m) l (i.ends e y) (ap (find e) (sym same) ∙ h);
  positive = let p = i.positive in omega arith;
  below = clean_or_passed from upto k (filled m) (filled n) i.below (λ q h. ap (λ x. is_some (find q x)) same ∙ (ap is_some (find-put q k v (filled m)) ∙ stays (eqb q k) v (find q (filled m)) h)) passed;
  absent = absent;
}

no_zero : (k : ℕ) (m : List (ℕ × Summary)) → k < 1 → find 0 m ≡ None → find k m ≡ None
no_zero k m l h = let e : k ≡ 0 = omega arith in ap (λ q. find q m) e ∙ h

pub lowest_is : (m : List (ℕ × Option Summary)) (lowest : ℕ) → Ordered (filled m) → AreSummaries m lowest → find 0 (filled m) ≡ None → gap_from 1 (filled m) ≡ lowest
lowest_is m lowest o i zero = gap_is 1 lowest (filled m) o (record { low = λ k l. no_zero k (filled m) l zero; least = i.positive; below = i.below; absent = i.absent })

no_place : (m : List (ℕ × Option Summary)) (k : ℕ) (o : Option (Option Summary)) → find k m ≡ o → AreEpochs m → 2 ^ 32 ≤ k → is_some (flat o) ≡ false
unfolding has_place
no_place m k None t i l = refl
no_place m k (Some o) t i l = let h = i k (ap is_some t) in absurd (omega arith)

-- what is no number of 32 bits has no summary
pub none_past : (k : ℕ) (m : List (ℕ × Option Summary)) → Ordered m → AreEpochs m → 2 ^ 32 ≤ k → is_some (find k (filled m)) ≡ false
none_past k m o i l = ap is_some (find-filled k m o) ∙ no_place m k (find k m) refl i l

pub isnt_there : (o p : Option Summary) (b : Bool) → o ≡ p → b ≡ is_some o → b ≡ false → p ≡ None
isnt_there None p b e h n = sym e
isnt_there (Some y) p b e h n = absurd (let z = sym h ∙ n in cc)

-- an epoch with a summary is a number of 32 bits
pub is_epoch : (k : ℕ) (m : List (ℕ × Option Summary)) → Ordered m → AreEpochs m → is_some (find k (filled m)) ≡ true → k < 2 ^ 32
is_epoch k m o i h = let n : 2 ^ 32 ≤ k → ⊥ = λ l. (let z = sym (none_past k m o i l) ∙ h in cc) in omega (arith, n)
