-- Up to where nothing is missing, after each change of a log.
use Rattle.std.proofs.Common.{◌≡◌, ◌≤◌, ◌<◌, ◌⊎◌, inl, inr, ℕ, max, min, Bool, true, false, nat_lt, cond, List, [], ◌∷◌, Option, Some, None, refl, ap, sym, ◌∙◌, subst, arith}
use Rattle.std.proofs.lemmas.Bool.Decides.{nat_tests}
use Rattle.ld_table.specs.Table.{find, put, keep, keep_keys}
use Rattle.ld_table.proofs.Laws.{find-put_other, put_cases, find-keep, find-keep_keys, find-empty, kept}
use Rattle.ld_lsn.specs.Number.{numbered, epoch_of}
use Rattle.ld_msg.specs.declared.msg.Entry.{Entry}
use Rattle.ld_msg.specs.declared.msg.Summary.{Summary}
use Rattle.ld_msg.specs.declared.msg.What.{What}
use Rattle.ld_msg.specs.declared.msg.What.TheVariants.{Rec, Hole, Bridge, Plug, Withheld}
use Rattle.ld_op.specs.Plain.{Log, empty_log, lost_log, accept_entry, accepted, trimmed_to, cleaned, refill_entries, refilled_with, survives_bridge, survives_clean}
use Rattle.ld_op.specs.Whole.{IsWhole, AreNumbered}

pub order : (n k : ℕ) → (n < k) ⊎ (k ≤ n)
order n k = elim (nat_lt n k) as (λ b. nat_lt n k ≡ b → (n < k) ⊎ (k ≤ n)) [
  | true ↦ λ t. inl (grind (arith, nat_tests))
  | false ↦ λ t. inr (grind (arith, nat_tests))
] refl

-- ---- an entry more ----

behind : (n : ℕ) (d : Entry) (m : List (ℕ × Entry)) → n < d.number → find n (put d.number d m) ≡ None → find n m ≡ None
behind n d m l h = sym (find-put_other n d.number d m (λ e. omega arith)) ∙ h

stands : (d f : Entry) (n : ℕ) → f.number ≡ n → n < d.number → survives_bridge d f ≡ true
stands d f n e l = grind (arith, nat_tests)

kept_none : (p : ℕ → Entry → Bool) (n : ℕ) (o : Option Entry) → ((f : Entry) → o ≡ Some f → p n f ≡ true) → kept p n o ≡ None → o ≡ None
kept_none p n None s h = refl
kept_none p n (Some f) s h = let c : cond (p n f) (Some f) None ≡ Some f = ap (λ b. cond b (Some f) None) (s f refl) in absurd (let z = sym c ∙ h in cc)

unbridged : (n : ℕ) (d : Entry) (m : List (ℕ × Entry)) → ((k : ℕ) (f : Entry) → find k m ≡ Some f → f.number ≡ k) → n < d.number → find n (keep (λ s f. survives_bridge d f) m) ≡ None → find n m ≡ None
unbridged n d m u l h = kept_none (λ s f. survives_bridge d f) n (find n m) (λ f e. stands d f n (u n f e) l) (sym (find-keep n (λ s f. survives_bridge d f) m) ∙ h)

unaccepted : (n : ℕ) (d : Entry) (w : What) (m : List (ℕ × Entry)) → ((k : ℕ) (f : Entry) → find k m ≡ Some f → f.number ≡ k) → n < d.number → find n (accept_entry d w m) ≡ None → find n m ≡ None
unaccepted n d (Rec p) m u l h = behind n d m l h
unaccepted n d Hole m u l h = behind n d m l h
unaccepted n d Plug m u l h = behind n d m l h
unaccepted n d Withheld m u l h = behind n d m l h
unaccepted n d Bridge m u l h = unbridged n d m u l (behind n d (keep (λ s f. survives_bridge d f) m) l h)

pub whole_accepted : (g : Log) (lng : ℕ) (d : Entry) (to : ℕ) → AreNumbered g → IsWhole g to → IsWhole (accepted g lng d) (min to d.number)
whole_accepted g lng d to u w = λ epoch y n c l. elim (order n d.number) [
  | inl b ↦ let i = w epoch y n c (l.0, (l.1.0, (l.1.1.0, (l.1.1.1.0, unaccepted n d d.what g.entries u b l.1.1.1.1)))) in omega arith
  | inr b ↦ omega arith
]

-- ---- a trim ----

passed : (b : Bool) (o : Option Entry) → b ≡ true → cond b o None ≡ None → o ≡ None
passed true o t h = h
passed false o t h = absurd cc

untrimmed : (n trim : ℕ) (m : List (ℕ × Entry)) → trim < n → find n (keep_keys (λ s. nat_lt trim s) m) ≡ None → find n m ≡ None
untrimmed n trim m l h = passed (nat_lt trim n) (find n m) (grind (arith, nat_tests)) (sym (find-keep_keys n (λ s. nat_lt trim s) m) ∙ h)

pub whole_trimmed : (g : Log) (t to : ℕ) → IsWhole g to → IsWhole (trimmed_to g t) to
whole_trimmed g t to w = λ epoch y n c l. w epoch y n c (l.0, (l.1.0, ((let a = l.1.1.0 in omega arith), (l.1.1.1.0, untrimmed n (max g.trim t) g.entries l.1.1.0 l.1.1.1.1))))

-- ---- an epoch is closed ----

elsewhere : (trim epoch : ℕ) (y : Summary) (f : Entry) (n : ℕ) → f.number ≡ n → trim < n → n < numbered epoch 0 → survives_clean trim epoch y f ≡ true
elsewhere trim epoch y f n e t l =
    let o : epoch_of f.number < epoch = omega arith in
    grind (arith, nat_tests)

unclosed : (n trim epoch : ℕ) (y : Summary) (m : List (ℕ × Entry)) → ((k : ℕ) (f : Entry) → find k m ≡ Some f → f.number ≡ k) → trim < n → n < numbered epoch 0 → find n (keep (λ s f. survives_clean trim epoch y f) m) ≡ None → find n m ≡ None
unclosed n trim epoch y m u t l h = kept_none (λ s f. survives_clean trim epoch y f) n (find n m) (λ f e. elsewhere trim epoch y f n (u n f e) t l) (sym (find-keep n (λ s f. survives_clean trim epoch y f) m) ∙ h)

pub whole_cleaned : (g : Log) (epoch : ℕ) (y : Summary) (to : ℕ) → AreNumbered g → IsWhole g to → IsWhole (cleaned g epoch y) (min to (numbered epoch 0))
whole_cleaned g epoch y to u w = λ e z n c l. elim (order n (numbered epoch 0)) [
  | inl b ↦ elim (put_cases e epoch y g.summaries) [
    | inl s ↦ let i = s.0 in let j = l.1.0 in omega arith
    | inr s ↦ let i = w e z n (sym s.1 ∙ c) (l.0, (l.1.0, ((let a = l.1.1.0 in omega arith), (l.1.1.1.0, unclosed n (max g.trim y.trim) epoch y g.entries u l.1.1.0 b l.1.1.1.1)))) in omega arith
  ]
  | inr b ↦ omega arith
]

-- ---- entries come back ----

unput : (n : ℕ) (d : Entry) (m : List (ℕ × Entry)) → find n (put d.number d m) ≡ None → find n m ≡ None
unput n d m h = elim (put_cases n d.number d m) [
  | inl s ↦ absurd (let z = sym s.1 ∙ h in cc)
  | inr s ↦ sym s.1 ∙ h
]

unfilled : (n : ℕ) (es : List Entry) (m : List (ℕ × Entry)) → find n (refill_entries es m) ≡ None → find n m ≡ None
unfilled n [] m h = h
unfilled n (d ∷ es) m h = unput n d m (unfilled n es (put d.number d m) h)

pub whole_refilled : (g : Log) (es : List Entry) (to : ℕ) → IsWhole g to → IsWhole (refilled_with g es) to
whole_refilled g es to w = λ epoch y n c l. w epoch y n c (l.0, (l.1.0, (l.1.1.0, (l.1.1.1.0, unfilled n es g.entries l.1.1.1.1))))

-- ---- a log without clean epochs ----

pub whole_lost : (epoch to : ℕ) → IsWhole (lost_log epoch) to
whole_lost epoch to = λ e y n c l. absurd (let z = sym (find-empty e) ∙ c in cc)

pub whole_empty : (to : ℕ) → IsWhole empty_log to
whole_empty to = λ e y n c l. absurd (let z = sym (find-empty e) ∙ c in cc)

-- ---- the same log ----

pub whole_as : (g h : Log) (to upto : ℕ) → g ≡ h → to ≡ upto → IsWhole g to → IsWhole h upto
whole_as g h to upto e f w = subst (λ k. IsWhole k upto) e (subst (IsWhole g) f w)
