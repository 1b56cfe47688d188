-- What a change of the register leaves of its contents.
use Rattle.std.proofs.Common.{◌≡◌, ◌∙◌, ◌<◌, ◌⊎◌, ℕ, ◌+◌, inl, inr, refl, ap, sym, subst, Bool, true, false, not, ◌==◌, ◌&&◌, nat_lt, nat_le, cond, if◌then◌else◌, Option, Some, None, arith}
use Rattle.std.specs.Option.{unwrap_or}
use Rattle.std.proofs.lemmas.Bool.{cases_Bool, eqb-true, eq-eqb, leb-false, or_parts}
use Rattle.ld_table.specs.Table.{find, put}
use Rattle.ld_table.proofs.Laws.{put_cases}
use Rattle.ld_ids.specs.declared.set.Spec.{Spec}
use Rattle.ld_msg.specs.declared.msg.Summary.{Summary}
use Rattle.ld_msg.specs.Register.{Register, Epochs, Armed, Changed, Granted, AtLimit, Behind, Overtaken, Fails, activate, close, draw, change, made, unmade, is_made, falls, journal_limit, record_length, epochs_of, no_epochs, generation_of, lce_of, with_epochs, next_epoch, closed_epochs, is_overtaken, look, epoch_limit, generation_limit, swap, swappable, swap_limit, swapped_epochs}
use Rattle.ld_safety.proofs.Lists.{cond_both, branch, not_none}

-- the same contents
abbrev pub Same : Register → Register → Type 0
Same r n = (n.logs ≡ r.logs) × (n.generations ≡ r.generations)

not_fails : (b : Bool) → cond b Fails Granted ≡ Granted → b ≡ false
not_fails true h = absurd cc
not_fails false h = refl

falls_made : (a : Option Armed) → falls a ≡ false → is_made a ≡ true
falls_made None h = refl
falls_made (Some a) h = rw h refl

changed_by : (r n : Register) (b : ℕ) (f m : Bool) → Same r (cond f r (cond m (made r n b) (unmade r))) ⊎ Same n (cond f r (cond m (made r n b) (unmade r)))
changed_by r n b true m = inl (refl, refl)
changed_by r n b false true = inr (refl, refl)
changed_by r n b false false = inl (refl, refl)

-- a change is made or not
pub changed : (r n : Register) (b : ℕ) → Same r (change r n b).register ⊎ Same n (change r n b).register
unfolding change
changed r n b = changed_by r n b (nat_lt journal_limit (r.length + record_length b)) (is_made r.armed)

granted_by : (r n : Register) (b : ℕ) (f m : Bool) → f ≡ false → m ≡ true → Same n (cond f r (cond m (made r n b) (unmade r)))
granted_by r n b true m h g = absurd cc
granted_by r n b false true h g = (refl, refl)
granted_by r n b false false h g = absurd cc

-- and is made where it is granted
pub granted : (r n : Register) (b : ℕ) → (change r n b).answer ≡ Granted → Same n (change r n b).register
unfolding change
granted r n b h = let p = or_parts (nat_lt journal_limit (r.length + record_length b)) (falls r.armed) (not_fails _ h) in granted_by r n b _ _ p.0 (falls_made r.armed p.1)

-- ---- one log ----

abbrev pub with_log_epochs : Register → ℕ → Epochs → Register
with_log_epochs r l e = with_epochs r l e

pub epochs_put : (r : Register) (l k : ℕ) (e : Epochs) → ((k ≡ l) × (epochs_of (with_epochs r l e) k ≡ e)) ⊎ ((k ≡ l → ⊥) × (epochs_of (with_epochs r l e) k ≡ epochs_of r k))
epochs_put r l k e = elim (put_cases k l e r.logs) [
  | inl a ↦ inl (a.0, ap (λ o. unwrap_or o no_epochs) a.1)
  | inr a ↦ inr (a.0, ap (λ o. unwrap_or o no_epochs) a.1)
]

pub epochs_same : (r n : Register) (l : ℕ) → Same r n → epochs_of n l ≡ epochs_of r l
epochs_same r n l s = ap (λ m. unwrap_or (find l m) no_epochs) s.0

-- ---- activate ----

-- a log's next epoch is handed out, and its nodes, factor and extras are fixed
abbrev pub Advanced : Register → ℕ → Spec → Register → Type 0
Advanced r l p n = Same (with_epochs r l (next_epoch (epochs_of r l) p)) n

pub activate_granted : (r : Register) (l : ℕ) (p : Spec) (n : Register) → activate r l p ≡ record { register = n; answer = Granted } → Advanced r l p n
unfolding activate
activate_granted r l p n h = elim (cases_Bool (nat_le epoch_limit (epochs_of r l).epoch)) [
  | inl t ↦ absurd (let q : record { register = r; answer = AtLimit } ≡ record { register = n; answer = Granted } = sym (ap (λ b. cond b (record { register = r; answer = AtLimit }) (change r (with_epochs r l (next_epoch (epochs_of r l) p)) 13)) t) ∙ h in let z = ap (λ (d : Changed). d.answer) q in cc)
  | inr t ↦ let q : change r (with_epochs r l (next_epoch (epochs_of r l) p)) 13 ≡ record { register = n; answer = Granted } = sym (ap (λ b. cond b (record { register = r; answer = AtLimit }) (change r (with_epochs r l (next_epoch (epochs_of r l) p)) 13)) t) ∙ h in
      subst (λ (d : Changed). Same (with_epochs r l (next_epoch (epochs_of r l) p)) d.register) q (granted r (with_epochs r l (next_epoch (epochs_of r l) p)) 13 (ap (λ (d : Changed). d.answer) q))
]

pub activate_limit : (r : Register) (l : ℕ) (p : Spec) (n : Register) → activate r l p ≡ record { register = n; answer = Granted } → (epochs_of r l).epoch < epoch_limit
unfolding activate
activate_limit r l p n h = elim (cases_Bool (nat_le epoch_limit (epochs_of r l).epoch)) [
  | inl t ↦ absurd (let q : record { register = r; answer = AtLimit } ≡ record { register = n; answer = Granted } = sym (ap (λ b. cond b (record { register = r; answer = AtLimit }) (change r (with_epochs r l (next_epoch (epochs_of r l) p)) 13)) t) ∙ h in let z = ap (λ (d : Changed). d.answer) q in cc)
  | inr t ↦ omega (arith, leb-false epoch_limit (epochs_of r l).epoch t)
]

-- what a granted activation makes of the log's epochs
pub activated_epochs : (r : Register) (l : ℕ) (p : Spec) (n : Register) → activate r l p ≡ record { register = n; answer = Granted } → epochs_of n l ≡ next_epoch (epochs_of r l) p
activated_epochs r l p n h = epochs_same (with_epochs r l (next_epoch (epochs_of r l) p)) n l (activate_granted r l p n h) ∙ elim (epochs_put r l l (next_epoch (epochs_of r l) p)) [ inl a ↦ a.1 | inr a ↦ absurd (a.0 refl) ]

pub activate_leaves : (r : Register) (l : ℕ) (p : Spec) → Same r (activate r l p).register ⊎ (((epochs_of r l).epoch < epoch_limit) × Advanced r l p (activate r l p).register)
unfolding activate
activate_leaves r l p = cond_both (nat_le epoch_limit (epochs_of r l).epoch) _ _ (λ (d : Changed). Same r d.register ⊎ (((epochs_of r l).epoch < epoch_limit) × Same (with_epochs r l (next_epoch (epochs_of r l) p)) d.register)) (λ t. inl (refl, refl))
    (λ t. elim (changed r (with_epochs r l (next_epoch (epochs_of r l) p)) 13) [ inl a ↦ inl a | inr a ↦ inr (leb-false epoch_limit (epochs_of r l).epoch t, a) ])

-- ---- close ----

abbrev pub Closed_with : Register → ℕ → ℕ → Summary → Register → Type 0
Closed_with r l e y n = Same (with_epochs r l (closed_epochs (epochs_of r l) e y)) n

-- a close by its tests
close_by : Register → ℕ → ℕ → Summary → Bool → Bool → Changed
close_by r l e y next late = if not next then record { register = r; answer = Behind (lce_of r l) } else if late then record { register = r; answer = Overtaken (epochs_of r l).epoch } else change r (with_epochs r l (closed_epochs (epochs_of r l) e y)) 30

close_tests : (r : Register) (l e : ℕ) (y : Summary) (short next late : Bool) → (lce_of r l + 1 == e) ≡ next → is_overtaken (epochs_of r l) y short ≡ late → close r l e y short ≡ close_by r l e y next late
unfolding close close_by
close_tests r l e y short next late h g = λ i. close_by r l e y (h i) (g i)

pub close_behind : (r : Register) (l e : ℕ) (y : Summary) (short : Bool) → (lce_of r l + 1 == e) ≡ false → close r l e y short ≡ record { register = r; answer = Behind (lce_of r l) }
unfolding close_by
close_behind r l e y short h = close_tests r l e y short false (is_overtaken (epochs_of r l) y short) h refl

pub close_overtaken : (r : Register) (l e : ℕ) (y : Summary) (short : Bool) → lce_of r l + 1 ≡ e → is_overtaken (epochs_of r l) y short ≡ true → close r l e y short ≡ record { register = r; answer = Overtaken (epochs_of r l).epoch }
unfolding close_by
close_overtaken r l e y short h g = close_tests r l e y short true true (eq-eqb (lce_of r l + 1) e h) g

pub close_changes : (r : Register) (l e : ℕ) (y : Summary) (short : Bool) → lce_of r l + 1 ≡ e → is_overtaken (epochs_of r l) y short ≡ false → close r l e y short ≡ change r (with_epochs r l (closed_epochs (epochs_of r l) e y)) 30
unfolding close_by
close_changes r l e y short h g = close_tests r l e y short true false (eq-eqb (lce_of r l + 1) e h) g

-- a close that is granted closes the epoch, and a short one wasn't overtaken
pub close_granted : (r : Register) (l e : ℕ) (y : Summary) (short : Bool) (n : Register) → lce_of r l + 1 ≡ e → close r l e y short ≡ record { register = n; answer = Granted } → Closed_with r l e y n × (is_overtaken (epochs_of r l) y short ≡ false)
close_granted r l e y short n g h = elim (cases_Bool (is_overtaken (epochs_of r l) y short)) [
  | inl t ↦ absurd (let q : record { register = r; answer = Overtaken (epochs_of r l).epoch } ≡ record { register = n; answer = Granted } = sym (close_overtaken r l e y short g t) ∙ h in let z = ap (λ (d : Changed). d.answer) q in cc)
  | inr t ↦ let q : change r (with_epochs r l (closed_epochs (epochs_of r l) e y)) 30 ≡ record { register = n; answer = Granted } = sym (close_changes r l e y short g t) ∙ h in
      (subst (λ (d : Changed). Same (with_epochs r l (closed_epochs (epochs_of r l) e y)) d.register) q (granted r (with_epochs r l (closed_epochs (epochs_of r l) e y)) 30 (ap (λ (d : Changed). d.answer) q)), t)
]

pub close_leaves : (r : Register) (l e : ℕ) (y : Summary) (short : Bool) → Same r (close r l e y short).register ⊎ ((lce_of r l + 1 ≡ e) × Closed_with r l e y (close r l e y short).register × (is_overtaken (epochs_of r l) y short ≡ false))
close_leaves r l e y short = elim (cases_Bool (lce_of r l + 1 == e)) [
  | inr t ↦ inl (subst (λ (d : Changed). Same r d.register) (sym (close_behind r l e y short t)) (refl, refl))
  | inl t ↦ elim (cases_Bool (is_overtaken (epochs_of r l) y short)) [
    | inl u ↦ inl (subst (λ (d : Changed). Same r d.register) (sym (close_overtaken r l e y short (eqb-true _ _ t) u)) (refl, refl))
    | inr u ↦ let q = close_changes r l e y short (eqb-true _ _ t) u in elim (changed r (with_epochs r l (closed_epochs (epochs_of r l) e y)) 30) [
      | inl a ↦ inl (subst (λ (d : Changed). Same r d.register) (sym q) a)
      | inr a ↦ inr (eqb-true _ _ t, subst (λ (d : Changed). Closed_with r l e y d.register) (sym q) a, u)
    ]
  ]
]

-- ---- swaps ----

-- what a swap that is made leaves of a log
abbrev pub Swapped_as : Register → ℕ → ℕ → ℕ → ℕ → Register → Type 0
Swapped_as r l upto old new n = Same (with_epochs r l (swapped_epochs (epochs_of r l) upto old new)) n

pub swap_leaves : (r : Register) (l upto old new : ℕ) → Same r (swap r l upto old new).register ⊎ Swapped_as r l upto old new (swap r l upto old new).register
unfolding swap
swap_leaves r l upto old new = cond_both (swappable r l upto old new == 0) _ _ (λ (d : Changed). Same r d.register ⊎ Swapped_as r l upto old new d.register) (λ t. inl (refl, refl))
    (λ t. cond_both (nat_le swap_limit (epochs_of r l).swaps) _ _ (λ (d : Changed). Same r d.register ⊎ Swapped_as r l upto old new d.register) (λ u. inl (refl, refl)) (λ u. changed r (with_epochs r l (swapped_epochs (epochs_of r l) upto old new)) 11))

-- ---- a look ----

-- what a look shows of a closed epoch
pub shown_closed : (s : Spec) (r : Register) (l e : ℕ) (y : Summary) → (look s r l e).summary ≡ Some y → find e (epochs_of r l).summaries ≡ Some y
unfolding look
shown_closed s r l e y h = elim (branch (nat_le 1 e && nat_le e (lce_of r l)) (find e (epochs_of r l).summaries) None (Some y) h) [ inl a ↦ a.1 | inr a ↦ absurd (not_none a.1) ]

-- ---- draw ----

abbrev pub Drawn : Register → ℕ → Register → Type 0
Drawn r n m = (m.logs ≡ r.logs) × (m.generations ≡ put n (generation_of r n + 1) r.generations)

pub draw_leaves : (r : Register) (n : ℕ) → Same r (draw r n).register ⊎ Drawn r n (draw r n).register
unfolding draw
draw_leaves r n = cond_both (nat_le generation_limit (generation_of r n)) _ _ (λ (d : Changed). Same r d.register ⊎ ((d.register.logs ≡ r.logs) × (d.register.generations ≡ put n (generation_of r n + 1) r.generations)))
    (λ t. inl (refl, refl)) (λ t. changed r (record r { generations = put n (generation_of r n + 1) r.generations }) 6)

pub draw_granted : (r : Register) (n : ℕ) (m : Register) → draw r n ≡ record { register = m; answer = Granted } → Drawn r n m
unfolding draw
draw_granted r n m h = elim (cases_Bool (nat_le generation_limit (generation_of r n))) [
  | inl t ↦ absurd (let q : record { register = r; answer = AtLimit } ≡ record { register = m; answer = Granted } = sym (ap (λ b. cond b (record { register = r; answer = AtLimit }) (change r (record r { generations = put n (generation_of r n + 1) r.generations }) 6)) t) ∙ h in let z = ap (λ (d : Changed). d.answer) q in cc)
  | inr t ↦ let q : change r (record r { generations = put n (generation_of r n + 1) r.generations }) 6 ≡ record { register = m; answer = Granted } = sym (ap (λ b. cond b (record { register = r; answer = AtLimit }) (change r (record r { generations = put n (generation_of r n + 1) r.generations }) 6)) t) ∙ h in
      subst (λ (d : Changed). (d.register.logs ≡ r.logs) × (d.register.generations ≡ put n (generation_of r n + 1) r.generations)) q (granted r (record r { generations = put n (generation_of r n + 1) r.generations }) 6 (ap (λ (d : Changed). d.answer) q))
]
