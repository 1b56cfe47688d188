-- Over any list of calls, failed ones among them, numbers that were handed out don't fall, and what is closed stays.
use Rattle.std.proofs.Common.{◌≡◌, ◌∙◌, ◌≤◌, ◌<◌, ◌⊎◌, ◌+◌, ℕ, inl, inr, refl, ap, sym, subst, Bool, true, false, not, cond, ◌==◌, ◌&&◌, nat_lt, nat_le, Option, Some, None, List, [], ◌∷◌, ◌++◌, Result, Ok, Err, arith}
use Rattle.std.specs.Option.{unwrap_or}
use Rattle.std.proofs.lemmas.Bool.{eqb-true, leb-true, le-leb, or_parts}
use Rattle.ld_table.specs.Table.{find, put}
use Rattle.ld_table.proofs.Laws.{put_cases, find-put_same, find-put_other}
use Rattle.ld_ids.specs.declared.set.Spec.{Spec}
use Rattle.ld_msg.specs.declared.msg.Summary.{Summary}
use Rattle.ld_msg.specs.Register.{Register, Epochs, Armed, Changed, Answer, Granted, AtLimit, Behind, Overtaken, Fails, is_overtaken, activate, close, draw, swap, swappable, change, made, unmade, is_made, falls, journal_limit, record_length, epochs_of, no_epochs, generation_of, lce_of, with_epochs, next_epoch, closed_epochs, swapped_epochs, closed_upto, epoch_limit, generation_limit, swap_limit, is_crowded, summary_shown}
use Rattle.ld_register.specs.declared.fault.RegisterFault.{RegisterFault}
use Rattle.ld_register.specs.declared.fault.RegisterFault.TheVariants as faults
use Rattle.ld_register.specs.declared.register.Grant.{Grant}
use Rattle.ld_register.specs.declared.register.Drawn.{Drawn}
use Rattle.ld_register.specs.declared.register.View.{View}
use Rattle.ld_register.specs.Calls.{IsFree, ChangedOrNot, ended, close_ended, spec_told, next_told, is_full, activated, after_activate, granted, closed, after_close, drawn, after_draw, handed, swapped, after_swap, looked}
use Rattle.ld_register.proofs.Answering.{shown_there}
use Rattle.ld_register.proofs.Swapping.{specs_above}
use Rattle.ld_register.specs.Histories.{Call, Activates, Closes, Draws, Swaps, Looks, Ends, Passes, Runs}

-- ---- what grows ----

-- a log's epochs and its count of swaps don't fall, and what was fixed up to the greatest one and the summaries up to the last closed one stay; and as swaps left it, it stays where the count does or the epoch isn't closed
pub record LogGrows (v w : Epochs) : Type 0 where
  pub epoch : v.epoch ≤ w.epoch
  pub lce : v.lce ≤ w.lce
  pub swaps : v.swaps ≤ w.swaps
  pub specs : (e : ℕ) → e ≤ v.epoch → find e w.specs ≡ find e v.specs
  pub swapped : (e : ℕ) → e ≤ v.epoch → (w.swaps ≡ v.swaps) ⊎ (w.lce < e) → find e w.swapped ≡ find e v.swapped
  pub summaries : (e : ℕ) → e ≤ v.lce → find e w.summaries ≡ find e v.summaries

pub record Grows (c d : Register) : Type 0 where
  pub logs : (l : ℕ) → LogGrows (epochs_of c l) (epochs_of d l)
  pub generations : (n : ℕ) → generation_of c n ≤ generation_of d n

log_stays : (v : Epochs) → LogGrows v v
log_stays v = record { epoch = omega arith; lce = omega arith; swaps = omega arith; specs = λ e h. refl; swapped = λ e h s. refl; summaries = λ e h. refl }

log_on : (u v w : Epochs) → LogGrows u v → LogGrows v w → LogGrows u w
log_on u v w g h = record {
  epoch = let a = g.epoch in let b = h.epoch in omega arith;
  lce = let a = g.lce in let b = h.lce in omega arith;
  swaps = let a = g.swaps in let b = h.swaps in omega arith;
  specs = λ e k. h.specs e (let a = g.epoch in omega arith) ∙ g.specs e k;
  swapped = λ e k s. h.swapped e (let a = g.epoch in omega arith) (elim s [ inl n ↦ inl (let a = g.swaps in let b = h.swaps in omega arith) | inr l ↦ inr l ])
      ∙ g.swapped e k (elim s [ inl n ↦ inl (let a = g.swaps in let b = h.swaps in omega arith) | inr l ↦ inr (let b = h.lce in omega arith) ]);
  summaries = λ e k. h.summaries e (let a = g.lce in omega arith) ∙ g.summaries e k;
}

grows_on : (b c d : Register) → Grows b c → Grows c d → Grows b d
grows_on b c d g h = record {
  logs = λ l. log_on (epochs_of b l) (epochs_of c l) (epochs_of d l) (g.logs l) (h.logs l);
  generations = λ n. let a = g.generations n in let z = h.generations n in omega arith;
}

-- the same contents
abbrev pub Same : Register → Register → Type 0
Same r n = (n.logs ≡ r.logs) × (n.generations ≡ r.generations)

log_same : (r n : Register) → n.logs ≡ r.logs → (l : ℕ) → LogGrows (epochs_of r l) (epochs_of n l)
log_same r n e l = subst (λ m. LogGrows (epochs_of r l) (unwrap_or (find l m) no_epochs)) (sym e) (log_stays (epochs_of r l))

generations_same : (r n : Register) → n.generations ≡ r.generations → (k : ℕ) → generation_of r k ≤ generation_of n k
generations_same r n e k = let z : generation_of n k ≡ generation_of r k = ap (λ m. unwrap_or (find k m) 0) e in omega arith

same_grows : (r n : Register) → Same r n → Grows r n
same_grows r n s = record { logs = log_same r n s.0; generations = generations_same r n s.1 }

-- one log is written
log_is : (r n : Register) (l : ℕ) (x : Epochs) → n.logs ≡ put l x r.logs → (k : ℕ) → ((k ≡ l) × (epochs_of n k ≡ x)) ⊎ (epochs_of n k ≡ epochs_of r k)
log_is r n l x e k = elim (put_cases k l x r.logs) [
  | inl a ↦ inl (a.0, ap (λ m. unwrap_or (find k m) no_epochs) e ∙ ap (λ o. unwrap_or o no_epochs) a.1)
  | inr a ↦ inr (ap (λ m. unwrap_or (find k m) no_epochs) e ∙ ap (λ o. unwrap_or o no_epochs) a.1)
]

log_grows : (r n : Register) (l : ℕ) (x : Epochs) → LogGrows (epochs_of r l) x → Same (with_epochs r l x) n → Grows r n
log_grows r n l x g s = record {
  logs = λ k. elim (log_is r n l x s.0 k) [
    | inl a ↦ subst (λ w. LogGrows (epochs_of r k) w) (sym a.1) (subst (λ j. LogGrows (epochs_of r j) x) (sym a.0) g)
    | inr a ↦ subst (λ w. LogGrows (epochs_of r k) w) (sym a) (log_stays (epochs_of r k))
  ];
  generations = generations_same r n s.1;
}

-- one node's next generation
node_grows : (r n : Register) (k : ℕ) → n.logs ≡ r.logs → n.generations ≡ put k (generation_of r k + 1) r.generations → Grows r n
node_grows r n k e h = record {
  logs = log_same r n e;
  generations = λ j. elim (put_cases j k (generation_of r k + 1) r.generations) [
    | inl a ↦ let z : generation_of n j ≡ generation_of r k + 1 = ap (λ m. unwrap_or (find j m) 0) h ∙ ap (λ o. unwrap_or o 0) a.1 in let y = ap (λ i. generation_of r i) a.0 in omega arith
    | inr a ↦ let z : generation_of n j ≡ generation_of r j = ap (λ m. unwrap_or (find j m) 0) h ∙ ap (λ o. unwrap_or o 0) a.1 in omega arith
  ];
}

-- ---- a change, with a fault armed or without ----

pub by_test : {X : Type 0} (b : Bool) (x y : X) (P : X → Type 0) → (b ≡ true → P x) → (b ≡ false → P y) → P (cond b x y)
by_test true x y P h g = h refl
by_test false x y P h g = g refl

pub not_fails : (b : Bool) → cond b Fails Granted ≡ Granted → b ≡ false
not_fails true h = absurd cc
not_fails false h = refl

pub falls_made : (a : Option Armed) → falls a ≡ false → is_made a ≡ true
falls_made None h = refl
falls_made (Some a) h = rw h refl

changed_by : (r n : Register) (b : ℕ) (f m : Bool) → Same r (cond f r (cond m (made r n b) (unmade r))) ⊎ Same n (cond f r (cond m (made r n b) (unmade r)))
changed_by r n b true m = inl (refl, refl)
changed_by r n b false true = inr (refl, refl)
changed_by r n b false false = inl (refl, refl)

-- a change is made or not
change_leaves : (r n : Register) (b : ℕ) → Same r (change r n b).register ⊎ Same n (change r n b).register
unfolding change
change_leaves r n b = changed_by r n b (nat_lt journal_limit (r.length + record_length b)) (is_made r.armed)

pub granted_by : (r n : Register) (b : ℕ) (f m : Bool) → f ≡ false → m ≡ true → Same n (cond f r (cond m (made r n b) (unmade r)))
granted_by r n b true m h g = absurd cc
granted_by r n b false true h g = (refl, refl)
granted_by r n b false false h g = absurd cc

-- and is made where it is granted
pub change_granted : (r n : Register) (b : ℕ) → (change r n b).answer ≡ Granted → Same n (change r n b).register
unfolding change
change_granted r n b h = let p = or_parts (nat_lt journal_limit (r.length + record_length b)) (falls r.armed) (not_fails _ h) in granted_by r n b _ _ p.0 (falls_made r.armed p.1)

change_grows : (r n : Register) (b : ℕ) → ((m : Register) → Same n m → Grows r m) → Grows r (change r n b).register
change_grows r n b g = elim (change_leaves r n b) [ inl s ↦ same_grows r (change r n b).register s | inr s ↦ g (change r n b).register s ]

stays : (r : Register) → Grows r r
stays r = same_grows r r (refl, refl)

-- ---- an activation ----

next_grows : (v : Epochs) (s : Spec) → LogGrows v (next_epoch v s)
next_grows v s = record { epoch = omega arith; lce = omega arith; swaps = omega arith; specs = λ e h. find-put_other e (v.epoch + 1) s v.specs (λ i. omega arith); swapped = λ e h n. find-put_other e (v.epoch + 1) s v.swapped (λ i. omega arith); summaries = λ e h. refl }

activate_grows : (r : Register) (s : Spec) → Grows r (activate r s.log s).register
unfolding activate
activate_grows r s = by_test (nat_le epoch_limit (epochs_of r s.log).epoch) _ _ (λ (d : Changed). Grows r d.register) (λ t. stays r)
    (λ t. change_grows r (with_epochs r s.log (next_epoch (epochs_of r s.log) s)) 13 (λ m z. log_grows r m s.log (next_epoch (epochs_of r s.log) s) (next_grows (epochs_of r s.log) s) z))

pub after_activate_grows : (r : Register) (s : Spec) → Grows r (after_activate r s)
after_activate_grows r s = by_test (is_crowded r s.log) r (activate r s.log s).register (λ d. Grows r d) (λ t. stays r) (λ t. activate_grows r s)

ended_ok : {T : Type 0} (a : Answer) (full : Bool) (limit : RegisterFault) (v g : T) → Ok g ≡ ended a full limit v → (a ≡ Granted) × (v ≡ g)
ended_ok Granted full limit v g h = (refl, cc)
ended_ok AtLimit full limit v g h = absurd cc
ended_ok (Behind lce) full limit v g h = absurd cc
ended_ok (Overtaken epoch) full limit v g h = absurd cc
ended_ok Fails true limit v g h = absurd cc
ended_ok Fails false limit v g h = absurd cc

activate_granted : (r : Register) (s : Spec) → (activate r s.log s).answer ≡ Granted → Same (with_epochs r s.log (next_epoch (epochs_of r s.log) s)) (activate r s.log s).register
unfolding activate
activate_granted r s = by_test (nat_le epoch_limit (epochs_of r s.log).epoch) _ _ (λ (d : Changed). d.answer ≡ Granted → Same (with_epochs r s.log (next_epoch (epochs_of r s.log) s)) d.register)
    (λ t h. absurd cc) (λ t h. change_granted r (with_epochs r s.log (next_epoch (epochs_of r s.log) s)) 13 h)

-- an epoch that is handed out is the one behind the log's, and the log's afterwards, with what is fixed for it
abbrev IsHandedOut : Register → Spec → Grant → Register → Type 0
IsHandedOut r s g d = ((epochs_of d s.log).epoch ≡ g.epoch) × ((epochs_of r s.log).epoch + 1 ≡ g.epoch) × (find g.epoch (epochs_of d s.log).swapped ≡ Some s)

activated_by : (r : Register) (s : Spec) (g : Grant) (b : Bool) → is_crowded r s.log ≡ b → Ok g ≡ (cond b (Err faults.LogLimit) (ended (activate r s.log s).answer (is_full r 13) faults.EpochLimit (granted r s))) → IsHandedOut r s g (after_activate r s)
activated_by r s g true c h = absurd cc
activated_by r s g false c h =
    let p = ended_ok (activate r s.log s).answer (is_full r 13) faults.EpochLimit (granted r s) g h in
    let is : (epochs_of (after_activate r s) s.log).epoch ≡ g.epoch = ap (λ (x : Grant). x.epoch) p.1 in
    let after : after_activate r s ≡ (activate r s.log s).register = ap (λ b. cond b r (activate r s.log s).register) c in
    let z = activate_granted r s p.0 in
    let there : epochs_of (after_activate r s) s.log ≡ next_epoch (epochs_of r s.log) s = ap (λ x. epochs_of x s.log) after
    ∙ (ap (λ m. unwrap_or (find s.log m) no_epochs) z.0 ∙ ap (λ o. unwrap_or o no_epochs) (find-put_same s.log s.log (next_epoch (epochs_of r s.log) s) r.logs refl)) in
    let one : (epochs_of (after_activate r s) s.log).epoch ≡ (epochs_of r s.log).epoch + 1 = ap (λ (x : Epochs). x.epoch) there in
    let next : (epochs_of r s.log).epoch + 1 ≡ g.epoch = sym one ∙ is in
    (is, next, ap (λ (x : Epochs). find g.epoch x.swapped) there ∙ find-put_same g.epoch ((epochs_of r s.log).epoch + 1) s (epochs_of r s.log).swapped (sym next))

activated_ok : (r : Register) (s : Spec) (g : Grant) → Ok g ≡ activated r s → IsHandedOut r s g (after_activate r s)
activated_ok r s g h = activated_by r s g (is_crowded r s.log) refl h

-- ---- a close ----

not_not : (b : Bool) → not b ≡ false → b ≡ true
not_not true h = refl
not_not false h = absurd cc

close_log : (v : Epochs) (e : ℕ) (y : Summary) → v.lce + 1 ≡ e → LogGrows v (closed_epochs v e y)
close_log v e y h = record {
  epoch = omega arith;
  lce = omega arith;
  swaps = omega arith;
  specs = λ k b. refl;
  swapped = λ k b s. refl;
  summaries = λ k b. elim (put_cases k e y v.summaries) [ inl a ↦ absurd (let z = a.0 in omega arith) | inr a ↦ a.1 ];
}

close_grows : (r : Register) (l e : ℕ) (y : Summary) (short : Bool) → Grows r (close r l e y short).register
unfolding close
close_grows r l e y short = by_test (not (lce_of r l + 1 == e)) _ _ (λ (d : Changed). Grows r d.register) (λ t. stays r) (λ t.
    by_test (is_overtaken (epochs_of r l) y short) _ _ (λ (d : Changed). Grows r d.register) (λ o. stays r) (λ o.
    change_grows r (with_epochs r l (closed_epochs (epochs_of r l) e y)) 30 (λ m s. log_grows r m l (closed_epochs (epochs_of r l) e y) (close_log (epochs_of r l) e y (eqb-true _ _ (not_not _ t))) s)))

pub after_close_grows : (r : Register) (l e : ℕ) (y : Summary) (short : Bool) → Grows r (after_close r l e y short)
after_close_grows r l e y short = by_test (is_crowded r l) r (close r l e y short).register (λ d. Grows r d) (λ t. stays r) (λ t. close_grows r l e y short)

close_granted : (r : Register) (l e : ℕ) (y : Summary) (short : Bool) → (close r l e y short).answer ≡ Granted → (lce_of r l + 1 ≡ e) × Same (with_epochs r l (closed_epochs (epochs_of r l) e y)) (close r l e y short).register
unfolding close
close_granted r l e y short = by_test (not (lce_of r l + 1 == e)) _ _ (λ (d : Changed). d.answer ≡ Granted → (lce_of r l + 1 ≡ e) × Same (with_epochs r l (closed_epochs (epochs_of r l) e y)) d.register) (λ t h. absurd cc) (λ t.
    by_test (is_overtaken (epochs_of r l) y short) _ _ (λ (d : Changed). d.answer ≡ Granted → (lce_of r l + 1 ≡ e) × Same (with_epochs r l (closed_epochs (epochs_of r l) e y)) d.register) (λ o h. absurd cc) (λ o h.
    (eqb-true _ _ (not_not _ t), change_granted r (with_epochs r l (closed_epochs (epochs_of r l) e y)) 30 h)))

-- a log whose epoch is closed with a summary
abbrev IsClosed : Register → ℕ → ℕ → Summary → Type 0
IsClosed r l e y = (1 ≤ e) × (e ≤ lce_of r l) × (find e (epochs_of r l).summaries ≡ Some y)

close_ended_ok : (a : Answer) (full : Bool) (before after g : Option Spec) → Ok g ≡ close_ended a full before after → a ≡ Granted
close_ended_ok Granted full before after g h = refl
close_ended_ok AtLimit full before after g h = absurd cc
close_ended_ok (Behind lce) full before after g h = absurd cc
close_ended_ok (Overtaken epoch) full before after g h = absurd cc
close_ended_ok Fails true before after g h = absurd cc
close_ended_ok Fails false before after g h = absurd cc

closed_by : (r : Register) (l e : ℕ) (y : Summary) (short : Bool) (g : Option Spec) (b : Bool) → is_crowded r l ≡ b → Ok g ≡ (cond b (Err faults.LogLimit) (close_ended (close r l e y short).answer (is_full r 30) (next_told r l) (next_told (after_close r l e y short) l))) → IsClosed (after_close r l e y short) l e y
closed_by r l e y short g true c h = absurd cc
closed_by r l e y short g false c h =
    let s = close_granted r l e y short (close_ended_ok (close r l e y short).answer (is_full r 30) (next_told r l) (next_told (after_close r l e y short) l) g h) in
    let after : after_close r l e y short ≡ (close r l e y short).register = ap (λ b. cond b r (close r l e y short).register) c in
    let there : epochs_of (close r l e y short).register l ≡ closed_epochs (epochs_of r l) e y = ap (λ m. unwrap_or (find l m) no_epochs) s.1.0 ∙ ap (λ o. unwrap_or o no_epochs) (find-put_same l l (closed_epochs (epochs_of r l) e y) r.logs refl) in
    let lce : lce_of (close r l e y short).register l ≡ e = ap (λ (x : Epochs). x.lce) there in
    let z = s.0 in
    subst (λ d. IsClosed d l e y) (sym after) (omega arith, omega arith, ap (λ (x : Epochs). find e x.summaries) there ∙ find-put_same e e y (epochs_of r l).summaries refl)

closed_ok : (r : Register) (l e : ℕ) (y : Summary) (short : Bool) (g : Option Spec) → Ok g ≡ closed r l e y short → IsClosed (after_close r l e y short) l e y
closed_ok r l e y short g h = closed_by r l e y short g (is_crowded r l) refl h

-- ---- a draw ----

pub after_draw_grows : (r : Register) (n : ℕ) → Grows r (after_draw r n)
unfolding draw
after_draw_grows r n = by_test (nat_le generation_limit (generation_of r n)) _ _ (λ (d : Changed). Grows r d.register) (λ t. stays r)
    (λ t. change_grows r (record r { generations = put n (generation_of r n + 1) r.generations }) 6 (λ m s. node_grows r m n s.0 s.1))

draw_granted : (r : Register) (n : ℕ) → (draw r n).answer ≡ Granted → (draw r n).register.generations ≡ put n (generation_of r n + 1) r.generations
unfolding draw
draw_granted r n = by_test (nat_le generation_limit (generation_of r n)) _ _ (λ (d : Changed). d.answer ≡ Granted → d.register.generations ≡ put n (generation_of r n + 1) r.generations)
    (λ t h. absurd cc) (λ t h. (change_granted r (record r { generations = put n (generation_of r n + 1) r.generations }) 6 h).1)

-- a generation that is handed out is the one behind the node's, and the node's afterwards
drawn_ok : (r : Register) (n : ℕ) (g : Drawn) → Ok g ≡ drawn r n → (generation_of (after_draw r n) n ≡ g.gen_) × (generation_of r n + 1 ≡ g.gen_)
drawn_ok r n g h =
    let p = ended_ok (draw r n).answer (is_full r 6) faults.GenLimit (handed r n) g h in
    let is : generation_of (after_draw r n) n ≡ g.gen_ = ap (λ (x : Drawn). x.gen_) p.1 in
    let one : generation_of (after_draw r n) n ≡ generation_of r n + 1 = ap (λ m. unwrap_or (find n m) 0) (draw_granted r n p.0) ∙ ap (λ o. unwrap_or o 0) (find-put_same n n (generation_of r n + 1) r.generations refl) in
    (is, sym one ∙ is)

-- ---- a swap ----

swap_log : (v : Epochs) (t o w : ℕ) → LogGrows v (swapped_epochs v t o w)
swap_log v t o w = record {
  epoch = omega arith;
  lce = omega arith;
  swaps = omega arith;
  specs = λ e h. refl;
  swapped = λ e h s. elim s [ inl n ↦ absurd (omega arith) | inr l ↦ specs_above e (closed_upto v t) o w v.swapped (omega arith) ];
  summaries = λ e h. refl;
}

pub after_swap_grows : (r : Register) (l t o w : ℕ) → Grows r (after_swap r l t o w)
unfolding swap
after_swap_grows r l t o w = by_test (swappable r l t o w == 0) _ _ (λ (d : Changed). Grows r d.register) (λ n. stays r) (λ n.
    by_test (nat_le swap_limit (epochs_of r l).swaps) _ _ (λ (d : Changed). Grows r d.register) (λ h. stays r) (λ h.
    change_grows r (with_epochs r l (swapped_epochs (epochs_of r l) t o w)) 11 (λ m s. log_grows r m l (swapped_epochs (epochs_of r l) t o w) (swap_log (epochs_of r l) t o w) s)))

-- ---- calls ----

ends_grows : {T : Type 0} (result answer : Result T RegisterFault) (c a d : Register) → Grows c a → Ends result answer c a d → Grows c d
ends_grows result answer c a d g (inl (f, inl e)) = subst (λ x. Grows c x) (sym e) (stays c)
ends_grows result answer c a d g (inl (f, inr e)) = subst (λ x. Grows c x) (sym e) g
ends_grows result answer c a d g (inr p) = subst (λ x. Grows c x) (sym p.1) g

call_grows : (c : Register) (x : Call) (d : Register) → Passes c x d → Grows c d
call_grows c (Activates s o) d h = ends_grows o (activated c s) c (after_activate c s) d (after_activate_grows c s) h
call_grows c (Closes l e y short o) d h = ends_grows o (closed c l e y short) c (after_close c l e y short) d (after_close_grows c l e y short) h
call_grows c (Draws n o) d h = ends_grows o (drawn c n) c (after_draw c n) d (after_draw_grows c n) h
call_grows c (Swaps l t o w r) d h = ends_grows r (swapped c l t o w) c (after_swap c l t o w) d (after_swap_grows c l t o w) h
call_grows c (Looks l e o) d h = ends_grows o (Ok (looked c l e)) c c d (stays c) h

pub runs_grow : (c : Register) (xs : List Call) (d : Register) → Runs c xs d → Grows c d
runs_grow c [] d h = subst (λ x. Grows c x) h (stays c)
runs_grow c (x ∷ xs) d (b, p, h) = grows_on c b d (call_grows c x b p) (runs_grow b xs d h)

pub runs_split : (c : Register) (xs ys : List Call) (d : Register) → Runs c (xs ++ ys) d → (b : Register) × Runs c xs b × Runs b ys d
runs_split c [] ys d h = (c, refl, h)
runs_split c (x ∷ xs) ys d (a, p, h) = let s = runs_split a xs ys d h in (s.0, (a, p, s.1), s.2)

-- a call behind the others
pub runs_on : (c : Register) (xs : List Call) (b d : Register) (x : Call) → Runs c xs b → Passes b x d → Runs c (xs ++ x ∷ []) d
runs_on c [] b d x h p = (d, subst (λ z. Passes z x d) (sym h) p, refl)
runs_on c (y ∷ ys) b d x (a, q, h) p = (a, q, runs_on a ys b d x h p)

-- a call that answered
ends_ok : {T : Type 0} (v : T) (answer : Result T RegisterFault) (c a d : Register) → Ends (Ok v) answer c a d → (Ok v ≡ answer) × (d ≡ a)
ends_ok v answer c a d (inl p) = absurd p.0
ends_ok v answer c a d (inr p) = p

activates_ok : (c d : Register) (s : Spec) (g : Grant) → Passes c (Activates s (Ok g)) d → IsHandedOut c s g d
activates_ok c d s g h = let p = ends_ok g (activated c s) c (after_activate c s) d h in subst (λ x. IsHandedOut c s g x) (sym p.1) (activated_ok c s g p.0)

draws_ok : (c d : Register) (n : ℕ) (g : Drawn) → Passes c (Draws n (Ok g)) d → (generation_of d n ≡ g.gen_) × (generation_of c n + 1 ≡ g.gen_)
draws_ok c d n g h = let p = ends_ok g (drawn c n) c (after_draw c n) d h in let a = drawn_ok c n g p.0 in (ap (λ x. generation_of x n) p.1 ∙ a.0, a.1)

closes_ok : (c d : Register) (l e : ℕ) (y : Summary) (short : Bool) (g : Option Spec) → Passes c (Closes l e y short (Ok g)) d → IsClosed d l e y
closes_ok c d l e y short g h = let p = ends_ok g (closed c l e y short) c (after_close c l e y short) d h in subst (λ x. IsClosed x l e y) (sym p.1) (closed_ok c l e y short g p.0)

looks_ok : (c d : Register) (l e : ℕ) (v : View) → Passes c (Looks l e (Ok v)) d → (v ≡ looked c l e) × (d ≡ c)
looks_ok c d l e v h = let p = ends_ok v (Ok (looked c l e)) c c d h in let q = p.0 in (cc, p.1)

-- ---- the laws ----

pub epochs_rise : (c d : Register) (before between after : List Call) (s t : Spec) (g h : Grant) → s.log ≡ t.log → Runs c (before ++ Activates s (Ok g) ∷ (between ++ Activates t (Ok h) ∷ after)) d → g.epoch < h.epoch
epochs_rise c d before between after s t g h same r =
    let (a, first, (b, p, rest)) = runs_split c before (Activates s (Ok g) ∷ (between ++ Activates t (Ok h) ∷ after)) d r in
    let (e, middle, (f, q, last)) = runs_split b between (Activates t (Ok h) ∷ after) d rest in
    let x = (activates_ok a b s g p).0 in
    let y = ((runs_grow b between e middle).logs s.log).epoch in
    let z = ap (λ l. (epochs_of e l).epoch) same in
    let w = (activates_ok e f t h q).1 in
    omega arith

pub generations_rise : (c d : Register) (before between after : List Call) (n : ℕ) (g h : Drawn) → Runs c (before ++ Draws n (Ok g) ∷ (between ++ Draws n (Ok h) ∷ after)) d → g.gen_ < h.gen_
generations_rise c d before between after n g h r =
    let (a, first, (b, p, rest)) = runs_split c before (Draws n (Ok g) ∷ (between ++ Draws n (Ok h) ∷ after)) d r in
    let (e, middle, (f, q, last)) = runs_split b between (Draws n (Ok h) ∷ after) d rest in
    let x = (draws_ok a b n g p).0 in
    let y = (runs_grow b between e middle).generations n in
    let z = (draws_ok e f n h q).1 in
    omega arith

pub lce_stays : (c d : Register) (calls : List Call) (l : ℕ) → Runs c calls d → lce_of c l ≤ lce_of d l
lce_stays c d calls l r = ((runs_grow c calls d r).logs l).lce

shown_by : (v : Epochs) (e : ℕ) (y : Summary) (p q : Bool) → nat_le 1 e ≡ p → nat_le e v.lce ≡ q → cond (p && q) (find e v.summaries) None ≡ Some y → (1 ≤ e) × (e ≤ v.lce) × (find e v.summaries ≡ Some y)
shown_by v e y true true a b h = (leb-true 1 e a, leb-true e v.lce b, h)
shown_by v e y true false a b h = absurd cc
shown_by v e y false q a b h = absurd cc

shown_closed : (c : Register) (l e : ℕ) (y : Summary) → summary_shown c l e ≡ Some y → IsClosed c l e y
shown_closed c l e y h = shown_by (epochs_of c l) e y (nat_le 1 e) (nat_le e (lce_of c l)) refl refl h

closed_shown : (c : Register) (l e : ℕ) (y : Summary) → IsClosed c l e y → summary_shown c l e ≡ Some y
closed_shown c l e y h = rw (le-leb 1 e h.0, le-leb e (lce_of c l) h.1) h.2

closed_on : (c d : Register) (calls : List Call) (l e : ℕ) (y : Summary) → Runs c calls d → IsClosed c l e y → IsClosed d l e y
closed_on c d calls l e y r h = let g = (runs_grow c calls d r).logs l in (h.0, (let a = g.lce in let b = h.1 in omega arith), g.summaries e h.1 ∙ h.2)

pub summary_stays : (c d : Register) (calls : List Call) (l e : ℕ) (y : Summary) → Runs c calls d → summary_shown c l e ≡ Some y → summary_shown d l e ≡ Some y
summary_stays c d calls l e y r h = closed_shown d l e y (closed_on c d calls l e y r (shown_closed c l e y h))

-- what a close that answered closed is shown by each later look
pub close_is_shown : (c d : Register) (before between after : List Call) (l e : ℕ) (y : Summary) (short : Bool) (n : Option Spec) (v : View) → Runs c (before ++ Closes l e y short (Ok n) ∷ (between ++ Looks l e (Ok v) ∷ after)) d → v.summary ≡ Some y
close_is_shown c d before between after l e y short n v r =
    let (a, first, (b, p, rest)) = runs_split c before (Closes l e y short (Ok n) ∷ (between ++ Looks l e (Ok v) ∷ after)) d r in
    let (i, middle, (f, q, last)) = runs_split b between (Looks l e (Ok v) ∷ after) d rest in
    ap (λ (x : View). x.summary) (looks_ok i f l e v q).0 ∙ closed_shown i l e y (closed_on b i between l e y middle (closes_ok a b l e y short n p))

-- what is told of an epoch that is handed out is what is fixed for it
fixed_told : (c : Register) (l e : ℕ) → 1 ≤ e → e ≤ (epochs_of c l).epoch → spec_told c l e ≡ find e (epochs_of c l).swapped
fixed_told c l e one most = ap (λ k. find k (epochs_of c l).swapped) (shown_there (epochs_of c l) e one most)

pub specs_fixed : (c d : Register) (calls : List Call) (l e : ℕ) → Runs c calls d → e ≤ (epochs_of c l).epoch → find e (epochs_of d l).specs ≡ find e (epochs_of c l).specs
specs_fixed c d calls l e r most = ((runs_grow c calls d r).logs l).specs e most

pub specs_told : (c d : Register) (calls : List Call) (l e : ℕ) → Runs c calls d → 1 ≤ e → e ≤ (epochs_of c l).epoch → ((epochs_of d l).swaps ≡ (epochs_of c l).swaps) ⊎ (lce_of d l < e) → spec_told d l e ≡ spec_told c l e
specs_told c d calls l e r one most same = let g = (runs_grow c calls d r).logs l in
    fixed_told d l e one (let a = g.epoch in omega arith) ∙ (g.swapped e most same ∙ sym (fixed_told c l e one most))

-- what an activation that answered fixed is shown by each later look, as long as the epoch is open or there was no swap
pub fixed_is_shown : (c d : Register) (before between after : List Call) (s : Spec) (g : Grant) (v : View) → Runs c (before ++ Activates s (Ok g) ∷ (between ++ Looks s.log g.epoch (Ok v) ∷ after)) d → (v.swaps ≡ 0) ⊎ (v.lce < g.epoch) → v.spec ≡ Some s
fixed_is_shown c d before between after s g v r still =
    let (a, first, (b, p, rest)) = runs_split c before (Activates s (Ok g) ∷ (between ++ Looks s.log g.epoch (Ok v) ∷ after)) d r in
    let (i, middle, (f, q, last)) = runs_split b between (Looks s.log g.epoch (Ok v) ∷ after) d rest in
    let h = activates_ok a b s g p in
    let x = looks_ok i f s.log g.epoch v q in
    let grows = (runs_grow b between i middle).logs s.log in
    let one : 1 ≤ g.epoch = (let x = h.1 in omega arith) in
    let most : g.epoch ≤ (epochs_of b s.log).epoch = (let x = h.0 in omega arith) in
    let same : ((epochs_of i s.log).swaps ≡ (epochs_of b s.log).swaps) ⊎ (lce_of i s.log < g.epoch) = elim still [
      | inl none ↦ inl (let z = ap (λ (y : View). y.swaps) x.0 in let k = grows.swaps in omega arith)
      | inr still_open ↦ inr (let z = ap (λ (y : View). y.lce) x.0 in omega arith)
    ] in
    ap (λ (y : View). y.spec) x.0 ∙ (specs_told b i between s.log g.epoch middle one most same ∙ (fixed_told b s.log g.epoch one most ∙ h.2))

-- two looks
pub looks_agree : (c d : Register) (before between after : List Call) (l e k : ℕ) (v w : View) → Runs c (before ++ Looks l e (Ok v) ∷ (between ++ Looks l k (Ok w) ∷ after)) d
    → (v.epoch ≤ w.epoch) × (v.lce ≤ w.lce) × (v.swaps ≤ w.swaps) × ((y : Summary) → e ≡ k → v.summary ≡ Some y → w.summary ≡ Some y) × (e ≡ k → 1 ≤ e → e ≤ v.epoch → (w.swaps ≡ v.swaps) ⊎ (w.lce < e) → w.spec ≡ v.spec)
looks_agree c d before between after l e k v w r =
    let (a, first, (b, p, rest)) = runs_split c before (Looks l e (Ok v) ∷ (between ++ Looks l k (Ok w) ∷ after)) d r in
    let (i, middle, (f, q, last)) = runs_split b between (Looks l k (Ok w) ∷ after) d rest in
    let x = looks_ok a b l e v p in
    let z = looks_ok i f l k w q in
    let swaps_are : (v.swaps ≡ (epochs_of b l).swaps) × (w.swaps ≡ (epochs_of i l).swaps) = (ap (λ (x : View). x.swaps) x.0 ∙ sym (ap (λ n. (epochs_of n l).swaps) x.1), ap (λ (x : View). x.swaps) z.0) in
    let lce_is : w.lce ≡ lce_of i l = ap (λ (x : View). x.lce) z.0 in
    let g = (runs_grow b between i middle).logs l in (
      (let s = ap (λ (x : View). x.epoch) x.0 in let t = ap (λ (x : View). x.epoch) z.0 in let u = ap (λ n. (epochs_of n l).epoch) x.1 in let n = g.epoch in omega arith),
      (let s = ap (λ (x : View). x.lce) x.0 in let t = ap (λ (x : View). x.lce) z.0 in let u = ap (λ n. lce_of n l) x.1 in let n = g.lce in omega arith),
      (let s = swaps_are.0 in let t = swaps_are.1 in let n = g.swaps in omega arith),
      (λ y m h. ap (λ (x : View). x.summary) z.0 ∙ summary_stays b i between l k y middle (subst (λ j. summary_shown b l j ≡ Some y) m (ap (λ n. summary_shown n l e) x.1 ∙ (sym (ap (λ (x : View). x.summary) x.0) ∙ h)))),
      (λ m one most still. ap (λ (x : View). x.spec) z.0
          ∙ (specs_told b i between l k middle (let n = m in omega arith) (let n = m in let s = ap (λ (x : View). x.epoch) x.0 in let u = ap (λ n. (epochs_of n l).epoch) x.1 in omega arith)
          (elim still [ inl same ↦ inl (let s = swaps_are.0 in let t = swaps_are.1 in omega arith) | inr still_open ↦ inr (let n = m in omega arith) ])
          ∙ (ap (λ n. spec_told n l k) x.1 ∙ (ap (λ j. spec_told a l j) (sym m) ∙ sym (ap (λ (x : View). x.spec) x.0))))),
    )

-- ---- what a register answers is a run ----

pub a_call_passes : {T : Type 0} (before now may_before may_now : Register → Type 0) (result : Result T RegisterFault) (answer : Register → Result T RegisterFault) (after : Register → Register)
    → ((c d : Register) → now c → now d → c ≡ d) → ((c : Register) → before c → may_before c)
    → ((c : Register) → before c → IsFree result ⊎ ((result ≡ answer c) × now (after c))) → IsFree result ⊎ ((c : Register) × before c) → IsFree result ⊎ ((c : Register) → may_now c → now c) → ChangedOrNot may_before may_now after
    → (d : Register) → may_now d → (c : Register) × may_before c × Ends result (answer c) c (after c) d
a_call_passes before now may_before may_now result answer after one may answers whole settled done d m = elim whole [
  | inl f ↦ free f
  | inr h ↦ elim settled [
    | inl f ↦ free f
    | inr s ↦ elim (answers h.0 h.1) [ inl f ↦ free f | inr a ↦ (h.0, may h.0 h.1, inr (a.0, one d (after h.0) (s d m) a.1)) ]
  ]
] where
  free : IsFree result → (c : Register) × may_before c × Ends result (answer c) c (after c) d
  free f = let k = done d m in (k.0, k.1, inl (f, k.2))
