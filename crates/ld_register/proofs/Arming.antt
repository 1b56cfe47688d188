-- What an armed fault makes of a call.
use Rattle.std.proofs.Common.{◌≡◌, ◌≤◌, ◌+◌, ◌-◌, ◌^◌, ◌==◌, ◌⊎◌, inl, inr, ℕ, Bool, true, false, not, ◌||◌, min, Option, Some, None, List, Result, Ok, Err, OnOk, IfOk, refl, ap, sym, ◌∙◌, subst, arith, if◌then◌else◌}
use Rattle.std.specs.Prelude.{nat_le}
use Rattle.std.specs.Result.{IsErrOf}
use Rattle.std.proofs.lemmas.Bool.{eqb-true, eq-eqb}
use Rattle.ld_table.specs.Table.{put}
use Rattle.ld_disk.specs.declared.disk.Disk.{Ghosts}
use Rattle.ld_ids.specs.declared.set.Spec.{Spec}
use Rattle.ld_msg.specs.declared.msg.Summary.{Summary}
use Rattle.ld_msg.specs.Register.{Register, Armed, Changed, Granted, AtLimit, Behind, Overtaken, Fails, epochs_of, generation_of, lce_of, is_overtaken, epoch_limit, generation_limit, swap_limit, record_length, falls, armed_after, is_made, made, unmade, change, activate, draw, swappable, next_epoch, with_epochs, is_crowded, epochs_in}
use Rattle.ld_register.specs.declared.fault.RegisterFault.{RegisterFault}
use Rattle.ld_register.specs.declared.fault.RegisterFault.TheVariants as faults
use Rattle.ld_register.specs.declared.disk.DiskRegister.{DiskRegister}
use Rattle.ld_register.specs.declared.faulty.FaultyRegister.{FaultyRegister}
use Rattle.ld_register.specs.declared.change.Change.{Change}
use Rattle.ld_register.specs.declared.register.Drawn.{Drawn}
use Rattle.ld_register.specs.declared.register.Grant.{Grant}
use Rattle.ld_register.specs.Calls.{IsFree, ended, close_ended, next_told, is_full, activated, after_activate, closed, after_close, drawn, after_draw, swapped, after_swap, unarmed}
use Rattle.ld_register.specs.Held.{Holds, MayHold, Foretells, IsDue, Meets, granting}
use Rattle.ld_register.specs.Arming.{kept_in, disk_in, armed_of, own_faults, Foresees, MeetsArmed, HasFallen}
use Rattle.ld_register.proofs.Meeting.{failure, meets_unmade, leaves_changed}
use Rattle.ld_register.proofs.Answering.{to, grant_in, activated_by, crowded_activate, closing, close_at, closed_by, crowded_close, drawn_by, swapping, swap_at, swapped_by}

-- ---- a call, by what it answers with no fault armed ----

abbrev pub with_armed : Register → Option Armed → Register
with_armed r a = record r { armed = a }

-- what is refused so is refused with a fault armed too
abbrev pub Refuses : {T : Type 0} → (Register → Result T RegisterFault) → (Register → Register) → Type 0
Refuses {T = T} answer after = (c : Register) (e : RegisterFault) → failure T e ≡ answer (unarmed c) → (failure T e ≡ answer c) × (after c ≡ c)

-- what is answered so is, unless the armed fault falls
abbrev pub Grants : {T : Type 0} → (Register → Result T RegisterFault) → (Register → Register) → T → Type 0
Grants {T = T} answer after x = (c : Register) → granting x ≡ answer (unarmed c) → ((if falls c.armed then failure T faults.Failed else granting x) ≡ answer c) × (after c ≡ with_armed (if is_made c.armed then after (unarmed c) else c) (armed_after c.armed))

pub record Arms {T : Type 0} (answer : Register → Result T RegisterFault) (after : Register → Register) : Type 0 where
  pub refused : Refuses answer after
  pub granted : (x : T) → Grants answer after x

pub not_falling : (a : Option Armed) → falls a ≡ false → is_made a ≡ true
not_falling None h = refl
not_falling (Some a) h = ap (λ b. not b || a.done) h

ended_by : {T : Type 0} (f m : Bool) (limit : RegisterFault) (given : Register → T) (u v : Register) (x : T) → (f ≡ false → m ≡ true) → granting x ≡ granting (given u)
    → (if f then failure T faults.Failed else granting x) ≡ ended (if f then Fails else Granted) false limit (given (if m then u else v))
ended_by true m limit given u v x n h = refl
ended_by false true limit given u v x n h = h
ended_by false false limit given u v x n h = absurd (let q = n refl in cc q)

made_by : (c next : Register) (b : ℕ) (m : Bool) → is_made c.armed ≡ m → (if m then made c next b else unmade c) ≡ with_armed (if m then record next { length = c.length + record_length b; armed = None } else c) (armed_after c.armed)
made_by c next b true h = ap (λ v. record next { length = if v then c.length + record_length b else c.length; armed = armed_after c.armed }) h
made_by c next b false h = refl

arms_grant : {T : Type 0} (c : Register) (x : T) (next : Register) (b : ℕ) (limit : RegisterFault) (given : Register → T) (answer : Result T RegisterFault) (after unarmed_after : Register)
    → ended (if falls c.armed then Fails else Granted) false limit (given (if is_made c.armed then made c next b else unmade c)) ≡ answer
    → after ≡ (if is_made c.armed then made c next b else unmade c)
    → granting x ≡ granting (given (made c next b))
    → record next { length = c.length + record_length b; armed = None } ≡ unarmed_after
    → ((if falls c.armed then failure T faults.Failed else granting x) ≡ answer) × (after ≡ with_armed (if is_made c.armed then unarmed_after else c) (armed_after c.armed))
arms_grant c x next b limit given answer after unarmed_after s t h n = (
  ended_by (falls c.armed) (is_made c.armed) limit given (made c next b) (unmade c) x (not_falling c.armed) h ∙ s,
  (t ∙ made_by c next b (is_made c.armed) refl) ∙ ap (λ n. with_armed (if is_made c.armed then n else c) (armed_after c.armed)) n,
)

not_granted : {T : Type 0} (e : RegisterFault) (x : T) → failure T e ≡ granting x → ⊥
not_granted e x h = absurd (cc h)

-- ---- a change ----

abbrev outcome : Register → Register → ℕ → Bool → Changed
outcome r next b full = record {
  register = if full then r else if is_made r.armed then made r next b else unmade r;
  answer = if full || falls r.armed then Fails else Granted;
}

changes_by : (r next : Register) (b : ℕ) (full : Bool) → is_full r b ≡ full → change r next b ≡ outcome r next b full
unfolding change
changes_by r next b full h = ap (outcome r next b) h

-- ---- an activation ----

abbrev activation : Register → Spec → Register
activation r s = with_epochs r s.log (next_epoch (epochs_of r s.log) s)

activate_at : (r : Register) (p : Spec) (b : Bool) → nat_le epoch_limit (epochs_of r p.log).epoch ≡ b → activate r p.log p ≡ (if b then to r AtLimit else change r (activation r p) 13)
unfolding activate
activate_at r p b h = ap (λ b. if b then to r AtLimit else change r (activation r p) 13) h

ends_activate : (r : Register) (p : Spec) (full : Bool) → is_crowded r p.log ≡ false → nat_le epoch_limit (epochs_of r p.log).epoch ≡ false → is_full r 13 ≡ full
    → (ended (outcome r (activation r p) 13 full).answer full faults.EpochLimit (grant_in r p (outcome r (activation r p) 13 full).register) ≡ activated r p) × (after_activate r p ≡ (outcome r (activation r p) 13 full).register)
ends_activate r p full c h f = activated_by r p (outcome r (activation r p) 13 full) full c (activate_at r p false h ∙ changes_by r (activation r p) 13 full f) f

refused_activate : (c : Register) (p : Spec) (e : RegisterFault) (crowded limit full : Bool) → is_crowded c p.log ≡ crowded → nat_le epoch_limit (epochs_of c p.log).epoch ≡ limit → is_full c 13 ≡ full
    → failure Grant e ≡ activated (unarmed c) p → (failure Grant e ≡ activated c p) × (after_activate c p ≡ c)
refused_activate c p e true limit full a b d h = let s = crowded_activate c p a in let t = crowded_activate (unarmed c) p a in ((h ∙ sym t.0) ∙ s.0, s.1)
refused_activate c p e false true full a b d h = let s = activated_by c p (to c AtLimit) full a (activate_at c p true b) d in let t = activated_by (unarmed c) p (to (unarmed c) AtLimit) full a (activate_at (unarmed c) p true b) d in ((h ∙ sym t.0) ∙ s.0, s.1)
refused_activate c p e false false true a b d h = let s = ends_activate c p true a b d in let t = ends_activate (unarmed c) p true a b d in ((h ∙ sym t.0) ∙ s.0, s.1)
refused_activate c p e false false false a b d h = let t = ends_activate (unarmed c) p false a b d in absurd (not_granted e _ (h ∙ sym t.0))

granted_activate : (c : Register) (p : Spec) (x : Grant) (crowded limit full : Bool) → is_crowded c p.log ≡ crowded → nat_le epoch_limit (epochs_of c p.log).epoch ≡ limit → is_full c 13 ≡ full
    → granting x ≡ activated (unarmed c) p → ((if falls c.armed then failure Grant faults.Failed else granting x) ≡ activated c p) × (after_activate c p ≡ with_armed (if is_made c.armed then after_activate (unarmed c) p else c) (armed_after c.armed))
granted_activate c p x true limit full a b d h = let t = crowded_activate (unarmed c) p a in absurd (not_granted faults.LogLimit x (sym (h ∙ sym t.0)))
granted_activate c p x false true full a b d h = let t = activated_by (unarmed c) p (to (unarmed c) AtLimit) full a (activate_at (unarmed c) p true b) d in absurd (not_granted faults.EpochLimit x (sym (h ∙ sym t.0)))
granted_activate c p x false false true a b d h = let t = ends_activate (unarmed c) p true a b d in absurd (not_granted faults.Full x (sym (h ∙ sym t.0)))
granted_activate c p x false false false a b d h = let s = ends_activate c p false a b d in let t = ends_activate (unarmed c) p false a b d in
    arms_grant c x (activation c p) 13 faults.EpochLimit (grant_in c p) (activated c p) (after_activate c p) (after_activate (unarmed c) p) s.0 s.1 (h ∙ sym t.0) (sym t.1)

pub arms_activate : (p : Spec) → Arms (λ c. activated c p) (λ c. after_activate c p)
arms_activate p = record {
  refused = λ c e h. refused_activate c p e (is_crowded c p.log) (nat_le epoch_limit (epochs_of c p.log).epoch) (is_full c 13) refl refl refl h;
  granted = λ x c h. granted_activate c p x (is_crowded c p.log) (nat_le epoch_limit (epochs_of c p.log).epoch) (is_full c 13) refl refl refl h;
}

-- ---- a close ----

-- a close that is neither behind nor overtaken
closes_as : (f full : Bool) (before after : Option Spec) → close_ended (if f then Fails else Granted) full before after ≡ ended (if f then Fails else Granted) full faults.EpochLimit after
closes_as true full before after = refl
closes_as false full before after = refl

ends_close : (r : Register) (l e : ℕ) (y : Summary) (short full : Bool) → is_crowded r l ≡ false → (lce_of r l + 1 == e) ≡ true → is_overtaken (epochs_of r l) y short ≡ false → is_full r 30 ≡ full
    → (ended (outcome r (closing r l e y) 30 full).answer full faults.EpochLimit (next_told (outcome r (closing r l e y) 30 full).register l) ≡ closed r l e y short) × (after_close r l e y short ≡ (outcome r (closing r l e y) 30 full).register)
ends_close r l e y short full c h o f =
    let s = closed_by r l e y short (outcome r (closing r l e y) 30 full) full c (close_at r l e y short true false h o ∙ changes_by r (closing r l e y) 30 full f) f in
    (sym (closes_as (full || falls r.armed) full (next_told r l) (next_told (outcome r (closing r l e y) 30 full).register l)) ∙ s.0, s.1)

-- one that is
behind_at : (r : Register) (l k : ℕ) (y : Summary) (short : Bool) → is_crowded r l ≡ false → (lce_of r l + 1 == k) ≡ false → (failure (Option Spec) (faults.Behind (lce_of r l) (next_told r l)) ≡ closed r l k y short) × (after_close r l k y short ≡ r)
behind_at r l k y short a b = closed_by r l k y short (to r (Behind (lce_of r l))) (is_full r 30) a (close_at r l k y short false (is_overtaken (epochs_of r l) y short) b refl) refl

overtaken_at : (r : Register) (l k : ℕ) (y : Summary) (short : Bool) → is_crowded r l ≡ false → (lce_of r l + 1 == k) ≡ true → is_overtaken (epochs_of r l) y short ≡ true
    → (failure (Option Spec) (faults.Overtaken (epochs_of r l).epoch) ≡ closed r l k y short) × (after_close r l k y short ≡ r)
overtaken_at r l k y short a b o = closed_by r l k y short (to r (Overtaken (epochs_of r l).epoch)) (is_full r 30) a (close_at r l k y short true true b o) refl

refused_close : (c : Register) (l k : ℕ) (y : Summary) (short : Bool) (e : RegisterFault) (crowded next late full : Bool) → is_crowded c l ≡ crowded → (lce_of c l + 1 == k) ≡ next → is_overtaken (epochs_of c l) y short ≡ late → is_full c 30 ≡ full
    → failure (Option Spec) e ≡ closed (unarmed c) l k y short → (failure (Option Spec) e ≡ closed c l k y short) × (after_close c l k y short ≡ c)
refused_close c l k y short e true next late full a b o d h = let s = crowded_close c l k y short a in let t = crowded_close (unarmed c) l k y short a in ((h ∙ sym t.0) ∙ s.0, s.1)
refused_close c l k y short e false false late full a b o d h = let s = behind_at c l k y short a b in let t = behind_at (unarmed c) l k y short a b in ((h ∙ sym t.0) ∙ s.0, s.1)
refused_close c l k y short e false true true full a b o d h = let s = overtaken_at c l k y short a b o in let t = overtaken_at (unarmed c) l k y short a b o in ((h ∙ sym t.0) ∙ s.0, s.1)
refused_close c l k y short e false true false true a b o d h = let s = ends_close c l k y short true a b o d in let t = ends_close (unarmed c) l k y short true a b o d in ((h ∙ sym t.0) ∙ s.0, s.1)
refused_close c l k y short e false true false false a b o d h = let t = ends_close (unarmed c) l k y short false a b o d in absurd (not_granted e _ (h ∙ sym t.0))

granted_close : (c : Register) (l k : ℕ) (y : Summary) (short : Bool) (x : Option Spec) (crowded next late full : Bool) → is_crowded c l ≡ crowded → (lce_of c l + 1 == k) ≡ next → is_overtaken (epochs_of c l) y short ≡ late → is_full c 30 ≡ full
    → granting x ≡ closed (unarmed c) l k y short → ((if falls c.armed then failure (Option Spec) faults.Failed else granting x) ≡ closed c l k y short) × (after_close c l k y short ≡ with_armed (if is_made c.armed then after_close (unarmed c) l k y short else c) (armed_after c.armed))
granted_close c l k y short x true next late full a b o d h = let t = crowded_close (unarmed c) l k y short a in absurd (not_granted faults.LogLimit x (sym (h ∙ sym t.0)))
granted_close c l k y short x false false late full a b o d h = let t = behind_at (unarmed c) l k y short a b in absurd (not_granted (faults.Behind (lce_of c l) (next_told c l)) x (sym (h ∙ sym t.0)))
granted_close c l k y short x false true true full a b o d h = let t = overtaken_at (unarmed c) l k y short a b o in absurd (not_granted (faults.Overtaken (epochs_of c l).epoch) x (sym (h ∙ sym t.0)))
granted_close c l k y short x false true false true a b o d h = let t = ends_close (unarmed c) l k y short true a b o d in absurd (not_granted faults.Full x (sym (h ∙ sym t.0)))
granted_close c l k y short x false true false false a b o d h = let s = ends_close c l k y short false a b o d in let t = ends_close (unarmed c) l k y short false a b o d in
    arms_grant c x (closing c l k y) 30 faults.EpochLimit (λ r. next_told r l) (closed c l k y short) (after_close c l k y short) (after_close (unarmed c) l k y short) s.0 s.1 (h ∙ sym t.0) (sym t.1)

pub arms_close : (l e : ℕ) (y : Summary) (short : Bool) → Arms (λ c. closed c l e y short) (λ c. after_close c l e y short)
arms_close l k y short = record {
  refused = λ c e h. refused_close c l k y short e (is_crowded c l) (lce_of c l + 1 == k) (is_overtaken (epochs_of c l) y short) (is_full c 30) refl refl refl refl h;
  granted = λ x c h. granted_close c l k y short x (is_crowded c l) (lce_of c l + 1 == k) (is_overtaken (epochs_of c l) y short) (is_full c 30) refl refl refl refl h;
}

-- ---- a draw ----

abbrev drawing : Register → ℕ → Register
drawing r n = record r { generations = put n (generation_of r n + 1) r.generations }

draw_at : (r : Register) (n : ℕ) (b : Bool) → nat_le generation_limit (generation_of r n) ≡ b → draw r n ≡ (if b then to r AtLimit else change r (drawing r n) 6)
unfolding draw
draw_at r n b h = ap (λ b. if b then to r AtLimit else change r (drawing r n) 6) h

abbrev handing : ℕ → Register → Drawn
handing n r = record { gen_ = generation_of r n; epochs = epochs_in r.logs }

ends_draw : (r : Register) (n : ℕ) (full : Bool) → nat_le generation_limit (generation_of r n) ≡ false → is_full r 6 ≡ full
    → (ended (outcome r (drawing r n) 6 full).answer full faults.GenLimit (handing n (outcome r (drawing r n) 6 full).register) ≡ drawn r n) × (after_draw r n ≡ (outcome r (drawing r n) 6 full).register)
ends_draw r n full h f = drawn_by r n (outcome r (drawing r n) 6 full) full (draw_at r n false h ∙ changes_by r (drawing r n) 6 full f) f

refused_draw : (c : Register) (n : ℕ) (e : RegisterFault) (limit full : Bool) → nat_le generation_limit (generation_of c n) ≡ limit → is_full c 6 ≡ full
    → failure Drawn e ≡ drawn (unarmed c) n → (failure Drawn e ≡ drawn c n) × (after_draw c n ≡ c)
refused_draw c n e true full b d h = let s = drawn_by c n (to c AtLimit) full (draw_at c n true b) d in let t = drawn_by (unarmed c) n (to (unarmed c) AtLimit) full (draw_at (unarmed c) n true b) d in ((h ∙ sym t.0) ∙ s.0, s.1)
refused_draw c n e false true b d h = let s = ends_draw c n true b d in let t = ends_draw (unarmed c) n true b d in ((h ∙ sym t.0) ∙ s.0, s.1)
refused_draw c n e false false b d h = let t = ends_draw (unarmed c) n false b d in absurd (not_granted e _ (h ∙ sym t.0))

granted_draw : (c : Register) (n : ℕ) (x : Drawn) (limit full : Bool) → nat_le generation_limit (generation_of c n) ≡ limit → is_full c 6 ≡ full
    → granting x ≡ drawn (unarmed c) n → ((if falls c.armed then failure Drawn faults.Failed else granting x) ≡ drawn c n) × (after_draw c n ≡ with_armed (if is_made c.armed then after_draw (unarmed c) n else c) (armed_after c.armed))
granted_draw c n x true full b d h = let t = drawn_by (unarmed c) n (to (unarmed c) AtLimit) full (draw_at (unarmed c) n true b) d in absurd (not_granted faults.GenLimit x (sym (h ∙ sym t.0)))
granted_draw c n x false true b d h = let t = ends_draw (unarmed c) n true b d in absurd (not_granted faults.Full x (sym (h ∙ sym t.0)))
granted_draw c n x false false b d h = let s = ends_draw c n false b d in let t = ends_draw (unarmed c) n false b d in
    arms_grant c x (drawing c n) 6 faults.GenLimit (handing n) (drawn c n) (after_draw c n) (after_draw (unarmed c) n) s.0 s.1 (h ∙ sym t.0) (sym t.1)

pub arms_draw : (n : ℕ) → Arms (λ c. drawn c n) (λ c. after_draw c n)
arms_draw n = record {
  refused = λ c e h. refused_draw c n e (nat_le generation_limit (generation_of c n)) (is_full c 6) refl refl h;
  granted = λ x c h. granted_draw c n x (nat_le generation_limit (generation_of c n)) (is_full c 6) refl refl h;
}

-- ---- a swap ----

ends_swap : (r : Register) (l t o w : ℕ) (full : Bool) → (swappable r l t o w == 0) ≡ false → nat_le swap_limit (epochs_of r l).swaps ≡ false → is_full r 11 ≡ full
    → (ended (outcome r (swapping r l t o w) 11 full).answer full faults.SwapLimit (swappable r l t o w) ≡ swapped r l t o w) × (after_swap r l t o w ≡ (outcome r (swapping r l t o w) 11 full).register)
ends_swap r l t o w full n h f = swapped_by r l t o w (outcome r (swapping r l t o w) 11 full) full (swap_at r l t o w false false n h ∙ changes_by r (swapping r l t o w) 11 full f) f

-- one that changes no epoch, and one at the limit
idle_at : (r : Register) (l t o w : ℕ) → (swappable r l t o w == 0) ≡ true → (granting (swappable r l t o w) ≡ swapped r l t o w) × (after_swap r l t o w ≡ r)
idle_at r l t o w n = swapped_by r l t o w (to r Granted) (is_full r 11) (swap_at r l t o w true (nat_le swap_limit (epochs_of r l).swaps) n refl) refl

limit_at : (r : Register) (l t o w : ℕ) → (swappable r l t o w == 0) ≡ false → nat_le swap_limit (epochs_of r l).swaps ≡ true → (failure ℕ faults.SwapLimit ≡ swapped r l t o w) × (after_swap r l t o w ≡ r)
limit_at r l t o w n h = swapped_by r l t o w (to r AtLimit) (is_full r 11) (swap_at r l t o w false true n h) refl

refused_swap : (c : Register) (l t o w : ℕ) (e : RegisterFault) (none limit full : Bool) → (swappable c l t o w == 0) ≡ none → nat_le swap_limit (epochs_of c l).swaps ≡ limit → is_full c 11 ≡ full
    → failure ℕ e ≡ swapped (unarmed c) l t o w → (failure ℕ e ≡ swapped c l t o w) × (after_swap c l t o w ≡ c)
refused_swap c l t o w e true limit full n b d h = let u = idle_at (unarmed c) l t o w n in absurd (not_granted e _ (h ∙ sym u.0))
refused_swap c l t o w e false true full n b d h = let s = limit_at c l t o w n b in let u = limit_at (unarmed c) l t o w n b in ((h ∙ sym u.0) ∙ s.0, s.1)
refused_swap c l t o w e false false true n b d h = let s = ends_swap c l t o w true n b d in let u = ends_swap (unarmed c) l t o w true n b d in ((h ∙ sym u.0) ∙ s.0, s.1)
refused_swap c l t o w e false false false n b d h = let u = ends_swap (unarmed c) l t o w false n b d in absurd (not_granted e _ (h ∙ sym u.0))

pub refuses_swap : (l t o w : ℕ) → Refuses (λ c. swapped c l t o w) (λ c. after_swap c l t o w)
refuses_swap l t o w c e h = refused_swap c l t o w e (swappable c l t o w == 0) (nat_le swap_limit (epochs_of c l).swaps) (is_full c 11) refl refl refl h

same_number : (m n : ℕ) → granting m ≡ granting n → m ≡ n
same_number m n h = cc h

granted_swap : (c : Register) (l t o w x : ℕ) (none limit full : Bool) → 1 ≤ x → (swappable c l t o w == 0) ≡ none → nat_le swap_limit (epochs_of c l).swaps ≡ limit → is_full c 11 ≡ full
    → granting x ≡ swapped (unarmed c) l t o w → ((if falls c.armed then failure ℕ faults.Failed else granting x) ≡ swapped c l t o w) × (after_swap c l t o w ≡ with_armed (if is_made c.armed then after_swap (unarmed c) l t o w else c) (armed_after c.armed))
granted_swap c l t o w x true limit full one n b d h = let u = idle_at (unarmed c) l t o w n in let z = same_number x (swappable c l t o w) (h ∙ sym u.0) in let y = eqb-true (swappable c l t o w) 0 n in absurd (omega arith)
granted_swap c l t o w x false true full one n b d h = let u = limit_at (unarmed c) l t o w n b in absurd (not_granted faults.SwapLimit x (sym (h ∙ sym u.0)))
granted_swap c l t o w x false false true one n b d h = let u = ends_swap (unarmed c) l t o w true n b d in absurd (not_granted faults.Full x (sym (h ∙ sym u.0)))
granted_swap c l t o w x false false false one n b d h = let s = ends_swap c l t o w false n b d in let u = ends_swap (unarmed c) l t o w false n b d in
    arms_grant c x (swapping c l t o w) 11 faults.SwapLimit (λ r. swappable c l t o w) (swapped c l t o w) (after_swap c l t o w) (after_swap (unarmed c) l t o w) s.0 s.1 (h ∙ sym u.0) (sym u.1)

pub grants_swap : (l t o w x : ℕ) → 1 ≤ x → Grants (λ c. swapped c l t o w) (λ c. after_swap c l t o w) x
grants_swap l t o w x one c h = granted_swap c l t o w x (swappable c l t o w == 0) (nat_le swap_limit (epochs_of c l).swaps) (is_full c 11) one refl refl refl h

-- a swap that changes no epoch isn't seen by the armed fault
idle_by : (c : Register) (l t o w : ℕ) (none limit full : Bool) → (swappable c l t o w == 0) ≡ none → nat_le swap_limit (epochs_of c l).swaps ≡ limit → is_full c 11 ≡ full → granting 0 ≡ swapped (unarmed c) l t o w → (swappable c l t o w == 0) ≡ true
idle_by c l t o w true limit full n b d h = n
idle_by c l t o w false true full n b d h = let u = limit_at (unarmed c) l t o w n b in absurd (not_granted faults.SwapLimit 0 (sym (h ∙ sym u.0)))
idle_by c l t o w false false true n b d h = let u = ends_swap (unarmed c) l t o w true n b d in absurd (not_granted faults.Full 0 (sym (h ∙ sym u.0)))
idle_by c l t o w false false false n b d h = let u = ends_swap (unarmed c) l t o w false n b d in eq-eqb (swappable c l t o w) 0 (sym (same_number 0 (swappable c l t o w) (h ∙ sym u.0)))

pub idle_swap_armed : (l t o w : ℕ) (c : Register) → granting 0 ≡ swapped (unarmed c) l t o w → (granting 0 ≡ swapped c l t o w) × (after_swap c l t o w ≡ c)
idle_swap_armed l t o w c h =
    let n = idle_by c l t o w (swappable c l t o w == 0) (nat_le swap_limit (epochs_of c l).swaps) (is_full c 11) refl refl refl h in
    let s = idle_at c l t o w n in (ap (λ k. granting k) (sym (eqb-true (swappable c l t o w) 0 n)) ∙ s.0, s.1)

-- ---- what a call owes that is made, or only checked ----

pub not_made : (p b : Bool) → p ≡ not b → p ≡ true → b ≡ false
not_made p true h t = absurd (let q = sym h ∙ t in cc q)
not_made p false h t = refl

pub is_done : (p b : Bool) → p ≡ not b → p ≡ false → b ≡ true
is_done p true h t = refl
is_done p false h t = absurd (let q = sym h ∙ t in cc q)

module _ {D : Type 0} {g : Ghosts D} where
  pub attempt_checked : {T : Type 0} (counts : (disk : D) (t : ℕ) (c : List ℕ) → t ≤ g.moment disk → g.may_leave disk c → g.left_since disk t c) (image : (disk : D) (bytes : List ℕ) → g.seen disk ≡ Some bytes → g.may_leave disk bytes) (old mid : DiskRegister D g) (x : T → Change) (made : Bool) (r : Result T RegisterFault) (answer : Register → Result T RegisterFault) (after : Register → Register)
      → made ≡ false → IfOk r (λ given. IsDue old mid (x given) given answer after) → OnOk r (Meets old mid r answer (λ c. if made then after c else c))
  attempt_checked counts image old mid x made (Ok given) answer after is d = subst (λ b. Meets old mid (granting given) answer (λ c. if b then after c else c)) (sym is) (meets_unmade counts image old mid (x given) given answer after d)
  attempt_checked counts image old mid x made (Err e) answer after is d = tt

  pub attempt_made : {T : Type 0} (old mid : DiskRegister D g) (made : Bool) (r : Result T RegisterFault) (answer : Register → Result T RegisterFault) (after : Register → Register)
      → made ≡ true → Meets old mid r answer after → OnOk r (Meets old mid r answer (λ c. if made then after c else c))
  attempt_made old mid made (Ok given) answer after is m = subst (λ b. Meets old mid (granting given) answer (λ c. if b then after c else c)) (sym is) m
  attempt_made old mid made (Err e) answer after is m = tt

  -- the same of a call that may find nothing to change
  pub attempt_checked_some : {T : Type 0} (counts : (disk : D) (t : ℕ) (c : List ℕ) → t ≤ g.moment disk → g.may_leave disk c → g.left_since disk t c) (image : (disk : D) (bytes : List ℕ) → g.seen disk ≡ Some bytes → g.may_leave disk bytes) (old mid : DiskRegister D g) (x : Change) (made : Bool) (P : T → Type 0) (r : Result T RegisterFault) (answer : Register → Result T RegisterFault) (after : Register → Register)
      → made ≡ false → IfOk r (λ given. P given → IsDue old mid x given answer after) → IfOk r (λ given. P given → Meets old mid r answer (λ c. if made then after c else c))
  attempt_checked_some counts image old mid x made P (Ok given) answer after is d = λ some. subst (λ b. Meets old mid (granting given) answer (λ c. if b then after c else c)) (sym is) (meets_unmade counts image old mid x given answer after (d some))
  attempt_checked_some counts image old mid x made P (Err e) answer after is d = tt

  pub attempt_made_some : {T : Type 0} (old mid : DiskRegister D g) (made : Bool) (P : T → Type 0) (r : Result T RegisterFault) (answer : Register → Result T RegisterFault) (after : Register → Register)
      → made ≡ true → Meets old mid r answer after → IfOk r (λ given. P given → Meets old mid r answer (λ c. if made then after c else c))
  attempt_made_some old mid made P (Ok given) answer after is m = λ some. subst (λ b. Meets old mid (granting given) answer (λ c. if b then after c else c)) (sym is) m
  attempt_made_some old mid made P (Err e) answer after is m = tt

pub if_ok : {T : Type 0} (r : Result T RegisterFault) (P : T → Type 0) (A : Type 0) → A → IfOk r (λ given. P given → A)
if_ok (Ok given) P A a = λ some. a
if_ok (Err e) P A a = tt

-- ---- counts of faults ----

counts_on : (a b f k m : ℕ) → b ≡ a → f ≤ k → min (a + f) m ≤ min (b + k) m
counts_on a b f k m h l = omega arith

counts_one : (a b f k m : ℕ) → b ≡ min (a + 1) m → f ≤ k → min (a + f) m ≤ min (b + k) m
counts_one a b f k m h l = omega arith

rose_inside : (a b f k m : ℕ) → b ≡ a → min (f + 1) m ≤ k → min (min (a + f) m + 1) m ≤ min (b + k) m
rose_inside a b f k m h l = omega arith

rose_one : (a b f k m : ℕ) → b ≡ min (a + 1) m → f ≤ k → min (min (a + f) m + 1) m ≤ min (b + k) m
rose_one a b f k m h l = omega arith

-- ---- a whole call ----

module _ {D : Type 0} {g : Ghosts D} where
  foretells_unarmed : (r : DiskRegister D g) (c : Register) → Foretells r c → Foretells r (unarmed c)
  foretells_unarmed r c t = subst (λ a. Foretells r (with_armed c a)) t.unarmed t

  pub foresees_none : (r : FaultyRegister D g) (c : Register) → armed_of r ≡ None → Foretells (kept_in r) c → Foresees r c
  foresees_none r c none t = record { foretells = foretells_unarmed (kept_in r) c t; armed = t.unarmed ∙ sym none }

  foresees_after : (new : FaultyRegister D g) (c : Register) (b : Bool) (after : Register → Register) (a : Option Armed) → Foretells (kept_in new) (if b then after (unarmed c) else unarmed c) → a ≡ armed_of new → Foresees new (with_armed (if b then after (unarmed c) else c) a)
  foresees_after new c true after a f is = record { foretells = foretells_unarmed (kept_in new) (after (unarmed c)) f; armed = is }
  foresees_after new c false after a f is = record { foretells = f; armed = is }

  done_of : (made : Bool) (old : DiskRegister D g) (after : Register → Register) (c : Register) → (b : Register) × MayHold old b × ((c ≡ b) ⊎ (c ≡ (if made then after b else b))) → (b : Register) × MayHold old b × ((c ≡ b) ⊎ (c ≡ after b))
  done_of true old after c h = h
  done_of false old after c h = (h.0, h.1, elim h.2 [ inl e ↦ inl e | inr e ↦ inl e ])

  exact_granted : {T : Type 0} (old new : FaultyRegister D g) (given : T) (r : Result T RegisterFault) (answer : Register → Result T RegisterFault) (after : Register → Register) → Grants answer after given → r ≡ (if falls (armed_of old) then failure T faults.Failed else granting given)
      → armed_of new ≡ armed_after (armed_of old) → Meets (kept_in old) (kept_in new) (granting given) answer (λ c. if is_made (armed_of old) then after c else c)
      → (c : Register) → Foresees old c → (IsErrOf r faults.NoMemory × Foresees new c) ⊎ ((r ≡ answer c) × Foresees new (after c))
  exact_granted {T = T} old new given r answer after arms is armed m c f = elim (m.exact (unarmed c) f.foretells) [
    | inl n ↦ absurd (not_granted faults.NoMemory given (sym n.0))
    | inr s ↦ let a = arms c s.0 in inr (
      is ∙ (ap (λ a. if falls a then failure T faults.Failed else granting given) (sym f.armed) ∙ a.0),
      subst (Foresees new) (sym a.1) (foresees_after new c (is_made c.armed) after (armed_after c.armed) (subst (λ a. Foretells (kept_in new) (if is_made a then after (unarmed c) else unarmed c)) (sym f.armed) s.1) (ap armed_after f.armed ∙ sym armed)),
    )
  ]

  fell_by : {T : Type 0} (old new : FaultyRegister D g) (given : T) (r : Result T RegisterFault) (answer : Register → Result T RegisterFault) (after : Register → Register) → Grants answer after given → r ≡ failure T faults.Failed → falls (armed_of old) ≡ true
      → armed_of new ≡ armed_after (armed_of old) → own_faults new ≡ min (own_faults old + 1) (2 ^ 64 - 1)
      → Meets (kept_in old) (kept_in new) (granting given) answer (λ c. if is_made (armed_of old) then after c else c) → MeetsArmed old new r answer after
  fell_by {T = T} old new given r answer after arms is fell armed own m = let free : IsFree r = subst IsFree (sym is) tt in record {
    answers = λ c h. inl free;
    told = m.told;
    whole = λ t. inl free;
    settles = λ t. inl free;
    sure = λ t. inl free;
    survives = λ t cs l. leaves_changed (is_made (armed_of old)) (kept_in new) after cs (m.survives t cs l);
    done_or_not = λ t c h. done_of (is_made (armed_of old)) (kept_in old) after c (m.done_or_not t c h);
    keeps = inl is;
    exact = exact_granted old new given r answer after arms (is ∙ ap (λ b. if b then failure T faults.Failed else granting given) (sym fell)) armed m;
    failed = λ f. rose_one (own_faults old) (own_faults new) (g.faults (disk_in old)) (g.faults (disk_in new)) (2 ^ 64 - 1) own m.counts;
    cause = λ f. inl fell;
    damaged = λ place f. absurd (not_damaged place (sym is ∙ f));
    counts = counts_one (own_faults old) (own_faults new) (g.faults (disk_in old)) (g.faults (disk_in new)) (2 ^ 64 - 1) own m.counts;
  }
    where
      not_damaged : (place : ℕ) → failure T faults.Failed ≡ failure T (faults.Damaged place) → ⊥
      not_damaged place h = absurd (cc h)

  -- the armed fault fell
  pub armed_fell : {T : Type 0} (old mid new : FaultyRegister D g) (given : T) (r : Result T RegisterFault) (answer : Register → Result T RegisterFault) (after : Register → Register) → Grants answer after given → r ≡ failure T faults.Failed → falls (armed_of old) ≡ true → kept_in new ≡ kept_in mid
      → armed_of new ≡ armed_after (armed_of old) → own_faults new ≡ min (own_faults old + 1) (2 ^ 64 - 1)
      → Meets (kept_in old) (kept_in mid) (granting given) answer (λ c. if is_made (armed_of old) then after c else c) → MeetsArmed old new r answer after
  armed_fell old mid new given r answer after arms is fell kept armed own m =
      fell_by old new given r answer after arms is fell armed own (subst (λ k. Meets (kept_in old) k (granting given) answer (λ c. if is_made (armed_of old) then after c else c)) (sym kept) m)

  passed_by : {T : Type 0} (old new : FaultyRegister D g) (given : T) (answer : Register → Result T RegisterFault) (after : Register → Register) → Grants answer after given → falls (armed_of old) ≡ false
      → armed_of new ≡ armed_after (armed_of old) → own_faults new ≡ own_faults old
      → Meets (kept_in old) (kept_in new) (granting given) answer (λ c. if is_made (armed_of old) then after c else c) → MeetsArmed old new (granting given) answer after
  passed_by {T = T} old new given answer after arms passes armed own m =
      let k : Meets (kept_in old) (kept_in new) (granting given) answer after = subst (λ b. Meets (kept_in old) (kept_in new) (granting given) answer (λ c. if b then after c else c)) (not_falling (armed_of old) passes) m in record {
        answers = k.answers;
        told = k.told;
        whole = k.whole;
        settles = k.settles;
        sure = k.sure;
        survives = k.survives;
        done_or_not = k.done_or_not;
        keeps = k.keeps;
        exact = exact_granted old new given (granting given) answer after arms (ap (λ b. if b then failure T faults.Failed else granting given) (sym passes)) armed m;
        failed = λ f. absurd (not_granted faults.Failed given (sym f));
        cause = λ f. absurd (not_granted faults.Failed given (sym f));
        damaged = λ place f. absurd (not_granted (faults.Damaged place) given (sym f));
        counts = counts_on (own_faults old) (own_faults new) (g.faults (disk_in old)) (g.faults (disk_in new)) (2 ^ 64 - 1) own k.counts;
      }

  -- the call was made, and no armed fault fell
  pub armed_passed : {T : Type 0} (old mid new : FaultyRegister D g) (given : T) (answer : Register → Result T RegisterFault) (after : Register → Register) → Grants answer after given → falls (armed_of old) ≡ false → kept_in new ≡ kept_in mid
      → armed_of new ≡ armed_after (armed_of old) → own_faults new ≡ own_faults old
      → Meets (kept_in old) (kept_in mid) (granting given) answer (λ c. if is_made (armed_of old) then after c else c) → MeetsArmed old new (granting given) answer after
  armed_passed old mid new given answer after arms passes kept armed own m =
      passed_by old new given answer after arms passes armed own (subst (λ k. Meets (kept_in old) k (granting given) answer (λ c. if is_made (armed_of old) then after c else c)) (sym kept) m)

  inner_by : {T : Type 0} (old new : FaultyRegister D g) (r : Result T RegisterFault) (answer : Register → Result T RegisterFault) (after : Register → Register) → own_faults new ≡ own_faults old → Meets (kept_in old) (kept_in new) r answer after
      → ((c : Register) → Foresees old c → (IsErrOf r faults.NoMemory × Foresees new c) ⊎ ((r ≡ answer c) × Foresees new (after c))) → MeetsArmed old new r answer after
  inner_by old new r answer after own m exact = record {
    answers = m.answers;
    told = m.told;
    whole = m.whole;
    settles = m.settles;
    sure = m.sure;
    survives = m.survives;
    done_or_not = m.done_or_not;
    keeps = m.keeps;
    exact = exact;
    failed = λ f. rose_inside (own_faults old) (own_faults new) (g.faults (disk_in old)) (g.faults (disk_in new)) (2 ^ 64 - 1) own (m.failed f);
    cause = λ f. inr (m.failed f);
    damaged = m.damaged;
    counts = counts_on (own_faults old) (own_faults new) (g.faults (disk_in old)) (g.faults (disk_in new)) (2 ^ 64 - 1) own m.counts;
  }

  -- the call changes nothing, and doesn't see the armed fault
  pub armed_kept : {T : Type 0} (old new : FaultyRegister D g) (r : Result T RegisterFault) (answer : Register → Result T RegisterFault) (after : Register → Register) → ((c : Register) → r ≡ answer (unarmed c) → (r ≡ answer c) × (after c ≡ c)) → armed_of new ≡ armed_of old → own_faults new ≡ own_faults old
      → Meets (kept_in old) (kept_in new) r answer after → MeetsArmed old new r answer after
  armed_kept old new r answer after same armed own m = inner_by old new r answer after own m (λ c f. elim (m.exact (unarmed c) f.foretells) [
    | inl n ↦ inl (n.0, record { foretells = n.1; armed = f.armed ∙ sym armed })
    | inr s ↦ let a = same c s.0 in let b = same (unarmed c) s.0 in
        inr (a.0, subst (Foresees new) (sym a.1) (record { foretells = subst (Foretells (kept_in new)) b.1 s.1; armed = f.armed ∙ sym armed }))
  ])

  -- the register refused the call
  pub armed_refused : {T : Type 0} (old new : FaultyRegister D g) (e : RegisterFault) (r : Result T RegisterFault) (answer : Register → Result T RegisterFault) (after : Register → Register) → Refuses answer after → r ≡ failure T e → armed_of new ≡ armed_of old → own_faults new ≡ own_faults old
      → Meets (kept_in old) (kept_in new) (failure T e) answer after → MeetsArmed old new r answer after
  armed_refused old new e r answer after refuses is armed own m = armed_kept old new r answer after (λ c h. let a = refuses c e (sym is ∙ h) in (is ∙ a.0, a.1)) armed own (subst (λ r. Meets (kept_in old) (kept_in new) r answer after) (sym is) m)

  -- a look, which doesn't see the armed fault
  pub armed_looked : {T : Type 0} (old new : FaultyRegister D g) (r : Result T RegisterFault) (answer : Register → Result T RegisterFault) → ((c : Register) → answer (unarmed c) ≡ answer c) → armed_of new ≡ armed_of old → own_faults new ≡ own_faults old
      → Meets (kept_in old) (kept_in new) r answer (λ c. c) → MeetsArmed old new r answer (λ c. c)
  armed_looked old new r answer same armed own m = inner_by old new r answer (λ c. c) own m (λ c f. elim (m.exact (unarmed c) f.foretells) [
    | inl n ↦ inl (n.0, record { foretells = n.1; armed = f.armed ∙ sym armed })
    | inr s ↦ inr (s.0 ∙ same c, record { foretells = s.1; armed = f.armed ∙ sym armed })
  ])

  -- ---- what is armed after a call ----

  -- a call that would have answered with this failed where the armed fault fell
  pub fallen : {T : Type 0} (old mid new : FaultyRegister D g) (given : T) (r : Result T RegisterFault) (answer : Register → Result T RegisterFault) (after : Register → Register) → r ≡ failure T faults.Failed → falls (armed_of old) ≡ true → kept_in new ≡ kept_in mid
      → armed_of new ≡ armed_after (armed_of old) → own_faults new ≡ min (own_faults old + 1) (2 ^ 64 - 1)
      → Meets (kept_in old) (kept_in mid) (granting given) answer (λ c. if is_made (armed_of old) then after c else c) → HasFallen old new r after
  fallen old mid new given r answer after is fell kept armed own m = record {
    due = fell;
    failed = is;
    armed = armed ∙ over (armed_of old) fell;
    faults = own;
    holds = λ c h. subst (λ k. Holds k (if is_made (armed_of old) then after c else c)) (sym kept) (held c (m.answers c h));
  }
    where
      over : (a : Option Armed) → falls a ≡ true → armed_after a ≡ None
      over None f = refl
      over (Some a) f = ap (λ b. if b then None else Some (record { left = a.left - 1; done = a.done })) f

      held : (c : Register) → ⊥ ⊎ ((granting given ≡ answer c) × Holds (kept_in mid) (if is_made (armed_of old) then after c else c)) → Holds (kept_in mid) (if is_made (armed_of old) then after c else c)
      held c (inl f) = absurd f
      held c (inr s) = s.1
