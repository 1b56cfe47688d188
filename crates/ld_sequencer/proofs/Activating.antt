-- An activation by what the register shows and answers.
use Rattle.std.proofs.Common.{◌≡◌, ◌⊎◌, inl, inr, ℕ, ◌+◌, ◌-◌, ◌^◌, ◌<◌, ◌≤◌, ◌==◌, ◌||◌, Bool, true, false, cond, nat_le, nat_lt, List, [], ◌++◌, length, take, Some, None, Result, Ok, Err, OnErr, IsErrOf, if◌then◌else◌, refl, ap, sym, subst, ◌∙◌, arith}
use Rattle.std.specs.Option.{unwrap_or}
use Rattle.std.proofs.lemmas.List.{take_at}
use Rattle.std.proofs.lemmas.Bool.Decides.{nat_tests}
use Rattle.ld_table.specs.Table.{find, put}
use Rattle.ld_table.proofs.Laws.{find-put_same, find-put_other}
use Rattle.ld_ids.specs.declared.set.Spec.{Spec}
use Rattle.ld_msg.specs.declared.msg.Msg.{Msg}
use Rattle.ld_msg.specs.Digest.{no_digest}
use Rattle.ld_msg.specs.Register.{Register, Epochs, Changed, Answer, Granted, AtLimit, Behind, Overtaken, Fails, activate, epochs_of, lce_of, with_epochs, next_epoch, epoch_limit, is_crowded, epoch_shown}
use Rattle.ld_msg.specs.Register.{View as Look}
use Rattle.ld_msg.specs.Sequencer.{Recovery, begun, bare, activated as made_active, digest_asks}
use Rattle.ld_register.specs.declared.fault.RegisterFault.{RegisterFault}
use Rattle.ld_register.specs.declared.fault.RegisterFault.TheVariants as registers
use Rattle.ld_register.specs.declared.register.Grant.{Grant}
use Rattle.ld_register.specs.declared.register.View.{View}
use Rattle.ld_register.proofs.Growing.{Same, by_test, change_granted}
use Rattle.ld_register.specs.Calls.{IsFree, ended, is_full, activation_length, activated, after_activate, granted, looked, spec_told, next_told}
use Rattle.ld_sequencer.specs.declared.origin.Origin.{Origin}
use Rattle.ld_sequencer.specs.declared.fault.SequencerFault.{SequencerFault}
use Rattle.ld_sequencer.specs.declared.fault.SequencerFault.TheVariants as faults
use Rattle.ld_sequencer.specs.Looks.{shows, AreAlike, IsForeseen}
use Rattle.ld_sequencer.specs.Register.{of_register, MayCome}
use Rattle.ld_sequencer.specs.Whole.{Whole, sent_as, active, IsActive, Activates, first_asks, looks_after}
use Rattle.ld_sequencer.proofs.Telling.{written, as_shown}

-- ---- refused ----

abbrev as_err : RegisterFault → Result Grant RegisterFault
as_err f = Err f

abbrev as_ok : Grant → Result Grant RegisterFault
as_ok g = Ok g

err_is : (res : Result Grant RegisterFault) (f g : RegisterFault) → res ≡ Err f → IsErrOf res g → f ≡ g
err_is res f g h k = let q : as_err f ≡ as_err g = sym h ∙ k in cc

ok_isnt : (res : Result Grant RegisterFault) (x : Grant) (g : RegisterFault) → res ≡ Ok x → IsErrOf res g → ⊥
ok_isnt res x g h k = let q : as_ok x ≡ as_err g = sym h ∙ k in cc

pub err_exact : (origin : Origin) (spec : Spec) (looks : ℕ → Look) (old new : List Msg) (res answer : Result Grant RegisterFault) (f : RegisterFault) (e : SequencerFault) (A B : Type 0) → res ≡ Err f → e ≡ of_register f → new ≡ old
    → (IsErrOf res registers.NoMemory × A) ⊎ ((res ≡ answer) × B) → (IsErrOf {T = Whole} (Err e) faults.NoMemory × A) ⊎ (Activates origin spec looks old new (Err e) answer × B)
err_exact origin spec looks old new res answer f e A B h k n (inl p) = inl (ap Err (k ∙ ap of_register (err_is res f registers.NoMemory h p.0)), p.1)
err_exact origin spec looks old new res answer f e A B h k n (inr p) = inr (subst (Activates origin spec looks old new (Err e)) (sym h ∙ p.0) (k, n), p.1)

free_err : (f : RegisterFault) (res : Result Grant RegisterFault) (A K : Type 0) → res ≡ Err f → IsFree (as_err f) → IsErrOf res registers.Failed ⊎ OnErr res K → (K → A) → MayCome (of_register f) ⊎ ((f ≡ registers.NoMemory) × A)
free_err registers.Failed res A K h u k g = inl tt
free_err (registers.Damaged place) res A K h u k g = inl tt
free_err registers.NoMemory res A K h u (inl p) g = let q = err_is res registers.NoMemory registers.Failed h p in absurd cc
free_err registers.NoMemory res A K h u (inr p) g = inr (refl, g (subst (λ (x : Result Grant RegisterFault). OnErr x K) h p))
free_err registers.LogLimit res A K h u k g = absurd u
free_err (registers.Behind lce next) res A K h u k g = absurd u
free_err (registers.Overtaken kept) res A K h u k g = absurd u
free_err registers.EpochLimit res A K h u k g = absurd u
free_err registers.GenLimit res A K h u k g = absurd u
free_err registers.SwapLimit res A K h u k g = absurd u
free_err registers.Full res A K h u k g = absurd u

err_free : (origin : Origin) (spec : Spec) (looks : ℕ → Look) (old new : List Msg) (answer : Result Grant RegisterFault) (f : RegisterFault) (e : SequencerFault) (A B : Type 0) → e ≡ of_register f → MayCome (of_register f) ⊎ ((f ≡ registers.NoMemory) × A)
    → MayCome e ⊎ ((IsErrOf {T = Whole} (Err e) faults.NoMemory × A) ⊎ (Activates origin spec looks old new (Err e) answer × B))
err_free origin spec looks old new answer f e A B k (inl p) = inl (subst MayCome (sym k) p)
err_free origin spec looks old new answer f e A B k (inr p) = inr (inl (ap Err (k ∙ ap of_register p.0), p.1))

pub err_held : (origin : Origin) (spec : Spec) (looks : ℕ → Look) (old new : List Msg) (res answer : Result Grant RegisterFault) (f : RegisterFault) (e : SequencerFault) (A B K : Type 0) → res ≡ Err f → e ≡ of_register f → new ≡ old
    → IsErrOf res registers.Failed ⊎ OnErr res K → (K → A) → IsFree res ⊎ ((res ≡ answer) × B)
    → MayCome e ⊎ ((IsErrOf {T = Whole} (Err e) faults.NoMemory × A) ⊎ (Activates origin spec looks old new (Err e) answer × B))
err_held origin spec looks old new res answer f e A B K h k n l g (inl p) = err_free origin spec looks old new answer f e A B k (free_err f res A K h (subst IsFree h p) l g)
err_held origin spec looks old new res answer f e A B K h k n l g (inr p) = inr (inr (subst (Activates origin spec looks old new (Err e)) (sym h ∙ p.0) (k, n), p.1))

-- ---- granted ----

pub taken_off : (origin : Origin) (spec : Spec) (looks : ℕ → Look) (grant : Grant) (w : Whole) (old mid new : List Msg) (n : ℕ) → IsActive origin spec looks grant w old mid → n ≡ length old → new ≡ take n mid → new ≡ old
taken_off origin spec looks grant w old mid new n a k t = t ∙ (ap (take n) a.sent ∙ take_at old (first_asks looks w) n (sym k))

pub again_active : (origin : Origin) (spec : Spec) (looks : ℕ → Look) (old mid new : List Msg) (grant : Grant) (w : Whole) → mid ≡ old → IsActive origin spec looks grant w mid new → IsActive origin spec looks grant w old new
again_active origin spec looks old mid new grant w m a = subst (λ (x : List Msg). IsActive origin spec looks grant w x new) m a

pub done_then : (first last before : Register → Type 0) (change : Register → Register) → ((c : Register) → first c → before c) → ((c : Register) → last c → (b : Register) × first b × ((c ≡ b) ⊎ (c ≡ change b))) → (c : Register) → last c → (b : Register) × before b × ((c ≡ b) ⊎ (c ≡ change b))
done_then first last before change f g c h = let p = g c h in (p.0, f p.0 p.1, p.2)

-- ---- what is shown of the epoch whose recovery begins ----

begun_alike : (looks others : ℕ → Look) (e : ℕ) → AreAlike looks others e → begun (looks e) ≡ begun (others e)
begun_alike looks others e h =
    ap (λ (n : ℕ). begun (record (looks e) { at = n })) h.0 ∙ ap (λ (s : Spec). begun (record (others e) { spec = s })) h.1

active_as : (origin : Origin) (spec : Spec) (looks others : ℕ → Look) (epoch lce : ℕ) → AreAlike looks others (lce + 1) → active origin spec looks epoch lce ≡ active origin spec others epoch lce
unfolding made_active
active_as origin spec looks others epoch lce h = ap (λ (v : Recovery). record { origin = origin; sequencer = record (bare spec spec.log epoch lce) { recovery = if nat_lt (lce + 1) epoch then Some v else None } }) (begun_alike looks others (lce + 1) h)

active_lce : (origin : Origin) (spec : Spec) (looks : ℕ → Look) (epoch lce : ℕ) → (active origin spec looks epoch lce).sequencer.lce ≡ lce
unfolding made_active
active_lce origin spec looks epoch lce = refl

pub active_alike : (origin : Origin) (spec : Spec) (looks others : ℕ → Look) (grant : Grant) (w : Whole) (old new : List Msg) → AreAlike looks others (grant.lce + 1) → IsActive origin spec looks grant w old new → IsActive origin spec others grant w old new
active_alike origin spec looks others grant w old new h a =
    let l : w.sequencer.lce ≡ grant.lce = ap (λ (x : Whole). x.sequencer.lce) a.value ∙ active_lce origin spec looks grant.epoch grant.lce in
    let k : AreAlike looks others (w.sequencer.lce + 1) = subst (λ (n : ℕ). AreAlike looks others (n + 1)) (sym l) h in
    record {
      value = a.value ∙ active_as origin spec looks others grant.epoch grant.lce h;
      sent = a.sent ∙ ap (λ (s : Spec). old ++ sent_as w (if nat_lt (w.sequencer.lce + 1) w.sequencer.epoch then digest_asks (no_digest s (w.sequencer.lce + 1)) else [])) k.1;
    }

-- ---- the grant that is foreseen ----

activate_granted : (r : Register) (s : Spec) → (activate r s.log s).answer ≡ Granted → (nat_le epoch_limit (epochs_of r s.log).epoch ≡ false) × Same (with_epochs r s.log (next_epoch (epochs_of r s.log) s)) (activate r s.log s).register
unfolding activate
activate_granted r s = by_test (nat_le epoch_limit (epochs_of r s.log).epoch) _ _ (λ (d : Changed). d.answer ≡ Granted → (nat_le epoch_limit (epochs_of r s.log).epoch ≡ false) × Same (with_epochs r s.log (next_epoch (epochs_of r s.log) s)) d.register)
    (λ t h. absurd cc) (λ t h. (t, change_granted r (with_epochs r s.log (next_epoch (epochs_of r s.log) s)) 13 h))

ended_ok : (a : Answer) (full : Bool) (limit : RegisterFault) (v g : Grant) → Ok g ≡ ended a full limit v → (a ≡ Granted) × (v ≡ g)
ended_ok Granted full limit v g h = (refl, cc)
ended_ok AtLimit full limit v g h = absurd cc
ended_ok (Behind lce) full limit v g h = absurd cc
ended_ok (Overtaken kept) full limit v g h = absurd cc
ended_ok Fails true limit v g h = absurd cc
ended_ok Fails false limit v g h = absurd cc

-- a grant of these contents
record IsNext (r : Register) (s : Spec) (g : Grant) : Type 0 where
  after : epochs_of (after_activate r s) s.log ≡ next_epoch (epochs_of r s.log) s
  epoch : g.epoch ≡ (epochs_of r s.log).epoch + 1
  lce : g.lce ≡ lce_of r s.log
  next : g.next ≡ next_told (after_activate r s) s.log
  room : nat_le epoch_limit (epochs_of r s.log).epoch ≡ false

next_by : (r : Register) (s : Spec) (g : Grant) (b : Bool) → is_crowded r s.log ≡ b → Ok g ≡ (cond b (Err registers.LogLimit) (ended (activate r s.log s).answer (is_full r activation_length) registers.EpochLimit (granted r s))) → IsNext r s g
next_by r s g true c h = absurd cc
next_by r s g false c h =
    let p = ended_ok (activate r s.log s).answer (is_full r activation_length) registers.EpochLimit (granted r s) g h in
    let after : after_activate r s ≡ (activate r s.log s).register = ap (λ b. cond b r (activate r s.log s).register) c in
    let same = activate_granted r s p.0 in
    let there : epochs_of (after_activate r s) s.log ≡ next_epoch (epochs_of r s.log) s = ap (λ x. epochs_of x s.log) after ∙ written r (activate r s.log s).register s.log (next_epoch (epochs_of r s.log) s) same.1.0 in
    record {
      after = there;
      epoch = sym (ap (λ (x : Grant). x.epoch) p.1) ∙ ap (λ (x : Epochs). x.epoch) there;
      lce = sym (ap (λ (x : Grant). x.lce) p.1);
      next = sym (ap (λ (x : Grant). x.next) p.1);
      room = same.0;
    }

grant_is : (r : Register) (s : Spec) (g : Grant) → Ok g ≡ activated r s → IsNext r s g
grant_is r s g h = next_by r s g (is_crowded r s.log) refl h

-- what a grant tells of the epoch behind the last closed one is what is shown behind it
pub grant_alike : (first spec : Spec) (c : Register) (g : Grant) → Ok g ≡ activated c spec → AreAlike (shows (unwrap_or g.next first)) (looks_after first spec c) (g.lce + 1)
grant_alike first spec c g h =
    let n = grant_is c spec g h in
    let l : lce_of (after_activate c spec) spec.log ≡ g.lce = ap (λ (x : Epochs). x.lce) n.after ∙ sym n.lce in
    as_shown first (after_activate c spec) spec.log (g.lce + 1) g.next (n.next ∙ ap (λ (k : ℕ). spec_told (after_activate c spec) spec.log (k + 1)) l)

-- of an epoch that was handed out the same is told
told_before : (e : Epochs) (s : Spec) → e.lce < e.epoch → find (epoch_shown (next_epoch e s) (e.lce + 1)) (next_epoch e s).swapped ≡ find (epoch_shown e (e.lce + 1)) e.swapped
told_before e s h =
    let a : ((e.lce + 1 == 0) || nat_lt (e.epoch + 1) (e.lce + 1)) ≡ false = grind (arith, nat_tests) in
    let b : ((e.lce + 1 == 0) || nat_lt e.epoch (e.lce + 1)) ≡ false = grind (arith, nat_tests) in
    ap (λ (t : Bool). find (if t then e.epoch + 1 else e.lce + 1) (put (e.epoch + 1) s e.swapped)) a
    ∙ (find-put_other (e.lce + 1) (e.epoch + 1) s e.swapped (λ k. absurd (omega (arith, k, h)))
    ∙ sym (ap (λ (t : Bool). find (if t then e.epoch else e.lce + 1) e.swapped) b))

last_by : (e : Epochs) (s : Spec) (b : Bool) → ((e.lce + 1 == 0) || nat_lt (e.epoch + 1) (e.lce + 1)) ≡ b → e.epoch ≤ e.lce → find (epoch_shown (next_epoch e s) (e.lce + 1)) (next_epoch e s).swapped ≡ Some s
last_by e s true t h = ap (λ (x : Bool). find (if x then e.epoch + 1 else e.lce + 1) (put (e.epoch + 1) s e.swapped)) t ∙ find-put_same (e.epoch + 1) (e.epoch + 1) s e.swapped refl
last_by e s false t h =
    let k : e.lce + 1 ≡ e.epoch + 1 = grind (arith, nat_tests) in
    ap (λ (x : Bool). find (if x then e.epoch + 1 else e.lce + 1) (put (e.epoch + 1) s e.swapped)) t ∙ find-put_same (e.lce + 1) (e.epoch + 1) s e.swapped k

-- and of the next one what is fixed for it
told_last : (e : Epochs) (s : Spec) → e.epoch ≤ e.lce → find (epoch_shown (next_epoch e s) (e.lce + 1)) (next_epoch e s).swapped ≡ Some s
told_last e s h = last_by e s ((e.lce + 1 == 0) || nat_lt (e.epoch + 1) (e.lce + 1)) refl h

-- the grant of these contents is one that agrees with them
foreseen_by : (r : Register) (s : Spec) (e g : Grant) → Ok g ≡ activated r s → (nat_le epoch_limit (epochs_of r s.log).epoch ≡ false → e.epoch ≡ (epochs_of r s.log).epoch + 1) → e.lce ≡ lce_of r s.log
    → e.next ≡ find (epoch_shown (next_epoch (epochs_of r s.log) s) (lce_of r s.log + 1)) (next_epoch (epochs_of r s.log) s).swapped → g ≡ e
foreseen_by r s e g h epoch lce next =
    let n = grant_is r s g h in
    let a : g.epoch ≡ e.epoch = n.epoch ∙ sym (epoch n.room) in
    let b : g.lce ≡ e.lce = n.lce ∙ sym lce in
    let c : g.next ≡ e.next = n.next ∙ (ap (λ (x : Epochs). find (epoch_shown x (x.lce + 1)) x.swapped) n.after ∙ sym next) in
    ap (λ x. record { epoch = x; lce = g.lce; next = g.next }) a ∙ (ap (λ x. record { epoch = e.epoch; lce = x; next = g.next }) b ∙ ap (λ x. record { epoch = e.epoch; lce = e.lce; next = x }) c)

module _ (r : Register) (s : Spec) (v : View) (e : Grant) (shown : v ≡ looked r s.log 0) (above : v.epoch < 2 ^ 32 - 2 → e.epoch ≡ v.epoch + 1) (lce : e.lce ≡ v.lce) where
  epoch_at : v.epoch ≡ (epochs_of r s.log).epoch
  epoch_at = ap (λ (x : View). x.epoch) shown

  lce_at : v.lce ≡ lce_of r s.log
  lce_at = ap (λ (x : View). x.lce) shown

  epoch_is : nat_le epoch_limit (epochs_of r s.log).epoch ≡ false → e.epoch ≡ (epochs_of r s.log).epoch + 1
  epoch_is room =
      let less : (epochs_of r s.log).epoch < 2 ^ 32 - 2 = grind (arith, nat_tests) in
      above (subst (λ x. x < 2 ^ 32 - 2) (sym epoch_at) less) ∙ ap (λ x. x + 1) epoch_at

  -- another epoch is to be recovered, and was looked at
  pub foresees_behind : (w : View) → v.lce < v.epoch → w ≡ looked r s.log (v.lce + 1) → e.next ≡ w.spec → IsForeseen r s e
  foresees_behind w less there next = λ g h.
      let k : lce_of r s.log < (epochs_of r s.log).epoch = subst (λ x. lce_of r s.log < x) epoch_at (subst (λ x. x < v.epoch) lce_at less) in
      foreseen_by r s e g h epoch_is (lce ∙ lce_at) (next ∙ (ap (λ (x : View). x.spec) there ∙ (ap (λ (n : ℕ). spec_told r s.log (n + 1)) lce_at ∙ sym (told_before (epochs_of r s.log) s k))))

  -- none is to be recovered
  pub foresees_now : v.epoch ≤ v.lce → e.next ≡ Some s → IsForeseen r s e
  foresees_now most next = λ g h.
      let k : (epochs_of r s.log).epoch ≤ lce_of r s.log = subst (λ x. x ≤ lce_of r s.log) epoch_at (subst (λ x. v.epoch ≤ x) lce_at most) in
      foreseen_by r s e g h epoch_is (lce ∙ lce_at) (next ∙ sym (told_last (epochs_of r s.log) s k))

-- the grant that was made ready is the one that is given
pub never : (r : Register) (s : Spec) (g e : Grant) (same : Bool) (D : Type 0) → (g ≡ e → same ≡ true) → same ≡ false → IsForeseen r s e → Ok g ≡ activated r s → D
never r s g e same D t u f h = let q = t (f g h) in absurd cc

pub never_exact : (r : Register) (s : Spec) (res : Result Grant RegisterFault) (g e : Grant) (same : Bool) (A B D : Type 0) → res ≡ Ok g → (g ≡ e → same ≡ true) → same ≡ false → IsForeseen r s e → (IsErrOf res registers.NoMemory × A) ⊎ ((res ≡ activated r s) × B) → D
never_exact r s res g e same A B D k t u f (inl p) = absurd (ok_isnt res g registers.NoMemory k p.0)
never_exact r s res g e same A B D k t u f (inr p) = never r s g e same D t u f (sym k ∙ p.0)

pub never_held : (r : Register) (s : Spec) (res : Result Grant RegisterFault) (g e : Grant) (same : Bool) (B D : Type 0) → res ≡ Ok g → (g ≡ e → same ≡ true) → same ≡ false → IsForeseen r s e → IsFree res ⊎ ((res ≡ activated r s) × B) → D
never_held r s res g e same B D k t u f (inl p) = absurd (subst IsFree k p)
never_held r s res g e same B D k t u f (inr p) = never r s g e same D t u f (sym k ∙ p.0)

-- ---- the sequencer of a grant is the one of the contents that gave it ----

ok_is : (origin : Origin) (spec : Spec) (c : Register) (old new : List Msg) (grant : Grant) (w : Whole) → Ok grant ≡ activated c spec → IsActive origin spec (shows (unwrap_or grant.next origin.first)) grant w old new
    → Activates origin spec (looks_after origin.first spec c) old new (Ok w) (activated c spec)
ok_is origin spec c old new grant w h a =
    subst (Activates origin spec (looks_after origin.first spec c) old new (Ok w)) h
    (active_alike origin spec (shows (unwrap_or grant.next origin.first)) (looks_after origin.first spec c) grant w old new (grant_alike origin.first spec c grant h) a)

pub ok_exact : (origin : Origin) (spec : Spec) (c : Register) (old new : List Msg) (res : Result Grant RegisterFault) (grant : Grant) (w : Whole) (A B : Type 0) → res ≡ Ok grant → IsActive origin spec (shows (unwrap_or grant.next origin.first)) grant w old new
    → (IsErrOf res registers.NoMemory × A) ⊎ ((res ≡ activated c spec) × B) → (IsErrOf {T = Whole} (Ok w) faults.NoMemory × A) ⊎ (Activates origin spec (looks_after origin.first spec c) old new (Ok w) (activated c spec) × B)
ok_exact origin spec c old new res grant w A B h a (inl p) = absurd (ok_isnt res grant registers.NoMemory h p.0)
ok_exact origin spec c old new res grant w A B h a (inr p) = inr (ok_is origin spec c old new grant w (sym h ∙ p.0) a, p.1)

pub ok_held : (origin : Origin) (spec : Spec) (c : Register) (old new : List Msg) (res : Result Grant RegisterFault) (grant : Grant) (w : Whole) (P Q B : Type 0) → res ≡ Ok grant → IsActive origin spec (shows (unwrap_or grant.next origin.first)) grant w old new
    → IsFree res ⊎ ((res ≡ activated c spec) × B) → P ⊎ (Q ⊎ (Activates origin spec (looks_after origin.first spec c) old new (Ok w) (activated c spec) × B))
ok_held origin spec c old new res grant w P Q B h a (inl p) = absurd (subst IsFree h p)
ok_held origin spec c old new res grant w P Q B h a (inr p) = inr (inr (ok_is origin spec c old new grant w (sym h ∙ p.0) a, p.1))

pub right_of : {A : Type 0} → ⊥ ⊎ A → A
right_of (inl p) = absurd p
right_of (inr a) = a
