-- What a call that met the register leaves of it, and of how the drive ends.
use Rattle.std.proofs.Common.{◌≡◌, ◌≢◌, ◌⊎◌, ◌≤◌, inl, inr, ⊎_elim, ℕ, true, false, List, Option, Some, None, Ok, Err, IfOk, IfErr, IsErrOf, is_some, refl, sym, ap, subst, ◌∙◌}
use Rattle.std.specs.Prelude.{Result, IsErrAnd, IfSome}
use Rattle.ld_io.specs.Causes.{Rose}
use Rattle.ld_ids.specs.declared.set.Spec.{Spec}
use Rattle.ld_msg.specs.declared.msg.Msg.{Msg}
use Rattle.ld_msg.specs.Register.{Register}
use Rattle.ld_register.specs.Calls.{Keeps, is_full, close_length, activated, after_activate}
use Rattle.ld_register.specs.declared.fault.RegisterFault.TheVariants as registers
use Rattle.ld_sequencer.specs.Register.{MayCome}
use Rattle.ld_sequencer.specs.declared.origin.Origin.{Origin}
use Rattle.ld_sequencer.specs.declared.fault.CloseFault.{CloseFault}
use Rattle.ld_sequencer.specs.declared.fault.CloseFault.TheVariants as unclosed
use Rattle.ld_sequencer.specs.declared.fault.SequencerFault.{SequencerFault}
use Rattle.ld_sequencer.specs.declared.fault.SequencerFault.TheVariants as faults
use Rattle.ld_sequencer.specs.declared.report.Report.{Report}
use Rattle.ld_sequencer.specs.Whole.{Whole, Activates, IsCaused, looks_after}
use Rattle.ld_rounds.specs.declared.ended.Refusal.{Refusal}
use Rattle.ld_rounds.specs.declared.ended.Refusal.TheVariants as refusals
use Rattle.ld_rounds.specs.declared.ended.Ended.{Ended}
use Rattle.ld_rounds.specs.declared.ended.Ended.TheVariants as ends
use Rattle.ld_rounds.specs.Output.{WritesFault}
use Rattle.ld_rounds.specs.Refusals.{HeldNone, IsRefusal, refusal_as}
use Rattle.ld_append.specs.Acting.{HasKept, HasBegun, HoldsSome, LacksRoom}
use Rattle.ld_append.specs.Appends.{IsRefused}
use Rattle.ld_append.specs.Refusing.{report_end, fault_end, end_by, going}
use Rattle.ld_append.proofs.Filling.{full_activation}

same_refusal : (q r : Refusal) → Some (ends.Register q) ≡ Some (ends.Register r) → q ≡ r
same_refusal q r h = cc

pub none_of : (o : Option Ended) → is_some o ≡ false → o ≡ None
none_of None h = refl
none_of (Some e) h = absurd cc

module _ (told : Type 0) (holds_old holds_new may_old may_new : Register → Type 0) (damaged : ℕ → Type 0) (faults_old faults_new log : ℕ) (is_told : (c : Register) → holds_old c → told) (whole : (c : Register) (place : ℕ) → holds_old c → damaged place → ⊥) where
  abbrev Why : Refusal → Type 0
  Why r = IsRefusal (λ place. (faults_new ≡ faults_old) × HeldNone holds_old place) ((faults_new ≡ faults_old) × (HoldsSome holds_old → LacksRoom holds_new)) faults_old faults_new r

  -- a close found no room
  abbrev Filled : Option CloseFault → Type 0
  Filled f = told → f ≡ Some unclosed.Full → (c : Register) × holds_old c × holds_new c × (is_full c close_length ≡ true)

  abbrev Goes : Type 0
  Goes = (faults_new ≡ faults_old) × ((c : Register) → holds_old c → (d : Register) × holds_new d)

  report_refused : (p : Option ℕ) (f : Option CloseFault) → (f ≡ Some unclosed.Failed → Rose faults_old faults_new) → (f ≡ Some unclosed.Failed) ⊎ (faults_new ≡ faults_old) → Filled f → (r : Refusal) → going (report_end p f) ≡ Some (ends.Register r) → Why r
  report_refused (Some by) f x y full r h = absurd cc
  report_refused None None x y full r h = absurd cc
  report_refused None (Some unclosed.Failed) x y full r h = subst Why (same_refusal refusals.Failed r h) (x refl)
  report_refused None (Some unclosed.Full) x y full r h = subst Why (same_refusal refusals.Full r h) (⊎_elim (λ z. absurd cc) (λ z. z) y, λ held. let w = full (is_told held.0 held.1) refl in (w.0, w.2, inr w.3))

  report_goes : (p : Option ℕ) (f : Option CloseFault) → (f ≡ Some unclosed.Failed) ⊎ (faults_new ≡ faults_old) → ((c : Register) → holds_old c → (is_some f ≡ true) ⊎ ((d : Register) × holds_new d)) → going (report_end p f) ≡ None → Goes
  report_goes (Some by) f y k h = absurd cc
  report_goes None None y k h = (⊎_elim (λ z. absurd cc) (λ z. z) y, λ c held. ⊎_elim (λ z. absurd cc) (λ z. z) (k c held))
  report_goes None (Some unclosed.Failed) y k h = absurd cc
  report_goes None (Some unclosed.Full) y k h = absurd cc

  -- by a fault that is neither running out of memory nor a failed call
  other : {X : Type 0} (f : SequencerFault) → (f ≡ faults.NoMemory → ⊥) → (f ≡ faults.Register registers.Failed → ⊥) → (f ≡ faults.NoMemory) ⊎ (f ≡ faults.Register registers.Failed) ⊎ X → X
  other f m n u = ⊎_elim (λ z. absurd (m z)) (λ z. ⊎_elim (λ y. absurd (n y)) (λ y. y) z) u

  fault_refused : (f : SequencerFault) → (f ≡ faults.NoMemory) ⊎ (f ≡ faults.Register registers.Failed) ⊎ (faults_new ≡ faults_old) → (f ≡ faults.Register registers.Failed → Rose faults_old faults_new) → (told → (f ≡ faults.Register registers.Failed) ⊎ IsCaused holds_old damaged log f)
      → (r : Refusal) → going (fault_end f) ≡ Some (ends.Register r) → Why r
  fault_refused (faults.Register registers.Failed) u x k r h = subst Why (same_refusal refusals.Failed r h) (x refl)
  fault_refused (faults.Register (registers.Damaged place)) u x k r h = subst Why (same_refusal (refusals.Damaged place) r h)
      (other (faults.Register (registers.Damaged place)) (λ z. absurd cc) (λ z. absurd cc) u, λ c held. ⊎_elim (λ z. absurd cc) (λ z. whole c place held z) (k (is_told c held)))
  fault_refused (faults.Register registers.Full) u x k r h = subst Why (same_refusal refusals.Full r h) (other (faults.Register registers.Full) (λ z. absurd cc) (λ z. absurd cc) u, λ held. ⊎_elim (λ z. absurd cc) (λ z. absurd z) (k (is_told held.0 held.1)))
  fault_refused (faults.Register registers.LogLimit) u x k r h = absurd cc
  fault_refused (faults.Register (registers.Behind lce next)) u x k r h = absurd cc
  fault_refused (faults.Register (registers.Overtaken kept)) u x k r h = absurd cc
  fault_refused (faults.Register registers.EpochLimit) u x k r h = absurd cc
  fault_refused (faults.Register registers.GenLimit) u x k r h = absurd cc
  fault_refused (faults.Register registers.SwapLimit) u x k r h = absurd cc
  fault_refused (faults.Register registers.NoMemory) u x k r h = absurd cc
  fault_refused (faults.PayloadTooLong n) u x k r h = absurd cc
  fault_refused (faults.Preempted by) u x k r h = absurd cc
  fault_refused faults.EpochFull u x k r h = absurd cc
  fault_refused faults.WindowFull u x k r h = absurd cc
  fault_refused (faults.PastReleased released) u x k r h = absurd cc
  fault_refused faults.NoMemory u x k r h = absurd cc

  fault_goes : (f : SequencerFault) → (f ≡ faults.NoMemory → ⊥) → (f ≡ faults.NoMemory) ⊎ (f ≡ faults.Register registers.Failed) ⊎ (faults_new ≡ faults_old) → (f ≡ faults.NoMemory) ⊎ (f ≡ faults.Register registers.Failed) ⊎ Keeps holds_old holds_new may_old may_new → going (fault_end f) ≡ None → Goes
  fault_goes f m u k h =
      let n : f ≡ faults.Register registers.Failed → ⊥ = λ z. let e : going (fault_end f) ≡ Some (ends.Register refusals.Failed) = ap (λ (x : SequencerFault). going (fault_end x)) z in let y : None ≡ Some (ends.Register refusals.Failed) = sym h ∙ e in absurd cc in
      let keeps : Keeps holds_old holds_new may_old may_new = other f m n k in
      (other f m n u, λ c held. (c, keeps.held c held))

  -- what the call answered, and how the drive ends by that, where it does
  pub kept_by : (A : Register → Report → Type 0) (at : Register → Register) (answer : Result Report SequencerFault) (end_old end_new : Option Ended) → end_old ≡ None → end_new ≡ going (end_by answer) → answer ≢ Err faults.NoMemory → faults_old ≤ faults_new
      → IfOk answer (λ report. report.register ≡ Some unclosed.Failed → Rose faults_old faults_new)
      → IfOk answer (λ report. (report.register ≡ Some unclosed.Failed) ⊎ (faults_new ≡ faults_old))
      → (told → IfOk answer (λ report. report.register ≡ Some unclosed.Full → (c : Register) × holds_old c × holds_new c × (is_full c close_length ≡ true)))
      → IfErr answer (λ fault. (fault ≡ faults.NoMemory) ⊎ (fault ≡ faults.Register registers.Failed) ⊎ (faults_new ≡ faults_old))
      → (IsErrOf answer (faults.Register registers.Failed) → Rose faults_old faults_new)
      → (told → IfErr answer (λ fault. (fault ≡ faults.Register registers.Failed) ⊎ IsCaused holds_old damaged log fault))
      → IfErr answer (λ fault. (fault ≡ faults.NoMemory) ⊎ (fault ≡ faults.Register registers.Failed) ⊎ Keeps holds_old holds_new may_old may_new)
      → ((c : Register) → holds_old c → IfOk answer (λ report. (is_some report.register ≡ true) ⊎ (A c report × holds_new (at c))))
      → HasKept end_old end_new holds_old holds_new faults_old faults_new
  kept_by A at (Ok report) a b none e m counts failed steady full unfailed unseen caused keeps held = record {
    stays = λ x h. let y : None ≡ Some x = sym none ∙ h in absurd cc;
    refused = λ z r h. report_refused report.preempted report.register failed steady full r (sym e ∙ h);
    on = λ h. report_goes report.preempted report.register steady (λ c x. ⊎_elim (λ y. inl y) (λ y. inr (_, y.1)) (held c x)) (sym e ∙ h);
    counts = counts;
  }
  kept_by A at (Err f) a b none e m counts failed steady full unfailed unseen caused keeps held = record {
    stays = λ x h. let y : None ≡ Some x = sym none ∙ h in absurd cc;
    refused = λ z r h. fault_refused f unfailed (λ x. unseen (ap (λ (y : SequencerFault). Err y) x)) caused r (sym e ∙ h);
    on = λ h. fault_goes f (λ x. m (ap (λ (y : SequencerFault). Err y) x)) unfailed keeps (sym e ∙ h);
    counts = counts;
  }

-- it isn't to be used again
pub kept_cut : (end_old end_new : Option Ended) (holds_old holds_new : Register → Type 0) (faults_old faults_new : ℕ) → end_old ≡ None → end_new ≡ Some ends.NoMemory → faults_old ≤ faults_new → HasKept end_old end_new holds_old holds_new faults_old faults_new
kept_cut a b holds_old holds_new faults_old faults_new none e counts = record {
  stays = λ x h. let y : None ≡ Some x = sym none ∙ h in absurd cc;
  refused = λ z r h. let y : Some ends.NoMemory ≡ Some (ends.Register r) = sym e ∙ h in absurd cc;
  on = λ h. let y : Some ends.NoMemory ≡ None = sym e ∙ h in absurd cc;
  counts = counts;
}

-- ---- the activation ----

module _ (damaged : ℕ → Type 0) (told : Type 0) (holds holds_new : Register → Type 0) (faults_old faults_new : ℕ) (origin : Origin) (spec first : Spec) (old new : List Msg) where
  abbrev Told : Ended → Type 0
  Told e = IsRefused (λ place. told → damaged place) (told → HoldsSome holds × LacksRoom holds_new) faults_old faults_new e

  abbrev Answers : SequencerFault → Type 0
  Answers f = (c : Register) → holds c → IsErrAnd {T = Whole} (Err f) MayCome ⊎ (IsErrOf {T = Whole} (Err f) faults.NoMemory × holds_new c) ⊎ (Activates origin spec (looks_after first spec c) old new (Err f) (activated c spec) × holds_new (after_activate c spec))

  full_start : (held : HoldsSome holds) → IsErrAnd {T = Whole} (Err (faults.Register registers.Full)) MayCome ⊎ (IsErrOf {T = Whole} (Err (faults.Register registers.Full)) faults.NoMemory × holds_new held.0) ⊎ (Activates origin spec (looks_after first spec held.0) old new (Err (faults.Register registers.Full)) (activated held.0 spec) × holds_new (after_activate held.0 spec)) → LacksRoom holds_new
  full_start held (inl x) = absurd x
  full_start held (inr (inl x)) = absurd cc
  full_start held (inr (inr x)) =
      let full = full_activation origin spec (looks_after first spec held.0) old new held.0 x.0 in
      (held.0, subst holds_new full.1 x.1, inl full.0)

  pub refused_start : (f : SequencerFault) (end : Option Ended) → end ≡ fault_end f → (IsErrOf {T = Whole} (Err f) (faults.Register registers.Failed) → Rose faults_old faults_new)
      → IsErrOf {T = Whole} (Err f) (faults.Register registers.Failed) ⊎ (faults_new ≡ faults_old) → ((place : ℕ) → IsErrOf {T = Whole} (Err f) (faults.Register (registers.Damaged place)) → told → damaged place)
      → (told → IsErrOf {T = Whole} (Err f) faults.NoMemory ⊎ IsErrAnd {T = Whole} (Err f) MayCome ⊎ ((c : Register) × holds c)) → Answers f → IfSome end Told
  refused_start f end e failed steady lost whole answers = subst (λ (o : Option Ended). IfSome o Told) (sym e) (start_by f failed steady lost whole answers)
    where
      start_by : (f : SequencerFault) → (IsErrOf {T = Whole} (Err f) (faults.Register registers.Failed) → Rose faults_old faults_new)
          → IsErrOf {T = Whole} (Err f) (faults.Register registers.Failed) ⊎ (faults_new ≡ faults_old) → ((place : ℕ) → IsErrOf {T = Whole} (Err f) (faults.Register (registers.Damaged place)) → told → damaged place)
          → (told → IsErrOf {T = Whole} (Err f) faults.NoMemory ⊎ IsErrAnd {T = Whole} (Err f) MayCome ⊎ ((c : Register) × holds c)) → Answers f → IfSome (fault_end f) Told
      start_by (faults.Register registers.Failed) failed steady lost whole answers = failed refl
      start_by (faults.Register (registers.Damaged place)) failed steady lost whole answers = (⊎_elim (λ z. absurd cc) (λ z. z) steady, lost place refl)
      start_by (faults.Register registers.Full) failed steady lost whole answers = (⊎_elim (λ z. absurd cc) (λ z. z) steady, λ t. ⊎_elim (λ z. absurd cc) (λ z. ⊎_elim (λ y. absurd y) (λ y. (y, full_start y (answers y.0 y.1))) z) (whole t))
      start_by (faults.Register registers.LogLimit) failed steady lost whole answers = tt
      start_by (faults.Register (registers.Behind lce next)) failed steady lost whole answers = tt
      start_by (faults.Register (registers.Overtaken kept)) failed steady lost whole answers = tt
      start_by (faults.Register registers.EpochLimit) failed steady lost whole answers = tt
      start_by (faults.Register registers.GenLimit) failed steady lost whole answers = tt
      start_by (faults.Register registers.SwapLimit) failed steady lost whole answers = tt
      start_by (faults.Register registers.NoMemory) failed steady lost whole answers = tt
      start_by (faults.PayloadTooLong n) failed steady lost whole answers = tt
      start_by (faults.Preempted k) failed steady lost whole answers = tt
      start_by faults.EpochFull failed steady lost whole answers = tt
      start_by faults.WindowFull failed steady lost whole answers = tt
      start_by (faults.PastReleased released) failed steady lost whole answers = tt
      start_by faults.NoMemory failed steady lost whole answers = tt

-- it is active
pub begun_well : (A : Register → Type 0) (at : Register → Register) (w : Whole) (end : Option Ended) (told : Type 0) (holds_old holds_new : Register → Type 0) (faults_old faults_new : ℕ) → end ≡ None
    → IsErrOf {T = Whole} (Ok w) (faults.Register registers.Failed) ⊎ (faults_new ≡ faults_old)
    → (told → IsErrOf {T = Whole} (Ok w) faults.NoMemory ⊎ IsErrAnd {T = Whole} (Ok w) MayCome ⊎ ((c : Register) × holds_old c))
    → ((c : Register) → holds_old c → IsErrAnd {T = Whole} (Ok w) MayCome ⊎ (IsErrOf {T = Whole} (Ok w) faults.NoMemory × holds_new c) ⊎ (A c × holds_new (at c))) → HasBegun end told holds_old holds_new faults_old faults_new
begun_well A at w end told holds_old holds_new faults_old faults_new none steady whole held = record {
  end = inl none;
  on = λ h. (⊎_elim (λ z. absurd cc) (λ z. z) steady, λ t. both (⊎_elim (λ z. absurd cc) (λ z. ⊎_elim (λ y. absurd y) (λ y. y) z) (whole t)));
}
  where
    both : (c : Register) × holds_old c → ((c : Register) × holds_old c) × ((d : Register) × holds_new d)
    both c = (c, ⊎_elim (λ z. absurd z) (λ z. ⊎_elim (λ y. absurd cc) (λ y. (_, y.1)) z) (held c.0 c.1))

-- it was refused
pub begun_not : (end : Option Ended) (told : Type 0) (holds_old holds_new : Register → Type 0) (faults_old faults_new : ℕ) → end ≡ Some ends.NoMemory → HasBegun end told holds_old holds_new faults_old faults_new
begun_not end told holds_old holds_new faults_old faults_new e = record {
  end = inr e;
  on = λ h. let y : Some ends.NoMemory ≡ None = sym e ∙ h in absurd cc;
}

write_told : (damaged : ℕ → Type 0) (whole : Type 0) (faults_old faults_new before now : ℕ) (e : Ended) → WritesFault before now e → IsRefused damaged whole faults_old faults_new e
write_told damaged whole faults_old faults_new before now ends.Write f = tt
write_told damaged whole faults_old faults_new before now ends.NoMemory f = tt
write_told damaged whole faults_old faults_new before now (ends.Register fault) f = absurd f
write_told damaged whole faults_old faults_new before now ends.Done f = absurd f
write_told damaged whole faults_old faults_new before now ends.Rounds f = absurd f
write_told damaged whole faults_old faults_new before now (ends.Preempted by) f = absurd f
write_told damaged whole faults_old faults_new before now ends.LogLimit f = absurd f
write_told damaged whole faults_old faults_new before now ends.EpochLimit f = absurd f
write_told damaged whole faults_old faults_new before now ends.EpochFull f = absurd f
write_told damaged whole faults_old faults_new before now (ends.BadFrame fault) f = absurd f
write_told damaged whole faults_old faults_new before now (ends.BadLine line place) f = absurd f
write_told damaged whole faults_old faults_new before now ends.Read f = absurd f

pub told_refused : (damaged : ℕ → Type 0) (whole : Type 0) (faults_old faults_new before now : ℕ) (end : Option Ended) → IfSome end (IsRefused damaged whole faults_old faults_new) → (r : Result (Unit {0}) Ended) → IfErr r (λ e. (end ≡ Some e) ⊎ WritesFault before now e)
    → IfErr r (IsRefused damaged whole faults_old faults_new)
told_refused damaged whole faults_old faults_new before now end t (Ok u) h = tt
told_refused damaged whole faults_old faults_new before now end t (Err e) h = ⊎_elim (λ x. subst (λ (o : Option Ended). IfSome o (IsRefused damaged whole faults_old faults_new)) x t) (λ x. write_told damaged whole faults_old faults_new before now e x) h

-- ---- behind the activation ----

-- what is kept behind it is the same of the register as it was before
pub refused_since : (damaged : ℕ → Type 0) (told : Type 0) (holds_a holds_b holds_c : Register → Type 0) (faults_a faults_b faults_c : ℕ) (end_b end_c : Option Ended) → HasBegun end_b told holds_a holds_b faults_a faults_b → HasKept end_b end_c holds_b holds_c faults_b faults_c
    → (r : Refusal) → end_c ≡ Some (ends.Register r) → IsRefusal (λ place. (faults_c ≡ faults_a) × (told → damaged place)) ((faults_c ≡ faults_a) × (told → HoldsSome holds_a × LacksRoom holds_c)) faults_a faults_c r
refused_since damaged told holds_a holds_b holds_c faults_a faults_b faults_c end_b end_c begun kept r h = ⊎_elim on cut begun.end
  where
    cut : end_b ≡ Some ends.NoMemory → IsRefusal (λ place. (faults_c ≡ faults_a) × (told → damaged place)) ((faults_c ≡ faults_a) × (told → HoldsSome holds_a × LacksRoom holds_c)) faults_a faults_c r
    cut e = let y : Some ends.NoMemory ≡ Some (ends.Register r) = sym (kept.stays ends.NoMemory e).0 ∙ h in absurd cc

    on : end_b ≡ None → IsRefusal (λ place. (faults_c ≡ faults_a) × (told → damaged place)) ((faults_c ≡ faults_a) × (told → HoldsSome holds_a × LacksRoom holds_c)) faults_a faults_c r
    on e =
        let x = begun.on e in
        refusal_as (λ place. (faults_c ≡ faults_b) × HeldNone holds_b place) (λ place. (faults_c ≡ faults_a) × (told → damaged place)) ((faults_c ≡ faults_b) × (HoldsSome holds_b → LacksRoom holds_c)) ((faults_c ≡ faults_a) × (told → HoldsSome holds_a × LacksRoom holds_c)) faults_a faults_b faults_c faults_c r
        (λ y. subst (λ n. Rose n faults_c) x.0 y) (λ place y. (y.0 ∙ x.0, λ t. let d = (x.1 t).1 in absurd (y.1 d.0 d.1))) (λ y. (y.0 ∙ x.0, λ t. let w = x.1 t in (w.0, y.1 w.1))) (kept.refused e r h)
