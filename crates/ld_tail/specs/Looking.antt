-- What looks leave of a register, and how the drive of a reader ends by one.
use Rattle.std.specs.Prelude.{ℕ, ◌≡◌, ◌⊎◌, ◌≤◌, Option, None, Some}
use Rattle.std.proofs.Common.{refl, ap, sym, ◌∙◌, inl, inr, ⊎_elim, arith}
use Rattle.ld_msg.specs.Register.{Register}
use Rattle.ld_register.specs.declared.fault.RegisterFault.{RegisterFault}
use Rattle.ld_register.specs.declared.fault.RegisterFault.TheVariants as registers
use Rattle.ld_reader.specs.declared.fault.ReaderFault.{ReaderFault}
use Rattle.ld_reader.specs.declared.fault.ReaderFault.TheVariants as readers
use Rattle.ld_rounds.specs.declared.ended.Refusal.TheVariants as refusals
use Rattle.ld_rounds.specs.declared.ended.Ended.{Ended}
use Rattle.ld_rounds.specs.declared.ended.Ended.TheVariants as ends
use Rattle.ld_rounds.specs.Refusals.{HeldNone, IsRefusal, refusal_as}

abbrev pub register_end : RegisterFault → Ended
register_end registers.NoMemory = ends.NoMemory
register_end (registers.Damaged place) = ends.Register (refusals.Damaged place)
register_end _ = ends.Register refusals.Failed

abbrev pub look_end : ReaderFault → Ended
look_end (readers.Register fault) = register_end fault
look_end readers.NoMemory = ends.NoMemory

-- when out of memory, where no other cause is kept
abbrev pub why_of : Option Ended → Ended
why_of None = ends.NoMemory
why_of (Some end) = end

-- a look failed, as the register's counts of faults before and now say, or the register is damaged from that offset on, or there is no memory left
abbrev pub IsLookEnd : (ℕ → Type 0) → ℕ → ℕ → Ended → Type 0
IsLookEnd damaged before now (ends.Register refusal) = IsRefusal damaged ⊥ before now refusal
IsLookEnd damaged before now ends.NoMemory = Unit {0}
IsLookEnd damaged before now _ = ⊥

-- looks change nothing of a register; where one failed it is kept why, before and now
pub record HasLooked (end_old end_new : Option Ended) (told_old told_new : Type 0) (holds_old holds_new may_old may_new : Register → Type 0) (faults_old faults_new identity_old identity_new : ℕ) : Type 0 where
  pub stays : (e : Ended) → end_old ≡ Some e → end_new ≡ Some e
  pub ended : (e : Ended) → end_new ≡ Some e → (end_old ≡ Some e) ⊎ IsLookEnd (HeldNone holds_old) faults_old faults_new e
  pub held : (end_new ≡ Some (ends.Register refusals.Failed)) ⊎ ((c : Register) → holds_old c → holds_new c)
  pub told : told_old → told_new
  pub same : (c : Register) → may_new c → may_old c
  pub counts : faults_old ≤ faults_new
  pub itself : identity_new ≡ identity_old

-- ---- ends ----

-- more is told of what holds before
end_since : (P Q : ℕ → Type 0) (k n m p : ℕ) (e : Ended) → k ≤ n → m ≤ p → ((place : ℕ) → P place → Q place) → IsLookEnd P n m e → IsLookEnd Q k p e
end_since P Q k n m p (ends.Register refusal) l g f r = refusal_as P Q ⊥ ⊥ k n m p refusal (λ x. omega (arith, l, g, x)) f (λ x. x) r
end_since P Q k n m p ends.NoMemory l g f r = tt
end_since P Q k n m p ends.Done l g f r = absurd r
end_since P Q k n m p ends.Rounds l g f r = absurd r
end_since P Q k n m p (ends.Preempted by) l g f r = absurd r
end_since P Q k n m p ends.LogLimit l g f r = absurd r
end_since P Q k n m p ends.EpochLimit l g f r = absurd r
end_since P Q k n m p ends.EpochFull l g f r = absurd r
end_since P Q k n m p (ends.BadFrame fault) l g f r = absurd r
end_since P Q k n m p (ends.BadLine line place) l g f r = absurd r
end_since P Q k n m p ends.Read l g f r = absurd r
end_since P Q k n m p ends.Write l g f r = absurd r

pub same_end : (x y : Ended) → Some x ≡ Some y → x ≡ y
same_end x y h = cc

-- ---- one look after the other ----

pub looked_here : (end : Option Ended) (told : Type 0) (holds may : Register → Type 0) (faults identity : ℕ) → HasLooked end end told told holds holds may may faults faults identity identity
looked_here end told holds may faults identity = record {
  stays = λ e h. h;
  ended = λ e h. inl h;
  held = inr (λ c h. h);
  told = λ t. t;
  same = λ c h. h;
  counts = omega arith;
  itself = refl;
}

module _ (end_a end_b end_c : Option Ended) (told_a told_b told_c : Type 0) (holds_a holds_b holds_c may_a may_b may_c : Register → Type 0) (faults_a faults_b faults_c identity_a identity_b identity_c : ℕ)
    (p : HasLooked end_a end_b told_a told_b holds_a holds_b may_a may_b faults_a faults_b identity_a identity_b) (q : HasLooked end_b end_c told_b told_c holds_b holds_c may_b may_c faults_b faults_c identity_b identity_c) where
  -- it held nothing before
  none_before : (e : Ended) → IsLookEnd (HeldNone holds_b) faults_b faults_c e → (end_b ≡ Some (ends.Register refusals.Failed)) ⊎ ((c : Register) → holds_a c → holds_b c)
      → (end_b ≡ Some (ends.Register refusals.Failed)) ⊎ IsLookEnd (HeldNone holds_a) faults_a faults_c e
  none_before e r (inl f) = inl f
  none_before e r (inr h) = inr (end_since (HeldNone holds_b) (HeldNone holds_a) faults_a faults_b faults_c faults_c e p.counts (omega arith) (λ place none c x. none c (h c x)) r)

  ended_before : (e : Ended) → end_b ≡ Some e → (end_a ≡ Some e) ⊎ IsLookEnd (HeldNone holds_a) faults_a faults_c e
  ended_before e b = ⊎_elim (λ a. inl a) (λ r. inr (end_since (HeldNone holds_a) (HeldNone holds_a) faults_a faults_a faults_b faults_c e (omega arith) q.counts (λ place none. none) r)) (p.ended e b)

  ended_on : (e : Ended) → end_c ≡ Some e → (end_a ≡ Some e) ⊎ IsLookEnd (HeldNone holds_a) faults_a faults_c e
  ended_on e h = ⊎_elim (λ b. ended_before e b)
      (λ r. ⊎_elim (λ f. ended_before e (f ∙ ap (λ (x : Ended). Some x) (same_end (ends.Register refusals.Failed) e (sym (q.stays (ends.Register refusals.Failed) f) ∙ h)))) (λ x. inr x) (none_before e r p.held))
      (q.ended e h)

  held_on : (end_b ≡ Some (ends.Register refusals.Failed)) ⊎ ((c : Register) → holds_a c → holds_b c) → (end_c ≡ Some (ends.Register refusals.Failed)) ⊎ ((c : Register) → holds_b c → holds_c c) → (end_c ≡ Some (ends.Register refusals.Failed)) ⊎ ((c : Register) → holds_a c → holds_c c)
  held_on (inl f) y = inl (q.stays (ends.Register refusals.Failed) f)
  held_on (inr h) (inl f) = inl f
  held_on (inr h) (inr k) = inr (λ c x. k c (h c x))

  pub looked_on : HasLooked end_a end_c told_a told_c holds_a holds_c may_a may_c faults_a faults_c identity_a identity_c
  looked_on = record {
    stays = λ e h. q.stays e (p.stays e h);
    ended = ended_on;
    held = held_on p.held q.held;
    told = λ t. q.told (p.told t);
    same = λ c h. p.same c (q.same c h);
    counts = (let x = p.counts in let y = q.counts in omega (arith, x, y));
    itself = q.itself ∙ p.itself;
  }
