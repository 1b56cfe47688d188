-- A look of a register that answered.
use Rattle.std.proofs.Common.{◌≡◌, ◌⊎◌, inl, inr, ℕ, Option, Some, None, Result, Ok, Err, IsErrOf, IsErrAnd, refl, ap, sym, subst, ◌∙◌}
use Rattle.ld_ids.specs.declared.set.Spec.{Spec}
use Rattle.ld_msg.specs.declared.msg.Summary.{Summary}
use Rattle.ld_msg.specs.Register.{Register, look}
use Rattle.ld_register.specs.declared.fault.RegisterFault.{RegisterFault}
use Rattle.ld_register.specs.declared.fault.RegisterFault.TheVariants as registers
use Rattle.ld_register.specs.declared.register.View.{View}
use Rattle.ld_register.specs.Calls.{IsFree, looked}
use Rattle.ld_sequencer.specs.declared.look.Seen.TheVariants as seen
use Rattle.ld_sequencer.specs.Looks.{behind, IsSeen, IsShown}

abbrev as_view : View → Result View RegisterFault
as_view v = Ok v

module _ (res : Result View RegisterFault) (v : View) (h : res ≡ Ok v) where
  seen_is : (w : View) → res ≡ Ok w → v ≡ w
  seen_is w k = let q : as_view v ≡ as_view w = sym h ∙ k in cc

  pub seen_exact : (w : View) (B : Type 0) → (IsErrOf res registers.NoMemory ⊎ (res ≡ Ok w)) × B → v ≡ w
  seen_exact w B (inl p, b) = let q : as_view v ≡ Err registers.NoMemory = sym h ∙ p in absurd cc
  seen_exact w B (inr p, b) = seen_is w p

  pub seen_held : (w : View) (B : Type 0) → IsFree res ⊎ ((res ≡ Ok w) × B) → (v ≡ w) × B
  seen_held w B (inl p) = absurd (subst IsFree h p)
  seen_held w B (inr p) = (seen_is w p.0, p.1)

  -- what is held after it
  pub held_then : (shown : Register → View) (before now : Register → Type 0) → IsFree res ⊎ ((c : Register) × before c) → ((c : Register) → before c → IsFree res ⊎ ((res ≡ Ok (shown c)) × now c)) → (c : Register) × before c × now c
  held_then shown before now (inl p) f = absurd (subst IsFree h p)
  held_then shown before now (inr p) f = (p.0, p.1, (seen_held (shown p.0) (now p.0) (f p.0 p.1)).1)

-- a fault that is passed on
pub passed_err : {T E : Type 0} (res : Result T E) (f e : E) → IsErrAnd res (λ x. x ≡ f) → IsErrOf res e → f ≡ e
passed_err (Ok x) f e h k = absurd cc
passed_err (Err x) f e h k = sym h ∙ cc

-- what was seen is what the contents show
summary_is : (first : Spec) (c : Register) (l e : ℕ) → (look first c l e).summary ≡ (looked c l e).summary
unfolding look
summary_is first c l e = refl

epoch_is : (first : Spec) (c : Register) (l e : ℕ) → (look first c l e).epoch ≡ (looked c l e).epoch
unfolding look
epoch_is first c l e = refl

pub seen_closed : (first : Spec) (c : Register) (l e own : ℕ) (v : View) (o : Option ℕ) (y : Summary) (next : Spec) → v ≡ looked c l e → v.summary ≡ Some y → o ≡ behind e own → IsShown (look first c l) o next → IsSeen (look first c l) e own (seen.Closed y next)
seen_closed first c l e own v o y next h k b s = (summary_is first c l e ∙ (ap (λ (x : View). x.summary) (sym h) ∙ k), subst (λ (x : Option ℕ). IsShown (look first c l) x next) b s)

pub seen_open : (first : Spec) (c : Register) (l e own : ℕ) (v : View) → v ≡ looked c l e → v.summary ≡ None → IsSeen (look first c l) e own (seen.Open v.epoch)
seen_open first c l e own v h k = (summary_is first c l e ∙ (ap (λ (x : View). x.summary) (sym h) ∙ k), epoch_is first c l e ∙ ap (λ (x : View). x.epoch) (sym h))
