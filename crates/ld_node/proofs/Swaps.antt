-- When a swap is refused with the end of the swaps, and what a refusal of the register is for a node.
use Rattle.std.proofs.Common.{◌≡◌, ◌⊎◌, inl, inr, ◌≤◌, ◌-◌, ◌^◌, ◌==◌, ℕ, Bool, true, false, Result, Ok, Err, refl, sym, ap, ◌∙◌, if◌then◌else◌}
use Rattle.std.specs.Prelude.{nat_le}
use Rattle.std.proofs.lemmas.Bool.{leb-true}
use Rattle.ld_msg.specs.Register.{Register, Changed, Answer, Granted, AtLimit, Behind, Overtaken, Fails, epochs_of, with_epochs, swapped_epochs, swappable, swap_limit, change, swap}
use Rattle.ld_register.specs.Calls.{swapped, after_swap, ended, is_full, swap_length, IsFree}
use Rattle.ld_register.specs.declared.fault.RegisterFault.{RegisterFault}
use Rattle.ld_register.specs.declared.fault.RegisterFault.TheVariants as faults
use Rattle.ld_node.specs.declared.fault.NodeFault.{NodeFault}
use Rattle.ld_node.specs.declared.fault.NodeFault.TheVariants as nodes
use Rattle.ld_node.specs.Faults.{of_register}
use Rattle.ld_node.specs.Swaps.{not_swapped, counted, passed_on}
use Rattle.ld_node.proofs.Draws.{changed_or_failed, refused, error_is, passed_back}

at_limit : (a : Answer) (full : Bool) (x : ℕ) → not_swapped faults.SwapLimit ≡ ended a full faults.SwapLimit x → a ≡ AtLimit
at_limit Granted full x is = absurd (cc is)
at_limit AtLimit full x is = refl
at_limit (Behind lce) full x is = absurd (cc is)
at_limit (Overtaken kept) full x is = absurd (cc is)
at_limit Fails true x is = absurd (cc is)
at_limit Fails false x is = absurd (cc is)

ends_at_limit : (none last : Bool) (r : Register) (d : Changed) → (d.answer ≡ AtLimit → ⊥)
    → (if none then record { register = r; answer = Granted } else if last then record { register = r; answer = AtLimit } else d).answer ≡ AtLimit → last ≡ true
ends_at_limit true last r d never is = absurd (cc is)
ends_at_limit false true r d never is = refl
ends_at_limit false false r d never is = absurd (never is)

module _ (c : Register) (l upto old new : ℕ) where
  abbrev next : Register
  next = with_epochs c l (swapped_epochs (epochs_of c l) upto old new)

  limit_reached : (swap c l upto old new).answer ≡ AtLimit → nat_le swap_limit (epochs_of c l).swaps ≡ true
  unfolding swap
  limit_reached is = ends_at_limit (swappable c l upto old new == 0) (nat_le swap_limit (epochs_of c l).swaps) c (change c next 11) (changed_or_failed c next 11) is

  no_swap : not_swapped faults.SwapLimit ≡ swapped c l upto old new → swap_limit ≤ (epochs_of c l).swaps
  no_swap is = leb-true swap_limit (epochs_of c l).swaps (limit_reached (at_limit (swap c l upto old new).answer (is_full c swap_length) (swappable c l upto old new) is))

-- ---- what a refused swap tells of the register ----

module _ (holds holds_now : Register → Type 0) (l upto old new : ℕ) where
  abbrev Answers : RegisterFault → Type 0
  Answers fault = (c : Register) → holds c → IsFree (not_swapped fault) ⊎ ((not_swapped fault ≡ swapped c l upto old new) × holds_now (after_swap c l upto old new))

  pub swaps_end : (fault : RegisterFault) → fault ≡ faults.SwapLimit → IsFree (not_swapped fault) ⊎ ((c : Register) × holds c) → Answers fault → (c : Register) × holds c × (2 ^ 32 - 1 ≤ (epochs_of c l).swaps)
  swaps_end faults.SwapLimit is (inl free) answers = absurd free
  swaps_end faults.SwapLimit is (inr held) answers = elim (answers held.0 held.1) [
    | inl free ↦ absurd free
    | inr told ↦ (held.0, held.1, no_swap held.0 l upto old new told.0)
  ]
  swaps_end _ is whole answers = absurd (cc is)

-- ---- an answer of the register, as the node gives it ----

abbrev gave : ℕ → Result ℕ NodeFault
gave count = Ok count

pub counted_is : (told : Result ℕ RegisterFault) (count : ℕ) → gave count ≡ passed_on told → counted count ≡ told
counted_is (Ok k) count is = let same : count ≡ k = cc in ap counted same
counted_is (Err f) count is = absurd (cc is)

pub refused_is : (told : Result ℕ RegisterFault) (fault : NodeFault) (refusal : RegisterFault) → refused {T = ℕ} fault ≡ passed_on told → fault ≡ nodes.Register refusal → not_swapped refusal ≡ told
refused_is (Ok k) fault refusal is named = absurd (cc is)
refused_is (Err f) fault refusal is named = ap not_swapped (sym (passed_back f refusal (sym named ∙ error_is {T = ℕ} fault (of_register f) is)))
