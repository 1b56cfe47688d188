-- A set in which one node takes the place of another one is as large, and of the same nodes but for the new one.
use Rattle.std.proofs.Common.{◌≡◌, ◌∙◌, ◌≤◌, ◌<◌, ℕ, zero, suc, ◌+◌, ◌-◌, refl, ap, sym, subst, Bool, true, false, not, ◌&&◌, ◌||◌, ◌==◌, nat_lt, nat_le, List, [], ◌∷◌, length, get_or, set, inl, inr, arith}
use Rattle.std.proofs.lemmas.Bool.{cond_both, and_parts, eqb-true, leb-true, or_cases}
use Rattle.ld_table.specs.Words.{is_in}
use Rattle.ld_ids.specs.Set.{members, members_from, has_node as is_flagged, with_node, without_node, IsSet, IsSubset}
use Rattle.ld_ids.proofs.Members.{members-with, members-without}
use Rattle.ld_ids.specs.declared.set.Spec.{Spec}
use Rattle.ld_config.specs.declared.config.Config.{Config}
use Rattle.ld_config.specs.Bounds.{IsInBounds}
use Rattle.ld_msg.specs.Register.{swaps_in, swapped_spec}
use Rattle.ld_machine.specs.Config.{has_node}
use Rattle.ld_bounds.specs.Specs.{IsSpecFor}
use Rattle.ld_bounds.proofs.Configs.{node_is}

pub set_long : (fs : List Bool) (i : ℕ) (b : Bool) → length (set fs i b) ≡ length fs
set_long [] i b = refl
set_long (x ∷ fs) zero b = refl
set_long (x ∷ fs) (suc i) b = ap suc (set_long fs i b)

unset : (fs : List Bool) (i j : ℕ) → get_or fs i false ≡ false → get_or (set fs j false) i false ≡ false
unset [] i j h = h
unset (b ∷ fs) zero zero h = refl
unset (b ∷ fs) zero (suc j) h = h
unset (b ∷ fs) (suc i) zero h = h
unset (b ∷ fs) (suc i) (suc j) h = unset fs i j h

one_less : (k i : ℕ) (fs : List Bool) → length (members_from k fs) ≤ length (members_from k (set fs i false)) + 1
unfolding members_from
one_less k i [] = omega arith
one_less k zero (true ∷ fs) = omega arith
one_less k zero (false ∷ fs) = omega arith
one_less k (suc i) (true ∷ fs) = omega (arith, one_less (k + 1) i fs)
one_less k (suc i) (false ∷ fs) = one_less (k + 1) i fs

one_more : (k i : ℕ) (fs : List Bool) → i < length fs → get_or fs i false ≡ false → length (members_from k (set fs i true)) ≡ length (members_from k fs) + 1
unfolding members_from
one_more k i [] l g = absurd (omega arith)
one_more k zero (true ∷ fs) l g = absurd cc
one_more k zero (false ∷ fs) l g = omega arith
one_more k (suc i) (true ∷ fs) l g = omega (arith, one_more (k + 1) i fs (omega arith) g)
one_more k (suc i) (false ∷ fs) l g = one_more (k + 1) i fs (omega arith) g

not_true : (b : Bool) → not b ≡ true → b ≡ false
not_true true q = absurd cc
not_true false q = refl

module _ (c : Config) (B : IsInBounds c) (l : ℕ) (s : Spec) (old new : ℕ) (O : has_node c old ≡ true) (N : has_node c new ≡ true) (S : IsSpecFor c l s) where
  swapped_within : IsSubset (with_node new (without_node old s.set)) c.nodes
  swapped_within n h =
      let long : IsSet (without_node old s.set) = set_long s.set (old - 1) false ∙ S.fits.set in
      let there : ((n == new) || (not (n == old) && is_in n (members s.set))) ≡ true = sym (members-with new (without_node old s.set) n (node_is c B new N) long ∙ ap (λ b. (n == new) || b) (members-without old s.set n (node_is c B old O) S.fits.set)) ∙ h in
      elim (or_cases (n == new) (not (n == old) && is_in n (members s.set)) there) [
        | inl t ↦ subst (λ k. is_in k (members c.nodes) ≡ true) (sym (eqb-true n new t)) N
        | inr t ↦ S.fits.within n (and_parts (not (n == old)) (is_in n (members s.set)) t).1
      ]

  swapped_in : swaps_in old new s.set ≡ true → IsSpecFor c l (record s { set = with_node new (without_node old s.set) })
  swapped_in t =
      let p = and_parts (is_flagged old s.set) ((nat_lt 0 new && nat_le new (length s.set)) && not (is_flagged new s.set)) t in
      let q = and_parts (nat_lt 0 new && nat_le new (length s.set)) (not (is_flagged new s.set)) p.1 in
      let long = set_long s.set (old - 1) false in
      let i = node_is c B new N in let one = i.0 in let few = leb-true new (length s.set) (and_parts (nat_lt 0 new) (nat_le new (length s.set)) q.0).1 in
      let less = one_less 1 (old - 1) s.set in
      let more = one_more 1 (new - 1) (without_node old s.set) (omega arith) (unset s.set (new - 1) (old - 1) (not_true (is_flagged new s.set) q.1)) in
      let most = S.fits.most in
      record {
        fits = record { log = S.fits.log; set = set_long (without_node old s.set) (new - 1) true ∙ (long ∙ S.fits.set); within = swapped_within; least = S.fits.least; most = omega arith; few = S.fits.few };
        log = S.log;
      }

  -- what a swap leaves is within the bounds
  pub swapped_is : IsSpecFor c l (swapped_spec old new s)
  swapped_is = cond_both (swaps_in old new s.set) (with_node new (without_node old s.set)) s.set (λ fs. IsSpecFor c l (record s { set = fs })) swapped_in (λ t. S)
