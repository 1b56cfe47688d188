-- What is set for a log and what a look at one of its epochs shows is in its bounds.
use Rattle.std.proofs.Common.{◌≡◌, ℕ, refl, true, ◌==◌, ◌&&◌, nat_le, List, [], ◌∷◌, Bool, length, Option, Some, None, IfSome, inl, inr, subst}
use Rattle.std.specs.Option.{unwrap_or}
use Rattle.std.specs.List.{AllByRecursion}
use Rattle.std.proofs.lemmas.Bool.{cond_both, and_parts, or_cases, eqb-true, leb-true}
use Rattle.ld_table.specs.Table.{find}
use Rattle.ld_table.specs.Words.{is_in, all_of}
use Rattle.ld_ids.specs.Set.{members, IsSet}
use Rattle.ld_ids.specs.declared.set.Spec.{Spec}
use Rattle.ld_config.specs.declared.config.Config.{Config}
use Rattle.ld_config.specs.Bounds.{IsInBounds}
use Rattle.ld_msg.specs.declared.msg.Summary.{Summary}
use Rattle.ld_msg.specs.Bounds.{IsSummary}
use Rattle.ld_msg.specs.Register.{Register, Epochs, epochs_of, lce_of, epoch_shown, spec_shown, summary_shown, look}
use Rattle.ld_machine.specs.Config.{first_spec, looks_at, has_log, has_node}
use Rattle.ld_machine.specs.State.{State}
use Rattle.ld_machine.specs.Step.{spec_set, can_set}
use Rattle.ld_bounds.specs.Specs.{IsSpecFor, IsSetFor}
use Rattle.ld_bounds.specs.Registers.{IsFixed, IsRegister, IsLook}
use Rattle.ld_node_bounds.proofs.Alls.{all-find}
use Rattle.ld_bounds.proofs.Configs.{first_is, log_is}
use Rattle.ld_bounds.proofs.RegisterChanges.{begun, closed_summary}

-- one of a list passes what all pass
passed : (p : ℕ → Bool) (n : ℕ) (ns : List ℕ) → all_of p ns ≡ true → is_in n ns ≡ true → p n ≡ true
passed p n [] a h = absurd cc
passed p n (x ∷ ns) a h = let b = and_parts (p x) (all_of p ns) a in elim (or_cases (x == n) (is_in n ns) h) [
  | inl e ↦ subst (λ k. p k ≡ true) (eqb-true x n e) b.0
  | inr i ↦ passed p n ns b.1 i
]

module _ (c : Config) (B : IsInBounds c) where
  or_first : (l : ℕ) (o : Option Spec) → has_log c l ≡ true → ((s : Spec) → o ≡ Some s → IsSpecFor c l s) → IsSpecFor c l (unwrap_or o (first_spec c l))
  or_first l None h f = first_is c B l h
  or_first l (Some s) h f = f s refl

  -- what later activations use
  pub set_is : (s : State) (l : ℕ) → AllByRecursion (IsSetFor c) s.specs → has_log c l ≡ true → IsSpecFor c l (spec_set c s l)
  set_is s l a h = or_first l (find l s.specs) h (λ x e. (all-find (IsSetFor c) l s.specs x a e).spec)

  shown_is : (r : Register) (l e : ℕ) → IsRegister c r → has_log c l ≡ true → IsSpecFor c l (spec_shown (epochs_of r l) (first_spec c l) e)
  shown_is r l e R h = let g : Epochs = epochs_of r l in or_first l (find (epoch_shown g e) g.swapped) h (λ x k. (all-find (IsFixed c l g.epoch) (epoch_shown g e) g.swapped x (begun c r l R).swapped k).spec)

  -- the summary that is shown is the closed epoch's
  summary_is : (r : Register) (l e : ℕ) → IsRegister c r → IfSome (summary_shown r l e) (IsSummary e)
  summary_is r l e R = cond_both (nat_le 1 e && nat_le e (lce_of r l)) (find e (epochs_of r l).summaries) None (λ (o : Option Summary). IfSome o (IsSummary e)) (λ t. or_open (find e (epochs_of r l).summaries) (λ y k. (closed_summary c r l e y R k).summary)) (λ t. tt) where
    or_open : (o : Option Summary) → ((y : Summary) → o ≡ Some y → IsSummary e y) → IfSome o (IsSummary e)
    or_open None f = tt
    or_open (Some y) f = f y refl

  pub look_is : (r : Register) (l : ℕ) → IsRegister c r → has_log c l ≡ true → (e : ℕ) → IsLook c l e (looks_at c r l e)
  unfolding look
  look_is r l R h e = record { of_epoch = refl; most = (begun c r l R).epoch_most; summary = summary_is r l e R; spec = shown_is r l e R h }

  -- what a configuration takes to be set
  pub taken_is : (l r x : ℕ) (set : List Bool) → IsSet set → can_set c l r x (members set) ≡ true → IsSetFor c (l, record { log = l; set = set; r = r; extras = x })
  taken_is l r x set i t =
      let p = and_parts (has_log c l) (all_of (has_node c) (members set) && (nat_le 1 r && (nat_le r (length (members set)) && nat_le x 3))) t in
      let q = and_parts (all_of (has_node c) (members set)) (nat_le 1 r && (nat_le r (length (members set)) && nat_le x 3)) p.1 in
      let u = and_parts (nat_le 1 r) (nat_le r (length (members set)) && nat_le x 3) q.1 in
      let v = and_parts (nat_le r (length (members set))) (nat_le x 3) u.1 in
      record {
        log = p.0;
        spec = record {
          fits = record { log = log_is c B l p.0; set = i; within = λ n h. passed (has_node c) n (members set) q.0 h; least = leb-true 1 r u.0; most = leb-true r (length (members set)) v.0; few = leb-true x 3 v.1 };
          log = refl;
        };
      }
