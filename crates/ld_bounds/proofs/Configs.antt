-- The nodes and logs of a configuration in its bounds.
use Rattle.std.proofs.Common.{inl, inr, ◌≡◌, ◌∙◌, ℕ, sym, subst, true, false, ◌==◌, List, [], ◌∷◌}
use Rattle.std.specs.List.{AllByRecursion}
use Rattle.std.proofs.lemmas.Bool.{cond_both, eqb-true, or_cases}
use Rattle.ld_table.specs.Words.{is_in, any_of}
use Rattle.ld_ids.specs.Id.{IsNode, IsLog}
use Rattle.ld_ids.specs.Set.{members}
use Rattle.ld_ids.specs.Choice.{nodes_of}
use Rattle.ld_ids.specs.declared.set.Spec.{Spec}
use Rattle.ld_config.specs.declared.config.Config.{Config}
use Rattle.ld_config.specs.Bounds.{IsInBounds, AreSpecsOf}
use Rattle.ld_node_bounds.proofs.Members.{members_nodes}
use Rattle.ld_machine.specs.Config.{spec_in, first_spec, all_nodes, has_log, has_node}
use Rattle.ld_bounds.specs.Specs.{IsSpecFor}

-- ---- nodes ----

pub in_nodes : (n : ℕ) (ns : List ℕ) → AllByRecursion IsNode ns → is_in n ns ≡ true → IsNode n
in_nodes n [] a h = absurd cc
in_nodes n (x ∷ ns) a h = elim (or_cases (x == n) (is_in n ns) h) [
  | inl e ↦ subst IsNode (eqb-true x n e) a.0
  | inr i ↦ in_nodes n ns a.1 i
]

-- ---- logs ----

spec_there : (c : Config) (l : ℕ) (specs : List Spec) → AreSpecsOf c.nodes specs → any_of (λ (s : Spec). s.log == l) specs ≡ true → IsSpecFor c l (spec_in l specs)
spec_there c l [] a h = absurd cc
spec_there c l (s ∷ specs) a h = cond_both (s.log == l) s (spec_in l specs) (IsSpecFor c l) (λ t. record { fits = a.0; log = eqb-true s.log l t })
    (λ t. elim (or_cases (s.log == l) (any_of (λ (s : Spec). s.log == l) specs) h) [
      | inl e ↦ absurd (let z : true ≡ false = sym e ∙ t in cc)
      | inr i ↦ spec_there c l specs a.2 i
    ])

-- the nodes of what is set or fixed for a log
pub spec_nodes : (c : Config) (l : ℕ) (spec : Spec) → IsSpecFor c l spec → AllByRecursion IsNode (nodes_of spec)
spec_nodes c l spec h = members_nodes spec.set h.fits.set

module _ (c : Config) (B : IsInBounds c) where
  pub first_is : (l : ℕ) → has_log c l ≡ true → IsSpecFor c l (first_spec c l)
  first_is l h = spec_there c l c.logs B.specs h

  pub log_is : (l : ℕ) → has_log c l ≡ true → IsLog l
  log_is l h = let s = first_is l h in subst IsLog s.log s.fits.log

  pub all_are : AllByRecursion IsNode (all_nodes c)
  all_are = members_nodes c.nodes B.nodes

  pub node_is : (n : ℕ) → has_node c n ≡ true → IsNode n
  node_is n h = in_nodes n (members c.nodes) all_are h
