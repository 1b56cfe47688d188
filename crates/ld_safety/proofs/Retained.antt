-- In every state nodes have what they stored and are sealed as they answered, where they serve the epoch.
use Rattle.std.proofs.Common.{◌≡◌, ◌∙◌, ◌⊎◌, ◌≤◌, ℕ, ◌+◌, inl, inr, ap, sym, subst, is_some, List, Option, Some, None, arith, []}
use Rattle.std.proofs.lemmas.Bool.{le-leb}
use Rattle.ld_lsn.specs.Number.{epoch_of}
use Rattle.ld_config.specs.declared.config.Config.{Config}
use Rattle.ld_op.specs.Plain.{Plain, log_of}
use Rattle.ld_machine.specs.Disk.{Cut}
use Rattle.ld_machine.specs.State.{node_at}
use Rattle.ld_machine.specs.Facts.{Happened}
use Rattle.ld_machine.specs.World.{World, Stored, begin, MayHold, Holds, has_at_least}
use Rattle.ld_machine.specs.World as world
use Rattle.ld_machine.specs.Invariant.{Retains, SealsHold, CutAbove}
use Rattle.ld_machine.specs.Run.{Move, world_after, trace}
use Rattle.ld_safety.proofs.Lists.{Some_inj, not_none}
use Rattle.ld_safety.proofs.Traces.{later}
use Rattle.ld_safety.proofs.GivenSteps.{BaseGiven}
use Rattle.ld_safety.proofs.Protocol.{plan_of, Ends}
use Rattle.ld_safety.proofs.Serving.{Gone}
use Rattle.ld_safety.proofs.Holdings.{Holding}
use Rattle.ld_safety.proofs.HoldKept.{CutHolds}
use Rattle.ld_safety.proofs.Along.{Along}
use Rattle.ld_safety.proofs.AlongSteps.{along_kept}
use Rattle.ld_safety.proofs.CopiesStand.{has_plan}

unserved : (p : Plain) (l e : ℕ) → Gone p l e → world.Unserved p l e
unserved p l e (inl h) = inl h
unserved p l e (inr (inl h)) = inr (inl h)
unserved p l e (inr (inr h)) = inr (inr (ap is_some h.1))

module _ (c : Config) (hs : List Happened) (w : World) (R : Along c hs w) where
  cut_above : (p : Plain) (l n b : ℕ) → Ends w.made l b ((log_of p l).sealed + 1) n → CutAbove w p l n b
  cut_above p l n b e =
      (e.ballot, plan_of l (epoch_of n) e.ballot e.basis, has_plan l (epoch_of n) e.ballot w.made e.basis R.once e.planned, e.above, let z = e.below in omega arith, e.before)

  retained : (y : ℕ) (p : Plain) → Holding w.made w.state.network.sent y p → (l n b : ℕ) → Stored w l y n b → world.Unserved p l (epoch_of n) ⊎ ((n ≤ (log_of p l).trim) ⊎ (Holds p l n b ⊎ CutAbove w p l n b))
  retained y p H l n b i = elim (H.retains l n b i) [
    | inl h ↦ inl (unserved p l (epoch_of n) h)
    | inr (inl h) ↦ inr (inl h)
    | inr (inr (inl h)) ↦ inr (inr (inl (ap (has_at_least b) h.found_at ∙ le-leb b h.entry.ballot h.least)))
    | inr (inr (inr h)) ↦ inr (inr (inr (cut_above p l n b h)))
  ]

  -- both plain states
  pub at_nodes : (y : ℕ) (p : Plain) → MayHold (node_at w.state y) p → Holding w.made w.state.network.sent y p
  at_nodes y p (inl q) = subst (Holding w.made w.state.network.sent y) (sym q) (R.holds y).0
  at_nodes y p (inr h) = subst (Holding w.made w.state.network.sent y) (sym h.2) (by_cut (node_at w.state y).cut h.1 (R.holds y).1) where
    by_cut : (o : Option Cut) → o ≡ Some h.0 → CutHolds w.made w.state.network.sent y o → Holding w.made w.state.network.sent y h.0.plain
    by_cut None q H = absurd (not_none q)
    by_cut (Some x) q H = subst (λ (v : Cut). Holding w.made w.state.network.sent y v.plain) (Some_inj q) H

  pub retains_here : Retains w
  retains_here y p m l n b i = retained y p (at_nodes y p m) l n b i

  pub seals_here : SealsHold w
  seals_here y p m l b from upto t lng es i = elim ((at_nodes y p m).seals l b from upto t lng es i) [ inl h ↦ inl (unserved p l (epoch_of from) h) | inr h ↦ inr h ]

pub stored_stays : (c : Config) (es : List Move) → Retains (world_after c (begin c) es)
stored_stays c es = let p = later c (λ hs w. BaseGiven c hs w × Along c hs w) (along_kept c) [] (begin c) es (along_kept c).begins in retains_here c (trace c (begin c) es) (world_after c (begin c) es) p.1

pub seals_hold : (c : Config) (es : List Move) → SealsHold (world_after c (begin c) es)
seals_hold c es = let p = later c (λ hs w. BaseGiven c hs w × Along c hs w) (along_kept c) [] (begin c) es (along_kept c).begins in seals_here c (trace c (begin c) es) (world_after c (begin c) es) p.1
