-- How epochs were closed: with each item of the closing plan settled by as many nodes as there are copies, or short and with the last plan.
use Rattle.std.proofs.Common.{◌≡◌, ◌∙◌, ◌⊎◌, ◌≤◌, ◌<◌, ℕ, inl, inr, refl, ap, sym, subst, true, ◌==◌, List, [], Option, Some, arith}
use Rattle.std.proofs.lemmas.Bool.{cases_lt, and_from, eq-eqb, eqb-true, le-leb}
use Rattle.ld_table.specs.Words.{how_many}
use Rattle.ld_lsn.specs.Number.{epoch_of, esn_of, numbered}
use Rattle.ld_config.specs.declared.config.Config.{Config}
use Rattle.ld_msg.specs.declared.msg.What.{What}
use Rattle.ld_msg.specs.declared.msg.What.TheVariants.{Bridge}
use Rattle.ld_msg.specs.declared.msg.Summary.{Summary}
use Rattle.ld_msg.specs.declared.msg.Body.TheVariants as bodies
use Rattle.ld_msg.specs.Digest.{best, content, plan_item, plan_end, plan_floor}
use Rattle.ld_machine.specs.Config.{fixed_of, fixed_at}
use Rattle.ld_machine.specs.Facts.{Happened}
use Rattle.ld_machine.specs.Invariant.{Closed}
use Rattle.ld_machine.specs.Run.{Move, world_after, trace}
use Rattle.ld_machine.specs.World.{World, Made, HasPlan, begin, from_node, item, item_in, append_in, plan_in, settled, has_told, told_by, says_settled}
use Rattle.ld_safety.specs.Closes.{ClosedFully, ClosedShort, FullOrShort, ClosesSay, says_lost}
use Rattle.ld_safety.proofs.Lists.{any_from, branch}
use Rattle.ld_safety.proofs.Traces.{later}
use Rattle.ld_safety.proofs.GivenSteps.{BaseGiven}
use Rattle.ld_safety.proofs.Plans.{plan_shape, plan_between, plan_at_end}
use Rattle.ld_safety.proofs.LossPlans.{plan_says}
use Rattle.ld_safety.proofs.Protocol.{plan_of}
use Rattle.ld_safety.proofs.Settled.{FullClose, ShortClose, ClosedBy, LostTold}
use Rattle.ld_safety.proofs.Shown.{plan_ends, above_floor}
use Rattle.ld_safety.proofs.Votes.{in_of}
use Rattle.ld_safety.proofs.Along.{Along, LastPlan}
use Rattle.ld_safety.proofs.Agreed.{basis_of, found_plan}
use Rattle.ld_safety.proofs.CopiesStand.{has_plan, once}
use Rattle.ld_safety.proofs.HandedLaws.{FromOneOn, Handing, handing_kept}

module _ (c : Config) (hs : List Happened) (w : World) (B : BaseGiven c hs w × Along c hs w) where
  -- who said that it is lost
  lost_tells : (l e b y : ℕ) → LostTold w.state.network.sent l e b y → has_told w (says_lost e) l b y ≡ true
  lost_tells l e b y t = any_from (told_by (says_lost e) l y b) (from_node l y b (bodies.LostHere t.number t.round t.generation t.end)) w.state.network.sent t.said
      (and_from _ _ (and_from _ _ (eq-eqb l l refl) (eq-eqb _ e t.home)) (and_from _ _ (eq-eqb y y refl) (eq-eqb b b refl)))

  module _ (l e : ℕ) (s : Summary) (k : ClosedBy c hs w.made w.state.network.sent w.state.register l e s) where
    late : e < s.ballot
    late = (B.1.plans l e s.ballot k.plan.basis k.plan.planned).later

    here : HasPlan w l e s.ballot (plan_of l e s.ballot k.plan.basis)
    here = has_plan l e s.ballot w.made k.plan.basis B.1.once k.plan.planned

    -- what the closing plan says
    said : (n : ℕ) (x : What) → epoch_of n ≡ e → item w l n s.ballot ≡ Some x → plan_item e k.plan.basis.loss k.plan.basis.digest (esn_of n) ≡ Some x
    unfolding item
    said n x q h = elim (branch (s.ballot == epoch_of n) (append_in l n w.state.network.sent) (item_in (epoch_of n) (esn_of n) (plan_in l (epoch_of n) s.ballot w.made)) (Some x) h) [
      | inl a ↦ absurd (let z = eqb-true s.ballot (epoch_of n) a.0 in let u = late in omega arith)
      | inr a ↦ sym (ap (λ (o : Option Made). item_in e (esn_of n) o) here) ∙ subst (λ v. item_in v (esn_of n) (plan_in l v s.ballot w.made) ≡ Some x) q a.1
    ]

    -- where it says something
    placed : (n : ℕ) (x : What) → epoch_of n ≡ e → item w l n s.ballot ≡ Some x → (plan_floor e k.plan.basis.digest < esn_of n) × (esn_of n ≤ plan_end e k.plan.basis.digest)
    placed n x q h = let z = plan_shape e k.plan.basis.loss k.plan.basis.digest (esn_of n) x (said n x q h) in (z.above, elim z.kind [ inl u ↦ (let v = u.0 in omega arith) | inr u ↦ (let v = u.0 in omega arith) ])

    fully : FullClose c hs w.state.network.sent w.state.register l e s.ballot k.plan.basis → ClosedFully c w l e s
    unfolding settled
    fully h = record {
      found = k.plan.loss ∙ h.found;
      ready = λ n x q i. let p = placed n x q i in le-leb _ _ (subst (λ v. (fixed_of c w.state.register l v).r ≤ how_many (has_told w (says_settled n) l s.ballot) (fixed_at c w.state.register l v)) (sym q) (h.copies n q p.0 p.1));
    }

    short : LastPlan w l e s.ballot → ShortClose c w.state.network.sent w.state.register l e s.ballot k.plan.basis → ClosedShort c w l e s
    short last h = record {
      settled = λ n x y q i m. let p = placed n x q i in elim (h.settled n q p.0 p.1 y (in_of y (fixed_at c w.state.register l e) m)) [
        | inl t ↦ inl t
        | inr t ↦ inr (lost_tells l e s.ballot y t)
      ];
      last = λ b m f. last.above b (basis_of m) (found_plan l e b w.made m f);
    }

    pub how : ClosedFully c w l e s ⊎ ClosedShort c w l e s
    how = elim (B.1.closed_how l e s k.found_so) [
      | inl a ↦ inl (fully (subst (FullClose c hs w.state.network.sent w.state.register l e s.ballot) (B.1.once l e s.ballot a.0 k.plan.basis a.1 k.plan.planned) a.2))
      | inr a ↦ elim k.plan.how [ inl h ↦ inl (fully h) | inr h ↦ inr (short a h) ]
    ]

  -- up to its end it says something
  says : (l n : ℕ) (s : Summary) → ClosedBy c hs w.made w.state.network.sent w.state.register l (epoch_of n) s → 0 < esn_of n → s.trim < n → s.lng < esn_of n → esn_of n ≤ s.end → (x : What) × (item w l n s.ballot ≡ Some x)
  says l n s k pos tr lo hi = elim (cases_lt (esn_of n) (plan_end (epoch_of n) k.plan.basis.digest)) [
    | inl lt ↦ (content k.plan.basis.loss (best (numbered (epoch_of n) (esn_of n)) k.plan.basis.digest), as_item _ (plan_between (epoch_of n) k.plan.basis.loss k.plan.basis.digest (esn_of n) above lt))
    | inr ge ↦ (Bridge, as_item _ (plan_at_end (epoch_of n) k.plan.basis.loss k.plan.basis.digest (esn_of n) above (let z = k.plan.end in omega arith)))
  ] where
    above : plan_floor (epoch_of n) k.plan.basis.digest < esn_of n
    above = above_floor c hs w.made w.state.network.sent w.state.register (once c hs w B.0.0 B.1) B.1.once B.1.plans B.1.last l n s k.plan pos tr lo

    as_item : (x : What) → plan_item (epoch_of n) k.plan.basis.loss k.plan.basis.digest (esn_of n) ≡ Some x → item w l n s.ballot ≡ Some x
    as_item x h = plan_says w l n s.ballot (plan_of l (epoch_of n) s.ballot k.plan.basis) x (late l (epoch_of n) s k) (here l (epoch_of n) s k) h

  -- ---- in each closed epoch ----
  by_close : FromOneOn w → (l e : ℕ) (s : Summary) → Closed w l e s → ClosedBy c hs w.made w.state.network.sent w.state.register l e s
  by_close P l e s f = elim (B.1.said.register l e s f).1 [ inl a ↦ absurd (let z = a.0 in let y = P l e s f in omega arith) | inr a ↦ a ]

  full_or_short_here : FromOneOn w → FullOrShort c w
  full_or_short_here P l e s f = how l e s (by_close P l e s f)

  closes_say_here : FromOneOn w → ClosesSay w
  closes_say_here P l e p s f tr lo hi =
      let k = by_close P l e s f in
      let en = plan_ends c hs w.made w.state.network.sent w.state.register (once c hs w B.0.0 B.1) B.1.once B.1.plans B.1.last l e s.ballot k.plan.basis k.plan.planned in
      let z = k.plan.end in
      let q : e ≡ epoch_of (numbered e p) = omega arith in
      says l (numbered e p) s (subst (λ v. ClosedBy c hs w.made w.state.network.sent w.state.register l v s) q k) (omega arith) tr (omega arith) (omega arith)

-- ---- along every run ----
pub full_or_short : (c : Config) (ms : List Move) → FullOrShort c (world_after c (begin c) ms)
full_or_short c ms = let p = later c (Handing c) (handing_kept c) [] (begin c) ms (handing_kept c).begins in full_or_short_here c (trace c (begin c) ms) (world_after c (begin c) ms) p.0.0.0.0 p.1.1

pub closes_say : (c : Config) (ms : List Move) → ClosesSay (world_after c (begin c) ms)
closes_say c ms = let p = later c (Handing c) (handing_kept c) [] (begin c) ms (handing_kept c).begins in closes_say_here c (trace c (begin c) ms) (world_after c (begin c) ms) p.0.0.0.0 p.1.1
