-- What a ballot says of a number is its item: appends were sent, and plans are in the book.
use Rattle.std.proofs.Common.{◌≡◌, ◌∙◌, ℕ, inl, inr, refl, ap, sym, subst, Bool, true, false, ◌&&◌, ◌==◌, if◌then◌else◌, List, [], ◌∷◌, Some, arith}
use Rattle.std.proofs.lemmas.Bool.{and_parts, and_from, eq-eqb, eqb-false}
use Rattle.ld_lsn.specs.Number.{epoch_of, esn_of}
use Rattle.ld_config.specs.declared.config.Config.{Config}
use Rattle.ld_msg.specs.declared.msg.What.{What}
use Rattle.ld_msg.specs.declared.msg.What.TheVariants.{Rec}
use Rattle.ld_msg.specs.declared.msg.Msg.{Msg}
use Rattle.ld_msg.specs.declared.msg.Body.{Body}
use Rattle.ld_msg.specs.declared.msg.Body.TheVariants as bodies
use Rattle.ld_machine.specs.Facts.{Happened}
use Rattle.ld_machine.specs.World.{World, In, item, append_in, what_sent, stored_what, stores_at, is_sequencer, plan_in, item_in, to_node_of}
use Rattle.ld_safety.proofs.Lists.{not_both, cond_both}
use Rattle.ld_safety.proofs.Given.{AppendedBy}
use Rattle.ld_safety.proofs.GivenSteps.{BaseGiven}
use Rattle.ld_safety.proofs.Protocol.{plan_of, Says}
use Rattle.ld_safety.proofs.LossPlans.{plan_says}
use Rattle.ld_safety.proofs.Along.{Along}
use Rattle.ld_safety.proofs.Agreed.{store_said}
use Rattle.ld_safety.proofs.CopiesStand.{has_plan, once}
use Rattle.ld_safety.proofs.AppendsSent.{StoreSent, AllSent}

-- ---- a store that was sent is found ----
stored_some : (n : ℕ) (b : Body) → stores_at n b ≡ true → (x : What) × (stored_what b ≡ Some x)
stored_some n (bodies.Store s lng x) h = (x, refl)
stored_some n _ h = absurd cc

in_append : (l n : ℕ) (ms : List Msg) → StoreSent ms l n → (x : What) × (append_in l n ms ≡ Some x)
in_append l n [] h = absurd h.there
in_append l n (m ∷ ms) h = by_test (λ i. in_append l n ms (record { node = h.node; lng = h.lng; what = h.what; there = i })) (what_sent l (epoch_of n) n m) refl h.there where
  by_test : (In (to_node_of l (epoch_of n) h.node (bodies.Store n h.lng h.what)) ms → (x : What) × (append_in l n ms ≡ Some x)) → (t : Bool) → what_sent l (epoch_of n) n m ≡ t → In (to_node_of l (epoch_of n) h.node (bodies.Store n h.lng h.what)) (m ∷ ms) → (x : What) × ((if t then stored_what m.body else append_in l n ms) ≡ Some x)
  by_test ih true q i = let p = and_parts (m.log == l) (is_sequencer (epoch_of n) m.from && stores_at n m.body) q in stored_some n m.body (and_parts (is_sequencer (epoch_of n) m.from) (stores_at n m.body) p.1).1
  by_test ih false q (inl e) = absurd (not_both (what_sent l (epoch_of n) n m) (subst (λ (z : Msg). what_sent l (epoch_of n) n z ≡ true) e (and_from (l == l) _ (eq-eqb l l refl) (and_from (epoch_of n == epoch_of n) (n == n) (eq-eqb (epoch_of n) (epoch_of n) refl) (eq-eqb n n refl)))) q)
  by_test ih false q (inr i) = ih i

module _ (c : Config) (hs : List Happened) (w : World) (B : BaseGiven c hs w × Along c hs w) (S : AllSent hs w) where
  own_item : (l n : ℕ) (p : List ℕ) → AppendedBy hs l n p → append_in l n w.state.network.sent ≡ Some (Rec p)
  own_item l n p a =
      let z = in_append l n w.state.network.sent (S l n a.0 a.1.name a.1.told a.1.of_log) in
      z.1 ∙ ap Some (elim (store_said c hs w B.0.0 B.1 l n z.0 z.1).says [
        | inl o ↦ o.is ∙ ap Rec (once c hs w B.0.0 B.1 l n o.payload p o.appended a)
        | inr o ↦ absurd (let y = o.later in omega arith)
      ])

  -- what a ballot says of a number is its item
  pub item_says : (l n b : ℕ) (x : What) → Says hs w.made l b n x → item w l n b ≡ Some x
  unfolding item
  item_says l n b x (inl o) = cond_both (b == epoch_of n) (append_in l n w.state.network.sent) (item_in (epoch_of n) (esn_of n) (plan_in l (epoch_of n) b w.made)) (λ v. v ≡ Some x)
      (λ t. own_item l n o.payload o.appended ∙ ap Some (sym o.is)) (λ t. absurd (eqb-false b (epoch_of n) t o.own))
  item_says l n b x (inr o) = plan_says w l n b (plan_of l (epoch_of n) b o.basis) x o.later (has_plan l (epoch_of n) b w.made o.basis B.1.once o.planned) o.item
