-- A log's part of a calm: its last sequencer retries, all messages are delivered, its nodes tick; behind that no append of it waits, all epochs before its own are closed, each node is clean in them, and its nodes were told what it released, and so it stays; and nothing is new when the rest begins.
use Rattle.std.proofs.Common.{◌≡◌, ◌∙◌, ◌⊎◌, ℕ, ◌+◌, inl, inr, refl, ap, sym, subst, true, false, List, [], ◌∷◌, ◌++◌, append_assoc, map, flat_map, Some, None, arith}
use Rattle.ld_ids.specs.declared.set.Spec.{Spec}
use Rattle.ld_config.specs.declared.config.Config.{Config}
use Rattle.ld_config.specs.Bounds.{IsInBounds}
use Rattle.ld_schedule.specs.declared.event.Event.TheVariants as events
use Rattle.ld_msg.specs.Network.{oldest_new}
use Rattle.ld_msg.specs.Register.{lce_of}
use Rattle.ld_msg.specs.Sequencer.{Sequencer}
use Rattle.ld_op.specs.Plain.{log_of}
use Rattle.ld_machine.specs.Config.{all_nodes, has_log}
use Rattle.ld_machine.specs.State.{State, node_at}
use Rattle.ld_machine.specs.World.{In}
use Rattle.ld_machine.specs.Calm.{Takes, Calms, Left, Announces, Settles, Ticks, Reads, Drains, Again, moved, cleans, last_of, all_left, left_for, readers_of}
use Rattle.ld_calm.proofs.Alike.{AllBy}
use Rattle.ld_calm.proofs.Logs.{log_there}
use Rattle.ld_served.proofs.Phases.{Parts, Unlimited}
use Rattle.ld_served.proofs.Last.{LastOf}
use Rattle.ld_served.proofs.Kept.{Good, good_delivers, good_ticks, good_polls, good_announces}
use Rattle.ld_served.proofs.Cleaned.{Grows, CleanTo, last_tick, by_delivery, by_poll, by_ticking, by_retry}
use Rattle.ld_served.proofs.Resting.{AtRest, NoMore, delivers_no_more, ticks_no_more, polls_no_more, announces_no_more, rest_delivers, rest_ticks, rest_polls, rest_announces}
use Rattle.ld_served.proofs.Draining.{AllGoes, none_last, all_announced, all_goes_on, all_drained}
use Rattle.ld_served.proofs.Tells.{LastTells, LastTold, SameReleased, all_told, told_delivers, told_ticks, told_polls, told_announces, same_delivers, same_ticks, same_polls, same_announces, tells_delivers, announced_last}
use Rattle.ld_served.proofs.Silent.{tick_silent}

-- ---- behind it ----

-- where the log has a last sequencer, the node is clean in each closed epoch of it
abbrev pub IsClean : State → ℕ → ℕ → Type 0
IsClean s l y = (name : List ℕ) (q : Sequencer) → LastOf s.sequencers l name q → CleanTo (log_of (node_at s y).plain l) (lce_of s.register l)

-- all is well; no append of the log's last sequencer waits, all epochs before its own are closed, and clean on each node of the configuration, and each node of its set was told what it released
pub record Behind (c : Config) (l : ℕ) (s : State) : Type 0 where
  pub good : Good c s
  pub rest : AtRest s l
  pub clean : (y : ℕ) → In y (all_nodes c) → IsClean s l y
  pub told : LastTold s l

-- what a step of a calm leaves
pub record Leaves (c : Config) (l : ℕ) (s t : State) : Type 0 where
  pub good : Good c t
  pub more : NoMore l s.sequencers t.sequencers
  pub rest : AtRest s l → AtRest t l
  pub grows : AllBy Grows s t
  pub told : AtRest s l → LastTold s l → LastTold t l
  pub released : AtRest s l → LastTold s l → SameReleased s t l

module _ (c : Config) (l : ℕ) (s t : State) (O : Leaves c l s t) where
  pub clean_on : (y : ℕ) → AtRest s l → IsClean s l y → IsClean t l y
  clean_on y R C name p L e pos low =
      let z = O.more name p L in
      let before : lce_of s.register l + 1 ≡ z.0.epoch = subst (λ x. lce_of s.register x + 1 ≡ z.0.epoch) z.1.log (R name z.0 z.1).1 in
      let after : lce_of t.register l + 1 ≡ p.epoch = subst (λ x. lce_of t.register x + 1 ≡ p.epoch) L.log (O.rest R name p L).1 in
      let same : p.epoch ≡ z.0.epoch = z.2 in
      (O.grows y).clean l e (C name z.0 z.1 e pos (omega arith))

  pub behind_on : Behind c l s → Behind c l t
  behind_on B = record { good = O.good; rest = O.rest B.rest; clean = λ y i. clean_on y B.rest (B.clean y i); told = O.told B.rest B.told }

module _ (c : Config) (b : IsInBounds c) (l : ℕ) (s : State) (A : Good c s) where
  pub leaves_delivered : (i : ℕ) → Unlimited (moved c s (Takes (events.Deliver i))).lines → Leaves c l s (moved c s (Takes (events.Deliver i))).state
  leaves_delivered i u = let B = good_delivers c b s A i u in record { good = B; more = delivers_no_more c s A l i; rest = rest_delivers c s A l i B; grows = by_delivery c s i; told = told_delivers c s A l i; released = same_delivers c s A l i }

  pub leaves_ticked : (n k : ℕ) → Unlimited (moved c s (Takes (events.Tick n k))).lines → Leaves c l s (moved c s (Takes (events.Tick n k))).state
  leaves_ticked n k u = let B = good_ticks c b s A n k u in record { good = B; more = ticks_no_more c s A l n k; rest = rest_ticks c s A l n k B; grows = by_ticking c s n k; told = told_ticks c s A l n k; released = same_ticks c s A l n k }

  pub leaves_polled : (name : List ℕ) → Leaves c l s (moved c s (Takes (events.Poll name))).state
  leaves_polled name = let B = good_polls c b s A name in record { good = B; more = polls_no_more c s A l name; rest = rest_polls c s A l name B; grows = by_poll c s name; told = told_polls c s A l name; released = same_polls c s A l name }

  pub leaves_announced : (k : ℕ) (q : List ℕ × Sequencer) → last_of s k ≡ Some q → q.1.gone ≡ false → Leaves c l s (moved c s (Calms q.0)).state
  leaves_announced k q e g = let B = good_announces c b s A k q e g in record { good = B; more = announces_no_more c s A l k q e g; rest = rest_announces c s A l k q e g B; grows = by_retry c s k q A e g; told = told_announces c s A l k q e g; released = same_announces c s A l k q e g }

-- it stays so
pub behind_parts : (c : Config) → IsInBounds c → (l : ℕ) → Parts c (λ s ps. Behind c l s)
behind_parts c b l = record {
  announced = λ s k ps q B e g u. behind_on c l s (moved c s (Calms q.0)).state (leaves_announced c b l s B.good k q e g) B;
  silent = λ s k ps B h. B;
  settles = λ s k ps i B e u. behind_on c l s (moved c s (Takes (events.Deliver i))).state (leaves_delivered c b l s B.good i u) B;
  settled = λ s k ps B e. B;
  cleaned = λ s k n ps B t u. behind_on c l s (moved c s (Takes (events.Tick n k))).state (leaves_ticked c b l s B.good n k u) B;
  ticked = λ s k n ps B t u. behind_on c l s (moved c s (Takes (events.Tick n k))).state (leaves_ticked c b l s B.good n k u) B;
  polled = λ s name d ps B e t u. behind_on c l s (moved c s (Takes (events.Poll name))).state (leaves_polled c b l s B.good name) B;
  finished = λ s name ps B h. B;
  drains = λ s ps i B e u. behind_on c l s (moved c s (Takes (events.Deliver i))).state (leaves_delivered c b l s B.good i u) B;
  drained = λ s ps B e. B;
  asked = λ s name next d ps B e n u. behind_on c l s (moved c s (Takes (events.Poll name))).state (leaves_polled c b l s B.good name) B;
  rested = λ s name next ps B h. B;
}

-- ---- what is left ----

-- some end of what is left is this
abbrev pub EndsIn : List Left → List Left → Type 0
EndsIn qs [] = ⊥
EndsIn qs (p ∷ ps) = ((p ∷ ps) ≡ qs) ⊎ EndsIn qs ps

ends_behind : (xs ps qs : List Left) → EndsIn qs ps → EndsIn qs (xs ++ ps)
ends_behind [] ps qs h = h
ends_behind (x ∷ xs) ps qs h = inr (ends_behind xs ps qs h)

-- the ticks of these nodes, and then the rest
abbrev pub ticks_then : ℕ → List ℕ → List Left → List Left
ticks_then l ns qs = map (λ n. Ticks l n) ns ++ qs

-- the log's part, and then the rest
abbrev pub part_then : Config → ℕ → List Left → List Left
part_then c l qs = Announces l ∷ Settles l ∷ ticks_then l (all_nodes c) qs

-- a calm has the part of each log of the configuration, and then the turns of the log's readers
pub part_there : (c : Config) (s : State) (l : ℕ) → has_log c l ≡ true → (zs : List Left) × EndsIn (part_then c l (map (λ r. Reads r) (readers_of l s.readers) ++ zs)) (all_left c s)
part_there c s l h = let z = log_there l c.logs h in in_list c.logs z.0 z.1 z.2 where
  turns : List Left
  turns = map (λ r. Reads r) (readers_of l s.readers)

  in_list : (ps : List Spec) (p : Spec) → In p ps → p.log ≡ l → (zs : List Left) × EndsIn (part_then c l (map (λ r. Reads r) (readers_of l s.readers) ++ zs)) (flat_map (λ (p : Spec). left_for c s p.log) ps)
  in_list [] p i e = absurd i
  in_list (x ∷ ps) p (inr i) e = let z = in_list ps p i e in (z.0, ends_behind (left_for c s x.log) (flat_map (λ (p : Spec). left_for c s p.log) ps) _ z.1)
  in_list (x ∷ ps) p (inl f) e = let rest : List Left = flat_map (λ (p : Spec). left_for c s p.log) ps in (
    rest,
    subst (λ k. EndsIn (part_then c l (map (λ r. Reads r) (readers_of l s.readers) ++ rest)) (left_for c s k ++ rest)) (sym (ap (λ (y : Spec). y.log) (sym f) ∙ e))
        (inl (ap (λ rs. Announces l ∷ Settles l ∷ rs) (append_assoc (map (λ n. Ticks l n) (all_nodes c)) (map (λ r. Reads r) (readers_of l s.readers)) rest))),
  )

-- ---- the log's part ----

-- I is kept by each step of a calm; B is kept by each part, and begins behind the log's part
module _ (c : Config) (l : ℕ) (qs : List Left) (I : State → Type 0) (B : State → List Left → Type 0) where
  -- it is still to come; all that the log's last sequencer waits for is under way, and what tells its nodes what it released; it is at rest, its nodes were told so, nothing is new, and each node has its ticks still or is clean; or this is done
  pub data Stage (s : State) (ps : List Left) : Type 0 where
    to_come : EndsIn (part_then c l qs) ps → Stage s ps
    going : ps ≡ Settles l ∷ ticks_then l (all_nodes c) qs → AllGoes s l → LastTells s l → Stage s ps
    ticking : (n : ℕ) (ns : List ℕ) → ps ≡ Ticks l n ∷ ticks_then l ns qs → AtRest s l → LastTold s l → oldest_new s.network ≡ None → ((y : ℕ) → In y (all_nodes c) → In y (n ∷ ns) ⊎ IsClean s l y) → Stage s ps
    behind : B s ps → Stage s ps

  pub record Settled (s : State) (ps : List Left) : Type 0 where
    pub good : Good c s
    pub always : I s
    pub stage : Stage s ps

  -- where nothing of the log's part is left it is done
  pub settled_behind : (s : State) (ps : List Left) → Settled s ps → (In (Announces l) ps → ⊥) → (In (Settles l) ps → ⊥) → ((n : ℕ) → In (Ticks l n) ps → ⊥) → B s ps
  settled_behind s ps K x y z = by_stage K.stage where
    announced : (rs : List Left) → EndsIn (part_then c l qs) rs → In (Announces l) rs
    announced [] h = absurd h
    announced (p ∷ rs) (inl e) = inl cc
    announced (p ∷ rs) (inr h) = inr (announced rs h)

    by_stage : Stage s ps → B s ps
    by_stage (to_come h) = absurd (x (announced ps h))
    by_stage (going e g w) = absurd (y (subst (In (Settles l)) (sym e) (inl refl)))
    by_stage (ticking n ns e r w v h) = absurd (z n (subst (In (Ticks l n)) (sym e) (inl refl)))
    by_stage (behind h) = h

  module _ (b : IsInBounds c) (log : has_log c l ≡ true) (H : Parts c (λ s ps. I s)) (K : Parts c B) (enters : (s : State) → I s → Behind c l s → oldest_new s.network ≡ None → B s qs) where
    -- a step or none, of another part
    others : (s t : State) (p : Left) (ps rs : List Left) → (p ≡ Announces l → ⊥) → (p ≡ Settles l → ⊥) → ((n : ℕ) → p ≡ Ticks l n → ⊥) → (EndsIn (part_then c l qs) ps → EndsIn (part_then c l qs) rs) → (B s (p ∷ ps) → B t rs) → Stage s (p ∷ ps) → Stage t rs
    others s t p ps rs x y z f k (to_come (inl e)) = absurd (x cc)
    others s t p ps rs x y z f k (to_come (inr h)) = to_come (f h)
    others s t p ps rs x y z f k (going e g w) = absurd (y cc)
    others s t p ps rs x y z f k (ticking n ns e r w v h) = absurd (z n cc)
    others s t p ps rs x y z f k (behind h) = behind (k h)

    -- a tick sends nothing
    none_after : (s : State) (n k : ℕ) → Good c s → oldest_new s.network ≡ None → oldest_new (moved c s (Takes (events.Tick n k))).state.network ≡ None
    none_after s n k A v = ap oldest_new (tick_silent c s A n k) ∙ v

    -- before the ticks of these nodes
    ticks_begin : (s : State) (ns : List ℕ) → I s → Good c s → AtRest s l → LastTold s l → oldest_new s.network ≡ None → ((y : ℕ) → In y (all_nodes c) → In y ns ⊎ IsClean s l y) → Stage s (ticks_then l ns qs)
    ticks_begin s [] x A R T v h = behind (enters s x (record { good = A; rest = R; clean = λ y i. elim (h y i) [ inl a ↦ absurd a | inr a ↦ a ]; told = T }) v)
    ticks_begin s (n ∷ ns) x A R T v h = ticking n ns refl R T v h

    announces_on : (s : State) (k : ℕ) (ps : List Left) (q : List ℕ × Sequencer) → Good c s → last_of s k ≡ Some q → q.1.gone ≡ false → Unlimited (moved c s (Calms q.0)).lines → Stage s (Announces k ∷ ps) → Stage (moved c s (Calms q.0)).state ps
    announces_on s k ps q A e g u (to_come (inl f)) =
        let a : k ≡ l = cc in
        let d : ps ≡ Settles l ∷ ticks_then l (all_nodes c) qs = cc in
        let o : last_of s l ≡ Some q = subst (λ x. last_of s x ≡ Some q) a e in
        going d (all_announced c s A l q o g u) (announced_last c s A l q o g)
    announces_on s k ps q A e g u (to_come (inr h)) = to_come h
    announces_on s k ps q A e g u (going f h w) = absurd cc
    announces_on s k ps q A e g u (ticking n ns f r w v h) = absurd cc
    announces_on s k ps q A e g u (behind h) = behind (K.announced s k ps q h e g u)

    silent_on : (s : State) (k : ℕ) (ps : List Left) → Good c s → ((q : List ℕ × Sequencer) → last_of s k ≡ Some q → q.1.gone ≡ true) → Stage s (Announces k ∷ ps) → Stage s ps
    silent_on s k ps A g (to_come (inl f)) =
        let a : k ≡ l = cc in
        let d : ps ≡ Settles l ∷ ticks_then l (all_nodes c) qs = cc in
        let none = none_last c s A l (λ x e. g x (subst (λ y. last_of s y ≡ Some x) (sym a) e)) in
        going d (λ name q L. absurd (none name q L)) (λ name q L. absurd (none name q L))
    silent_on s k ps A g (to_come (inr h)) = to_come h
    silent_on s k ps A g (going f h w) = absurd cc
    silent_on s k ps A g (ticking n ns f r w v h) = absurd cc
    silent_on s k ps A g (behind h) = behind (K.silent s k ps h g)

    settles_on : (s : State) (k : ℕ) (ps : List Left) (i : ℕ) → Good c s → oldest_new s.network ≡ Some i → Unlimited (moved c s (Takes (events.Deliver i))).lines → Stage s (Settles k ∷ ps) → Stage (moved c s (Takes (events.Deliver i))).state (Settles k ∷ ps)
    settles_on s k ps i A e u (to_come (inl f)) = absurd cc
    settles_on s k ps i A e u (to_come (inr h)) = to_come (inr h)
    settles_on s k ps i A e u (going f h w) = going f (all_goes_on c s A l i e u h) (tells_delivers c s A l i w)
    settles_on s k ps i A e u (ticking n ns f r w v h) = absurd cc
    settles_on s k ps i A e u (behind h) = behind (K.settles s k ps i h e u)

    settled_on : (s : State) (k : ℕ) (ps : List Left) → I s → Good c s → oldest_new s.network ≡ None → Stage s (Settles k ∷ ps) → Stage s ps
    settled_on s k ps x A e (to_come (inl f)) = absurd cc
    settled_on s k ps x A e (to_come (inr h)) = to_come h
    settled_on s k ps x A e (going f h w) = let d : ps ≡ ticks_then l (all_nodes c) qs = cc in subst (Stage s) (sym d) (ticks_begin s (all_nodes c) x A (all_drained c s A l e h) (all_told c s A l h w e) e (λ y i. inl i))
    settled_on s k ps x A e (ticking n ns f r w v h) = absurd cc
    settled_on s k ps x A e (behind h) = behind (K.settled s k ps h e)

    cleans_on : (s : State) (k n : ℕ) (ps : List Left) → Good c s → cleans s n k ≡ true → Unlimited (moved c s (Takes (events.Tick n k))).lines → Stage s (Ticks k n ∷ ps) → Stage (moved c s (Takes (events.Tick n k))).state (Ticks k n ∷ ps)
    cleans_on s k n ps A e u (to_come (inl f)) = absurd cc
    cleans_on s k n ps A e u (to_come (inr h)) = to_come (inr h)
    cleans_on s k n ps A e u (going f h w) = absurd cc
    cleans_on s k n ps A e u (ticking m ns f r w v h) = let O = leaves_ticked c b l s A n k u in
        ticking m ns f (O.rest r) (O.told r w) (none_after s n k A v) (λ y i. elim (h y i) [ inl a ↦ inl a | inr a ↦ inr (clean_on c l s (moved c s (Takes (events.Tick n k))).state O y r a) ])
    cleans_on s k n ps A e u (behind h) = behind (K.cleaned s k n ps h e u)

    ticks_on : (s : State) (k n : ℕ) (ps : List Left) → I (moved c s (Takes (events.Tick n k))).state → Good c s → cleans s n k ≡ false → Unlimited (moved c s (Takes (events.Tick n k))).lines → Stage s (Ticks k n ∷ ps) → Stage (moved c s (Takes (events.Tick n k))).state ps
    ticks_on s k n ps after A e u (to_come (inl f)) = absurd cc
    ticks_on s k n ps after A e u (to_come (inr h)) = to_come h
    ticks_on s k n ps after A e u (going f h w) = absurd cc
    ticks_on s k n ps after A e u (ticking m ns f r w v h) =
        let t : State = (moved c s (Takes (events.Tick n k))).state in
        let O = leaves_ticked c b l s A n k u in
        let a : k ≡ l = cc in
        let d : ps ≡ ticks_then l ns qs = cc in
        let j : n ≡ m = cc in
        subst (Stage t) (sym d) (ticks_begin t ns after O.good (O.rest r) (O.told r w) (none_after s n k A v) (λ y i. elim (h y i) [
          | inl (inl x) ↦ inr (clean_on c l s t O y r (λ name q L. last_tick c s A l y log i
              (subst (λ z. cleans s z l ≡ false) (j ∙ sym x) (subst (λ z. cleans s n z ≡ false) a e))
              (subst (λ z. Unlimited (moved c s (Takes (events.Tick z l))).lines) (j ∙ sym x) (subst (λ z. Unlimited (moved c s (Takes (events.Tick n z))).lines) a u))))
          | inl (inr x) ↦ inl x
          | inr x ↦ inr (clean_on c l s t O y r x)
        ]))
    ticks_on s k n ps after A e u (behind h) = behind (K.ticked s k n ps h e u)

    pub settled_parts : Parts c (λ s ps. Settled s ps)
    settled_parts = record {
      announced = λ s k ps q S e g u. record { good = good_announces c b s S.good k q e g; always = H.announced s k ps q S.always e g u; stage = announces_on s k ps q S.good e g u S.stage };
      silent = λ s k ps S h. record { good = S.good; always = S.always; stage = silent_on s k ps S.good h S.stage };
      settles = λ s k ps i S e u. record { good = good_delivers c b s S.good i u; always = H.settles s k ps i S.always e u; stage = settles_on s k ps i S.good e u S.stage };
      settled = λ s k ps S e. record { good = S.good; always = S.always; stage = settled_on s k ps S.always S.good e S.stage };
      cleaned = λ s k n ps S e u. record { good = good_ticks c b s S.good n k u; always = H.cleaned s k n ps S.always e u; stage = cleans_on s k n ps S.good e u S.stage };
      ticked = λ s k n ps S e u. record { good = good_ticks c b s S.good n k u; always = H.ticked s k n ps S.always e u; stage = ticks_on s k n ps (H.ticked s k n ps S.always e u) S.good e u S.stage };
      polled = λ s name d ps S e t u. record { good = good_polls c b s S.good name; always = H.polled s name d ps S.always e t u; stage = others s (moved c s (Takes (events.Poll name))).state (Reads name) ps (Drains ∷ Again name d.next ∷ ps) (λ h. cc) (λ h. cc) (λ n h. cc) (λ h. inr (inr h)) (λ h. K.polled s name d ps h e t u) S.stage };
      finished = λ s name ps S h. record { good = S.good; always = S.always; stage = others s s (Reads name) ps ps (λ h. cc) (λ h. cc) (λ n h. cc) (λ h. h) (λ k. K.finished s name ps k h) S.stage };
      drains = λ s ps i S e u. record { good = good_delivers c b s S.good i u; always = H.drains s ps i S.always e u; stage = others s (moved c s (Takes (events.Deliver i))).state Drains ps (Drains ∷ ps) (λ h. cc) (λ h. cc) (λ n h. cc) (λ h. inr h) (λ h. K.drains s ps i h e u) S.stage };
      drained = λ s ps S e. record { good = S.good; always = S.always; stage = others s s Drains ps ps (λ h. cc) (λ h. cc) (λ n h. cc) (λ h. h) (λ h. K.drained s ps h e) S.stage };
      asked = λ s name next d ps S e n u. record { good = good_polls c b s S.good name; always = H.asked s name next d ps S.always e n u; stage = others s (moved c s (Takes (events.Poll name))).state (Again name next) ps (Drains ∷ Again name d.next ∷ ps) (λ h. cc) (λ h. cc) (λ n h. cc) (λ h. inr (inr h)) (λ h. K.asked s name next d ps h e n u) S.stage };
      rested = λ s name next ps S h. record { good = S.good; always = S.always; stage = others s s (Again name next) ps ps (λ h. cc) (λ h. cc) (λ n h. cc) (λ h. h) (λ k. K.rested s name next ps k h) S.stage };
    }
