-- Which messages are under way: sent and still new. A delivery takes one away, and adds what is sent.
use Rattle.std.proofs.Common.{◌≡◌, ◌∙◌, ◌⊎◌, ◌<◌, ℕ, suc, ◌+◌, ◌-◌, inl, inr, refl, ap, sym, subst, true, false, not, ◌==◌, nat_lt, if◌then◌else◌, List, [], ◌∷◌, length, Option, Some, None, arith, slice_get}
use Rattle.std.proofs.lemmas.Bool.{cases_Bool, lt-ltb, eqb-true}
use Rattle.ld_config.specs.declared.config.Config.{Config}
use Rattle.ld_schedule.specs.declared.event.Event.TheVariants as events
use Rattle.ld_table.specs.Words.{first}
use Rattle.ld_table.specs.Named.{find_named}
use Rattle.ld_msg.specs.declared.msg.Msg.{Msg}
use Rattle.ld_msg.specs.declared.msg.Body.{Body}
use Rattle.ld_msg.specs.Network.{Network, send, send_all, message, mark, oldest_new}
use Rattle.ld_msg.specs.Sequencer.{Sequencer}
use Rattle.ld_op.specs.declared.op.Op.{Op}
use Rattle.ld_machine.specs.State.{State, Done, finish, node_at}
use Rattle.ld_machine.specs.World.{In}
use Rattle.ld_machine.specs.Step as Step
use Rattle.ld_machine.specs.Calm.{Takes, Calms, moves, moved, calms_with}
use Rattle.ld_safety.proofs.Lists.{Some_inj, not_none, In-append, In_left, In_right}
use Rattle.ld_safety.proofs.Members.{filter_in}
use Rattle.ld_safety.proofs.Events.{NamesOnce, retry_call}
use Rattle.ld_calm.proofs.Weights.{InPlace, mark_in_place}
use Rattle.ld_served.proofs.Stepping.{delivered, announcing}

abbrev pub UnderWay : Network → Msg → Type 0
UnderWay w m = (i : ℕ) × In i w.fresh × (message w i ≡ Some m)

-- nothing is, where nothing is new
pub none_new : (w : Network) (m : Msg) → oldest_new w ≡ None → UnderWay w m → ⊥
none_new w m e u = by_list w.fresh e u.1 where
  by_list : (is : List ℕ) → first is ≡ None → In u.0 is → ⊥
  by_list [] h i = i
  by_list (j ∷ is) h i = not_none (sym h)

-- ---- one message less ----

-- what is delivered is the one that goes
pub marked_way : (w : Network) (i : ℕ) (k m : Msg) → message w i ≡ Some k → UnderWay w m → (m ≡ k) ⊎ UnderWay (mark w i) m
unfolding message
marked_way w i k m e u = elim (cases_Bool (i == u.0)) [
  | inl t ↦ inl (Some_inj (sym u.2 ∙ (ap (λ j. message w j) (sym (eqb-true i u.0 t)) ∙ e)))
  | inr t ↦ inr (u.0, filter_in (λ j. not (i == j)) u.0 w.fresh u.1 (ap not t), u.2)
]

-- ---- more messages ----

slice_step : {X : Type 0} (x : X) (xs : List X) (n k : ℕ) → n ≡ suc k → slice_get (x ∷ xs) n ≡ slice_get xs k
slice_step x xs n k e = ap (slice_get (x ∷ xs)) e

pub message_stays : (w : Network) (m : Msg) (i : ℕ) → i < w.count → message (send w m) i ≡ message w i
unfolding message
message_stays w m i h =
    let a : nat_lt i w.count ≡ true = lt-ltb i w.count h in let b : nat_lt i (w.count + 1) ≡ true = lt-ltb i (w.count + 1) (omega arith) in
    (λ j. if b j then slice_get (m ∷ w.sent) (w.count + 1 - 1 - i) else None) ∙ (slice_step m w.sent (w.count + 1 - 1 - i) (w.count - 1 - i) (omega arith) ∙ sym (λ j. if a j then slice_get w.sent (w.count - 1 - i) else None))

pub message_new : (w : Network) (m : Msg) → message (send w m) w.count ≡ Some m
unfolding message
message_new w m = let b : nat_lt w.count (w.count + 1) ≡ true = lt-ltb w.count (w.count + 1) (omega arith) in
    (λ j. if b j then slice_get (m ∷ w.sent) (w.count + 1 - 1 - w.count) else None) ∙ ap (slice_get (m ∷ w.sent)) (let z : w.count + 1 - 1 - w.count ≡ 0 = omega arith in z)

pub send_in_place : (w : Network) (m : Msg) → InPlace w → InPlace (send w m)
send_in_place w m h = record {
  count = let c = h.count in let s : w.count + 1 ≡ suc (length w.sent) = omega arith in s;
  fresh = λ i j. elim (In-append i w.fresh (w.count ∷ []) j) [ inl a ↦ (let z = h.fresh i a in omega arith) | inr (inl e) ↦ (let z : i ≡ w.count = e in omega arith) | inr (inr a) ↦ absurd a ];
}

-- what is under way stays so
pub sent_stays : (w : Network) (ms : List Msg) (m : Msg) → InPlace w → UnderWay w m → UnderWay (send_all w ms) m
sent_stays w [] m h u = u
sent_stays w (x ∷ ms) m h u = sent_stays (send w x) ms m (send_in_place w x h) (u.0, In_left u.0 w.fresh (w.count ∷ []) u.1, message_stays w x u.0 (h.fresh u.0 u.1) ∙ u.2)

-- and what is sent is under way
pub sent_now : (w : Network) (ms : List Msg) (m : Msg) → InPlace w → In m ms → UnderWay (send_all w ms) m
sent_now w [] m h i = absurd i
sent_now w (x ∷ ms) m h (inl e) = sent_stays (send w x) ms m (send_in_place w x h) (w.count, In_right w.count w.fresh (w.count ∷ []) (inl refl), message_new w x ∙ ap Some (sym e))
sent_now w (x ∷ ms) m h (inr i) = sent_now (send w x) ms m (send_in_place w x h) i

-- ---- a step ----
module _ (c : Config) (s : State) (N : NamesOnce s) (P : InPlace s.network) where
  handled_network : (t : State) (n : ℕ) (m : Msg) (o : Option Op) (a : Option Body) → (Step.handles t n m o a).state.network ≡ t.network
  handled_network t n m None a = refl
  handled_network t n m (Some o) a = refl

  pub delivered_network : (i : ℕ) (k : Msg) → message s.network i ≡ Some k → (moves c s (Takes (events.Deliver i))).state.network ≡ mark s.network i
  delivered_network i k e = delivered c s i (λ d. d.state.network ≡ mark s.network i) N (record {
    unheard = λ h. refl;
    none = λ h. absurd (not_none (sym h ∙ e));
    to_node = λ n m f t v. handled_network _ n m (Step.node_handles n (node_at s n) m).op (Step.node_handles n (node_at s n) m).answer;
    to_sequencer = λ name q m f t l v. refl;
    to_reader = λ name d m f t v. refl;
  })

  -- a delivery takes its message away
  pub delivery_takes : (i : ℕ) (k m : Msg) → message s.network i ≡ Some k → UnderWay s.network m → (m ≡ k) ⊎ UnderWay (moved c s (Takes (events.Deliver i))).state.network m
  unfolding finish
  delivery_takes i k m e u = let d : Done = moves c s (Takes (events.Deliver i)) in let n = delivered_network i k e in elim (marked_way s.network i k m e u) [
    | inl z ↦ inl z
    | inr z ↦ inr (subst (λ w. UnderWay (send_all w d.sends) m) (sym n) (sent_stays (mark s.network i) d.sends m (mark_in_place s.network i P) z))
  ]

  -- and what it sends is under way then
  pub delivery_adds : (i : ℕ) (k m : Msg) → message s.network i ≡ Some k → In m (moves c s (Takes (events.Deliver i))).sends → UnderWay (moved c s (Takes (events.Deliver i))).state.network m
  unfolding finish
  delivery_adds i k m e j = let d : Done = moves c s (Takes (events.Deliver i)) in subst (λ w. UnderWay (send_all w d.sends) m) (sym (delivered_network i k e)) (sent_now (mark s.network i) d.sends m (mark_in_place s.network i P) j)

  -- the retry that tells the released number again only adds
  pub retry_keeps : (name : List ℕ) (q : Sequencer) (m : Msg) → find_named name s.sequencers ≡ Some q → q.gone ≡ false → UnderWay s.network m → UnderWay (moved c s (Calms name)).state.network m
  unfolding finish
  retry_keeps name q m f g u = announcing c s name q (λ d. UnderWay (send_all d.state.network d.sends) m) f g (sent_stays s.network (calms_with s name q (retry_call c s q)).sends m P u)

  pub retry_adds : (name : List ℕ) (q : Sequencer) (m : Msg) → find_named name s.sequencers ≡ Some q → q.gone ≡ false → In m (moves c s (Calms name)).sends → UnderWay (moved c s (Calms name)).state.network m
  unfolding finish
  retry_adds name q m f g = announcing c s name q (λ d. In m d.sends → UnderWay (send_all d.state.network d.sends) m) f g (λ j. sent_now s.network (calms_with s name q (retry_call c s q)).sends m P j)
