-- What swaps left of each epoch of a log, as the steps of a run say: it is what the register shows.
use Rattle.std.proofs.Common.{◌≡◌, ◌∙◌, ◌≤◌, ℕ, ◌+◌, inl, inr, refl, ap, sym, subst, Bool, true, false, nat_lt, nat_le, if◌then◌else◌, List, [], ◌∷◌, ◌++◌, Option, Some, None, arith}
use Rattle.std.specs.Option.{unwrap_or}
use Rattle.std.proofs.lemmas.Bool.{eq-eqb, ltb-true, ltb-false, ne_eqb}
use Rattle.ld_table.specs.Table.{find}
use Rattle.ld_table.specs.Words.{or_else}
use Rattle.ld_ids.specs.declared.set.Spec.{Spec}
use Rattle.ld_config.specs.declared.config.Config.{Config}
use Rattle.ld_schedule.specs.declared.event.Event.{Event}
use Rattle.ld_schedule.specs.declared.event.Event.TheVariants as events
use Rattle.ld_msg.specs.Register.{Register, Epochs, epochs_of, with_epochs, swapped_epochs, closed_upto}
use Rattle.ld_op.specs.Plain.{log_of}
use Rattle.ld_machine.specs.Config.{first_spec, spec_of}
use Rattle.ld_machine.specs.State.{State, finish, node_at}
use Rattle.ld_machine.specs.Facts.{Happened, Swapped, set_in, set_after, makes, swapped_by, swapped_in, spec_now}
use Rattle.ld_machine.specs.World.{World, begin}
use Rattle.ld_machine.specs.Run.{after_step, epoch_made, swap_made}
use Rattle.ld_machine.specs.Step as Step
use Rattle.ld_safety.proofs.Lists.{cond_both, not_none}
use Rattle.ld_safety.proofs.Traces.{Keeps, step_happened, beside_kept}
use Rattle.ld_safety.proofs.Events.{NamesOnce}
use Rattle.ld_safety.proofs.Registers.{Reached, EachClosed, each_closed, start_each, now_found}
use Rattle.ld_safety.proofs.RegisterSteps.{epochs_put, epochs_same}
use Rattle.ld_safety.proofs.Swaps.{find-swapped, then_swapped, Like}
use Rattle.ld_safety.proofs.Joins.{AllKept, Pair, Swapping, swap_or_kept}
use Rattle.ld_safety.proofs.Fixed.{AsFixed, made_step, fixed_kept}
use Rattle.ld_machine.specs.Calm as Calm
use Rattle.ld_machine.specs.Calm.{Move, event_of}

-- ---- steps at the end of a history ----
abbrev pub swapped_all : ℕ → ℕ → Option Swapped → Option Spec → Option Spec
swapped_all l e x None = None
swapped_all l e x (Some p) = Some (swapped_by l e x p)

swapped_end : (l e : ℕ) (hs : List Happened) (h : Happened) (s : Spec) → swapped_in l e (hs ++ h ∷ []) s ≡ swapped_by l e h.swapped (swapped_in l e hs s)
swapped_end l e [] h s = refl
swapped_end l e (g ∷ hs) h s = swapped_end l e hs h (swapped_by l e g.swapped s)

now_or : (l e : ℕ) (x : Option Swapped) (b : Bool) (p q : Spec) (o y k : Option Spec) → q ≡ swapped_by l e x p → o ≡ or_else (swapped_all l e x y) k → (if b then Some q else o) ≡ or_else (swapped_all l e x (if b then Some p else y)) k
now_or l e x true p q o y k g h = ap Some g
now_or l e x false p q o y k g h = h

now_end : (l e : ℕ) (hs : List Happened) (h : Happened) (s : Spec) → spec_now l e (hs ++ h ∷ []) s ≡ or_else (swapped_all l e h.swapped (spec_now l e hs s)) (if makes l e h.made then Some (set_after l hs s) else None)
now_end l e [] h s = refl
now_end l e (g ∷ hs) h s = now_or l e h.swapped (makes l e g.made) (swapped_in l e hs s) (swapped_in l e (hs ++ h ∷ []) s) (spec_now l e (hs ++ h ∷ []) (set_in l g.lines s)) (spec_now l e hs (set_in l g.lines s)) _ (swapped_end l e hs h s) (now_end l e hs h (set_in l g.lines s))

-- ---- what the register shows ----
none_all : (l e : ℕ) (o : Option Spec) → swapped_all l e None o ≡ o
none_all l e None = refl
none_all l e (Some p) = refl

no_else : (o : Option Spec) → or_else o None ≡ o
no_else None = refl
no_else (Some p) = refl

kept_none : (s : State) (n : Register) (v : Event) → AllKept s.register n → swap_made s.register n v ≡ None
kept_none s n (events.Replace m other l) h = cond_both (nat_lt (epochs_of s.register l).swaps (epochs_of n l).swaps) _ None (λ (o : Option Swapped). o ≡ None) (λ u. absurd (let a = ltb-true _ _ u in let b = (h l).swaps in omega arith)) (λ u. refl)
kept_none s n _ h = refl

-- what is shown of the log that is swapped in
at_log : (l e : ℕ) (ps : List (ℕ × Spec)) (t : Bool) (old new : ℕ) (o : Option Spec) → find e ps ≡ then_swapped t old new o → find e ps ≡ swapped_all l e (Some (record { log = l; specs = ps })) o
at_log l e ps t old new None q = q
at_log l e ps t old new (Some p) q = q ∙ ap Some (sym (ap (λ b. if b then unwrap_or (find e ps) p else p) (eq-eqb l l refl) ∙ ap (λ o. unwrap_or o p) q))

at_other : (l e : ℕ) (x : Swapped) (o : Option Spec) → (x.log ≡ l → ⊥) → swapped_all l e (Some x) o ≡ o
at_other l e x None h = refl
at_other l e x (Some p) h = ap Some (ap (λ b. if b then unwrap_or (find e x.specs) p else p) (ne_eqb x.log l h))

module _ (c : Config) (s : State) (v : Move) (N : NamesOnce s) (E : EachClosed s.register) (O : (l e : ℕ) → find e (epochs_of (Calm.moves c s v).state.register l).specs ≡ or_else (find e (epochs_of s.register l).specs) (if makes l e (epoch_made s.register (Calm.moves c s v).state.register (event_of v)) then Some (Step.spec_set c s l) else None)) where
  n : Register
  n = (Calm.moves c s v).state.register

  abbrev Now : ℕ → ℕ → Type 0
  Now l e = find e (epochs_of (Calm.moves c s v).state.register l).swapped ≡ or_else (swapped_all l e (swap_made s.register (Calm.moves c s v).state.register (event_of v)) (find e (epochs_of s.register l).swapped)) (if makes l e (epoch_made s.register (Calm.moves c s v).state.register (event_of v)) then Some (Step.spec_set c s l) else None)

  by_tables : (l e : ℕ) (k : Option Spec) (a b x z : Option Spec) → find e (epochs_of s.register l).specs ≡ a → Like a b → (b ≡ None → x ≡ or_else a k) → ((p : Spec) → b ≡ Some p → z ≡ b) → Pair a b x z → z ≡ or_else b k
  by_tables l e k None None x z f h g u (inl q) = q.1 ∙ (sym q.0 ∙ g refl)
  by_tables l e k None None x z f h g u (inr q) = q.2 ∙ (sym q.1 ∙ g refl)
  by_tables l e k None (Some p) x z f h g u w = absurd h
  by_tables l e k (Some p) None x z f h g u w = absurd h
  by_tables l e k (Some p) (Some q) x z f h g u w = u q refl

  low : (l e : ℕ) (p : Spec) → find e (epochs_of s.register l).swapped ≡ Some p → e ≤ (epochs_of s.register l).epoch
  low l e p f = by_like (find e (epochs_of s.register l).specs) refl (find e (epochs_of s.register l).swapped) f ((E l).like e) where
    by_like : (o : Option Spec) → find e (epochs_of s.register l).specs ≡ o → (m : Option Spec) → m ≡ Some p → Like o m → e ≤ (epochs_of s.register l).epoch
    by_like None u None q h = absurd (not_none q)
    by_like None u (Some x) q h = absurd h
    by_like (Some x) u m q h = ((E l).low e x u).1

  kept : AllKept s.register (Calm.moves c s v).state.register → (l e : ℕ) → Now l e
  kept h l e = let k : Option Spec = if makes l e (epoch_made s.register (Calm.moves c s v).state.register (event_of v)) then Some (Step.spec_set c s l) else None in
      by_tables l e k (find e (epochs_of s.register l).specs) (find e (epochs_of s.register l).swapped) (find e (epochs_of (Calm.moves c s v).state.register l).specs) (find e (epochs_of (Calm.moves c s v).state.register l).swapped) refl ((E l).like e) (λ q. O l e) (λ p q. (h l).old e (low l e p q)) ((h l).found e)
      ∙ ap (λ o. or_else o k) (sym (ap (λ x. swapped_all l e x (find e (epochs_of s.register l).swapped)) (kept_none s (Calm.moves c s v).state.register (event_of v) h) ∙ none_all l e (find e (epochs_of s.register l).swapped)))

  module _ (k : Swapping c s v (Calm.moves c s v).state.register) where
    abbrev after : Epochs
    after = swapped_epochs (epochs_of s.register k.log) (log_of (node_at s k.node).plain k.log).lost_to k.other k.node

    here : epochs_of (Calm.moves c s v).state.register k.log ≡ swapped_epochs (epochs_of s.register k.log) (log_of (node_at s k.node).plain k.log).lost_to k.other k.node
    here = epochs_same (with_epochs s.register k.log after) (Calm.moves c s v).state.register k.log k.made ∙ elim (epochs_put s.register k.log k.log after) [ inl a ↦ a.1 | inr a ↦ absurd (a.0 refl) ]

    made_so : swap_made s.register (Calm.moves c s v).state.register (event_of v) ≡ Some (record { log = k.log; specs = (epochs_of (Calm.moves c s v).state.register k.log).swapped })
    made_so = ap (swap_made s.register (Calm.moves c s v).state.register) (ap event_of k.event) ∙ cond_both (nat_lt (epochs_of s.register k.log).swaps (epochs_of (Calm.moves c s v).state.register k.log).swaps) _ None (λ (o : Option Swapped). o ≡ Some (record { log = k.log; specs = (epochs_of (Calm.moves c s v).state.register k.log).swapped }))
        (λ u. refl) (λ u. absurd (let a = ltb-false _ _ u in let b : (epochs_of (Calm.moves c s v).state.register k.log).swaps ≡ (epochs_of s.register k.log).swaps + 1 = ap (λ (x : Epochs). x.swaps) here in omega arith))

    made_none : epoch_made s.register (Calm.moves c s v).state.register (event_of v) ≡ None
    made_none = ap (epoch_made s.register (Calm.moves c s v).state.register) (ap event_of k.event)

    no_epoch : (l e : ℕ) (o : Option Spec) → or_else o (if makes l e (epoch_made s.register (Calm.moves c s v).state.register (event_of v)) then Some (Step.spec_set c s l) else None) ≡ o
    no_epoch l e o = ap (λ m. or_else o (if makes l e m then Some (Step.spec_set c s l) else None)) made_none ∙ no_else o

    swapped : (l e : ℕ) → Now l e
    swapped l e = elim (epochs_put s.register k.log l after) [
      | inl a ↦ subst (λ j. Now j e) (sym a.0) (at_log k.log e (epochs_of (Calm.moves c s v).state.register k.log).swapped (nat_le e (closed_upto (epochs_of s.register k.log) (log_of (node_at s k.node).plain k.log).lost_to)) k.other k.node (find e (epochs_of s.register k.log).swapped)
          (ap (λ (x : Epochs). find e x.swapped) here ∙ find-swapped (closed_upto (epochs_of s.register k.log) (log_of (node_at s k.node).plain k.log).lost_to) k.other k.node e (epochs_of s.register k.log).swapped)
          ∙ (ap (λ x. swapped_all k.log e x (find e (epochs_of s.register k.log).swapped)) (sym made_so) ∙ sym (no_epoch k.log e _)))
      | inr a ↦ ap (λ (x : Epochs). find e x.swapped) (epochs_same (with_epochs s.register k.log after) (Calm.moves c s v).state.register l k.made ∙ a.1)
          ∙ (sym (at_other l e (record { log = k.log; specs = (epochs_of (Calm.moves c s v).state.register k.log).swapped }) (find e (epochs_of s.register l).swapped) (λ q. a.0 (sym q))) ∙ (ap (λ x. swapped_all l e x (find e (epochs_of s.register l).swapped)) (sym made_so) ∙ sym (no_epoch l e _)))
    ]

  now_step : (l e : ℕ) → Now l e
  now_step l e = elim (swap_or_kept c s v N) [ inl a ↦ kept a l e | inr k ↦ swapped k l e ]

-- ---- along a run ----
abbrev pub AsNow : Config → List Happened → World → Type 0
AsNow c hs w = (l e : ℕ) → spec_now l e hs (first_spec c l) ≡ find e (epochs_of w.state.register l).swapped

abbrev pub AllNow : Config → List Happened → World → Type 0
AllNow c hs w = (NamesOnce w.state × AsFixed c hs w) × (EachClosed w.state.register × AsNow c hs w)

as_step : (c : Config) (hs : List Happened) (w : World) (e : Move) → NamesOnce w.state → AsFixed c hs w → EachClosed w.state.register → AsNow c hs w → AsNow c (hs ++ step_happened c w.state e ∷ []) (after_step c w e)
unfolding finish
as_step c hs w e N F E A l x = now_end l x hs (step_happened c w.state e) (first_spec c l)
    ∙ ((λ i. or_else (swapped_all l x (step_happened c w.state e).swapped (A l x i)) (if makes l x (step_happened c w.state e).made then Some (F.set l i) else None)) ∙ sym (now_step c w.state e N E (made_step c w.state e (λ k y t f. ((F.specs k).low y t f).1)) l x))

start_now : (c : Config) → EachClosed (begin c).state.register × AsNow c [] (begin c)
unfolding find
start_now c = (start_each, λ l e. refl)

each_next : (c : Config) (w : World) (e : Move) → NamesOnce w.state → EachClosed w.state.register → EachClosed (after_step c w e).state.register
unfolding finish
each_next c w e N E = each_closed c w.state e N E

pub now_kept : (c : Config) → Keeps c (AllNow c)
now_kept c = beside_kept c (λ hs w. NamesOnce w.state × AsFixed c hs w) (λ hs w. EachClosed w.state.register × AsNow c hs w) (fixed_kept c) (start_now c) (λ hs w e a b g. (each_next c w e a.0 g.0, as_step c hs w e a.0 a.1 g.0 g.1))

-- of an epoch that was handed out the lines and swaps say what a look shows
pub now_said : (c : Config) (hs : List Happened) (w : World) → AllNow c hs w → (l e : ℕ) → Reached w.state.register l e → spec_now l e hs (first_spec c l) ≡ Some (spec_of c w.state.register l e)
now_said c hs w A l e h = by_like (find e (epochs_of w.state.register l).specs) ((A.0.1.specs l).there e h.0 h.1) (find e (epochs_of w.state.register l).swapped) refl ((A.1.0 l).like e) where
  by_like : (o : Option Spec) → (t : Spec) × (o ≡ Some t) → (m : Option Spec) → find e (epochs_of w.state.register l).swapped ≡ m → Like o m → spec_now l e hs (first_spec c l) ≡ Some (spec_of c w.state.register l e)
  by_like None z m q k = absurd (not_none z.1)
  by_like (Some t) z None q k = absurd k
  by_like (Some t) z (Some p) q k = A.1.1 l e ∙ (q ∙ ap Some (sym (now_found c w.state.register l e h ∙ ap (λ o. unwrap_or o (first_spec c l)) q)))
