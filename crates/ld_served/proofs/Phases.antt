-- What is kept by each part of a calm, whether it takes a step or is passed, holds when nothing is left.
use Rattle.std.proofs.Common.{◌≡◌, ◌∙◌, ℕ, zero, suc, refl, ap, sym, subst, Bool, true, false, ◌==◌, if◌then◌else◌, List, [], ◌∷◌, ◌++◌, Option, Some, None}
use Rattle.std.proofs.lemmas.Bool.{eqb-true, eqb-false}
use Rattle.ld_table.specs.Named.{find_named}
use Rattle.ld_config.specs.declared.config.Config.{Config}
use Rattle.ld_schedule.specs.declared.event.Event.TheVariants as events
use Rattle.ld_transcript.specs.declared.line.Line.{Line}
use Rattle.ld_transcript.specs.declared.line.Line.TheVariants as lines
use Rattle.ld_msg.specs.Network.{oldest_new}
use Rattle.ld_msg.specs.Sequencer.{Sequencer}
use Rattle.ld_msg.specs.Reader.{Reader, is_finished}
use Rattle.ld_machine.specs.State.{State, Stepped}
use Rattle.ld_machine.specs.World.{In}
use Rattle.ld_machine.specs.Calm.{Move, Takes, Calms, Left, Announces, Settles, Ticks, Reads, Drains, Again, Next, next_of, moved, goes, announces, delivers_in, polls_then, reads, asks_again, last_of, cleans, calmed, steps_from}
use Rattle.ld_safety.proofs.Lists.{Some_inj, not_none, In_left, In_right}
use Rattle.ld_calm.specs.Ends.{AreSteps}

-- no line says that a journal has reached its limit
pub record Unlimited (ls : List Line) : Type 0 where
  pub journals : (n : ℕ) → In (lines.NodeFull n) ls → ⊥
  pub register : (name : List ℕ) → In (lines.RefusedRegister name) ls → ⊥

unlimited_left : (ls ms : List Line) → Unlimited (ls ++ ms) → Unlimited ls
unlimited_left ls ms u = record { journals = λ n i. u.journals n (In_left _ ls ms i); register = λ name i. u.register name (In_left _ ls ms i) }

unlimited_right : (ls ms : List Line) → Unlimited (ls ++ ms) → Unlimited ms
unlimited_right ls ms u = record { journals = λ n i. u.journals n (In_right _ ls ms i); register = λ name i. u.register name (In_right _ ls ms i) }

-- P holds of a state and of what is left to do
pub record Parts (c : Config) (P : State → List Left → Type 0) : Type 0 where
  pub announced : (s : State) (l : ℕ) (ps : List Left) (q : List ℕ × Sequencer) → P s (Announces l ∷ ps) → last_of s l ≡ Some q → q.1.gone ≡ false → Unlimited (moved c s (Calms q.0)).lines → P (moved c s (Calms q.0)).state ps
  pub silent : (s : State) (l : ℕ) (ps : List Left) → P s (Announces l ∷ ps) → ((q : List ℕ × Sequencer) → last_of s l ≡ Some q → q.1.gone ≡ true) → P s ps
  pub settles : (s : State) (l : ℕ) (ps : List Left) (i : ℕ) → P s (Settles l ∷ ps) → oldest_new s.network ≡ Some i → Unlimited (moved c s (Takes (events.Deliver i))).lines → P (moved c s (Takes (events.Deliver i))).state (Settles l ∷ ps)
  pub settled : (s : State) (l : ℕ) (ps : List Left) → P s (Settles l ∷ ps) → oldest_new s.network ≡ None → P s ps
  pub cleaned : (s : State) (l n : ℕ) (ps : List Left) → P s (Ticks l n ∷ ps) → cleans s n l ≡ true → Unlimited (moved c s (Takes (events.Tick n l))).lines → P (moved c s (Takes (events.Tick n l))).state (Ticks l n ∷ ps)
  pub ticked : (s : State) (l n : ℕ) (ps : List Left) → P s (Ticks l n ∷ ps) → cleans s n l ≡ false → Unlimited (moved c s (Takes (events.Tick n l))).lines → P (moved c s (Takes (events.Tick n l))).state ps
  pub polled : (s : State) (name : List ℕ) (d : Reader) (ps : List Left) → P s (Reads name ∷ ps) → find_named name s.readers ≡ Some d → is_finished d ≡ false → Unlimited (moved c s (Takes (events.Poll name))).lines
      → P (moved c s (Takes (events.Poll name))).state (Drains ∷ Again name d.next ∷ ps)
  pub finished : (s : State) (name : List ℕ) (ps : List Left) → P s (Reads name ∷ ps) → ((d : Reader) → find_named name s.readers ≡ Some d → is_finished d ≡ true) → P s ps
  pub drains : (s : State) (ps : List Left) (i : ℕ) → P s (Drains ∷ ps) → oldest_new s.network ≡ Some i → Unlimited (moved c s (Takes (events.Deliver i))).lines → P (moved c s (Takes (events.Deliver i))).state (Drains ∷ ps)
  pub drained : (s : State) (ps : List Left) → P s (Drains ∷ ps) → oldest_new s.network ≡ None → P s ps
  pub asked : (s : State) (name : List ℕ) (next : ℕ) (d : Reader) (ps : List Left) → P s (Again name next ∷ ps) → find_named name s.readers ≡ Some d → (d.next ≡ next → ⊥) → Unlimited (moved c s (Takes (events.Poll name))).lines
      → P (moved c s (Takes (events.Poll name))).state (Drains ∷ Again name d.next ∷ ps)
  pub rested : (s : State) (name : List ℕ) (next : ℕ) (ps : List Left) → P s (Again name next ∷ ps) → ((d : Reader) → find_named name s.readers ≡ Some d → d.next ≡ next) → P s ps

module _ (c : Config) (P : State → List Left → Type 0) (K : Parts c P) where
  -- after the next step, or where there is none
  After : State → Option Next → Type 0
  After s None = P s []
  After s (Some x) = Unlimited (moved c s x.move).lines → P (moved c s x.move).state x.left

  module _ (s : State) where
    no_one : (name : List ℕ) → find_named name s.readers ≡ None → (Q : Reader → Type 0) → (d : Reader) → find_named name s.readers ≡ Some d → Q d
    no_one name e Q d f = absurd (not_none (sym e ∙ f))

    by_last : (l : ℕ) (ps : List Left) (z : Option Next) → P s (Announces l ∷ ps) → (o : Option (List ℕ × Sequencer)) → last_of s l ≡ o → announces o ps (next_of c s ps) ≡ z → (P s ps → next_of c s ps ≡ z → After s z) → After s z
    unfolding After
    by_last l ps z h None e f other = other (K.silent s l ps h (λ q g. absurd (not_none (sym e ∙ g)))) f
    by_last l ps z h (Some q) e f other = by_gone q.1.gone refl f where
      by_gone : (b : Bool) → q.1.gone ≡ b → (if b then next_of c s ps else goes (Calms q.0) ps) ≡ z → After s z
      by_gone true t g = other (K.silent s l ps h (λ r i. subst (λ (x : List ℕ × Sequencer). x.1.gone ≡ true) (Some_inj (sym e ∙ i)) t)) g
      by_gone false t g = subst (After s) g (λ u. K.announced s l ps q h e t u)

    by_settling : (l : ℕ) (ps : List Left) (z : Option Next) → P s (Settles l ∷ ps) → (o : Option ℕ) → oldest_new s.network ≡ o → delivers_in o (Settles l) ps (next_of c s ps) ≡ z → (P s ps → next_of c s ps ≡ z → After s z) → After s z
    unfolding After
    by_settling l ps z h None e f other = other (K.settled s l ps h e) f
    by_settling l ps z h (Some i) e f other = subst (After s) f (λ u. K.settles s l ps i h e u)

    by_draining : (ps : List Left) (z : Option Next) → P s (Drains ∷ ps) → (o : Option ℕ) → oldest_new s.network ≡ o → delivers_in o Drains ps (next_of c s ps) ≡ z → (P s ps → next_of c s ps ≡ z → After s z) → After s z
    unfolding After
    by_draining ps z h None e f other = other (K.drained s ps h e) f
    by_draining ps z h (Some i) e f other = subst (After s) f (λ u. K.drains s ps i h e u)

    by_cleaning : (l n : ℕ) (ps : List Left) → P s (Ticks l n ∷ ps) → (b : Bool) → cleans s n l ≡ b → Unlimited (moved c s (Takes (events.Tick n l))).lines → P (moved c s (Takes (events.Tick n l))).state (if b then Ticks l n ∷ ps else ps)
    by_cleaning l n ps h true t u = K.cleaned s l n ps h t u
    by_cleaning l n ps h false t u = K.ticked s l n ps h t u

    by_turn : (name : List ℕ) (ps : List Left) (z : Option Next) → P s (Reads name ∷ ps) → (o : Option Reader) → find_named name s.readers ≡ o → reads name o ps (next_of c s ps) ≡ z → (P s ps → next_of c s ps ≡ z → After s z) → After s z
    unfolding After
    by_turn name ps z h None e f other = other (K.finished s name ps h (no_one name e (λ d. is_finished d ≡ true))) f
    by_turn name ps z h (Some d) e f other = by_open (is_finished d) refl f where
      by_open : (b : Bool) → is_finished d ≡ b → (if b then next_of c s ps else polls_then name d.next ps) ≡ z → After s z
      by_open true t g = other (K.finished s name ps h (λ r i. subst (λ (x : Reader). is_finished x ≡ true) (Some_inj (sym e ∙ i)) t)) g
      by_open false t g = subst (After s) g (λ u. K.polled s name d ps h e t u)

    by_again : (name : List ℕ) (next : ℕ) (ps : List Left) (z : Option Next) → P s (Again name next ∷ ps) → (o : Option Reader) → find_named name s.readers ≡ o → asks_again name next o ps (next_of c s ps) ≡ z → (P s ps → next_of c s ps ≡ z → After s z) → After s z
    unfolding After
    by_again name next ps z h None e f other = other (K.rested s name next ps h (no_one name e (λ d. d.next ≡ next))) f
    by_again name next ps z h (Some d) e f other = by_next (d.next == next) refl f where
      by_next : (b : Bool) → (d.next == next) ≡ b → (if b then next_of c s ps else polls_then name d.next ps) ≡ z → After s z
      by_next true t g = other (K.rested s name next ps h (λ r i. subst (λ (x : Reader). x.next ≡ next) (Some_inj (sym e ∙ i)) (eqb-true d.next next t))) g
      by_next false t g = subst (After s) g (λ u. K.asked s name next d ps h e (eqb-false d.next next t) u)

    next_after : (ps : List Left) (z : Option Next) → P s ps → next_of c s ps ≡ z → After s z
    unfolding next_of After
    next_after [] z h e = subst (After s) e h
    next_after (Announces l ∷ ps) z h e = by_last l ps z h (last_of s l) refl e (λ k f. next_after ps z k f)
    next_after (Settles l ∷ ps) z h e = by_settling l ps z h (oldest_new s.network) refl e (λ k f. next_after ps z k f)
    next_after (Ticks l n ∷ ps) z h e = subst (After s) e (λ u. by_cleaning l n ps h (cleans s n l) refl u)
    next_after (Reads name ∷ ps) z h e = by_turn name ps z h (find_named name s.readers) refl e (λ k f. next_after ps z k f)
    next_after (Drains ∷ ps) z h e = by_draining ps z h (oldest_new s.network) refl e (λ k f. next_after ps z k f)
    next_after (Again name next ∷ ps) z h e = by_again name next ps z h (find_named name s.readers) refl e (λ k f. next_after ps z k f)

  -- it holds when all steps are taken
  pub at_last : (k : ℕ) (s : State) (ps : List Left) → P s ps → AreSteps c s ps (steps_from k c s ps) → Unlimited (calmed k c s ps).lines → P (calmed k c s ps).state []
  unfolding steps_from calmed After
  at_last zero s ps h a u = next_after s ps None h a
  at_last (suc k) s ps h a u = by_next (next_of c s ps) refl (at_last k) a u where
    by_next : (o : Option Next) → next_of c s ps ≡ o → ((t : State) (qs : List Left) → P t qs → AreSteps c t qs (steps_from k c t qs) → Unlimited (calmed k c t qs).lines → P (calmed k c t qs).state []) → AreSteps c s ps (elim o as (λ _. List Move) [ None ↦ [] | Some x ↦ x.move ∷ steps_from k c (moved c s x.move).state x.left ])
        → Unlimited (elim o as (λ _. Stepped) [ None ↦ record { state = s; lines = [] } | Some x ↦ (let r : Stepped = moved c s x.move in let rest : Stepped = calmed k c r.state x.left in record { state = rest.state; lines = r.lines ++ rest.lines }) ]).lines
        → P (elim o as (λ _. Stepped) [ None ↦ record { state = s; lines = [] } | Some x ↦ (let r : Stepped = moved c s x.move in let rest : Stepped = calmed k c r.state x.left in record { state = rest.state; lines = r.lines ++ rest.lines }) ]).state []
    by_next None e ih b v = next_after s ps None h e
    by_next (Some x) e ih b v = ih (moved c s x.move).state x.left (next_after s ps (Some x) h e (unlimited_left (moved c s x.move).lines _ v))
        (subst (λ (qs : List Left). AreSteps c (moved c s x.move).state qs (steps_from k c (moved c s x.move).state x.left)) (left_of b.0 b.1) b.2) (unlimited_right (moved c s x.move).lines _ v) where
          left_of : (qs : List Left) → next_of c s ps ≡ Some (record { move = x.move; left = qs }) → qs ≡ x.left
          left_of qs f = ap (λ (y : Next). y.left) (Some_inj (sym f ∙ e))
