-- The steps of a calm, one after the other.
use Rattle.std.proofs.Common.{◌≡◌, ◌≤◌, ◌<◌, ℕ, zero, suc, ◌+◌, ◌-◌, ◌^◌, arith, inl, inr, Bool, true, false, List, [], ◌∷◌, ◌++◌, Some, None, refl, ap, sym, ◌∙◌, subst, append_assoc, length, ◌==◌, if◌then◌else◌, map, flat_map}
use Rattle.std.proofs.lemmas.Bool.{eq-eqb, or_left, or_right}
use Rattle.std.proofs.lemmas.List.{append-nil, append_cancel_left}
use Rattle.ld_table.specs.Words.{is_in, any_of}
use Rattle.ld_ids.specs.declared.set.Spec.{Spec}
use Rattle.ld_schedule.specs.declared.event.Event.TheVariants as events
use Rattle.ld_transcript.specs.declared.line.Line.{Line}
use Rattle.ld_transcript.specs.declared.line.Line.TheVariants as lines
use Rattle.ld_config.specs.declared.config.Config.{Config}
use Rattle.ld_machine.specs.Config.{all_nodes, has_log, has_node}
use Rattle.ld_machine.specs.State.{State, Stepped}
use Rattle.ld_machine.specs.Calm.{Move, Left, Ticks, Reads, Next, moved, next_of, steps_from, calmed, calms, calm_fuel, calm_moves, all_left, left_for, readers_of}
use Rattle.ld_machine.specs.Run.{flowed, step}
use Rattle.ld_cluster.specs.declared.cluster.Cluster.{Cluster}
use Rattle.ld_cluster.specs.declared.part.Part.{Part}
use Rattle.ld_cluster.specs.Standing.{config_of, past_of, state_of, IsReached}
use Rattle.ld_cluster.specs.Steps.{IsStep, IsStepInPart, steps_of}
use Rattle.ld_cluster.specs.Outcomes.{IsSame, AddsFirst}
use Rattle.ld_cluster.specs.Calming.{as_left, left_before, left_in, IsOf, AreOf, TookNext, TookNone, MayTake, Passes, Begins, IsCut, IsCalming, HasCalmed}
use Rattle.ld_cluster.proofs.Finishing.{none_added, adds_on, adds_or_none, adds_all}
use Rattle.ld_cluster.proofs.Flowing.{untold}

-- ---- what is left ----

left_push : (xs : List Part) (p : Part) (r : List Left) → left_before (xs ++ p ∷ []) r ≡ as_left p ∷ left_before xs r
left_push [] p r = refl
left_push (x ∷ xs) p r = left_push xs p (as_left x ∷ r)

-- the last one comes next
pub left_last : (xs ys : List Part) (p : Part) → ys ≡ xs ++ p ∷ [] → left_in ys ≡ as_left p ∷ left_in xs
left_last xs ys p e = ap left_in e ∙ left_push xs p []

-- ---- all that is left at first ----

of_append : (c : Config) (ps qs : List Left) → AreOf c ps → AreOf c qs → AreOf c (ps ++ qs)
of_append c [] qs a b = b
of_append c (p ∷ ps) qs a b = (a.0, of_append c ps qs a.1 b)

of_nodes : (c : Config) (l : ℕ) (ns : List ℕ) → has_log c l ≡ true → ((n : ℕ) → is_in n ns ≡ true → has_node c n ≡ true) → AreOf c (map (λ n. Ticks l n) ns)
of_nodes c l [] h f = tt
of_nodes c l (n ∷ ns) h f = ((f n (or_left (n == n) (is_in n ns) (eq-eqb n n refl)), h), of_nodes c l ns h (λ m i. f m (or_right (n == m) (is_in m ns) i)))

of_readers : (c : Config) (names : List (List ℕ)) → AreOf c (map (λ name. Reads name) names)
of_readers c [] = tt
of_readers c (name ∷ names) = (tt, of_readers c names)

of_log : (c : Config) (s : State) (l : ℕ) → has_log c l ≡ true → AreOf c (left_for c s l)
of_log c s l h = (tt, (tt, of_append c (map (λ n. Ticks l n) (all_nodes c)) _ (of_nodes c l (all_nodes c) h (λ n i. i)) (of_readers c (readers_of l s.readers))))

of_logs : (c : Config) (s : State) (specs : List Spec) → ((l : ℕ) → any_of (λ (x : Spec). x.log == l) specs ≡ true → has_log c l ≡ true) → AreOf c (flat_map (λ (p : Spec). left_for c s p.log) specs)
of_logs c s [] f = tt
of_logs c s (p ∷ ps) f = of_append c (left_for c s p.log) _ (of_log c s p.log (f p.log (or_left (p.log == p.log) _ (eq-eqb p.log p.log refl)))) (of_logs c s ps (λ l i. f l (or_right (p.log == l) _ i)))

pub of_all : (c : Config) (s : State) → AreOf c (all_left c s)
of_all c s = of_logs c s c.logs (λ l i. i)

-- ---- steps ----

calmed_none : (k : ℕ) (c : Config) (s : State) (ps : List Left) → next_of c s ps ≡ None → calmed k c s ps ≡ record { state = s; lines = [] }
unfolding calmed
calmed_none zero c s ps h = refl
calmed_none (suc k) c s ps h = ap (λ o. elim o as (λ _. Stepped) [ None ↦ record { state = s; lines = [] } | Some x ↦ (let r : Stepped = moved c s x.move in let rest : Stepped = calmed k c r.state x.left in record { state = rest.state; lines = r.lines ++ rest.lines }) ]) h

calmed_some : (k : ℕ) (c : Config) (s : State) (ps : List Left) (x : Next) → next_of c s ps ≡ Some x
    → calmed (suc k) c s ps ≡ record { state = (calmed k c (moved c s x.move).state x.left).state; lines = (moved c s x.move).lines ++ (calmed k c (moved c s x.move).state x.left).lines }
unfolding calmed
calmed_some k c s ps x h = ap (λ o. elim o as (λ _. Stepped) [ None ↦ record { state = s; lines = [] } | Some x ↦ (let r : Stepped = moved c s x.move in let rest : Stepped = calmed k c r.state x.left in record { state = rest.state; lines = r.lines ++ rest.lines }) ]) h

steps_none : (k : ℕ) (c : Config) (s : State) (ps : List Left) → next_of c s ps ≡ None → steps_from k c s ps ≡ []
unfolding steps_from
steps_none zero c s ps h = refl
steps_none (suc k) c s ps h = ap (λ o. elim o as (λ _. List Move) [ None ↦ [] | Some x ↦ x.move ∷ steps_from k c (moved c s x.move).state x.left ]) h

steps_some : (k : ℕ) (c : Config) (s : State) (ps : List Left) (x : Next) → next_of c s ps ≡ Some x → steps_from (suc k) c s ps ≡ x.move ∷ steps_from k c (moved c s x.move).state x.left
unfolding steps_from
steps_some k c s ps x h = ap (λ o. elim o as (λ _. List Move) [ None ↦ [] | Some x ↦ x.move ∷ steps_from k c (moved c s x.move).state x.left ]) h

pub calming_start : (k : Cluster) (ls : List Line) (ps : List Left) → IsReached k → ps ≡ all_left (config_of k) (state_of k) → IsCalming k ls k ls ps (calm_fuel (config_of k) (state_of k))
calming_start k ls ps r e = record {
  config = refl;
  state = ap (λ qs. (calmed (calm_fuel (config_of k) (state_of k)) (config_of k) (state_of k) qs).state) e;
  lines = ap (λ qs. ls ++ (calmed (calm_fuel (config_of k) (state_of k)) (config_of k) (state_of k) qs).lines) e;
  past = ap (λ qs. past_of k ++ steps_from (calm_fuel (config_of k) (state_of k)) (config_of k) (state_of k) qs) e;
  made = [];
  made_are = sym (append-nil (past_of k));
  told = [];
  told_are = sym (append-nil ls);
  of = subst (AreOf (config_of k)) (sym e) (of_all (config_of k) (state_of k));
  reached = r;
}

pub calming_more : (k now new : Cluster) (ls ln lm : List Line) (ps rest : List Left) (fuel : ℕ) → IsCalming k ls now ln ps (suc fuel) → TookNext now ln ps new lm rest → AreOf (config_of now) rest → IsCalming k ls new lm rest fuel
calming_more k now new ls ln lm ps rest fuel h t o =
    let c : Config = config_of k in
    let d : Stepped = moved c (state_of now) t.move in
    let next : next_of c (state_of now) ps ≡ Some (record { move = t.move; left = rest }) = subst (λ (x : Config). next_of x (state_of now) ps ≡ Some (record { move = t.move; left = rest })) h.config t.next in
    let there : moved (config_of now) (state_of now) t.move ≡ d = ap (λ (x : Config). moved x (state_of now) t.move) h.config in
    let st : state_of new ≡ d.state = t.step.state ∙ ap (λ (x : Stepped). x.state) there in
    let fl : calmed (suc fuel) c (state_of now) ps ≡ record { state = (calmed fuel c (state_of new) rest).state; lines = d.lines ++ (calmed fuel c (state_of new) rest).lines }
    = calmed_some fuel c (state_of now) ps (record { move = t.move; left = rest }) next ∙ ap (λ (x : State). record { state = (calmed fuel c x rest).state; lines = d.lines ++ (calmed fuel c x rest).lines }) (sym st) in
    let mo : steps_from (suc fuel) c (state_of now) ps ≡ t.move ∷ steps_from fuel c (state_of new) rest
    = steps_some fuel c (state_of now) ps (record { move = t.move; left = rest }) next ∙ ap (λ (x : State). t.move ∷ steps_from fuel c x rest) (sym st) in
    record {
      config = t.step.config ∙ h.config;
      state = sym (ap (λ (x : Stepped). x.state) fl) ∙ h.state;
      lines = ap (λ x. x ++ (calmed fuel c (state_of new) rest).lines) (t.step.lines ∙ ap (λ (x : Stepped). ln ++ x.lines) there) ∙ (append_assoc ln d.lines (calmed fuel c (state_of new) rest).lines ∙ (ap (λ (x : Stepped). ln ++ x.lines) (sym fl) ∙ h.lines));
      past = ap (λ x. x ++ steps_from fuel c (state_of new) rest) t.step.past ∙ (append_assoc (past_of now) (t.move ∷ []) _ ∙ (ap (λ x. past_of now ++ x) (sym mo) ∙ h.past));
      made = h.made ++ t.move ∷ [];
      made_are = t.step.past ∙ (ap (λ x. x ++ t.move ∷ []) h.made_are ∙ append_assoc (past_of k) h.made (t.move ∷ []));
      told = h.told ++ d.lines;
      told_are = t.step.lines ∙ (ap (λ (x : Stepped). ln ++ x.lines) there ∙ (ap (λ x. x ++ d.lines) h.told_are ∙ append_assoc ls h.told d.lines));
      of = subst (λ (x : Config). AreOf x rest) h.config o;
      reached = t.step.reached;
    }

pub calming_over : (k now new : Cluster) (ls ln lm : List Line) (ps : List Left) (fuel : ℕ) → IsCalming k ls now ln ps fuel → TookNone now ln ps new lm → HasCalmed k ls new lm
calming_over k now new ls ln lm ps fuel h t = subst (λ (x : Cluster). HasCalmed k ls x lm) (sym t.same) (subst (λ (x : List Line). HasCalmed k ls now x) (sym t.lines)
    (let none : next_of (config_of k) (state_of now) ps ≡ None = subst (λ (x : Config). next_of x (state_of now) ps ≡ None) h.config t.none in
    let fl = calmed_none fuel (config_of k) (state_of now) ps none in
    record {
      config = h.config;
      past = sym (append-nil (past_of now)) ∙ (ap (λ x. past_of now ++ x) (sym (steps_none fuel (config_of k) (state_of now) ps none)) ∙ h.past);
      state = sym (ap (λ (x : Stepped). x.state) fl) ∙ h.state;
      lines = sym (append-nil ln) ∙ (ap (λ (x : Stepped). ln ++ x.lines) (sym fl) ∙ h.lines);
      reached = h.reached;
    }))

-- the steps that were taken are first ones of a calm
pub calming_out : (k now : Cluster) (ls ln : List Line) (ps : List Left) (fuel : ℕ) → IsCalming k ls now ln ps fuel → IsStepInPart k now ls ln (calms (config_of k) (state_of k)) (calm_moves (config_of k) (state_of k))
calming_out k now ls ln ps fuel h = record {
  config = h.config;
  past = record {
    some = h.made;
    more = steps_from fuel (config_of k) (state_of now) ps;
    whole = append_cancel_left (past_of k) _ _ (sym (append_assoc (past_of k) h.made (steps_from fuel (config_of k) (state_of now) ps)) ∙ (ap (λ x. x ++ steps_from fuel (config_of k) (state_of now) ps) (sym h.made_are) ∙ h.past));
    added = h.made_are;
  };
  lines = record {
    some = h.told;
    more = (calmed fuel (config_of k) (state_of now) ps).lines;
    whole = append_cancel_left ls _ _ (sym (append_assoc ls h.told (calmed fuel (config_of k) (state_of now) ps).lines) ∙ (ap (λ x. x ++ (calmed fuel (config_of k) (state_of now) ps).lines) (sym h.told_are) ∙ h.lines));
    added = h.told_are;
  };
}

cut_none : (k now new : Cluster) (ls ln lm : List Line) (t : Stepped) (ms : List Move) → IsStepInPart k now ls ln t ms → IsSame now new → lm ≡ ln → IsStepInPart k new ls lm t ms
cut_none k now new ls ln lm t ms h same e = record {
  config = same.config ∙ h.config;
  past = record { some = h.past.some; more = h.past.more; whole = h.past.whole; added = same.past ∙ h.past.added };
  lines = record { some = h.lines.some; more = h.lines.more; whole = h.lines.whole; added = e ∙ h.lines.added };
}

pub calming_cut : (k now new : Cluster) (ls ln lm : List Line) (ps : List Left) (fuel : ℕ) → IsCalming k ls now ln ps (suc fuel) → IsCut now ln ps new lm → IsStepInPart k new ls lm (calms (config_of k) (state_of k)) (calm_moves (config_of k) (state_of k))
unfolding calming_out steps_from
calming_cut k now new ls ln lm ps fuel h (inl same) = cut_none k now new ls ln lm _ _ (calming_out k now ls ln ps (suc fuel) h) same.0 same.1
calming_cut k now new ls ln lm ps fuel h (inr cut) =
    let c : Config = config_of k in
    let d : Stepped = moved c (state_of now) cut.move in
    let n : Next = record { move = cut.move; left = cut.rest } in
    let next : next_of c (state_of now) ps ≡ Some n = subst (λ (x : Config). next_of x (state_of now) ps ≡ Some n) h.config cut.next in
    let out = calming_out k now ls ln ps (suc fuel) h in
    record {
      config = cut.part.config ∙ h.config;
      past = adds_on (past_of k) (past_of now) (past_of new) h.made (cut.move ∷ []) (steps_from fuel c d.state cut.rest) _ h.made_are cut.part.past (ap (λ x. h.made ++ x) (sym (steps_some fuel c (state_of now) ps n next)) ∙ out.past.whole);
      lines = adds_on ls ln lm h.told d.lines (calmed fuel c d.state cut.rest).lines _ h.told_are (subst (λ (x : Config). AddsFirst ln lm (moved x (state_of now) cut.move).lines) h.config cut.part.lines)
          (ap (λ x. h.told ++ x) (sym (ap (λ (x : Stepped). x.lines) (calmed_some fuel c (state_of now) ps n next))) ∙ out.lines.whole);
    }

-- ---- a calm as an event ----

calm_step : (c : Config) (s : State) → step c s events.Calm ≡ flowed (calms c s)
unfolding step
calm_step c s = refl

steps_of_calm : (c : Config) (s : State) → steps_of c s events.Calm ≡ calm_moves c s
unfolding steps_of
steps_of_calm c s = refl

pub calm_cut : (k0 k1 : Cluster) (l0 l1 : List Line) → IsStepInPart k0 k1 l0 l1 (calms (config_of k0) (state_of k0)) (calm_moves (config_of k0) (state_of k0))
    → IsStepInPart k0 k1 l0 l1 (step (config_of k0) (state_of k0) events.Calm) (steps_of (config_of k0) (state_of k0) events.Calm)
calm_cut k0 k1 l0 l1 t = record {
  config = t.config;
  past = subst (AddsFirst (past_of k0) (past_of k1)) (sym (steps_of_calm (config_of k0) (state_of k0))) t.past;
  lines = subst (λ (x : Stepped). AddsFirst l0 l1 x.lines) (sym (calm_step (config_of k0) (state_of k0))) (adds_or_none l0 l1 (calms (config_of k0) (state_of k0)).lines t.lines);
}

pub calm_without_none : (k0 k1 : Cluster) (l0 l1 l2 : List Line) → HasCalmed k0 l0 k1 l1 → l2 ≡ l1 → IsStepInPart k0 k1 l0 l2 (step (config_of k0) (state_of k0) events.Calm) (steps_of (config_of k0) (state_of k0) events.Calm)
calm_without_none k0 k1 l0 l1 l2 h e = calm_cut k0 k1 l0 l2 (record { config = h.config; past = adds_all (past_of k0) (past_of k1) _ h.past; lines = adds_all l0 l2 _ (e ∙ h.lines) })

pub calm_taken : (k0 k1 : Cluster) (l0 l1 l2 : List Line) (before : ℕ) → before ≡ length l0 → HasCalmed k0 l0 k1 l1 → l2 ≡ (if length l1 == before then l1 ++ lines.Nothing ∷ [] else l1)
    → IsStep k0 k1 l0 l2 (step (config_of k0) (state_of k0) events.Calm) (steps_of (config_of k0) (state_of k0) events.Calm)
calm_taken k0 k1 l0 l1 l2 before b h e =
    let s : step (config_of k0) (state_of k0) events.Calm ≡ flowed (calms (config_of k0) (state_of k0)) = calm_step (config_of k0) (state_of k0) in
    record {
      config = h.config;
      past = h.past ∙ ap (λ x. past_of k0 ++ x) (sym (steps_of_calm (config_of k0) (state_of k0)));
      state = h.state ∙ ap (λ (x : Stepped). x.state) (sym s);
      lines = none_added before l0 l0 l1 l2 [] (calms (config_of k0) (state_of k0)).lines b (sym (append-nil l0)) h.lines e ∙ ap (λ (x : Stepped). l0 ++ x.lines) (sym s);
      reached = h.reached;
    }

-- ---- the loops ----

-- so many steps were looked for
pub record StillCalming (old : Cluster) (lines_old : List Line) (now : Cluster) (lines_now : List Line) (left : List Left) (turn : ℕ) : Type 0 where
  pub fuel : ℕ
  pub all : fuel + turn ≡ calm_fuel (config_of old) (state_of old)
  pub calming : IsCalming old lines_old now lines_now left fuel

pub still_start : (k : Cluster) (ls : List Line) (ps : List Left) → IsReached k → ps ≡ all_left (config_of k) (state_of k) → StillCalming k ls k ls ps 0
still_start k ls ps r e = record { fuel = calm_fuel (config_of k) (state_of k); all = omega arith; calming = calming_start k ls ps r e }

fuel_left : (c : Config) (s : State) → 2 ^ 64 ≤ calm_fuel c s
unfolding calm_fuel
fuel_left c s = omega arith

-- there is fuel for one more
one_more : (f : ℕ) → 0 < f → (g : ℕ) × (f ≡ suc g)
one_more zero h = absurd (omega arith)
one_more (suc g) h = (g, refl)

pub still_more : (k now new : Cluster) (ls ln lm : List Line) (ps rest : List Left) (turn : ℕ) → turn < 2 ^ 64 - 1 → StillCalming k ls now ln ps turn → TookNext now ln ps new lm rest → AreOf (config_of now) rest → StillCalming k ls new lm rest (turn + 1)
still_more k now new ls ln lm ps rest turn small h t o =
    let b : 2 ^ 64 ≤ calm_fuel (config_of k) (state_of k) = fuel_left (config_of k) (state_of k) in
    let all = h.all in
    let g = one_more h.fuel (omega arith) in
    let e : h.fuel ≡ suc g.0 = g.1 in
    record { fuel = g.0; all = omega arith; calming = calming_more k now new ls ln lm ps rest g.0 (subst (λ f. IsCalming k ls now ln ps f) g.1 h.calming) t o }

pub still_cut : (k now new : Cluster) (ls ln lm : List Line) (ps : List Left) (turn : ℕ) → turn < 2 ^ 64 - 1 → StillCalming k ls now ln ps turn → IsCut now ln ps new lm → IsStepInPart k new ls lm (calms (config_of k) (state_of k)) (calm_moves (config_of k) (state_of k))
still_cut k now new ls ln lm ps turn small h t =
    let b : 2 ^ 64 ≤ calm_fuel (config_of k) (state_of k) = fuel_left (config_of k) (state_of k) in
    let all = h.all in
    let g = one_more h.fuel (omega arith) in
    calming_cut k now new ls ln lm ps g.0 (subst (λ f. IsCalming k ls now ln ps f) g.1 h.calming) t

-- parts without a step were passed
pub record HasPassed (old : Cluster) (lines_old : List Line) (left : List Left) (now : Cluster) (lines_now : List Line) (rest : List Left) : Type 0 where
  pub next : next_of (config_of old) (state_of old) left ≡ next_of (config_of old) (state_of old) rest
  pub same : now ≡ old
  pub lines : lines_now ≡ lines_old
  pub of : AreOf (config_of old) rest

pub passed_start : (k : Cluster) (ls : List Line) (ps : List Left) → AreOf (config_of k) ps → HasPassed k ls ps k ls ps
passed_start k ls ps o = record { next = refl; same = refl; lines = refl; of = o }

pub passed_here : (k now : Cluster) (ls ln : List Line) (left rest : List Left) → HasPassed k ls left now ln rest → IsReached k → IsReached now
passed_here k now ls ln left rest h r = subst IsReached (sym h.same) r

-- what the next part is to be
pub passed_of : (k now : Cluster) (ls ln : List Line) (left rest ps : List Left) (p : Left) → HasPassed k ls left now ln rest → rest ≡ p ∷ ps → IsOf (config_of now) p × AreOf (config_of now) ps
passed_of k now ls ln left rest ps p h e = subst (λ (x : Cluster). IsOf (config_of x) p × AreOf (config_of x) ps) (sym h.same) (subst (AreOf (config_of k)) e h.of)

-- the next part has no step either
pub passed_one : (k now new : Cluster) (ls ln lm : List Line) (left rest ps qs : List Left) (p : Left) (begun : Bool) → HasPassed k ls left now ln rest → rest ≡ p ∷ ps → begun ≡ false
    → Begins begun now ln (p ∷ ps) ps new lm qs → AreOf (config_of now) qs → HasPassed k ls left new lm qs
passed_one k now new ls ln lm left rest ps qs p begun h e f b o =
    let t : Passes now ln (p ∷ ps) ps new lm qs = subst (λ x. Begins x now ln (p ∷ ps) ps new lm qs) f b in
    let there : next_of (config_of k) (state_of k) (p ∷ ps) ≡ next_of (config_of k) (state_of k) ps = subst (λ (x : Cluster). next_of (config_of x) (state_of x) (p ∷ ps) ≡ next_of (config_of x) (state_of x) ps) h.same t.next in
    record {
      next = h.next ∙ (ap (next_of (config_of k) (state_of k)) e ∙ (there ∙ ap (next_of (config_of k) (state_of k)) (sym t.rest_is)));
      same = t.same ∙ h.same;
      lines = t.lines ∙ h.lines;
      of = subst (λ (x : Cluster). AreOf (config_of x) qs) h.same o;
    }

-- then fewer are left
pub passed_fewer : (now new : Cluster) (ln lm : List Line) (rest ps qs : List Left) (p : Left) (begun : Bool) → rest ≡ p ∷ ps → begun ≡ false → Begins begun now ln (p ∷ ps) ps new lm qs → length qs < length rest
passed_fewer now new ln lm rest ps qs p begun e f b =
    let t : Passes now ln (p ∷ ps) ps new lm qs = subst (λ x. Begins x now ln (p ∷ ps) ps new lm qs) f b in
    omega (arith, ap length e, ap length t.rest_is)

-- the next part has one
pub passed_took : (k now new : Cluster) (ls ln lm : List Line) (left rest ps qs : List Left) (p : Left) (begun : Bool) → HasPassed k ls left now ln rest → rest ≡ p ∷ ps → begun ≡ true
    → Begins begun now ln (p ∷ ps) ps new lm qs → MayTake true k ls left new lm qs
passed_took k now new ls ln lm left rest ps qs p begun h e f b =
    let t : TookNext now ln (p ∷ ps) new lm qs = subst (λ x. Begins x now ln (p ∷ ps) ps new lm qs) f b in
    let u : TookNext k ls (p ∷ ps) new lm qs = subst (λ (x : Cluster). TookNext x ls (p ∷ ps) new lm qs) h.same (subst (λ x. TookNext now x (p ∷ ps) new lm qs) h.lines t) in
    record { move = u.move; next = h.next ∙ (ap (next_of (config_of k) (state_of k)) e ∙ u.next); step = u.step }

-- no part is left
pub passed_all : (k now : Cluster) (ls ln : List Line) (left rest : List Left) → HasPassed k ls left now ln rest → rest ≡ [] → MayTake false k ls left now ln []
unfolding next_of
passed_all k now ls ln left rest h e = record { none = h.next ∙ ap (next_of (config_of k) (state_of k)) e; same = h.same; lines = h.lines }

-- what a step asks for, of the next part
pub passed_cut : (k now new : Cluster) (ls ln lm : List Line) (left rest ps : List Left) (p : Left) → HasPassed k ls left now ln rest → rest ≡ p ∷ ps → IsCut now ln (p ∷ ps) new lm → IsCut k ls left new lm
passed_cut k now new ls ln lm left rest ps p h e t = moved_on (subst (λ (x : Cluster). IsCut x ls (p ∷ ps) new lm) h.same (subst (λ x. IsCut now x (p ∷ ps) new lm) h.lines t)) where
  moved_on : IsCut k ls (p ∷ ps) new lm → IsCut k ls left new lm
  moved_on (inl same) = inl same
  moved_on (inr cut) = inr (record { move = cut.move; rest = cut.rest; next = h.next ∙ (ap (next_of (config_of k) (state_of k)) e ∙ cut.next); part = cut.part })

-- what a step asks for
pub still_here : (k now : Cluster) (ls ln : List Line) (ps : List Left) (turn : ℕ) → StillCalming k ls now ln ps turn → IsReached now × AreOf (config_of now) ps
still_here k now ls ln ps turn h = (h.calming.reached, subst (λ (x : Config). AreOf x ps) (sym h.calming.config) h.calming.of)

-- a step was taken
pub still_by : (k now new : Cluster) (ls ln lm : List Line) (ps rest : List Left) (turn : ℕ) (more : Bool) → turn < 2 ^ 64 - 1 → StillCalming k ls now ln ps turn → more ≡ true
    → MayTake more now ln ps new lm rest → AreOf (config_of now) rest → StillCalming k ls new lm rest (turn + 1)
still_by k now new ls ln lm ps rest turn more small h e t o = still_more k now new ls ln lm ps rest turn small h (subst (λ b. MayTake b now ln ps new lm rest) e t) o

-- there was none left
pub still_over : (k now new : Cluster) (ls ln lm : List Line) (ps rest : List Left) (turn : ℕ) (more : Bool) → StillCalming k ls now ln ps turn → more ≡ false
    → MayTake more now ln ps new lm rest → HasCalmed k ls new lm
still_over k now new ls ln lm ps rest turn more h e t = calming_over k now new ls ln lm ps h.fuel h.calming (subst (λ b. MayTake b now ln ps new lm rest) e t)

pub still_out : (k now : Cluster) (ls ln : List Line) (ps : List Left) (turn : ℕ) → StillCalming k ls now ln ps turn → IsStepInPart k now ls ln (calms (config_of k) (state_of k)) (calm_moves (config_of k) (state_of k))
still_out k now ls ln ps turn h = calming_out k now ls ln ps h.fuel h.calming

-- there was no memory for the list of what is left
pub still_none : (k : Cluster) (ls : List Line) → IsStepInPart k k ls ls (calms (config_of k) (state_of k)) (calm_moves (config_of k) (state_of k))
still_none k ls = untold k k ls _ _ (record { config = refl; past = refl })
