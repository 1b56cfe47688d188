-- Steps one after the other.
use Rattle.std.proofs.Common.{◌≡◌, ℕ, zero, suc, ◌+◌, ◌⊎◌, inl, inr, Bool, true, false, List, [], ◌∷◌, ◌++◌, Option, Some, None, refl, ap, sym, ◌∙◌, subst, append_assoc, add-one, is_some, length, map, ◌==◌, if◌then◌else◌}
use Rattle.std.proofs.lemmas.List.{append-nil, append_cancel_left, map-append}
use Rattle.ld_schedule.specs.declared.event.Event.{Event}
use Rattle.ld_schedule.specs.declared.event.Event.TheVariants as events
use Rattle.ld_transcript.specs.declared.line.Line.{Line}
use Rattle.ld_transcript.specs.declared.line.Line.TheVariants as lines
use Rattle.ld_config.specs.declared.config.Config.{Config}
use Rattle.ld_msg.specs.Network.{oldest_new}
use Rattle.ld_machine.specs.State.{State, Stepped, Done, start, finish}
use Rattle.ld_machine.specs.Step.{happens, delivers}
use Rattle.ld_machine.specs.Calm.{Move, Takes, event_of, moved, moves}
use Rattle.ld_machine.specs.Run.{flows, flowed, step}
use Rattle.ld_bounds.specs.Sound.{IsSound, IsEvent}
use Rattle.ld_bounds.proofs.Steps.{finish_is, move_is}
use Rattle.ld_clients.specs.declared.outcome.Outcome.{Outcome}
use Rattle.ld_cluster.specs.declared.cluster.Cluster.{Cluster}
use Rattle.ld_cluster.specs.declared.past.Step.{Step}
use Rattle.ld_cluster.specs.Standing.{as_move as as_step, config_of, past_of, state_by, state_of, Parts, IsReached}
use Rattle.ld_cluster.specs.Steps.{delivers_new, delivers_oldest, delivery, more_deliveries, steps_of, is_flow, IsStep, IsStepInPart, HasFlowed, IsFlowing}
use Rattle.ld_cluster.specs.Outcomes.{IsSame, AddsFirst, IsDone, IsFinished, ended}
use Rattle.ld_cluster.proofs.Finishing.{none_added, adds_none, adds_all, adds_on, adds_or_none, same_on}

-- an event that is one step
pub one_step : (c : Config) (s : State) (e : Event) → is_flow e ≡ false → step c s e ≡ finish (happens c s e)
unfolding step
one_step c s (events.Format n) h = refl
one_step c s (events.Activate name l) h = refl
one_step c s (events.Append name p) h = refl
one_step c s (events.Batch name ms) h = refl
one_step c s (events.Trim name t) h = refl
one_step c s (events.Retry name) h = refl
one_step c s (events.Drop name) h = refl
one_step c s (events.Deliver i) h = refl
one_step c s (events.Lose i) h = refl
one_step c s (events.Flow k) h = absurd cc
one_step c s events.Calm h = absurd cc
one_step c s (events.Open name l from until) h = refl
one_step c s (events.OpenOne name l from until) h = refl
one_step c s (events.OpenMessages name l from until) h = refl
one_step c s (events.Poll name) h = refl
one_step c s (events.Tick n l) h = refl
one_step c s (events.Down n) h = refl
one_step c s (events.Up n) h = refl
one_step c s (events.Wipe n) h = refl
one_step c s (events.Fail n k) h = refl
one_step c s (events.Tear n k p) h = refl
one_step c s (events.Set l r x set) h = refl
one_step c s (events.Replace n other l) h = refl
one_step c s (events.RegFail k done) h = refl

delivery_step : (c : Config) (s : State) (i : ℕ) → step c s (events.Deliver i) ≡ finish (delivers c s i)
unfolding step happens
delivery_step c s i = refl

flow_step : (c : Config) (s : State) (k : ℕ) → step c s (events.Flow k) ≡ flowed (flows k c s)
unfolding step
flow_step c s k = refl

steps_of_one : (c : Config) (s : State) (e : Event) → is_flow e ≡ false → steps_of c s e ≡ Takes e ∷ []
unfolding steps_of
steps_of_one c s (events.Format n) h = refl
steps_of_one c s (events.Activate name l) h = refl
steps_of_one c s (events.Append name p) h = refl
steps_of_one c s (events.Batch name ms) h = refl
steps_of_one c s (events.Trim name t) h = refl
steps_of_one c s (events.Retry name) h = refl
steps_of_one c s (events.Drop name) h = refl
steps_of_one c s (events.Deliver i) h = refl
steps_of_one c s (events.Lose i) h = refl
steps_of_one c s (events.Flow k) h = absurd cc
steps_of_one c s events.Calm h = absurd cc
steps_of_one c s (events.Open name l from until) h = refl
steps_of_one c s (events.OpenOne name l from until) h = refl
steps_of_one c s (events.OpenMessages name l from until) h = refl
steps_of_one c s (events.Poll name) h = refl
steps_of_one c s (events.Tick n l) h = refl
steps_of_one c s (events.Down n) h = refl
steps_of_one c s (events.Up n) h = refl
steps_of_one c s (events.Wipe n) h = refl
steps_of_one c s (events.Fail n k) h = refl
steps_of_one c s (events.Tear n k p) h = refl
steps_of_one c s (events.Set l r x set) h = refl
steps_of_one c s (events.Replace n other l) h = refl
steps_of_one c s (events.RegFail k done) h = refl

steps_of_flow : (c : Config) (s : State) (k : ℕ) → steps_of c s (events.Flow k) ≡ more_deliveries c s k (oldest_new s.network)
unfolding steps_of
steps_of_flow c s k = refl

some_from : (o : Option ℕ) → is_some o ≡ true → (i : ℕ) × (o ≡ Some i)
some_from None h = absurd cc
some_from (Some i) h = (i, refl)

none_from : (o : Option ℕ) → is_some o ≡ false → o ≡ None
none_from None h = refl
none_from (Some i) h = absurd cc

-- ---- what steps lead to ----

state_by-push : (c : Config) (s : State) (ms : List Move) (m : Move) → state_by c s (ms ++ m ∷ []) ≡ (moved c (state_by c s ms) m).state
state_by-push c s [] m = refl
state_by-push c s (x ∷ ms) m = state_by-push c (moved c s x).state ms m

-- one step more
state_more : (old new : Cluster) (m : Move) → config_of new ≡ config_of old → past_of new ≡ past_of old ++ m ∷ [] → state_of new ≡ (moved (config_of old) (state_of old) m).state
state_more old new m g p =
    ap (λ c. state_by c (start c) (past_of new)) g
    ∙ (ap (λ ms. state_by (config_of old) (start (config_of old)) ms) p ∙ state_by-push (config_of old) (start (config_of old)) (past_of old) m)

-- a step was taken
pub noted : (k0 k1 k2 k3 : Cluster) (m : Move) (o : Outcome) (l0 l1 : List Line) → IsReached k0 → IsEvent (event_of m)
    → IsDone k0 k1 o (moves (config_of k0) (state_of k0) m) → ((s : State) → Parts k1 s → IsFinished k1 k2 l0 l1 (ended s o))
    → config_of k3 ≡ config_of k2 → past_of k3 ≡ past_of k2 ++ m ∷ [] → ((s : State) → Parts k2 s → Parts k3 s)
    → IsStep k0 k3 l0 l1 (moved (config_of k0) (state_of k0) m) (m ∷ [])
noted k0 k1 k2 k3 m o l0 l1 r v d ends c3 p3 parts3 =
    let c : Config = config_of k0 in
    let s : State = state_of k0 in
    let d0 : Done = moves c s m in
    let fin : IsFinished k1 k2 l0 l1 (finish d0) = subst (λ (x : Stepped). IsFinished k1 k2 l0 l1 x) (λ i. finish (record { state = d0.state; lines = d.lines i; sends = d.sends i })) (ends d0.state d.parts) in
    let g : config_of k3 ≡ c = c3 ∙ (fin.same.config ∙ d.same.config) in
    let p : past_of k3 ≡ past_of k0 ++ m ∷ [] = p3 ∙ ap (λ ms. ms ++ m ∷ []) (fin.same.past ∙ d.same.past) in
    let st : state_of k3 ≡ (moved c s m).state = state_more k0 k3 m g p in
    record {
      config = g;
      past = p;
      state = st;
      lines = fin.lines;
      reached = record {
        parts = subst (λ (t : State). Parts k3 t) (sym st) (parts3 (finish d0).state fin.parts);
        bounds = rw g r.bounds;
        sound = subst (λ (t : State). IsSound (config_of k3) t) (sym st) (subst (λ (x : Config). IsSound x (moved c s m).state) (sym g) (finish_is c (moves c s m) (move_is c r.bounds s m v r.sound)));
      };
    }

-- an event that is one step, as that step
pub as_event : (k0 k3 : Cluster) (e : Event) (l0 l1 : List Line) → is_flow e ≡ false → IsStep k0 k3 l0 l1 (moved (config_of k0) (state_of k0) (Takes e)) (Takes e ∷ [])
    → IsStep k0 k3 l0 l1 (step (config_of k0) (state_of k0) e) (steps_of (config_of k0) (state_of k0) e)
as_event k0 k3 e l0 l1 f t =
    let one : moved (config_of k0) (state_of k0) (Takes e) ≡ step (config_of k0) (state_of k0) e = sym (one_step (config_of k0) (state_of k0) e f) in
    record {
      config = t.config;
      past = t.past ∙ ap (λ ms. past_of k0 ++ ms) (sym (steps_of_one (config_of k0) (state_of k0) e f));
      state = t.state ∙ ap (λ (x : Stepped). x.state) one;
      lines = t.lines ∙ ap (λ (x : Stepped). l0 ++ x.lines) one;
      reached = t.reached;
    }

pub as_moved : (k0 k3 : Cluster) (e : Event) (l0 l1 : List Line) → is_flow e ≡ false → IsStep k0 k3 l0 l1 (step (config_of k0) (state_of k0) e) (steps_of (config_of k0) (state_of k0) e)
    → IsStep k0 k3 l0 l1 (moved (config_of k0) (state_of k0) (Takes e)) (Takes e ∷ [])
as_moved k0 k3 e l0 l1 f t =
    let one : step (config_of k0) (state_of k0) e ≡ moved (config_of k0) (state_of k0) (Takes e) = one_step (config_of k0) (state_of k0) e f in
    record {
      config = t.config;
      past = t.past ∙ ap (λ ms. past_of k0 ++ ms) (steps_of_one (config_of k0) (state_of k0) e f);
      state = t.state ∙ ap (λ (x : Stepped). x.state) one;
      lines = t.lines ∙ ap (λ (x : Stepped). l0 ++ x.lines) one;
      reached = t.reached;
    }

pub part_as_event : (k0 k3 : Cluster) (e : Event) (l0 l1 : List Line) → is_flow e ≡ false → IsStepInPart k0 k3 l0 l1 (moved (config_of k0) (state_of k0) (Takes e)) (Takes e ∷ [])
    → IsStepInPart k0 k3 l0 l1 (step (config_of k0) (state_of k0) e) (steps_of (config_of k0) (state_of k0) e)
part_as_event k0 k3 e l0 l1 f t = record {
  config = t.config;
  past = subst (AddsFirst (past_of k0) (past_of k3)) (sym (steps_of_one (config_of k0) (state_of k0) e f)) t.past;
  lines = subst (λ (x : Stepped). AddsFirst l0 l1 x.lines) (sym (one_step (config_of k0) (state_of k0) e f)) t.lines;
}

pub part_as_moved : (k0 k3 : Cluster) (e : Event) (l0 l1 : List Line) → is_flow e ≡ false → IsStepInPart k0 k3 l0 l1 (step (config_of k0) (state_of k0) e) (steps_of (config_of k0) (state_of k0) e)
    → IsStepInPart k0 k3 l0 l1 (moved (config_of k0) (state_of k0) (Takes e)) (Takes e ∷ [])
part_as_moved k0 k3 e l0 l1 f t = record {
  config = t.config;
  past = subst (AddsFirst (past_of k0) (past_of k3)) (steps_of_one (config_of k0) (state_of k0) e f) t.past;
  lines = subst (λ (x : Stepped). AddsFirst l0 l1 x.lines) (one_step (config_of k0) (state_of k0) e f) t.lines;
}

-- an event that is one step was taken
pub taken : (k0 k1 k3 : Cluster) (e copy : Event) (o : Outcome) (l0 l1 : List Line) → copy ≡ e → is_flow e ≡ false → IsEvent e → IsDone k0 k1 o (happens (config_of k0) (state_of k0) e)
    → (IsEvent copy → IsDone k0 k1 o (happens (config_of k0) (state_of k0) copy) → IsStep k0 k3 l0 l1 (moved (config_of k0) (state_of k0) (Takes copy)) (Takes copy ∷ []))
    → IsStep k0 k3 l0 l1 (step (config_of k0) (state_of k0) e) (steps_of (config_of k0) (state_of k0) e)
taken k0 k1 k3 e copy o l0 l1 q f v d h = as_event k0 k3 e l0 l1 f (subst (λ (x : Event). IsStep k0 k3 l0 l1 (moved (config_of k0) (state_of k0) (Takes x)) (Takes x ∷ [])) q
    (h (subst IsEvent (sym q) v) (subst (λ (x : Event). IsDone k0 k1 o (happens (config_of k0) (state_of k0) x)) (sym q) d)))

pub taken_in_part : (k0 k1 k3 : Cluster) (e copy : Event) (o : Outcome) (l0 l1 : List Line) → copy ≡ e → is_flow e ≡ false → IsDone k0 k1 o (happens (config_of k0) (state_of k0) e)
    → (IsDone k0 k1 o (happens (config_of k0) (state_of k0) copy) → IsStepInPart k0 k3 l0 l1 (moved (config_of k0) (state_of k0) (Takes copy)) (Takes copy ∷ []))
    → IsStepInPart k0 k3 l0 l1 (step (config_of k0) (state_of k0) e) (steps_of (config_of k0) (state_of k0) e)
taken_in_part k0 k1 k3 e copy o l0 l1 q f d h = part_as_event k0 k3 e l0 l1 f (subst (λ (x : Event). IsStepInPart k0 k3 l0 l1 (moved (config_of k0) (state_of k0) (Takes x)) (Takes x ∷ [])) q
    (h (subst (λ (x : Event). IsDone k0 k1 o (happens (config_of k0) (state_of k0) x)) (sym q) d)))

-- nothing of a step is told, where there was no memory before its end
pub untold : (k0 k1 : Cluster) (l : List Line) (t : Stepped) (es : List Move) → IsSame k0 k1 → IsStepInPart k0 k1 l l t es
untold k0 k1 l t es same = record { config = same.config; past = record { some = []; more = es; whole = refl; added = same.past ∙ sym (append-nil (past_of k0)) }; lines = adds_none l t.lines }

-- a step more is kept
pub one_noted : (xs ys : List Step) (x : Step) → ys ≡ xs ++ x ∷ [] → map as_step ys ≡ map as_step xs ++ as_step x ∷ []
one_noted xs ys x e = ap (map as_step) e ∙ map-append as_step xs (x ∷ [])

-- some of its lines are, but it isn't in the past
pub noted_in_part : (k0 k1 k2 : Cluster) (m : Move) (o : Outcome) (l0 l1 : List Line) → IsDone k0 k1 o (moves (config_of k0) (state_of k0) m) → IsSame k1 k2
    → ((s : State) → Parts k1 s → AddsFirst l0 l1 (ended s o).lines) → IsStepInPart k0 k2 l0 l1 (moved (config_of k0) (state_of k0) m) (m ∷ [])
noted_in_part k0 k1 k2 m o l0 l1 d same part =
    let c : Config = config_of k0 in
    let s : State = state_of k0 in
    let d0 : Done = moves c s m in
    let some : AddsFirst l0 l1 (finish d0).lines = subst (λ (x : Stepped). AddsFirst l0 l1 x.lines) (λ i. finish (record { state = d0.state; lines = d.lines i; sends = d.sends i })) (part d0.state d.parts) in
    let none = untold k0 k2 l0 (moved c s m) (m ∷ []) (same_on k0 k1 k2 d.same same) in
    record { config = none.config; past = none.past; lines = some }

-- ---- a flow ----

flows_none : (k : ℕ) (c : Config) (s : State) → oldest_new s.network ≡ None → flows k c s ≡ record { state = s; lines = [] }
flows_none zero c s h = refl
flows_none (suc k) c s h = ap (λ o. elim o as (λ _. Stepped) [ None ↦ record { state = s; lines = [] } | Some i ↦ (let r : Stepped = finish (delivers c s i) in let rest : Stepped = flows k c r.state in record { state = rest.state; lines = r.lines ++ rest.lines }) ]) h

flows_some : (k : ℕ) (c : Config) (s : State) (i : ℕ) → oldest_new s.network ≡ Some i → flows (suc k) c s ≡ record { state = (flows k c (finish (delivers c s i)).state).state; lines = (finish (delivers c s i)).lines ++ (flows k c (finish (delivers c s i)).state).lines }
flows_some k c s i h = ap (λ o. elim o as (λ _. Stepped) [ None ↦ record { state = s; lines = [] } | Some i ↦ (let r : Stepped = finish (delivers c s i) in let rest : Stepped = flows k c r.state in record { state = rest.state; lines = r.lines ++ rest.lines }) ]) h

more_none : (k : ℕ) (c : Config) (s : State) → oldest_new s.network ≡ None → more_deliveries c s k (oldest_new s.network) ≡ []
more_none k c s h = ap (more_deliveries c s k) h

more_some : (k : ℕ) (c : Config) (s : State) (i : ℕ) → oldest_new s.network ≡ Some i → more_deliveries c s (suc k) (oldest_new s.network) ≡ Takes (events.Deliver i) ∷ more_deliveries c (finish (delivers c s i)).state k (oldest_new (finish (delivers c s i)).state.network)
more_some k c s i h = ap (more_deliveries c s (suc k)) h

more_zero : (c : Config) (s : State) (o : Option ℕ) → more_deliveries c s 0 o ≡ []
more_zero c s None = refl
more_zero c s (Some i) = refl

flow_ends : (k : ℕ) (c : Config) (s : State) → (k ≡ 0) ⊎ (oldest_new s.network ≡ None) → flows k c s ≡ record { state = s; lines = [] }
flow_ends k c s (inl e) = ap (λ n. flows n c s) e
flow_ends k c s (inr n) = flows_none k c s n

more_ends : (k : ℕ) (c : Config) (s : State) → (k ≡ 0) ⊎ (oldest_new s.network ≡ None) → more_deliveries c s k (oldest_new s.network) ≡ []
more_ends k c s (inl e) = ap (λ n. more_deliveries c s n (oldest_new s.network)) e ∙ more_zero c s (oldest_new s.network)
more_ends k c s (inr n) = more_none k c s n

pub flowing_start : (k : Cluster) (ls : List Line) (most : ℕ) → IsReached k → IsFlowing k ls most k ls most
flowing_start k ls most r = record { config = refl; state = refl; lines = refl; past = refl; made = []; made_are = sym (append-nil (past_of k)); told = []; told_are = sym (append-nil ls); reached = r }

flowing_more : (k now new : Cluster) (ls ln lm : List Line) (most left rest i : ℕ) → IsFlowing k ls most now ln left → left ≡ suc rest → oldest_new (state_of now).network ≡ Some i
    → IsStep now new ln lm (delivers_oldest (config_of now) (state_of now)) (delivery (oldest_new (state_of now).network))
    → IsFlowing k ls most new lm rest
flowing_more k now new ls ln lm most left rest i h e o t =
    let c : Config = config_of k in
    let d : Stepped = finish (delivers c (state_of now) i) in
    let here : (x : Config) → x ≡ c → delivers_oldest x (state_of now) ≡ d = λ x q. ap (λ y. delivers_oldest y (state_of now)) q ∙ ap (delivers_new c (state_of now)) o in
    let there : delivers_oldest (config_of now) (state_of now) ≡ d = here (config_of now) h.config in
    let st : state_of new ≡ d.state = t.state ∙ ap (λ (x : Stepped). x.state) there in
    let fl : flows left c (state_of now) ≡ record { state = (flows rest c (state_of new)).state; lines = d.lines ++ (flows rest c (state_of new)).lines }
    = ap (λ n. flows n c (state_of now)) e ∙ (flows_some rest c (state_of now) i o ∙ ap (λ (t : State). record { state = (flows rest c t).state; lines = d.lines ++ (flows rest c t).lines }) (sym st)) in
    let mo : more_deliveries c (state_of now) left (oldest_new (state_of now).network) ≡ Takes (events.Deliver i) ∷ more_deliveries c (state_of new) rest (oldest_new (state_of new).network)
    = ap (λ n. more_deliveries c (state_of now) n (oldest_new (state_of now).network)) e ∙ (more_some rest c (state_of now) i o ∙ ap (λ (t : State). Takes (events.Deliver i) ∷ more_deliveries c t rest (oldest_new t.network)) (sym st)) in
    record {
      config = t.config ∙ h.config;
      state = sym (ap (λ (x : Stepped). x.state) fl) ∙ h.state;
      lines = ap (λ x. x ++ (flows rest c (state_of new)).lines) (t.lines ∙ ap (λ (x : Stepped). ln ++ x.lines) there) ∙ (append_assoc ln d.lines (flows rest c (state_of new)).lines ∙ (ap (λ (x : Stepped). ln ++ x.lines) (sym fl) ∙ h.lines));
      past = ap (λ x. x ++ more_deliveries c (state_of new) rest (oldest_new (state_of new).network)) (t.past ∙ ap (λ x. past_of now ++ delivery x) o) ∙ (append_assoc (past_of now) (Takes (events.Deliver i) ∷ []) _ ∙ (ap (λ x. past_of now ++ x) (sym mo) ∙ h.past));
      made = h.made ++ Takes (events.Deliver i) ∷ [];
      made_are = t.past ∙ (ap (λ x. past_of now ++ delivery x) o ∙ (ap (λ x. x ++ Takes (events.Deliver i) ∷ []) h.made_are ∙ append_assoc (past_of k) h.made (Takes (events.Deliver i) ∷ [])));
      told = h.told ++ d.lines;
      told_are = t.lines ∙ (ap (λ (x : Stepped). ln ++ x.lines) there ∙ (ap (λ x. x ++ d.lines) h.told_are ∙ append_assoc ls h.told d.lines));
      reached = t.reached;
    }

pub flowing_end : (k now : Cluster) (ls ln : List Line) (most left : ℕ) → IsFlowing k ls most now ln left → (left ≡ 0) ⊎ (oldest_new (state_of now).network ≡ None) → HasFlowed k ls most now ln
flowing_end k now ls ln most left h e =
    let fl : flows left (config_of k) (state_of now) ≡ record { state = state_of now; lines = [] } = flow_ends left (config_of k) (state_of now) e in
    let mo : more_deliveries (config_of k) (state_of now) left (oldest_new (state_of now).network) ≡ [] = more_ends left (config_of k) (state_of now) e in
    record {
      config = h.config;
      state = sym (ap (λ (x : Stepped). x.state) fl) ∙ h.state;
      lines = sym (append-nil ln) ∙ (ap (λ (x : Stepped). ln ++ x.lines) (sym fl) ∙ h.lines);
      past = sym (append-nil (past_of now)) ∙ (ap (λ x. past_of now ++ x) (sym mo) ∙ h.past);
      reached = h.reached;
    }

-- one step of a flow, as its answer says
pub flowing_by : (k now new : Cluster) (ls ln lm : List Line) (most left rest : ℕ) (more : Bool) → IsFlowing k ls most now ln left → left ≡ rest + 1 → more ≡ true
    → more ≡ is_some (oldest_new (state_of now).network)
    → IsStep now new ln lm (delivers_oldest (config_of now) (state_of now)) (delivery (oldest_new (state_of now).network)) → IsFlowing k ls most new lm rest
flowing_by k now new ls ln lm most left rest more h e g m f =
    let o = some_from (oldest_new (state_of now).network) (sym m ∙ g) in
    flowing_more k now new ls ln lm most left rest o.0 h (e ∙ add-one rest) o.1 f

pub flowing_over : (k now new : Cluster) (ls ln lm : List Line) (most left : ℕ) (more : Bool) → IsFlowing k ls most now ln left → more ≡ false
    → more ≡ is_some (oldest_new (state_of now).network)
    → IsStep now new ln lm (delivers_oldest (config_of now) (state_of now)) (delivery (oldest_new (state_of now).network)) → HasFlowed k ls most new lm
flowing_over k now new ls ln lm most left more h g m f =
    let n = none_from (oldest_new (state_of now).network) (sym m ∙ g) in
    let st : state_of new ≡ state_of now = f.state ∙ ap (λ o. (delivers_new (config_of now) (state_of now) o).state) n in
    let li : lm ≡ ln = f.lines ∙ (ap (λ o. ln ++ (delivers_new (config_of now) (state_of now) o).lines) n ∙ append-nil ln) in
    let pa : past_of new ≡ past_of now = f.past ∙ (ap (λ o. past_of now ++ delivery o) n ∙ append-nil (past_of now)) in
    let en = flowing_end k now ls ln most left h (inr n) in
    record { config = f.config ∙ en.config; state = st ∙ en.state; lines = li ∙ en.lines; past = pa ∙ en.past; reached = f.reached }

-- there was no memory for one of the deliveries
deliveries_split : (c : Config) (s : State) (k : ℕ) (o : Option ℕ) → (rest : List Move) × (delivery o ++ rest ≡ more_deliveries c s (suc k) o)
deliveries_split c s k None = ([], refl)
deliveries_split c s k (Some i) = (more_deliveries c (finish (delivers c s i)).state k (oldest_new (finish (delivers c s i)).state.network), refl)

flows_split : (c : Config) (s : State) (k : ℕ) (o : Option ℕ) → oldest_new s.network ≡ o → (rest : List Line) × ((delivers_new c s o).lines ++ rest ≡ (flows (suc k) c s).lines)
flows_split c s k None h = ([], ap (λ (x : Stepped). x.lines) (sym (flows_none (suc k) c s h)))
flows_split c s k (Some i) h = ((flows k c (finish (delivers c s i)).state).lines, ap (λ (x : Stepped). x.lines) (sym (flows_some k c s i h)))

pub flowing_cut : (k now new : Cluster) (ls ln lm : List Line) (most left rest : ℕ) → IsFlowing k ls most now ln left → left ≡ rest + 1
    → IsStepInPart now new ln lm (delivers_oldest (config_of now) (state_of now)) (delivery (oldest_new (state_of now).network))
    → IsStepInPart k new ls lm (flows most (config_of k) (state_of k)) (more_deliveries (config_of k) (state_of k) most (oldest_new (state_of k).network))
flowing_cut k now new ls ln lm most left rest h e t =
    let c : Config = config_of k in
    let s : State = state_of now in
    let n : left ≡ suc rest = e ∙ add-one rest in
    let es = deliveries_split c s rest (oldest_new s.network) in
    let fs = flows_split c s rest (oldest_new s.network) refl in
    let made : h.made ++ more_deliveries c s left (oldest_new s.network) ≡ more_deliveries c (state_of k) most (oldest_new (state_of k).network) =
    append_cancel_left (past_of k) _ _ (sym (append_assoc (past_of k) h.made (more_deliveries c s left (oldest_new s.network))) ∙ (ap (λ x. x ++ more_deliveries c s left (oldest_new s.network)) (sym h.made_are) ∙ h.past)) in
    let told : h.told ++ (flows left c s).lines ≡ (flows most c (state_of k)).lines =
    append_cancel_left ls _ _ (sym (append_assoc ls h.told (flows left c s).lines) ∙ (ap (λ x. x ++ (flows left c s).lines) (sym h.told_are) ∙ h.lines)) in
    record {
      config = t.config ∙ h.config;
      past = adds_on (past_of k) (past_of now) (past_of new) h.made (delivery (oldest_new s.network)) es.0 _ h.made_are t.past
          (ap (λ x. h.made ++ x) (es.1 ∙ ap (λ m. more_deliveries c s m (oldest_new s.network)) (sym n)) ∙ made);
      lines = adds_on ls ln lm h.told (delivers_oldest c s).lines fs.0 _ h.told_are (subst (λ (x : Config). AddsFirst ln lm (delivers_oldest x s).lines) h.config t.lines)
          (ap (λ x. h.told ++ x) (fs.1 ∙ ap (λ m. (flows m c s).lines) (sym n)) ∙ told);
    }

pub flown_in_part : (k0 k1 : Cluster) (l0 l1 : List Line) (i : ℕ) → oldest_new (state_of k0).network ≡ Some i
    → IsStepInPart k0 k1 l0 l1 (step (config_of k0) (state_of k0) (events.Deliver i)) (steps_of (config_of k0) (state_of k0) (events.Deliver i))
    → IsStepInPart k0 k1 l0 l1 (delivers_oldest (config_of k0) (state_of k0)) (delivery (oldest_new (state_of k0).network))
flown_in_part k0 k1 l0 l1 i h t =
    let s : step (config_of k0) (state_of k0) (events.Deliver i) ≡ delivers_oldest (config_of k0) (state_of k0) = delivery_step (config_of k0) (state_of k0) i ∙ sym (ap (delivers_new (config_of k0) (state_of k0)) h) in
    record {
      config = t.config;
      past = subst (AddsFirst (past_of k0) (past_of k1)) (steps_of_one (config_of k0) (state_of k0) (events.Deliver i) refl ∙ sym (ap delivery h)) t.past;
      lines = subst (λ (x : Stepped). AddsFirst l0 l1 x.lines) s t.lines;
    }

-- a flow that had no memory for a delivery, or for `none`
pub flow_cut : (k0 k1 : Cluster) (l0 l1 : List Line) (most : ℕ) → IsStepInPart k0 k1 l0 l1 (flows most (config_of k0) (state_of k0)) (more_deliveries (config_of k0) (state_of k0) most (oldest_new (state_of k0).network))
    → IsStepInPart k0 k1 l0 l1 (step (config_of k0) (state_of k0) (events.Flow most)) (steps_of (config_of k0) (state_of k0) (events.Flow most))
flow_cut k0 k1 l0 l1 most t = record {
  config = t.config;
  past = subst (AddsFirst (past_of k0) (past_of k1)) (sym (steps_of_flow (config_of k0) (state_of k0) most)) t.past;
  lines = subst (λ (x : Stepped). AddsFirst l0 l1 x.lines) (sym (flow_step (config_of k0) (state_of k0) most)) (adds_or_none l0 l1 (flows most (config_of k0) (state_of k0)).lines t.lines);
}

pub flow_without_none : (k0 k1 : Cluster) (l0 l1 l2 : List Line) (most : ℕ) → HasFlowed k0 l0 most k1 l1 → l2 ≡ l1
    → IsStepInPart k0 k1 l0 l2 (step (config_of k0) (state_of k0) (events.Flow most)) (steps_of (config_of k0) (state_of k0) (events.Flow most))
flow_without_none k0 k1 l0 l1 l2 most h e = flow_cut k0 k1 l0 l2 most (record { config = h.config; past = adds_all (past_of k0) (past_of k1) _ h.past; lines = adds_all l0 l2 _ (e ∙ h.lines) })

pub flown_by : (k0 k1 : Cluster) (l0 l1 : List Line) (i : ℕ) → oldest_new (state_of k0).network ≡ Some i
    → IsStep k0 k1 l0 l1 (step (config_of k0) (state_of k0) (events.Deliver i)) (steps_of (config_of k0) (state_of k0) (events.Deliver i))
    → IsStep k0 k1 l0 l1 (delivers_oldest (config_of k0) (state_of k0)) (delivery (oldest_new (state_of k0).network))
flown_by k0 k1 l0 l1 i h t =
    let s : step (config_of k0) (state_of k0) (events.Deliver i) ≡ delivers_oldest (config_of k0) (state_of k0) = delivery_step (config_of k0) (state_of k0) i ∙ sym (ap (delivers_new (config_of k0) (state_of k0)) h) in
    record {
      config = t.config;
      past = t.past ∙ ap (λ x. past_of k0 ++ x) (steps_of_one (config_of k0) (state_of k0) (events.Deliver i) refl ∙ sym (ap delivery h));
      state = t.state ∙ ap (λ (x : Stepped). x.state) s;
      lines = t.lines ∙ ap (λ (x : Stepped). l0 ++ x.lines) s;
      reached = t.reached;
    }

pub flown_not : (k : Cluster) (l : List Line) → IsReached k → oldest_new (state_of k).network ≡ None
    → IsStep k k l l (delivers_oldest (config_of k) (state_of k)) (delivery (oldest_new (state_of k).network))
flown_not k l r h = record {
  config = refl;
  past = sym (append-nil (past_of k)) ∙ ap (λ o. past_of k ++ delivery o) (sym h);
  state = ap (λ o. (delivers_new (config_of k) (state_of k) o).state) (sym h);
  lines = sym (append-nil l) ∙ ap (λ o. l ++ (delivers_new (config_of k) (state_of k) o).lines) (sym h);
  reached = r;
}

-- a flow that wrote its lines, and `none` where there was none
pub flow_taken : (k0 k1 : Cluster) (l0 l1 l2 : List Line) (most before : ℕ) → before ≡ length l0 → HasFlowed k0 l0 most k1 l1 → l2 ≡ (if length l1 == before then l1 ++ lines.Nothing ∷ [] else l1)
    → IsStep k0 k1 l0 l2 (step (config_of k0) (state_of k0) (events.Flow most)) (steps_of (config_of k0) (state_of k0) (events.Flow most))
flow_taken k0 k1 l0 l1 l2 most before b h e =
    let s : step (config_of k0) (state_of k0) (events.Flow most) ≡ flowed (flows most (config_of k0) (state_of k0)) = flow_step (config_of k0) (state_of k0) most in
    record {
      config = h.config;
      past = h.past ∙ ap (λ x. past_of k0 ++ x) (sym (steps_of_flow (config_of k0) (state_of k0) most));
      state = h.state ∙ ap (λ (x : Stepped). x.state) (sym s);
      lines = none_added before l0 l0 l1 l2 [] (flows most (config_of k0) (state_of k0)).lines b (sym (append-nil l0)) h.lines e ∙ ap (λ (x : Stepped). l0 ++ x.lines) (sym s);
      reached = h.reached;
    }
