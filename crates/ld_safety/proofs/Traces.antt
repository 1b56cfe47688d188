-- Runs grow at their end: what each step keeps holds before each step of every run, and at its end.
use Rattle.std.proofs.Common.{◌≡◌, ◌∙◌, ℕ, zero, suc, ◌+◌, refl, ap, sym, subst, List, [], ◌∷◌, ◌++◌, length, Option, Some, None, append_assoc, append-nil, length-append, arith, slice_get}
use Rattle.std.specs.Prelude.{filter}
use Rattle.std.proofs.lemmas.List.Elements.{filter-append}
use Rattle.std.proofs.lemmas.List.Concat.{flat_map-append}
use Rattle.ld_schedule.specs.declared.event.Event.{Event}
use Rattle.ld_schedule.specs.declared.event.Event.TheVariants as events
use Rattle.ld_transcript.specs.declared.line.Line.{Line}
use Rattle.ld_config.specs.declared.config.Config.{Config}
use Rattle.ld_msg.specs.Network.{oldest_new}
use Rattle.ld_machine.specs.State.{State, Stepped, finish, or_none}
use Rattle.ld_machine.specs.Step.{happens, delivers}
use Rattle.ld_machine.specs.Calm.{Left, Next, moved, event_of, next_of, all_left, calm_fuel, steps_from, calmed}
use Rattle.ld_machine.specs.Facts.{Happened}
use Rattle.ld_machine.specs.World.{World, begin}
use Rattle.ld_machine.specs.Run.{Went, Move, Takes, flow_steps, flow_moves, flows, calm_steps, one_step, made_by, steps_of, moves_of, step, history_from, history, moves_from, moves, lines_of, state_after, after_step, next_world, world_after, happened}
pub use Rattle.ld_machine.specs.Run.{step_happened, trace}
use Rattle.ld_safety.specs.OneRun.{says_something, lines_in, LinesAreTheSteps, StepsAreTheTrace}

trace-append : (c : Config) (w : World) (es fs : List Move) → trace c w (es ++ fs) ≡ trace c w es ++ trace c (world_after c w es) fs
unfolding world_after
trace-append c w [] fs = refl
trace-append c w (e ∷ es) fs = ap (λ t. step_happened c w.state e ∷ t) (trace-append c (after_step c w e) es fs)

after-append : (c : Config) (w : World) (es fs : List Move) → world_after c w (es ++ fs) ≡ world_after c (world_after c w es) fs
unfolding world_after
after-append c w [] fs = refl
after-append c w (e ∷ es) fs = after-append c (after_step c w e) es fs

abbrev telling : List Line → List Line
telling ls = filter says_something ls

telling-append : (hs gs : List Happened) → telling (lines_in (hs ++ gs)) ≡ telling (lines_in hs) ++ telling (lines_in gs)
telling-append hs gs = ap telling (flat_map-append (λ (h : Happened). h.lines) hs gs) ∙ filter-append says_something (lines_in hs) (lines_in gs)

-- some steps are those of their events, one for each, and come to the same as one event
record SameSteps (c : Config) (w : World) (v : Went) (f : Stepped) (es : List Move) : Type 0 where
  steps : v.happened ≡ trace c w es
  state : v.state ≡ (world_after c w es).state
  reached : v.state ≡ f.state
  lines : telling (lines_in v.happened) ≡ telling f.lines

flow_case : (k : ℕ) (c : Config) (w : World) → ((v : World) → SameSteps c v (flow_steps k c v.state) (flows k c v.state) (flow_moves k c v.state)) → (o : Option ℕ) → SameSteps c w
    (elim o as (λ _. Went) [ None ↦ record { state = w.state; happened = [] } | Some i ↦ (let r : Stepped = finish (delivers c w.state i) in let rest : Went = flow_steps k c r.state in record { state = rest.state; happened = made_by w.state (events.Deliver i) r ∷ rest.happened }) ])
    (elim o as (λ _. Stepped) [ None ↦ record { state = w.state; lines = [] } | Some i ↦ (let r : Stepped = finish (delivers c w.state i) in let rest : Stepped = flows k c r.state in record { state = rest.state; lines = r.lines ++ rest.lines }) ])
    (elim o as (λ _. List Move) [ None ↦ [] | Some i ↦ Takes (events.Deliver i) ∷ flow_moves k c (finish (delivers c w.state i)).state ])
unfolding happens world_after
flow_case k c w ih None = record { steps = refl; state = refl; reached = refl; lines = refl }
flow_case k c w ih (Some i) = let v = next_world c w (events.Deliver i) in let ls : List Line = (finish (delivers c w.state i)).lines in let r = ih v in record {
  steps = ap (λ t. happened c w.state (events.Deliver i) ∷ t) r.steps;
  state = r.state;
  reached = r.reached;
  lines = filter-append says_something ls (lines_in (flow_steps k c v.state).happened) ∙ ap (λ t. telling ls ++ t) r.lines ∙ sym (filter-append says_something ls (flows k c v.state).lines);
}

flow_same : (k : ℕ) (c : Config) (w : World) → SameSteps c w (flow_steps k c w.state) (flows k c w.state) (flow_moves k c w.state)
unfolding world_after
flow_same zero c w = record { steps = refl; state = refl; reached = refl; lines = refl }
flow_same (suc k) c w = flow_case k c w (λ v. flow_same k c v) (oldest_new w.state.network)

-- so are the steps of a calm
calm_case : (k : ℕ) (c : Config) (w : World) → ((v : World) (ps : List Left) → SameSteps c v (calm_steps k c v.state ps) (calmed k c v.state ps) (steps_from k c v.state ps)) → (o : Option Next) → SameSteps c w
    (elim o as (λ _. Went) [ None ↦ record { state = w.state; happened = [] } | Some x ↦ (let r : Stepped = moved c w.state x.move in let rest : Went = calm_steps k c r.state x.left in record { state = rest.state; happened = made_by w.state (event_of x.move) r ∷ rest.happened }) ])
    (elim o as (λ _. Stepped) [ None ↦ record { state = w.state; lines = [] } | Some x ↦ (let r : Stepped = moved c w.state x.move in let rest : Stepped = calmed k c r.state x.left in record { state = rest.state; lines = r.lines ++ rest.lines }) ])
    (elim o as (λ _. List Move) [ None ↦ [] | Some x ↦ x.move ∷ steps_from k c (moved c w.state x.move).state x.left ])
unfolding world_after
calm_case k c w ih None = record { steps = refl; state = refl; reached = refl; lines = refl }
calm_case k c w ih (Some x) = let v = after_step c w x.move in let ls : List Line = (moved c w.state x.move).lines in let r = ih v x.left in record {
  steps = ap (λ t. step_happened c w.state x.move ∷ t) r.steps;
  state = r.state;
  reached = r.reached;
  lines = filter-append says_something ls (lines_in (calm_steps k c v.state x.left).happened) ∙ ap (λ t. telling ls ++ t) r.lines ∙ sym (filter-append says_something ls (calmed k c v.state x.left).lines);
}

calm_same : (k : ℕ) (c : Config) (w : World) (ps : List Left) → SameSteps c w (calm_steps k c w.state ps) (calmed k c w.state ps) (steps_from k c w.state ps)
unfolding calm_steps calmed steps_from world_after
calm_same zero c w ps = record { steps = refl; state = refl; reached = refl; lines = refl }
calm_same (suc k) c w ps = calm_case k c w (λ v qs. calm_same k c v qs) (next_of c w.state ps)

no_none : (ls : List Line) → telling ls ≡ telling (or_none ls)
no_none [] = refl
no_none (l ∷ ls) = refl

one_same : (c : Config) (w : World) (e : Event) → SameSteps c w (one_step w.state e (finish (happens c w.state e))) (finish (happens c w.state e)) (Takes e ∷ [])
unfolding world_after
one_same c w e = record { steps = refl; state = refl; reached = refl; lines = ap telling (append-nil (finish (happens c w.state e)).lines) }

event_same : (c : Config) (w : World) (e : Event) → SameSteps c w (steps_of c w.state e) (step c w.state e) (moves_of c w.state e)
unfolding steps_of step
event_same c w (events.Flow k) = let r = flow_same k c w in record { steps = r.steps; state = r.state; reached = r.reached; lines = r.lines ∙ no_none (flows k c w.state).lines }
event_same c w (events.Format n) = one_same c w (events.Format n)
event_same c w (events.Activate name l) = one_same c w (events.Activate name l)
event_same c w (events.Append name p) = one_same c w (events.Append name p)
event_same c w (events.Batch name ms) = one_same c w (events.Batch name ms)
event_same c w (events.Trim name t) = one_same c w (events.Trim name t)
event_same c w (events.Retry name) = one_same c w (events.Retry name)
event_same c w (events.Drop name) = one_same c w (events.Drop name)
event_same c w (events.Deliver i) = one_same c w (events.Deliver i)
event_same c w (events.Lose i) = one_same c w (events.Lose i)
event_same c w (events.Open name l from until) = one_same c w (events.Open name l from until)
event_same c w (events.OpenOne name l from until) = one_same c w (events.OpenOne name l from until)
event_same c w (events.OpenMessages name l from until) = one_same c w (events.OpenMessages name l from until)
event_same c w (events.Poll name) = one_same c w (events.Poll name)
event_same c w (events.Tick n l) = one_same c w (events.Tick n l)
event_same c w (events.Down n) = one_same c w (events.Down n)
event_same c w (events.Up n) = one_same c w (events.Up n)
event_same c w (events.Wipe n) = one_same c w (events.Wipe n)
event_same c w (events.Fail n k) = one_same c w (events.Fail n k)
event_same c w (events.Tear n k p) = one_same c w (events.Tear n k p)
event_same c w (events.Set l r x set) = one_same c w (events.Set l r x set)
event_same c w (events.Replace n other l) = one_same c w (events.Replace n other l)
event_same c w events.Calm = let r = calm_same (calm_fuel c w.state) c w (all_left c w.state) in record { steps = r.steps; state = r.state; reached = r.reached; lines = r.lines ∙ no_none (calmed (calm_fuel c w.state) c w.state (all_left c w.state)).lines }
event_same c w (events.RegFail k done) = one_same c w (events.RegFail k done)

-- so are the steps of a run
record SameRun (c : Config) (w : World) (es : List Event) : Type 0 where
  steps : history_from c w.state es ≡ trace c w (moves_from c w.state es)
  state : (world_after c w (moves_from c w.state es)).state ≡ state_after c w.state es
  lines : telling (lines_in (history_from c w.state es)) ≡ telling (lines_of c w.state es)

run_same : (c : Config) (w : World) (es : List Event) → SameRun c w es
unfolding history_from world_after state_after lines_of
run_same c w [] = record { steps = refl; state = refl; lines = refl }
run_same c w (e ∷ es) =
    let r = event_same c w e in
    let v : World = world_after c w (moves_of c w.state e) in
    let s : State = (steps_of c w.state e).state in
    let f : Stepped = step c w.state e in
    let rest : SameRun c v es = run_same c v es in
    let steps : history_from c s es ≡ trace c v (moves_from c s es) = subst (λ t. history_from c t es ≡ trace c v (moves_from c t es)) (sym r.state) rest.steps in
    let state : (world_after c v (moves_from c s es)).state ≡ state_after c s es = subst (λ t. (world_after c v (moves_from c t es)).state ≡ state_after c t es) (sym r.state) rest.state in
    let lines : telling (lines_in (history_from c s es)) ≡ telling (lines_of c s es) = subst (λ t. telling (lines_in (history_from c t es)) ≡ telling (lines_of c t es)) (sym r.state) rest.lines in record {
      steps = (λ i. r.steps i ++ steps i) ∙ sym (trace-append c w (moves_of c w.state e) (moves_from c s es));
      state = ap (λ u. u.state) (after-append c w (moves_of c w.state e) (moves_from c s es)) ∙ state ∙ ap (λ t. state_after c t es) r.reached;
      lines = telling-append (steps_of c w.state e).happened (history_from c s es) ∙ (λ i. r.lines i ++ lines i)
          ∙ ap (λ t. telling f.lines ++ telling (lines_of c t es)) r.reached ∙ sym (filter-append says_something f.lines (lines_of c f.state es));
    }

history_same : (c : Config) (es : List Event) → history c es ≡ trace c (begin c) (moves c es)
history_same c es = (run_same c (begin c) es).steps

-- ---- one run ----
pub lines_are_the_steps : LinesAreTheSteps
lines_are_the_steps c es = (run_same c (begin c) es).lines

pub steps_are_the_trace : StepsAreTheTrace
steps_are_the_trace c es = let r = run_same c (begin c) es in (sym r.steps, r.state)

-- ---- what each step keeps ----

-- P is a relation between the steps so far and the world that they lead to
pub record Keeps (c : Config) (P : List Happened → World → Type 0) : Type 0 where
  pub begins : P [] (begin c)
  pub goes_on : (hs : List Happened) (w : World) (e : Move) → P hs w → P (hs ++ step_happened c w.state e ∷ []) (after_step c w e)

-- the step of a place, with the steps and the world before it
pub record Moment (c : Config) (P : List Happened → World → Type 0) (hs : List Happened) (k : ℕ) (h : Happened) : Type 0 where
  pub before : List Happened
  pub after : List Happened
  pub world : World
  pub move : Move
  pub holds : P before world
  pub is : h ≡ step_happened c world.state move
  pub split : hs ≡ before ++ (h ∷ after)
  pub place : length before ≡ k

module _ (c : Config) (P : List Happened → World → Type 0) (K : Keeps c P) where
  pub later : (hs : List Happened) (w : World) (es : List Move) → P hs w → P (hs ++ trace c w es) (world_after c w es)
  unfolding world_after
  later hs w [] p = subst (λ t. P t w) (sym (append-nil hs)) p
  later hs w (e ∷ es) p = subst (λ t. P t (world_after c (after_step c w e) es)) (append_assoc hs (step_happened c w.state e ∷ []) (trace c (after_step c w e) es))
      (later (hs ++ step_happened c w.state e ∷ []) (after_step c w e) es (K.goes_on hs w e p))

  -- it holds at the end
  pub at_end : (es : List Event) → (w : World) × P (history c es) w
  at_end es = (world_after c (begin c) (moves c es), subst (λ t. P t (world_after c (begin c) (moves c es))) (sym (history_same c es)) (later [] (begin c) (moves c es) K.begins))

  placed : {hs gs : List Happened} {j k : ℕ} {h : Happened} → hs ≡ gs → j ≡ k → Moment c P hs j h → Moment c P gs k h
  placed e f m = record { before = m.before; after = m.after; world = m.world; move = m.move; holds = m.holds; is = m.is; split = sym e ∙ m.split; place = m.place ∙ f }

  moment_later : (hs : List Happened) (w : World) (es : List Move) (k : ℕ) (h : Happened) → P hs w → slice_get (trace c w es) k ≡ Some h → Moment c P (hs ++ trace c w es) (length hs + k) h
  moment_later hs w [] k h p g = absurd cc
  moment_later hs w (e ∷ es) zero h p g = record { before = hs; after = trace c (after_step c w e) es; world = w; move = e; holds = p; is = cc; split = let q : h ≡ step_happened c w.state e = cc in ap (λ t. hs ++ (t ∷ trace c (after_step c w e) es)) (sym q); place = omega arith }
  moment_later hs w (e ∷ es) (suc k) h p g =
      placed (append_assoc hs (step_happened c w.state e ∷ []) (trace c (after_step c w e) es)) (let n = length-append hs (step_happened c w.state e ∷ []) in omega arith)
      (moment_later (hs ++ step_happened c w.state e ∷ []) (after_step c w e) es k h (K.goes_on hs w e p) g)

  -- and before each step
  pub at_step : (es : List Event) (k : ℕ) (h : Happened) → slice_get (history c es) k ≡ Some h → Moment c P (history c es) k h
  at_step es k h g = let s = history_same c es in
      placed (sym s) (omega arith) (moment_later [] (begin c) (moves c es) k h K.begins (subst (λ t. slice_get t k ≡ Some h) s g))

-- two that are kept are kept together
pub both_kept : (c : Config) (P Q : List Happened → World → Type 0) → Keeps c P → Keeps c Q → Keeps c (λ hs w. P hs w × Q hs w)
both_kept c P Q a b = record { begins = (a.begins, b.begins); goes_on = λ hs w e p. (a.goes_on hs w e p.0, b.goes_on hs w e p.1) }

-- what is kept where something else is
pub beside_kept : (c : Config) (B P : List Happened → World → Type 0) → Keeps c B → P [] (begin c)
    → ((hs : List Happened) (w : World) (e : Move) → B hs w → B (hs ++ step_happened c w.state e ∷ []) (after_step c w e) → P hs w → P (hs ++ step_happened c w.state e ∷ []) (after_step c w e))
    → Keeps c (λ hs w. B hs w × P hs w)
beside_kept c B P a b k = record { begins = (a.begins, b); goes_on = λ hs w e p. let n = a.goes_on hs w e p.0 in (n, k hs w e p.0 n p.1) }
