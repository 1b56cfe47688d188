-- While no journal reaches its limit, a calm leaves all well: each node, the register, and each log's last sequencer.
use Rattle.std.proofs.Common.{◌≡◌, ◌∙◌, ◌≤◌, ℕ, inl, inr, refl, ap, sym, subst, false, List, [], ◌∷◌, ◌++◌, Option, Some, None, arith}
use Rattle.ld_table.specs.Named.{find_named, put_named}
use Rattle.ld_config.specs.declared.config.Config.{Config}
use Rattle.ld_config.specs.Bounds.{IsInBounds}
use Rattle.ld_schedule.specs.declared.event.Event.{Event}
use Rattle.ld_schedule.specs.declared.event.Event.TheVariants as events
use Rattle.ld_msg.specs.declared.msg.Msg.{Msg}
use Rattle.ld_msg.specs.declared.msg.Body.{Body}
use Rattle.ld_msg.specs.Sequencer.{Sequencer}
use Rattle.ld_op.specs.declared.op.Op.{Op}
use Rattle.ld_op.specs.Ticks.{Ticked, Cleans, Rebuilt, Asks, Nothing}
use Rattle.ld_machine.specs.State.{State, Stepped, start, finish, node_at}
use Rattle.ld_machine.specs.Facts.{Happened}
use Rattle.ld_machine.specs.World.{World, Made, Joined, begin, made_on, joined_on}
use Rattle.ld_machine.specs.Run.{step_happened, state_after, trace, world_after}
use Rattle.ld_machine.specs.Run as run
use Rattle.ld_machine.specs.Step as Step
use Rattle.ld_machine.specs.Calm.{Move, Takes, Calms, event_of, moved, calms, calm_fuel, all_left, last_of}
use Rattle.ld_safety.proofs.Lists.{Some_inj}
use Rattle.ld_safety.proofs.Traces.{later, steps_are_the_trace}
use Rattle.ld_safety.proofs.Events.{NamesOnce, message_sent}
use Rattle.ld_safety.proofs.Appends.{RowOf}
use Rattle.ld_safety.proofs.Base.{counts_of}
use Rattle.ld_safety.proofs.Continues.{reply_continues, retry_continues}
use Rattle.ld_safety.proofs.SequencerSteps.{gone_of, replied, retried}
use Rattle.ld_calm.proofs.InRun.{calm_ends_after}
use Rattle.ld_served.specs.Served.{AllWell, NoLimit, WellStays}
use Rattle.ld_served.proofs.Phases.{Parts, Unlimited, at_last}
use Rattle.ld_served.proofs.Stepping.{delivered, ticking, polling, announcing}
use Rattle.ld_served.proofs.Well.{Healthy, healthy_delivers, healthy_ticks, healthy_polls, healthy_announces}
use Rattle.ld_served.proofs.Last.{LastOf, last_put, last_is, last_none}
use Rattle.ld_served.proofs.Free.{IsFree, Known, known_kept, acting_free, retrying_free, retries_lead, replies_lead}

-- ---- a state of a run ----
pub record OfRun (c : Config) (s : State) : Type 0 where
  pub steps : List Happened
  pub made : List Made
  pub joined : List Joined
  pub known : Known c steps (record { state = s; made = made; joined = joined })

pub run_on : (c : Config) → IsInBounds c → (s : State) (m : Move) → OfRun c s → OfRun c (moved c s m).state
run_on c b s m R = record {
  steps = R.steps ++ step_happened c s m ∷ [];
  made = made_on c s (event_of m) ++ R.made;
  joined = joined_on s (moved c s m).state (event_of m) ++ R.joined;
  known = (known_kept c b).goes_on R.steps (record { state = s; made = R.made; joined = R.joined }) m R.known;
}

pub after_steps : (c : Config) → IsInBounds c → (ms : List Move) → OfRun c (world_after c (begin c) ms).state
after_steps c b ms = let w : World = world_after c (begin c) ms in record {
  steps = trace c (begin c) ms;
  made = w.made;
  joined = w.joined;
  known = later c (Known c) (known_kept c b) [] (begin c) ms (known_kept c b).begins;
}

-- what holds after any steps holds after any events
pub after_events : (c : Config) (P : State → Type 0) → ((ms : List Move) → P (world_after c (begin c) ms).state) → (es : List Event) → P (state_after c (start c) es)
after_events c P h es = subst P (steps_are_the_trace c es).1 (h (run.moves c es))

-- ---- each log's last sequencer ----
abbrev pub AllFree : List (List ℕ × Sequencer) → Type 0
AllFree qs = (l : ℕ) (name : List ℕ) (q : Sequencer) → LastOf qs l name q → IsFree q

put_free : (qs : List (List ℕ × Sequencer)) (name : List ℕ) (q p : Sequencer) → find_named name qs ≡ Some q → p.log ≡ q.log → p.epoch ≡ q.epoch → AllFree qs → ((l : ℕ) → LastOf qs l name q → IsFree p) → AllFree (put_named name p qs)
put_free qs name q p f lg ep A h l n r L = elim (last_put qs name q p l n r f lg ep L) [ inl z ↦ subst IsFree (sym z.1) (h l z.2) | inr z ↦ A l n r z ]

-- all is well in a state of a run
pub record Good (c : Config) (s : State) : Type 0 where
  pub of_run : OfRun c s
  pub healthy : Healthy c s
  pub free : AllFree s.sequencers

module _ (c : Config) (b : IsInBounds c) (s : State) (G : Good c s) where
  names : NamesOnce s
  names = G.of_run.known.lined.0.0.0.0.0

  rows : (name : List ℕ) (q : Sequencer) → find_named name s.sequencers ≡ Some q → RowOf q
  rows name q f = (counts_of c G.of_run.steps (record { state = s; made = G.of_run.made; joined = G.of_run.joined }) G.of_run.known.lined.0.0.0 name q f).row

  handled_same : (t : State) (n : ℕ) (m : Msg) (o : Option Op) (a : Option Body) → (Step.handles t n m o a).state.sequencers ≡ t.sequencers
  handled_same t n m None a = refl
  handled_same t n m (Some o) a = refl

  ticked_same : (n l : ℕ) (t : Ticked) → (Step.ticks_as c s n l t).state.sequencers ≡ s.sequencers
  ticked_same n l (Cleans k y) = refl
  ticked_same n l Rebuilt = refl
  ticked_same n l (Asks from) = refl
  ticked_same n l Nothing = refl

  free_delivers : (i : ℕ) → AllFree (moved c s (Takes (events.Deliver i))).state.sequencers
  unfolding finish
  free_delivers i = delivered c s i (λ d. AllFree d.state.sequencers) names (record {
    unheard = λ k. G.free;
    none = λ k. G.free;
    to_node = λ n m f t v. subst AllFree (sym (handled_same _ n m (Step.node_handles n (node_at s n) m).op (Step.node_handles n (node_at s n) m).answer)) G.free;
    to_sequencer = λ name q m f t l v. (let z = reply_continues c s q (rows name q v.named) name (Step.sender_node m.from) m.body v.there in
        put_free s.sequencers name q _ v.named z.log z.epoch G.free (λ k L.
        replied c s name q v.there (Step.sender_node m.from) m.body (λ x n. IsFree x.acts.sequencer) (acting_free c s.register q (gone_of s q) (Step.sender_node m.from) m.body (G.free k name q L)
        (replies_lead c G.of_run.steps (record { state = s; made = G.of_run.made; joined = G.of_run.joined }) G.of_run.known G.healthy.nodes k name q L m (message_sent s i m f) t l))));
    to_reader = λ name d m f t v. G.free;
  })

  free_announces : (name : List ℕ) (q : Sequencer) → find_named name s.sequencers ≡ Some q → q.gone ≡ false → AllFree (moved c s (Calms name)).state.sequencers
  unfolding finish
  free_announces name q f g = announcing c s name q (λ d. AllFree d.state.sequencers) f g (let z = retry_continues c s q (rows name q f) g in
      put_free s.sequencers name q _ f z.log z.epoch G.free (λ k L. retried c s q g (λ x n. IsFree x.acts.sequencer) (retrying_free c s.register q (gone_of s q) (G.free k name q L)
      (retries_lead c G.of_run.steps (record { state = s; made = G.of_run.made; joined = G.of_run.joined }) G.of_run.known G.healthy.nodes k name q L))))

  free_ticks : (n l : ℕ) → AllFree (moved c s (Takes (events.Tick n l))).state.sequencers
  unfolding finish
  free_ticks n l = ticking c s n l (λ d. AllFree d.state.sequencers) (record { still = λ k. G.free; ticks = λ t g v k. subst AllFree (sym (ticked_same n l t)) G.free })

  free_polls : (name : List ℕ) → AllFree (moved c s (Takes (events.Poll name))).state.sequencers
  unfolding finish
  free_polls name = polling c s name (λ d. AllFree d.state.sequencers) (record { still = λ k. G.free; polls = λ d v. G.free })

  -- a step of a calm leaves it so
  pub good_delivers : (i : ℕ) → Unlimited (moved c s (Takes (events.Deliver i))).lines → Good c (moved c s (Takes (events.Deliver i))).state
  good_delivers i u = record { of_run = run_on c b s (Takes (events.Deliver i)) G.of_run; healthy = healthy_delivers c s names G.healthy i u.journals; free = free_delivers i }

  pub good_ticks : (n l : ℕ) → Unlimited (moved c s (Takes (events.Tick n l))).lines → Good c (moved c s (Takes (events.Tick n l))).state
  good_ticks n l u = record { of_run = run_on c b s (Takes (events.Tick n l)) G.of_run; healthy = healthy_ticks c s names G.healthy n l u.journals; free = free_ticks n l }

  pub good_polls : (name : List ℕ) → Good c (moved c s (Takes (events.Poll name))).state
  good_polls name = record { of_run = run_on c b s (Takes (events.Poll name)) G.of_run; healthy = healthy_polls c s names G.healthy name; free = free_polls name }

  pub good_announces : (l : ℕ) (q : List ℕ × Sequencer) → last_of s l ≡ Some q → q.1.gone ≡ false → Good c (moved c s (Calms q.0)).state
  good_announces l q e g = let L = last_is s l q names.0 e in record { of_run = run_on c b s (Calms q.0) G.of_run; healthy = healthy_announces c s names G.healthy q.0 q.1 L.named g; free = free_announces q.0 q.1 L.named g }

-- ---- a whole calm ----

pub good_parts : (c : Config) → IsInBounds c → Parts c (λ s ps. Good c s)
good_parts c b = record {
  announced = λ s l ps q G e g u. good_announces c b s G l q e g;
  silent = λ s l ps G h. G;
  settles = λ s l ps i G e u. good_delivers c b s G i u;
  settled = λ s l ps G e. G;
  cleaned = λ s l n ps G t u. good_ticks c b s G n l u;
  ticked = λ s l n ps G t u. good_ticks c b s G n l u;
  polled = λ s name d ps G e t u. good_polls c b s G name;
  finished = λ s name ps G h. G;
  drains = λ s ps i G e u. good_delivers c b s G i u;
  drained = λ s ps G e. G;
  asked = λ s name next d ps G e n u. good_polls c b s G name;
  rested = λ s name next ps G h. G;
}

pub unlimited : (r : Stepped) → NoLimit r → Unlimited r.lines
unlimited r h = record { journals = h.journals; register = h.register }

-- as it begins
pub good_first : (c : Config) (s : State) → OfRun c s → AllWell c s → Good c s
good_first c s R A = record {
  of_run = R;
  healthy = record { nodes = A.nodes; register = A.register };
  free = λ l name q L. by_last l name q L (last_of s l) refl;
} where
  names : NamesOnce s
  names = R.known.lined.0.0.0.0.0

  by_last : (l : ℕ) (name : List ℕ) (q : Sequencer) → LastOf s.sequencers l name q → (o : Option (List ℕ × Sequencer)) → last_of s l ≡ o → IsFree q
  by_last l name q L None e = absurd (last_none s l name q e L)
  by_last l name q L (Some p) e =
      let M = last_is s l p names.0 e in
      let up : q.epoch ≤ p.1.epoch = M.most name q L.named L.log in
      let down : p.1.epoch ≤ q.epoch = L.most p.0 p.1 M.named M.log in
      let one : p.0 ≡ name = R.known.lined.0.0.0.0.1.epochs.once p.0 name p.1 q M.named L.named (M.log ∙ sym L.log) (omega arith) in
      let is : p.1 ≡ q = Some_inj (sym M.named ∙ (ap (λ k. find_named k s.sequencers) one ∙ L.named)) in
      subst IsFree is (record { free = A.free l p e; there = A.there l p e })

-- and when nothing is left
pub well_last : (c : Config) (t : State) → Good c t → AllWell c t
well_last c t G = record {
  nodes = G.healthy.nodes;
  register = G.healthy.register;
  there = λ l q e. (G.free l q.0 q.1 (last_is t l q G.of_run.known.lined.0.0.0.0.0.0 e)).there;
  free = λ l q e. (G.free l q.0 q.1 (last_is t l q G.of_run.known.lined.0.0.0.0.0.0 e)).free;
}

well_after : (c : Config) → IsInBounds c → (ms : List Move) → let s : State = (world_after c (begin c) ms).state in AllWell c s → NoLimit (calms c s) → AllWell c (calms c s).state
well_after c b ms A U = let s : State = (world_after c (begin c) ms).state in
    well_last c (calms c s).state (at_last c (λ s ps. Good c s) (good_parts c b) (calm_fuel c s) s (all_left c s) (good_first c s (after_steps c b ms) A) (calm_ends_after c ms b).0 (unlimited (calms c s) U))

pub well_stays : WellStays
well_stays c es b = after_events c (λ s. AllWell c s → NoLimit (calms c s) → AllWell c (calms c s).state) (well_after c b) es
