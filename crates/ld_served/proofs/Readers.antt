-- What is known of readers in each state of a run, and that a step of a calm leaves each reader's log and number as they are, and its next number and its round at least as great.
use Rattle.std.proofs.Common.{◌≡◌, ◌∙◌, ◌≤◌, ◌<◌, ℕ, inl, inr, refl, ap, sym, subst, true, false, ◌||◌, ◌==◌, nat_lt, List, [], ◌∷◌, ◌++◌, length, Option, Some, None, arith, Bool, zero, suc}
use Rattle.std.proofs.lemmas.Bool.{eqb-false, ltb-false}
use Rattle.std.specs.Option.{unwrap_or}
use Rattle.ld_table.specs.Table.{find}
use Rattle.ld_table.specs.Named.{find_named, put_named}
use Rattle.ld_ids.specs.Choice.{nodes_of}
use Rattle.ld_config.specs.declared.config.Config.{Config}
use Rattle.ld_config.specs.Bounds.{IsInBounds}
use Rattle.ld_schedule.specs.declared.event.Event.TheVariants as events
use Rattle.ld_msg.specs.declared.msg.Msg.{Msg}
use Rattle.ld_msg.specs.declared.msg.Body.{Body}
use Rattle.ld_msg.specs.Reading.{Held}
use Rattle.ld_msg.specs.Register.{epochs_of, epoch_shown, look}
use Rattle.ld_msg.specs.Sequencer.{Sequencer}
use Rattle.ld_msg.specs.Reader.{Reader, is_full_poll, polled, on_answer}
use Rattle.ld_op.specs.declared.op.Op.{Op}
use Rattle.ld_op.specs.Ticks.{Ticked, Cleans, Rebuilt, Asks, Nothing}
use Rattle.ld_machine.specs.Config.{all_nodes, looks_at, first_spec, has_log}
use Rattle.ld_machine.specs.State.{State, finish, node_at}
use Rattle.ld_machine.specs.Facts.{Happened}
use Rattle.ld_machine.specs.World.{In, World, Made, Joined, begin, made_on, joined_on}
use Rattle.ld_machine.specs.Run.{step_happened, trace, world_after}
use Rattle.ld_machine.specs.Step as Step
use Rattle.ld_machine.specs.Calm.{Move, Takes, Calms, event_of, moved}
use Rattle.ld_safety.proofs.Lists.{Some_inj, cond_both}
use Rattle.ld_safety.proofs.Names.{named_cases}
use Rattle.ld_safety.proofs.Traces.{Keeps, both_kept, later}
use Rattle.ld_safety.proofs.Base.{Base}
use Rattle.ld_safety.proofs.Events.{NamesOnce}
use Rattle.ld_safety.proofs.Registers.{Reached, shown_is}
use Rattle.ld_safety.proofs.Specs.{SpecFine}
use Rattle.ld_safety.proofs.ReaderLogs.{Apart}
use Rattle.ld_safety.proofs.LostRounds.{Rounds, answer_to}
use Rattle.ld_safety.proofs.LostReads.{read_on, starts_up}
use Rattle.ld_calm.proofs.Halved.{round_wave}
use Rattle.ld_calm.proofs.Weights.{InPlace}
use Rattle.ld_calm.proofs.Holders.{LooksIn}
use Rattle.ld_calm.proofs.Marking.{next_positive}
use Rattle.ld_calm.proofs.Sets.{look_in}
use Rattle.ld_calm.proofs.InRun.{InEveryRun, in_every_run}
use Rattle.ld_served.proofs.Stepping.{delivered, ticking, polling, announcing}
use Rattle.ld_served.proofs.Waits.{looks_in}
use Rattle.ld_served.proofs.Kept.{Good}
use Rattle.ld_served.proofs.Least.{AllLow, least_kept}

-- ---- in a state of a run ----

abbrev Reading : Config → List Happened → World → Type 0
Reading c hs w = InEveryRun c hs w × (Base c hs w × AllLow w.state.readers)

reading_kept : (c : Config) → IsInBounds c → Keeps c (Reading c)
reading_kept c b = both_kept c (InEveryRun c) (λ hs w. Base c hs w × AllLow w.state.readers) (in_every_run c b) (least_kept c)

pub record InCalm (c : Config) (s : State) : Type 0 where
  steps : List Happened
  made : List Made
  joined : List Joined
  known : Reading c steps (record { state = s; made = made; joined = joined })

pub in_calm_on : (c : Config) → IsInBounds c → (s : State) (m : Move) → InCalm c s → InCalm c (moved c s m).state
in_calm_on c b s m R = record {
  steps = R.steps ++ step_happened c s m ∷ [];
  made = made_on c s (event_of m) ++ R.made;
  joined = joined_on s (moved c s m).state (event_of m) ++ R.joined;
  known = (reading_kept c b).goes_on R.steps (record { state = s; made = R.made; joined = R.joined }) m R.known;
}

pub in_calm_first : (c : Config) → IsInBounds c → (ms : List Move) → InCalm c (world_after c (begin c) ms).state
in_calm_first c b ms = let w : World = world_after c (begin c) ms in record {
  steps = trace c (begin c) ms;
  made = w.made;
  joined = w.joined;
  known = later c (Reading c) (reading_kept c b) [] (begin c) ms (reading_kept c b).begins;
}

-- what is used of it
pub record ReadersHere (c : Config) (s : State) : Type 0 where
  pub names : NamesOnce s
  pub places : InPlace s.network
  pub apart : Apart s.network.sent s.readers
  pub rounds : Rounds s.register (λ m. In m s.network.sent) s.readers
  pub low : AllLow s.readers
  pub held_low : (name : List ℕ) (d : Reader) → find_named name s.readers ≡ Some d → (h : ℕ × Held) → In h d.held → h.1.round ≤ d.round
  pub positive : (name : List ℕ) (d : Reader) → find_named name s.readers ≡ Some d → 0 < d.next
  pub looks : (name : List ℕ) (d : Reader) → find_named name s.readers ≡ Some d → LooksIn (all_nodes c) (looks_at c s.register d.log)
  pub log : (name : List ℕ) (d : Reader) → find_named name s.readers ≡ Some d → has_log c d.log ≡ true

pub readers_here : (c : Config) → IsInBounds c → (s : State) → InCalm c s → ReadersHere c s
readers_here c b s R = let w : World = record { state = s; made = R.made; joined = R.joined } in let K = R.known.0 in
    let rounds : Rounds s.register (λ m. In m s.network.sent) s.readers = K.1.0.0.1.1 in record {
      names = K.0.0.1.1.0.0.0;
      places = K.0.0.1.1.1;
      apart = K.1.0.0.0.1.1;
      rounds = rounds;
      low = R.known.1.1;
      held_low = λ name d f h i. let a = (K.0.1.1.held name d f).rounds h i in let z = round_wave h.1.body in let u = (rounds.waves (answer_to h.0 d h.1.body) d.number name d (rounds.held name d h f i) (inl refl) f refl).wave in omega arith;
      positive = λ name d f. next_positive c R.steps w b K.0.0.0.0 name d f;
      looks = λ name d f e. look_in c b s.register d.log e K.0.1.0.1.1 (K.0.1.0.0.1.1 name d f);
      log = λ name d f. K.0.0.1.0.0.1.1 name d f;
    }

-- where the log has a sequencer, each look at it shows some node
pub some_asked : (c : Config) (s : State) → Good c s → (name : List ℕ) (q : Sequencer) → find_named name s.sequencers ≡ Some q → (e : ℕ) → (y : ℕ) × In y (nodes_of (looks_at c s.register q.log e).spec)
unfolding look
some_asked c s A name q f e = some_of (nodes_of (looks_at c s.register q.log e).spec) (let a : 1 ≤ (looks_at c s.register q.log e).spec.r = fine.least in let m : (looks_at c s.register q.log e).spec.r ≤ length (nodes_of (looks_at c s.register q.log e).spec) = fine.most in omega arith) where
  w : World
  w = record { state = s; made = A.of_run.made; joined = A.of_run.joined }

  reached : Reached s.register q.log q.epoch
  reached = (A.of_run.known.lined.0.1.acks name q f).reached

  positive : (n : ℕ) → (n ≡ 0 → ⊥) → 0 < n
  positive zero h = absurd (h refl)
  positive (suc n) h = omega arith

  between : (z v : Bool) → (e == 0) ≡ z → nat_lt (epochs_of s.register q.log).epoch e ≡ v → (z || v) ≡ false → (0 < e) × (e ≤ (epochs_of s.register q.log).epoch)
  between true v g h t = let k : true ≡ false = t in absurd cc
  between false true g h t = let k : true ≡ false = t in absurd cc
  between false false g h t = (positive e (eqb-false e 0 g), ltb-false (epochs_of s.register q.log).epoch e h)

  at : ℕ
  at = epoch_shown (epochs_of s.register q.log) e

  at_reached : Reached s.register q.log at
  at_reached = let p = reached.0 in let u = reached.1 in cond_both ((e == 0) || nat_lt (epochs_of s.register q.log).epoch e) (epochs_of s.register q.log).epoch e (λ k. (0 < k) × (k ≤ (epochs_of s.register q.log).epoch)) (λ t. (omega arith, omega arith)) (λ t. between (e == 0) (nat_lt (epochs_of s.register q.log).epoch e) refl refl t)

  fine : SpecFine (looks_at c s.register q.log e).spec
  fine = subst SpecFine (ap (λ k. unwrap_or (find k (epochs_of s.register q.log).swapped) (first_spec c q.log)) (shown_is s.register q.log at at_reached)) (looks_in c A.of_run.steps w A.of_run.known.lined q.log at at_reached)

  some_of : (ys : List ℕ) → 1 ≤ length ys → (y : ℕ) × In y ys
  some_of [] h = absurd (omega arith)
  some_of (y ∷ ys) h = (y, inl refl)

-- ---- a step ----

pub record GoesOn (d e : Reader) : Type 0 where
  pub log : e.log ≡ d.log
  pub number : e.number ≡ d.number
  pub until : e.until ≡ d.until
  pub next : d.next ≤ e.next
  pub round : d.round ≤ e.round

pub stays_so : (d : Reader) → GoesOn d d
stays_so d = record { log = refl; number = refl; until = refl; next = omega arith; round = omega arith }

abbrev pub AllGoOn : List (List ℕ × Reader) → List (List ℕ × Reader) → Type 0
AllGoOn ds es = (name : List ℕ) (e : Reader) → find_named name es ≡ Some e → (d : Reader) × (find_named name ds ≡ Some d) × GoesOn d e

pub all_stay : (ds : List (List ℕ × Reader)) → AllGoOn ds ds
all_stay ds name e f = (e, f, stays_so e)

put_goes : (name : List ℕ) (d x : Reader) (ds : List (List ℕ × Reader)) → find_named name ds ≡ Some d → GoesOn d x → AllGoOn ds (put_named name x ds)
put_goes name d x ds f h t e g = elim (named_cases t name x ds) [
  | inl a ↦ (d, ap (λ k. find_named k ds) a.0 ∙ f, subst (GoesOn d) (Some_inj (sym a.1 ∙ g)) h)
  | inr a ↦ (e, sym a.1 ∙ g, stays_so e)
]

module _ (c : Config) (s : State) (N : NamesOnce s) where
  handled_same : (t : State) (n : ℕ) (m : Msg) (o : Option Op) (a : Option Body) → (Step.handles t n m o a).state.readers ≡ t.readers
  handled_same t n m None a = refl
  handled_same t n m (Some o) a = refl

  ticked_same : (n l : ℕ) (t : Ticked) → (Step.ticks_as c s n l t).state.readers ≡ s.readers
  ticked_same n l (Cleans k y) = refl
  ticked_same n l Rebuilt = refl
  ticked_same n l (Asks from) = refl
  ticked_same n l Nothing = refl

  pub delivery_goes : (i : ℕ) → AllGoOn s.readers (moved c s (Takes (events.Deliver i))).state.readers
  unfolding finish
  delivery_goes i = delivered c s i (λ d. AllGoOn s.readers d.state.readers) N (record {
    unheard = λ k. all_stay s.readers;
    none = λ k. all_stay s.readers;
    to_node = λ n m f t v. subst (AllGoOn s.readers) (sym (handled_same _ n m (Step.node_handles n (node_at s n) m).op (Step.node_handles n (node_at s n) m).answer)) (all_stay s.readers);
    to_sequencer = λ name q m f t l v. all_stay s.readers;
    to_reader = λ name d m f t v. (let on = read_on (looks_at c s.register d.log) d (Step.sender_node m.from) m.body v.open_still in
        put_goes name d (on_answer (looks_at c s.register d.log) d (Step.sender_node m.from) m.body).reader s.readers v.named (record { log = on.log; number = on.number; until = on.until; next = on.next; round = on.round }));
  })

  pub tick_goes : (n l : ℕ) → AllGoOn s.readers (moved c s (Takes (events.Tick n l))).state.readers
  unfolding finish
  tick_goes n l = ticking c s n l (λ d. AllGoOn s.readers d.state.readers) (record { still = λ k. all_stay s.readers; ticks = λ t g v k. subst (AllGoOn s.readers) (sym (ticked_same n l t)) (all_stay s.readers) })

  pub poll_goes : (name : List ℕ) → AllGoOn s.readers (moved c s (Takes (events.Poll name))).state.readers
  unfolding finish
  poll_goes name = polling c s name (λ d. AllGoOn s.readers d.state.readers) (record {
    still = λ k. all_stay s.readers;
    polls = λ d v. put_goes name d (polled (looks_at c s.register d.log) d) s.readers v.named (record { log = refl; number = refl; until = refl; next = omega arith; round = starts_up (is_full_poll d) (looks_at c s.register d.log) d });
  })

  pub announcement_goes : (name : List ℕ) (q : Sequencer) → find_named name s.sequencers ≡ Some q → q.gone ≡ false → AllGoOn s.readers (moved c s (Calms name)).state.readers
  unfolding finish
  announcement_goes name q f g = announcing c s name q (λ d. AllGoOn s.readers d.state.readers) f g (all_stay s.readers)
