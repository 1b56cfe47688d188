-- A calm ends, in every state of every run: what holds in each of its states.
use Rattle.std.proofs.Common.{◌≡◌, ◌∙◌, ◌≤◌, ◌<◌, ◌+◌, ◌-◌, ◌*◌, ℕ, inl, inr, ap, sym, subst, true, if◌then◌else◌, List, [], ◌∷◌, ◌++◌, length, Some, arith}
use Rattle.ld_table.specs.Table.{find}
use Rattle.ld_table.specs.Named.{find_named}
use Rattle.ld_lsn.specs.Number.{numbered}
use Rattle.ld_config.specs.declared.config.Config.{Config}
use Rattle.ld_config.specs.Bounds.{IsInBounds}
use Rattle.ld_schedule.specs.declared.event.Event.{Event}
use Rattle.ld_schedule.specs.declared.event.Event.TheVariants as events
use Rattle.ld_transcript.specs.declared.line.Line.TheVariants as lines
use Rattle.ld_msg.specs.declared.msg.Summary.{Summary}
use Rattle.ld_msg.specs.declared.msg.Who.TheVariants as whos
use Rattle.ld_msg.specs.declared.msg.Msg.{Msg}
use Rattle.ld_msg.specs.Network.{message}
use Rattle.ld_msg.specs.Register.{epochs_of}
use Rattle.ld_msg.specs.Sequencer.{Sequencer}
use Rattle.ld_msg.specs.Reader.{Reader}
use Rattle.ld_machine.specs.Config.{all_nodes, looks_at, has_log, has_node}
use Rattle.ld_machine.specs.State.{State, start, node_at}
use Rattle.ld_machine.specs.Step as Step
use Rattle.ld_machine.specs.Calm.{Move, Takes, Left, Ticks, cleans, event_of, moves, moved, calm_bound, calm_moves}
use Rattle.ld_machine.specs.Facts.{Happened, Writes}
use Rattle.ld_machine.specs.Invariant.{Acked}
use Rattle.ld_machine.specs.World.{World, Made, Joined, In, begin, made_on, joined_on}
use Rattle.ld_machine.specs.Run.{step_happened, trace, world_after, state_after, history}
use Rattle.ld_machine.specs.Run as run
use Rattle.ld_safety.proofs.Traces.{Keeps, both_kept, beside_kept, later, steps_are_the_trace}
use Rattle.ld_safety.proofs.Base.{Base, counts_of}
use Rattle.ld_safety.proofs.AckedLines.{AllLines, lines_kept}
use Rattle.ld_safety.proofs.Specs.{SetsFine}
use Rattle.ld_safety.proofs.Events.{NamesOnce, message_sent}
use Rattle.ld_safety.proofs.Appends.{RowOf}
use Rattle.ld_safety.proofs.GivenSteps.{BaseGiven}
use Rattle.ld_safety.proofs.Along.{Along}
use Rattle.ld_safety.proofs.LostAlong.{Asked}
use Rattle.ld_safety.proofs.LostFullKept.{FullNode}
use Rattle.ld_calm.specs.Ends.{IsCalm, CalmEnds, CalmEndsAfter}
use Rattle.ld_calm.specs.Lines.{CalmIsBounded, CalmIsBoundedAfter, NoneWaitsIsAcked, told_bounds}
use Rattle.ld_calm.proofs.Counting.{AllTold, told_kept, numbers_told}
use Rattle.ld_calm.proofs.Issuing.{AllIssued, issued_kept, points_told, calm_told}
use Rattle.ld_calm.proofs.Measure.{Ground, ground_of, measure}
use Rattle.ld_calm.proofs.Halves.{begin_half}
use Rattle.ld_calm.proofs.Confirming.{AllApart, apart_kept}
use Rattle.ld_calm.proofs.Waved.{Waved, waved_kept}
use Rattle.ld_calm.proofs.Holders.{Holders, LooksIn, holders_step, start_holders}
use Rattle.ld_calm.proofs.Sets.{look_in, sets_kept}
use Rattle.ld_calm.proofs.Marking.{Marking, items_by}
use Rattle.ld_calm.proofs.FitsIn.{row_so, reply_fits}
use Rattle.ld_calm.proofs.Fitting.{ReadersKnown, readers_known}
use Rattle.ld_calm.proofs.Steady.{Steady, OfCalm, steady_at, steady_half, steady_on, calm_leaves}
use Rattle.ld_calm.proofs.Renewing.{renew}
use Rattle.ld_calm.proofs.Cleaning.{delivers_cleaner, tick_falls}
use Rattle.ld_calm.proofs.Turning.{Quiet, delivery, poll, retry}
use Rattle.ld_calm.proofs.Rest.{Rest, ItemsAt, Others, calm_ends_with}
use Rattle.ld_calm.proofs.Running.{Running, Setting, running_kept, starts_so, sequencer_so, reader_so}

-- ---- in every run ----

abbrev pub Holding : Config → List Happened → World → Type 0
Holding c hs w = Setting c hs w × Holders (all_nodes c) w.state.network.sent w.state.readers

looks_now : (c : Config) (hs : List Happened) (w : World) → IsInBounds c → Setting c hs w → (name : List ℕ) (d : Reader) → find_named name w.state.readers ≡ Some d → LooksIn (all_nodes c) (looks_at c w.state.register d.log)
looks_now c hs w b S name d f e = look_in c b w.state.register d.log e S.1.1 (S.0.1.1 name d f)

holding_kept : (c : Config) → IsInBounds c → Keeps c (Holding c)
holding_kept c b = beside_kept c (Setting c) (λ hs w. Holders (all_nodes c) w.state.network.sent w.state.readers) (sets_kept c b) (start_holders (all_nodes c))
    (λ hs w m S T H. holders_step (all_nodes c) c w m S.0.0.0.0 (looks_now c hs w b S) H)

abbrev pub Waving : Config → List Happened → World → Type 0
Waving c hs w = Asked c hs w × Waved w.state.network.sent w.state.readers

abbrev pub Alone : Config → List Happened → World → Type 0
Alone c hs w = Base c hs w × AllApart w.state.readers

-- all that the end of a calm stands on
abbrev pub InEveryRun : Config → List Happened → World → Type 0
InEveryRun c hs w = (Running c hs w × Holding c hs w) × (Waving c hs w × Alone c hs w)

pub in_every_run : (c : Config) → IsInBounds c → Keeps c (InEveryRun c)
in_every_run c b = both_kept c (λ hs w. Running c hs w × Holding c hs w) (λ hs w. Waving c hs w × Alone c hs w) (both_kept c (Running c) (Holding c) (running_kept c b) (holding_kept c b)) (both_kept c (Waving c) (Alone c) (waved_kept c) (apart_kept c))

-- ---- in each state of a calm ----

-- the state is one of a run, and what a calm leaves is as it was at its start
pub record InRun (c : Config) (g : Ground) (s : State) : Type 0 where
  pub steps : List Happened
  pub made : List Made
  pub joined : List Joined
  pub known : InEveryRun c steps (record { state = s; made = made; joined = joined })
  pub steady : Steady c g s

steady_renew : (c : Config) (g : Ground) (s t : State) (l : ℕ) → Steady c g s → Steady c (renew g t l) s
steady_renew c g s t l h = record { nodes = h.nodes; all = h.all; given = h.given; epochs = h.epochs; swaps = h.swaps; size_nodes = h.size_nodes; size_pages = h.size_pages; size_items = h.size_items; pages = h.pages; items = h.items }

of_calm : (m : Move) → Quiet m → OfCalm m
of_calm m (delivery i e) = subst OfCalm (sym e) tt
of_calm m (poll name e) = subst OfCalm (sym e) tt
of_calm m (retry name e) = subst OfCalm (sym e) tt

module _ (c : Config) (b : IsInBounds c) (g : Ground) (s : State) (H : InRun c g s) where
  abbrev w : World
  w = record { state = s; made = H.made; joined = H.joined }

  running : Running c H.steps w
  running = H.known.0.0

  marking : Marking c H.steps w
  marking = H.known.0.0.0.0

  along : BaseGiven c H.steps w × Along c H.steps w
  along = H.known.0.0.0.0.0.0.0

  names_in : NamesOnce s
  names_in = H.known.0.0.0.0.0.0.0.0.0.0.0

  full_in : (y : ℕ) → FullNode (node_at s y)
  full_in = H.known.0.0.0.0.0.0.0.1.full

  rows_in : (name : List ℕ) (q : Sequencer) → find_named name s.sequencers ≡ Some q → RowOf q
  rows_in name q f = row_so c H.steps w b marking name q f

  closed_in : (l e : ℕ) (y : Summary) → 0 < e → find e (epochs_of s.register l).summaries ≡ Some y → e ≤ g.epochs l
  closed_in l e y p f = elim (H.known.0.0.0.0.0.0.0.1.said.register l e y f).1 [
    | inl a ↦ absurd (let z = a.0 in omega arith)
    | inr a ↦ (let z = a.plan.reached.1 in let u = H.steady.epochs l in omega arith)
  ]

  readers_in : ReadersKnown g.all s
  readers_in = subst (λ ns. ReadersKnown ns s) (sym H.steady.all) (readers_known c H.steps w along H.known.1.0.0 H.known.1.1.1 H.known.1.0.1 (all_nodes c) H.known.0.1.1)

  others_in : (i : ℕ) (m : Msg) → In i s.network.fresh → message s.network i ≡ Some m → Others c s g i m
  others_in i m new f = record {
    to_sequencer = λ k t name q n there l e. reply_fits c H.steps w b marking name q n g H.steady there m (message_sent s i m f) (t ∙ ap whos.Sequencer (sym e)) (sym l);
    to_node = λ n t. delivers_cleaner c s i names_in full_in;
  }

  items_in : ItemsAt c g s
  items_in all m i name d f still t looked swaps since apart = items_by c H.steps w b marking name d f m i t (ground_of g name d.log) all (looks_at c s.register d.log) looked swaps (Step.sender_node m.from) since apart
      (λ x j. subst (λ ms. In x ms) (sym (H.steady.items d.log)) j)

  falls_in : (l n : ℕ) (ps : List Left) → has_log c l ≡ true → has_node c n ≡ true → measure g (moved c s (Takes (events.Tick n l))).state (if cleans s n l then Ticks l n ∷ ps else ps) + 1 ≤ measure g s (Ticks l n ∷ ps)
  falls_in l n ps log node = tick_falls c s g l n H.known.0.0.1.1.1 names_in full_in log node (let z = H.steady.nodes in omega arith) (closed_in l) ps

  -- each step of a calm
  on : (m : Move) → OfCalm m → InRun c g (moved c s m).state
  on m o = record {
    steps = H.steps ++ step_happened c s m ∷ [];
    made = made_on c s (event_of m) ++ H.made;
    joined = joined_on s (moved c s m).state (event_of m) ++ H.joined;
    known = (in_every_run c b).goes_on H.steps w m H.known;
    steady = steady_on c g s (moves c s m) (calm_leaves c s m names_in rows_in o) H.steady;
  }

  begun : (l : ℕ) → InRun c (begin_half g s l) s
  begun l = record { steps = H.steps; made = H.made; joined = H.joined; known = H.known; steady = steady_half c g s l H.steady }

  renewed : (t : State) (l : ℕ) → InRun c (renew g t l) s
  renewed t l = record { steps = H.steps; made = H.made; joined = H.joined; known = H.known; steady = steady_renew c g s t l H.steady }

rest : (c : Config) → IsInBounds c → Rest c (InRun c)
rest c b = record {
  known = λ g s H. readers_in c b g s H;
  places = λ g s H. H.known.0.0.1.1.1;
  all = λ g s H. ap length H.steady.all ∙ sym H.steady.nodes;
  sequencers = λ g s H name q f t. sequencer_so c H.steps (w c b g s H) b (running c b g s H) g H.steady name q f;
  readers = λ g s H name d f. reader_so c H.steps (w c b g s H) b (running c b g s H) g H.steady name d f;
  others = λ g s H. others_in c b g s H;
  items = λ g s H. items_in c b g s H;
  falls = λ g s H. falls_in c b g s H;
  step = λ g s m H k. on c b g s H m (of_calm m k);
  begins = λ g s l H. begun c b g s H l;
  ticks = λ g s n l H. let t : State = (moved c s (Takes (events.Tick n l))).state in renewed c b g t (on c b g s H (Takes (events.Tick n l)) tt) t l;
}

-- ---- after any steps, and at the end of a run ----

module _ (c : Config) (P : List Happened → World → Type 0) (K : Keeps c P) (Q : List Happened → State → Type 0) (so : (hs : List Happened) (w : World) → P hs w → Q hs w.state) where
  after_moves : (ms : List Move) → Q (trace c (begin c) ms) (world_after c (begin c) ms).state
  after_moves ms = so (trace c (begin c) ms) (world_after c (begin c) ms) (later c P K [] (begin c) ms K.begins)

  at_last : (es : List Event) → Q (history c es) (state_after c (start c) es)
  at_last es = let s = steps_are_the_trace c es in
      subst (λ (hs : List Happened). Q hs (state_after c (start c) es)) s.0 (subst (Q (trace c (begin c) (run.moves c es))) s.1 (after_moves (run.moves c es)))

abbrev Ended : Config → List Happened → State → Type 0
Ended c hs s = IsCalm c s (calm_moves c s) × (length (calm_moves c s) ≤ calm_bound c s)

ended_now : (c : Config) → IsInBounds c → (hs : List Happened) (w : World) → InEveryRun c hs w → Ended c hs w.state
ended_now c b hs w k = calm_ends_with c (InRun c) (rest c b) w.state (starts_so c hs w b k.0.0) (record { steps = hs; made = w.made; joined = w.joined; known = k; steady = steady_at c w.state })

pub calm_ends : CalmEnds
calm_ends c es b = at_last c (InEveryRun c) (in_every_run c b) (Ended c) (ended_now c b) es

pub calm_ends_after : CalmEndsAfter
calm_ends_after c ms b = after_moves c (InEveryRun c) (in_every_run c b) (Ended c) (ended_now c b) ms

-- with the bound in lines
abbrev Told : Config → List Happened → World → Type 0
Told c hs w = (Base c hs w × AllTold hs w.state.sequencers) × (Base c hs w × AllIssued hs w)

told_both : (c : Config) → Keeps c (Told c)
told_both c = both_kept c (λ hs w. Base c hs w × AllTold hs w.state.sequencers) (λ hs w. Base c hs w × AllIssued hs w) (told_kept c) (issued_kept c)

abbrev Bounded : Config → List Happened → State → Type 0
Bounded c hs s = calm_bound c s ≤ 2 * length s.network.fresh + told_bounds c hs s c.logs

bounded_now : (c : Config) (hs : List Happened) (w : World) → Told c hs w → Bounded c hs w.state
bounded_now c hs w k = calm_told c hs w.state (numbers_told c hs w k.0.0 k.0.1) (points_told hs w (all_nodes c) k.1.1)

pub calm_is_bounded : CalmIsBounded
calm_is_bounded c es b =
    let few : length (calm_moves c (state_after c (start c) es)) ≤ calm_bound c (state_after c (start c) es) = (calm_ends c es b).1 in
    let most : Bounded c (history c es) (state_after c (start c) es) = at_last c (Told c) (told_both c) (Bounded c) (bounded_now c) es in omega arith

pub calm_is_bounded_after : CalmIsBoundedAfter
calm_is_bounded_after c ms b =
    let few : length (calm_moves c (world_after c (begin c) ms).state) ≤ calm_bound c (world_after c (begin c) ms).state = (calm_ends_after c ms b).1 in
    let most : Bounded c (trace c (begin c) ms) (world_after c (begin c) ms).state = after_moves c (Told c) (told_both c) (Bounded c) (bounded_now c) ms in omega arith

acked_there : (c : Config) (hs : List Happened) (w : World) → Base c hs w → AllLines hs w → (name : List ℕ) (q : Sequencer) → find_named name w.state.sequencers ≡ Some q → q.appends ≡ [] → (n k : ℕ) → Writes hs k (lines.Appended name n) → Acked hs q.log n
acked_there c hs w B A name q f e n k x =
    let z = (counts_of c hs w B name q f).below n k x in let none : length q.appends ≡ 0 = ap length e in
    let place : numbered q.epoch (n - numbered q.epoch 0) ≡ n = omega arith in
    subst (Acked hs q.log) place ((A name q f).acked (n - numbered q.epoch 0) (omega arith) (omega arith))

pub none_waits_is_acked : NoneWaitsIsAcked
none_waits_is_acked c es b = at_last c (λ hs w. (BaseGiven c hs w × Along c hs w) × (AllLines hs w × SetsFine w.state)) (lines_kept c b)
    (λ hs s. (name : List ℕ) (q : Sequencer) → find_named name s.sequencers ≡ Some q → q.appends ≡ [] → (n k : ℕ) → Writes hs k (lines.Appended name n) → Acked hs q.log n)
    (λ hs w K. acked_there c hs w K.0.0.0 K.1.0) es
