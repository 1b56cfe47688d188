-- What each event does to nodes: whatever the few changes of a node keep holds of every node in every state.
use Rattle.std.proofs.Common.{ℕ, zero, suc, inl, inr, sym, subst, Bool, true, false, ◌&&◌, ◌||◌, ◌==◌, List, [], ◌∷◌, ◌++◌, Option, Some, None, cond, nat_lt}
use Rattle.std.specs.Option.{unwrap_or}
use Rattle.ld_table.specs.Table.{find}
use Rattle.ld_table.specs.Named.{find_named}
use Rattle.ld_table.proofs.Laws.{put_cases}
use Rattle.ld_schedule.specs.declared.event.Event.{Event}
use Rattle.ld_schedule.specs.declared.event.Event.TheVariants as events
use Rattle.ld_msg.specs.declared.msg.Who.{Who}
use Rattle.ld_msg.specs.declared.msg.Who.TheVariants as whos
use Rattle.ld_msg.specs.declared.msg.Msg.{Msg}
use Rattle.ld_msg.specs.declared.msg.Body.{Body}
use Rattle.ld_op.specs.declared.op.Op.{Op}
use Rattle.ld_op.specs.declared.op.Op.TheVariants as ops
use Rattle.ld_op.specs.Plain.{log_of}
use Rattle.ld_op.specs.Ticks.{Ticked, Cleans, Rebuilt, Asks, Nothing, on_tick}
use Rattle.ld_config.specs.declared.config.Config.{Config}
use Rattle.ld_batch.specs.Batch.{packed}
use Rattle.ld_ids.specs.Set.{members}
use Rattle.ld_machine.specs.Config.{has_node, has_log}
use Rattle.ld_msg.specs.Register.{Register, Answer, Granted, AtLimit, Behind, Overtaken, Fails, activate, draw, swap, epochs_of, epochs_in, generation_of}
use Rattle.ld_machine.specs.Disk.{Node, Fault, new_node, Kept, Written, DiskFailed, Crashed, JournalFull, keep_op, load, load_end, is_up}
use Rattle.ld_msg.specs.Network.{message, oldest_new}
use Rattle.ld_msg.specs.Sequencer.{Sequencer, Appending, TooLong, Preempted, EpochFull, WindowFull, Numbered, appending, released_of}
use Rattle.ld_msg.specs.declared.style.Style.{Style}
use Rattle.ld_msg.specs.declared.style.Style.TheVariants as styles
use Rattle.ld_msg.specs.Reader.{Reader, is_finished}
use Rattle.ld_machine.specs.State.{State, Done, Stepped, node_at, with_node, unchanged, start, new_nodes, sequencer_of, reader_of, finish, with_register}
use Rattle.ld_machine.specs.Step
use Rattle.ld_machine.specs.Calm.{Move, Takes, Calms, Left, Next, moves, moved, next_of, all_left, calm_fuel, calmed}
use Rattle.ld_machine.specs.Run.{flows, step, state_after}
use Rattle.std.specs.Ordering.{nat_cmp}
use Rattle.std.specs.BTreeMap.{is_at}

-- what each change of a node keeps
pub record NodeKeeps (P : Node → Type 0) : Type 0 where
  pub fresh : P new_node
  pub ops : (x : Node) (o : Op) → P x → P (keep_op x o)
  pub loads : (x : Node) → P x → P (load x)
  pub stops : (x : Node) → P x → P (Step.stopped x)
  pub faults : (x : Node) (f : Fault) → P x → P (Step.with_fault x f)
  pub releases : (x : Node) (l : ℕ) (b : Body) → P x → P (Step.releases x l b)

abbrev pub AllNodes : (Node → Type 0) → State → Type 0
AllNodes P s = (y : ℕ) → P (node_at s y)

module _ (P : Node → Type 0) (K : NodeKeeps P) where
  pub all_with : (s : State) (n : ℕ) (x : Node) → P x → AllNodes P s → AllNodes P (with_node s n x)
  all_with s n x h a y = elim (put_cases y n x s.nodes) [
    | inl e ↦ subst (λ o. P (unwrap_or o new_node)) (sym e.1) h
    | inr e ↦ subst (λ o. P (unwrap_or o new_node)) (sym e.1) (a y)
  ]

  -- either of two
  either : (b : Bool) (d f : Done) → AllNodes P d.state → AllNodes P f.state → AllNodes P (cond b d f).state
  either true d f h g = h
  either false d f h g = g

  op_kept : (s : State) (n : ℕ) (o : Op) → AllNodes P s → AllNodes P (with_node s n (keep_op (node_at s n) o))
  op_kept s n o a = all_with s n (keep_op (node_at s n) o) (K.ops (node_at s n) o (a n)) a

  handled : (s : State) (n : ℕ) (m : Msg) (o : Option Op) (b : Option Body) → AllNodes P s → AllNodes P (Step.handles s n m o b).state
  handled s n m None b a = a
  handled s n m (Some o) b a = op_kept s n o a

  at_node : (c : Config) (s : State) (n : ℕ) (m : Msg) → AllNodes P s → AllNodes P (Step.to_node c s n m).state
  at_node c s n m a = either (is_up (node_at s n).status && has_log c m.log) (Step.to_up_node s n m) (unchanged s)
      (handled _ n m (Step.node_handles n (node_at s n) m).op (Step.node_handles n (node_at s n) m).answer (all_with s n _ (K.releases (node_at s n) m.log m.body (a n)) a)) a

  at_sequencer : (c : Config) (s : State) (m : Msg) (q : Option (List ℕ × Sequencer)) → AllNodes P s → AllNodes P (Step.to_sequencer c s m q).state
  at_sequencer c s m None a = a
  at_sequencer c s m (Some q) a = either q.1.gone (unchanged s) _ a a

  at_reader : (c : Config) (s : State) (m : Msg) (d : Option (List ℕ × Reader)) → AllNodes P s → AllNodes P (Step.to_reader c s m d).state
  at_reader c s m None a = a
  at_reader c s m (Some d) a = either (is_finished d.1) (unchanged s) _ a a

  at_who : (c : Config) (s : State) (m : Msg) (w : Who) → AllNodes P s → AllNodes P (Step.comes_to c s m w).state
  at_who c s m (whos.Node n) a = at_node c s n m a
  at_who c s m (whos.Sequencer e) a = at_sequencer c s m (sequencer_of m.log e s.sequencers) a
  at_who c s m (whos.Reader r) a = at_reader c s m (reader_of r s.readers) a

  delivered : (c : Config) (s : State) (i : ℕ) (m : Option Msg) → AllNodes P s → AllNodes P (Step.delivers_it c s i m).state
  delivered c s i None a = a
  delivered c s i (Some m) a = at_who c (Step.marked s i) m m.to a

  on_live_kept : (s : State) (q : Option Sequencer) (f : Sequencer → Done) → ((r : Sequencer) → AllNodes P (f r).state) → AllNodes P s → AllNodes P (Step.on_live s q f).state
  on_live_kept s None f h a = a
  on_live_kept s (Some q) f h a = either q.gone (unchanged s) (f q) a (h q)

  appended_kept : (s : State) (name : List ℕ) (q : Sequencer) (p : List ℕ) (o : Appending) → AllNodes P s → AllNodes P (Step.append_done s name q p o).state
  appended_kept s name q p TooLong a = a
  appended_kept s name q p (Preempted k) a = a
  appended_kept s name q p EpochFull a = a
  appended_kept s name q p WindowFull a = a
  appended_kept s name q p Numbered a = a

  activated_kept : (c : Config) (s : State) (name : List ℕ) (l : ℕ) (r : Register) (o : Answer) → AllNodes P s → AllNodes P (Step.activates_by c s name l r o).state
  activated_kept c s name l r Granted a = a
  activated_kept c s name l r AtLimit a = a
  activated_kept c s name l r (Behind lce) a = a
  activated_kept c s name l r (Overtaken k) a = a
  activated_kept c s name l r Fails a = a

  replaced_kept : (s : State) (n other l count : ℕ) (r : Register) (o : Answer) → AllNodes P s → AllNodes P (Step.replaces_by s n other l count r o).state
  replaced_kept s n other l count r Granted a = either (count == 0) (unchanged s) _ a a
  replaced_kept s n other l count r AtLimit a = a
  replaced_kept s n other l count r (Behind lce) a = a
  replaced_kept s n other l count r (Overtaken k) a = a
  replaced_kept s n other l count r Fails a = a

  formatted_kept : (c : Config) (s : State) (n : ℕ) (r : Register) (o : Answer) → AllNodes P s → AllNodes P (Step.formats_by c s n r o).state
  formatted_kept c s n r Granted a = op_kept (with_register s r) n (ops.Format (generation_of r n) (epochs_in r.logs)) a
  formatted_kept c s n r AtLimit a = a
  formatted_kept c s n r (Behind lce) a = a
  formatted_kept c s n r (Overtaken k) a = a
  formatted_kept c s n r Fails a = a

  loaded_kept : (c : Config) (s : State) (n : ℕ) (k : Kept) → AllNodes P s → AllNodes P (Step.formats_loaded c s n k).state
  loaded_kept c s n Written a = formatted_kept c s n (draw s.register n).register (draw s.register n).answer a
  loaded_kept c s n DiskFailed a = a
  loaded_kept c s n Crashed a = a
  loaded_kept c s n JournalFull a = a

  opened_kept : (c : Config) (s : State) (style : Style) (name : List ℕ) (l from until : ℕ) → AllNodes P s → AllNodes P (Step.opens_new c s style name l from until).state
  opened_kept c s style name l from until a = either _ (Step.opens s style name l from until) (unchanged s) (either ((from == 0) || nat_lt until from) _ _ a (either _ _ _ a a)) a

  polled_kept : (c : Config) (s : State) (name : List ℕ) (d : Option Reader) → AllNodes P s → AllNodes P (Step.polls c s name d).state
  polled_kept c s name None a = a
  polled_kept c s name (Some d) a = either (is_finished d) (unchanged s) _ a a

  ticked_kept : (c : Config) (s : State) (n l : ℕ) (t : Ticked) → AllNodes P s → AllNodes P (Step.ticks_as c s n l t).state
  ticked_kept c s n l (Cleans e y) a = op_kept s n (ops.Clean l e y) a
  ticked_kept c s n l Rebuilt a = op_kept s n (ops.Refilled l) a
  ticked_kept c s n l (Asks from) a = a
  ticked_kept c s n l Nothing a = a

  with_loaded : (s : State) (n : ℕ) → AllNodes P s → AllNodes P (with_node s n (load (node_at s n)))
  with_loaded s n a = all_with s n (load (node_at s n)) (K.loads (node_at s n) (a n)) a

  pub event_keeps : (c : Config) (s : State) (e : Event) → AllNodes P s → AllNodes P (Step.happens c s e).state
  unfolding Step.happens Step.delivers
  event_keeps c s (events.Format n) a = either _ (Step.formats c s n) (unchanged s) (loaded_kept c _ n (load_end (node_at s n)) (with_loaded s n a)) a
  event_keeps c s (events.Activate name l) a = either _ (Step.activates c s name l (activate s.register l (Step.spec_set c s l))) (unchanged s) (activated_kept c s name l (activate s.register l (Step.spec_set c s l)).register (activate s.register l (Step.spec_set c s l)).answer a) a
  event_keeps c s (events.Append name p) a = on_live_kept s (find_named name s.sequencers) _ (λ q. appended_kept s name q p (appending q p) a) a
  event_keeps c s (events.Batch name ms) a = on_live_kept s (find_named name s.sequencers) _ (λ q. appended_kept s name q (packed ms) (appending q (packed ms)) a) a
  event_keeps c s (events.Trim name t) a = on_live_kept s (find_named name s.sequencers) _ (λ q. either (nat_lt (released_of q) t) _ _ a a) a
  event_keeps c s (events.Retry name) a = on_live_kept s (find_named name s.sequencers) _ (λ q. a) a
  event_keeps c s (events.Drop name) a = on_live_kept s (find_named name s.sequencers) _ (λ q. a) a
  event_keeps c s (events.Deliver i) a = delivered c s i (message s.network i) a
  event_keeps c s (events.Lose i) a = a
  event_keeps c s (events.Flow k) a = a
  event_keeps c s (events.Open name l from until) a = opened_kept c s styles.EachCopy name l from until a
  event_keeps c s (events.OpenOne name l from until) a = opened_kept c s styles.OneCopy name l from until a
  event_keeps c s (events.OpenMessages name l from until) a = opened_kept c s styles.OfMessages name l from until a
  event_keeps c s (events.Poll name) a = polled_kept c s name (find_named name s.readers) a
  event_keeps c s (events.Tick n l) a = either _ (Step.ticks c s n l) (unchanged s) (either _ (Step.ticks_as c s n l (on_tick (log_of (node_at s n).plain l) (epochs_of s.register l).summaries)) (unchanged s) (ticked_kept c s n l (on_tick (log_of (node_at s n).plain l) (epochs_of s.register l).summaries) a) a) a
  event_keeps c s (events.Down n) a = either _ _ (unchanged s) (all_with s n _ (K.stops (node_at s n) (a n)) a) a
  event_keeps c s (events.Up n) a = either _ (Step.comes_up s n) (unchanged s) (with_loaded s n a) a
  event_keeps c s (events.Wipe n) a = either _ _ (unchanged s) (all_with s n new_node K.fresh a) a
  event_keeps c s (events.Fail n k) a = either _ _ (unchanged s) (all_with s n _ (K.faults (node_at s n) _ (a n)) a) a
  event_keeps c s (events.Tear n k p) a = either _ _ (unchanged s) (all_with s n _ (K.faults (node_at s n) _ (a n)) a) a
  event_keeps c s (events.Set l r x set) a = either (Step.can_set c l r x (members set)) _ (unchanged s) a a
  event_keeps c s (events.Replace n other l) a = either (has_node c n && Step.can_replace c s n other l) _ (unchanged s) (replaced_kept s n other l _ (swap s.register l (log_of (node_at s n).plain l).lost_to other n).register (swap s.register l (log_of (node_at s n).plain l).lost_to other n).answer a) a
  event_keeps c s events.Calm a = a
  event_keeps c s (events.RegFail k done) a = a

  finished : (d : Done) → AllNodes P d.state → AllNodes P (finish d).state
  unfolding finish
  finished d a = a

  -- the case of a flow: no message is new, or the oldest one is delivered and the flow goes on
  flow_case : (k : ℕ) (c : Config) (s : State) → ((t : State) → AllNodes P t → AllNodes P (flows k c t).state) → AllNodes P s → (o : Option ℕ)
      → AllNodes P (elim o as (λ _. Stepped) [ None ↦ record { state = s; lines = [] } | Some i ↦ (let r : Stepped = finish (Step.delivers c s i) in let rest : Stepped = flows k c r.state in record { state = rest.state; lines = r.lines ++ rest.lines }) ]).state
  unfolding Step.delivers
  flow_case k c s ih a None = a
  flow_case k c s ih a (Some i) = ih (finish (Step.delivers c s i)).state (finished (Step.delivers c s i) (delivered c s i (message s.network i) a))

  flows_keep : (k : ℕ) (c : Config) (s : State) → AllNodes P s → AllNodes P (flows k c s).state
  flows_keep zero c s a = a
  flows_keep (suc k) c s a = flow_case k c s (λ t b. flows_keep k c t b) a (oldest_new s.network)

  -- so does each step of a run
  pub move_keeps : (c : Config) (s : State) (m : Move) → AllNodes P s → AllNodes P (moves c s m).state
  move_keeps c s (Takes e) a = event_keeps c s e a
  move_keeps c s (Calms name) a = on_live_kept s (find_named name s.sequencers) _ (λ q. a) a

  -- the case of a calm: nothing is left, or the next step is taken and the calm goes on
  calm_case : (k : ℕ) (c : Config) (s : State) → ((t : State) (ps : List Left) → AllNodes P t → AllNodes P (calmed k c t ps).state) → AllNodes P s → (o : Option Next)
      → AllNodes P (elim o as (λ _. Stepped) [ None ↦ record { state = s; lines = [] } | Some x ↦ (let r : Stepped = moved c s x.move in let rest : Stepped = calmed k c r.state x.left in record { state = rest.state; lines = r.lines ++ rest.lines }) ]).state
  calm_case k c s ih a None = a
  calm_case k c s ih a (Some x) = ih (moved c s x.move).state x.left (finished (moves c s x.move) (move_keeps c s x.move a))

  calms_keep : (k : ℕ) (c : Config) (s : State) (ps : List Left) → AllNodes P s → AllNodes P (calmed k c s ps).state
  unfolding calmed
  calms_keep zero c s ps a = a
  calms_keep (suc k) c s ps a = calm_case k c s (λ t qs b. calms_keep k c t qs b) a (next_of c s ps)

  pub step_keeps : (c : Config) (s : State) (e : Event) → AllNodes P s → AllNodes P (step c s e).state
  unfolding step
  step_keeps c s (events.Flow k) a = flows_keep k c s a
  step_keeps c s (events.Format n) a = finished (Step.happens c s (events.Format n)) (event_keeps c s (events.Format n) a)
  step_keeps c s (events.Activate name l) a = finished (Step.happens c s (events.Activate name l)) (event_keeps c s (events.Activate name l) a)
  step_keeps c s (events.Append name p) a = finished (Step.happens c s (events.Append name p)) (event_keeps c s (events.Append name p) a)
  step_keeps c s (events.Batch name ms) a = finished (Step.happens c s (events.Batch name ms)) (event_keeps c s (events.Batch name ms) a)
  step_keeps c s (events.Trim name t) a = finished (Step.happens c s (events.Trim name t)) (event_keeps c s (events.Trim name t) a)
  step_keeps c s (events.Retry name) a = finished (Step.happens c s (events.Retry name)) (event_keeps c s (events.Retry name) a)
  step_keeps c s (events.Drop name) a = finished (Step.happens c s (events.Drop name)) (event_keeps c s (events.Drop name) a)
  step_keeps c s (events.Deliver i) a = finished (Step.happens c s (events.Deliver i)) (event_keeps c s (events.Deliver i) a)
  step_keeps c s (events.Lose i) a = finished (Step.happens c s (events.Lose i)) (event_keeps c s (events.Lose i) a)
  step_keeps c s (events.Open name l from until) a = finished (Step.happens c s (events.Open name l from until)) (event_keeps c s (events.Open name l from until) a)
  step_keeps c s (events.OpenOne name l from until) a = finished (Step.happens c s (events.OpenOne name l from until)) (event_keeps c s (events.OpenOne name l from until) a)
  step_keeps c s (events.OpenMessages name l from until) a = finished (Step.happens c s (events.OpenMessages name l from until)) (event_keeps c s (events.OpenMessages name l from until) a)
  step_keeps c s (events.Poll name) a = finished (Step.happens c s (events.Poll name)) (event_keeps c s (events.Poll name) a)
  step_keeps c s (events.Tick n l) a = finished (Step.happens c s (events.Tick n l)) (event_keeps c s (events.Tick n l) a)
  step_keeps c s (events.Down n) a = finished (Step.happens c s (events.Down n)) (event_keeps c s (events.Down n) a)
  step_keeps c s (events.Up n) a = finished (Step.happens c s (events.Up n)) (event_keeps c s (events.Up n) a)
  step_keeps c s (events.Wipe n) a = finished (Step.happens c s (events.Wipe n)) (event_keeps c s (events.Wipe n) a)
  step_keeps c s (events.Fail n k) a = finished (Step.happens c s (events.Fail n k)) (event_keeps c s (events.Fail n k) a)
  step_keeps c s (events.Tear n k p) a = finished (Step.happens c s (events.Tear n k p)) (event_keeps c s (events.Tear n k p) a)
  step_keeps c s (events.Set l r x set) a = finished (Step.happens c s (events.Set l r x set)) (event_keeps c s (events.Set l r x set) a)
  step_keeps c s (events.Replace n other l) a = finished (Step.happens c s (events.Replace n other l)) (event_keeps c s (events.Replace n other l) a)
  step_keeps c s events.Calm a = calms_keep (calm_fuel c s) c s (all_left c s) a
  step_keeps c s (events.RegFail k done) a = finished (Step.happens c s (events.RegFail k done)) (event_keeps c s (events.RegFail k done) a)

  fresh_at : (y : ℕ) (ns : List ℕ) → P (unwrap_or (find y (new_nodes ns)) new_node)
  unfolding find
  fresh_at y [] = K.fresh
  fresh_at y (n ∷ ns) = fresh_or (is_at (nat_cmp y) n) (find y (new_nodes ns)) (fresh_at y ns) where
    fresh_or : (b : Bool) (o : Option Node) → P (unwrap_or o new_node) → P (unwrap_or (cond b (Some new_node) o) new_node)
    fresh_or true o h = K.fresh
    fresh_or false o h = h

  pub start_keeps : (c : Config) → AllNodes P (start c)
  start_keeps c y = fresh_at y (members c.nodes)

  pub run_keeps : (c : Config) (s : State) (es : List Event) → AllNodes P s → AllNodes P (state_after c s es)
  unfolding state_after
  run_keeps c s [] a = a
  run_keeps c s (e ∷ es) a = run_keeps c (step c s e).state es (step_keeps c s e a)

  -- in every state of every run
  pub every_run_keeps : (c : Config) (es : List Event) → AllNodes P (state_after c (start c) es)
  every_run_keeps c es = run_keeps c (start c) es (start_keeps c)
