-- While no journal reaches its limit, each step of a calm leaves each node up, lost for no log that it wasn't lost for, and without a fault, and no change of the register armed to fail.
use Rattle.std.proofs.Common.{◌≡◌, ℕ, ◌+◌, inl, inr, refl, ap, sym, subst, Bool, true, false, not, ◌==◌, if◌then◌else◌, nat_lt, List, [], ◌∷◌, Option, Some, None}
use Rattle.std.specs.Option.{unwrap_or}
use Rattle.ld_table.proofs.Laws.{put_cases, find-put_same}
use Rattle.ld_table.specs.Named.{find_named}
use Rattle.ld_config.specs.declared.config.Config.{Config}
use Rattle.ld_schedule.specs.declared.event.Event.TheVariants as events
use Rattle.ld_transcript.specs.declared.line.Line.{Line}
use Rattle.ld_transcript.specs.declared.line.Line.TheVariants as lines
use Rattle.ld_msg.specs.declared.msg.Summary.{Summary}
use Rattle.ld_msg.specs.declared.msg.Msg.{Msg}
use Rattle.ld_msg.specs.declared.msg.Body.{Body}
use Rattle.ld_msg.specs.declared.msg.Body.TheVariants as bodies
use Rattle.ld_msg.specs.Register.{Register, View, Changed, Granted, Fails, change, close, made, unmade, armed_after, is_made, journal_limit, record_length, epochs_of, lce_of, with_epochs, closed_epochs, is_overtaken}
use Rattle.ld_msg.specs.Sequencer.{Sequencer, Recovery, Acts, Called}
use Rattle.ld_op.specs.declared.op.Op.{Op}
use Rattle.ld_op.specs.declared.op.Op.TheVariants as ops
use Rattle.ld_op.specs.Plain.{Plain, Log, log_of, empty_log, apply, with_log}
use Rattle.ld_op.specs.Ticks.{Ticked, Cleans, Rebuilt, Asks, Nothing}
use Rattle.ld_machine.specs.Config.{all_nodes, looks_at}
use Rattle.ld_machine.specs.Disk.{Node, Fault, Kept, Written, DiskFailed, Crashed, JournalFull, fate, fault_after, new_node, keep_op, keep_end, kept_by, kept_end, is_full_for, op_calls, is_up, Failed}
use Rattle.ld_machine.specs.State.{State, Done, finish, node_at, with_node}
use Rattle.ld_machine.specs.World.{In}
use Rattle.ld_machine.specs.Step as Step
use Rattle.ld_machine.specs.Calm.{Takes, Calms, moves, moved}
use Rattle.ld_safety.proofs.Lists.{cond_both}
use Rattle.ld_safety.proofs.Steps.{finish_In}
use Rattle.ld_safety.proofs.Events.{NamesOnce}
use Rattle.ld_safety.proofs.SequencerSteps.{Acting, Retrying, Closing, gone_of, replied, retried}
use Rattle.ld_calm.proofs.Alike.{AllBy, delivers_by, polls_by, ticks_by, heals}
use Rattle.ld_served.specs.Served.{IsWell}
use Rattle.ld_served.proofs.Stepping.{delivered, ticking, polling, announcing}

-- ---- nodes ----

-- a node that is up and has no fault armed
pub record Sound (x : Node) : Type 0 where
  pub up : is_up x.status ≡ true
  pub none : x.fault ≡ None

-- a record that has room is written
pub sound_keeps : (x : Node) (o : Op) → Sound x → (keep_end x o ≡ JournalFull → ⊥) → Sound (keep_op x o)
unfolding keep_op keep_end
sound_keeps x o S h = by_full (is_full_for x o) h where
  by_fault : (f : Option Fault) → f ≡ None → Sound (kept_by x o (fate (op_calls x o) f))
  by_fault None e = record { up = refl; none = ap (fault_after (op_calls x o)) S.none }
  by_fault (Some g) e = absurd (let z : Some g ≡ None = e in cc)

  by_full : (b : Bool) → ((if b then JournalFull else kept_end (fate (op_calls x o) x.fault)) ≡ JournalFull → ⊥) → Sound (if b then record x { status = Failed } else kept_by x o (fate (op_calls x o) x.fault))
  by_full true k = absurd (k refl)
  by_full false k = by_fault x.fault S.none

-- and this is how it ends
pub sound_written : (x : Node) (o : Op) → Sound x → (keep_end x o ≡ JournalFull → ⊥) → keep_end x o ≡ Written
unfolding keep_end
sound_written x o S h = by_full (is_full_for x o) h where
  by_full : (b : Bool) → ((if b then JournalFull else kept_end (fate (op_calls x o) x.fault)) ≡ JournalFull → ⊥) → (if b then JournalFull else kept_end (fate (op_calls x o) x.fault)) ≡ Written
  by_full true k = absurd (k refl)
  by_full false k = ap (λ f. kept_end (fate (op_calls x o) f)) S.none

pub sound_releases : (x : Node) (l : ℕ) (b : Body) → Sound x → Sound (Step.releases x l b)
sound_releases x l (bodies.Release y) S = record { up = S.up; none = S.none }
sound_releases x l _ S = S

pub node_here : (t : State) (n : ℕ) (x : Node) → node_at (with_node t n x) n ≡ x
node_here t n x = ap (λ (o : Option Node). unwrap_or o new_node) (find-put_same n n x t.nodes refl)

-- of the configuration's nodes
abbrev pub AllSound : Config → State → Type 0
AllSound c s = (y : ℕ) → In y (all_nodes c) → Sound (node_at s y)

put_sound : (c : Config) (t : State) (n : ℕ) (x : Node) → (In n (all_nodes c) → Sound x) → AllSound c t → AllSound c (with_node t n x)
put_sound c t n x h a y i = elim (put_cases y n x t.nodes) [
  | inl e ↦ subst (λ (o : Option Node). Sound (unwrap_or o new_node)) (sym e.1) (h (subst (λ k. In k (all_nodes c)) e.0 i))
  | inr e ↦ subst (λ (o : Option Node). Sound (unwrap_or o new_node)) (sym e.1) (a y i)
]

abbrev NoneFull : List Line → Type 0
NoneFull ls = (n : ℕ) → In (lines.NodeFull n) ls → ⊥

module _ (c : Config) (s : State) (S : AllSound c s) where
  Kept_so : Done → Type 0
  Kept_so d = NoneFull d.lines → AllSound c d.state

  stays : (t : State) (ls : List Line) (ms : List Msg) → AllSound c t → Kept_so (record { state = t; lines = ls; sends = ms })
  unfolding Kept_so
  stays t ls ms h u = h

  room : (n : ℕ) (ls : List Line) (k : Kept) → NoneFull (Step.kept_lines n ls k) → k ≡ JournalFull → ⊥
  room n ls Written u e = cc
  room n ls DiskFailed u e = cc
  room n ls Crashed u e = cc
  room n ls JournalFull u e = u n (inl refl)

  keeps_sound : (t : State) (n : ℕ) (o : Op) (ls : List Line) (ms : List Msg) → AllSound c t → Kept_so (Step.keeps_op t n o ls ms)
  unfolding Kept_so
  keeps_sound t n o ls ms h u = put_sound c t n (keep_op (node_at t n) o) (λ i. sound_keeps (node_at t n) o (h n i) (room n ls (keep_end (node_at t n) o) u)) h

  handled_sound : (i n : ℕ) (m : Msg) (o : Option Op) (b : Option Body) → Kept_so (Step.handles (with_node (Step.marked s i) n (Step.releases (node_at s n) m.log m.body)) n m o b)
  handled_sound i n m o b = by_op o where
    heard : AllSound c (with_node (Step.marked s i) n (Step.releases (node_at s n) m.log m.body))
    heard = put_sound c (Step.marked s i) n (Step.releases (node_at s n) m.log m.body) (λ k. sound_releases (node_at s n) m.log m.body (S n k)) S

    by_op : (o : Option Op) → Kept_so (Step.handles (with_node (Step.marked s i) n (Step.releases (node_at s n) m.log m.body)) n m o b)
    by_op None = stays _ _ _ heard
    by_op (Some p) = keeps_sound (with_node (Step.marked s i) n (Step.releases (node_at s n) m.log m.body)) n p [] _ heard

  ticked_sound : (n l : ℕ) (t : Ticked) → Kept_so (Step.ticks_as c s n l t)
  ticked_sound n l (Cleans k y) = keeps_sound s n (ops.Clean l k y) [] [] S
  ticked_sound n l Rebuilt = keeps_sound s n (ops.Refilled l) (lines.NodeRebuilt n l ∷ []) [] S
  ticked_sound n l (Asks from) = stays s [] _ S
  ticked_sound n l Nothing = stays s [] [] S

-- ---- lost for no other log ----

-- a log that isn't lost isn't lost later
pub record Whole (p q : Plain) : Type 0 where
  pub whole : (l : ℕ) → (log_of p l).lost ≡ false → (log_of q l).lost ≡ false

whole_same : (p : Plain) → Whole p p
whole_same p = record { whole = λ l h. h }

with_log_whole : (p : Plain) (j : ℕ) (g : Log) → ((log_of p j).lost ≡ false → g.lost ≡ false) → Whole p (with_log p j g)
with_log_whole p j g f = record {
  whole = λ l t. elim (put_cases l j g p.logs) [
    | inl a ↦ subst (λ (o : Option Log). (unwrap_or o empty_log).lost ≡ false) (sym a.1) (f (subst (λ z. (log_of p z).lost ≡ false) a.0 t))
    | inr a ↦ subst (λ (o : Option Log). (unwrap_or o empty_log).lost ≡ false) (sym a.1) t
  ];
}

apply_whole : (p : Plain) (o : Op) → heals o ≡ false → Whole p (apply p o)
unfolding apply
apply_whole p (ops.Format g es) h = absurd cc
apply_whole p (ops.Accept l lng e) h = with_log_whole p l _ (λ t. t)
apply_whole p (ops.Seal l b) h = with_log_whole p l _ (λ t. t)
apply_whole p (ops.Clean l e y) h = with_log_whole p l _ (λ t. t)
apply_whole p (ops.Trim l k) h = with_log_whole p l _ (λ t. t)
apply_whole p (ops.Refill l es) h = with_log_whole p l _ (λ t. t)
apply_whole p (ops.Refilled l) h = absurd cc

refilled_whole : (l : ℕ) (p : Plain) → Whole p (apply p (ops.Refilled l))
unfolding apply
refilled_whole l p = with_log_whole p l _ (λ t. refl)

-- ---- the register ----

-- a change that is made leaves nothing armed where nothing was
change_disarmed : (r next : Register) (body : ℕ) → r.armed ≡ None → (change r next body).register.armed ≡ None
unfolding change
change_disarmed r next body h = cond_both (nat_lt journal_limit (r.length + record_length body)) r (if is_made r.armed then made r next body else unmade r) (λ (x : Register). x.armed ≡ None) (λ t. h)
    (λ t. cond_both (is_made r.armed) (made r next body) (unmade r) (λ (x : Register). x.armed ≡ None) (λ u. after) (λ u. after)) where
      after : armed_after r.armed ≡ None
      after = ap armed_after h

close_disarmed : (r : Register) (l e : ℕ) (y : Summary) (short : Bool) → r.armed ≡ None → (close r l e y short).register.armed ≡ None
unfolding close
close_disarmed r l e y short h = cond_both (not (lce_of r l + 1 == e)) _ _ (λ (d : Changed). d.register.armed ≡ None) (λ t. h)
    (λ t. cond_both (is_overtaken (epochs_of r l) y short) _ _ (λ (d : Changed). d.register.armed ≡ None) (λ u. h) (λ u. change_disarmed r (with_epochs r l (closed_epochs (epochs_of r l) e y)) 30 h))

module _ (c : Config) (r : Register) (q : Sequencer) (H : r.armed ≡ None) where
  Disarmed : Called → Type 0
  Disarmed k = k.register.armed ≡ None

  closed_so : (n : Register) (d : Changed) → d.register.armed ≡ None → (a : _) → d ≡ record { register = n; answer = a } → n.armed ≡ None
  closed_so n d h a e = subst (λ (x : Changed). x.register.armed ≡ None) e h

  close_so : (looks : ℕ → View) (a : Acts) (e : ℕ) (y : Summary) (short : Bool) → Closing r looks a e y short Disarmed
  unfolding Disarmed
  close_so looks a e y short = record {
    granted = λ n h o g. closed_so n _ (close_disarmed r a.sequencer.log e y short H) Granted g;
    passed = λ h. H;
    behind = λ b h. H;
    overtaken = λ h o. H;
    failed = λ n g. closed_so n _ (close_disarmed r a.sequencer.log e y short H) Fails g;
  }

  acting_so : (gone : Recovery → List ℕ) (y : ℕ) (b : Body) → Acting c r gone q y b (λ k m. Disarmed k)
  unfolding Disarmed
  acting_so gone y b = record {
    quiet = H;
    sealed = λ n k f i l. H;
    cleaned_own = λ n s f i h. H;
    acks = λ n p f i g h m. H;
    lost_own = λ n round g end f i h. H;
    cleaned = λ v n s f e i h. H;
    asks_more = λ w d asks f K a n u. H;
    plans = λ w d loss f K p. H;
    looks_closed = λ w d s f K u o. H;
    looks_later = λ w d f K u o n. H;
    stores_on = λ w g f K t. H;
    closes_now = λ w g f K t. close_so (looks_at c r q.log) _ w.epoch _ _;
    lost_closing = λ v s short n round g end f e i h j. H;
  }

  retrying_so : (gone : Recovery → List ℕ) → Retrying c r gone q (λ k m. Disarmed k)
  unfolding Disarmed
  retrying_so gone = record {
    quiet = H;
    appends = λ f. H;
    seals = λ v d f e h u. H;
    plans = λ v d f e h p. H;
    looks_closed = λ v d s f e h u o. H;
    looks_later = λ v d f e h u o n. H;
    stores_on = λ v g f e h t. H;
    closes_now = λ v g f e h t. close_so (looks_at c r q.log) _ v.epoch _ _;
    closes = λ v y short f e h. close_so (looks_at c r q.log) _ v.epoch y short;
  }

-- ---- all of it ----

-- the configuration's nodes are up, whole and without a fault, and nothing is armed at the register
pub record Healthy (c : Config) (s : State) : Type 0 where
  pub nodes : (n : ℕ) → In n (all_nodes c) → IsWell c s n
  pub register : s.register.armed ≡ None

module _ (c : Config) (s : State) (N : NamesOnce s) (H : Healthy c s) where
  sound_here : AllSound c s
  sound_here y i = let z = H.nodes y i in record { up = z.up; none = z.sound }

  together : (t : State) → AllSound c t → AllBy Whole s t → t.register.armed ≡ None → Healthy c t
  together t S W R = record {
    nodes = λ n i. (let z = S n i in record { up = z.up; whole = λ l h. (W n).whole l ((H.nodes n i).whole l h); sound = z.none });
    register = R;
  }

  -- of the lines of a step
  lines_of : (d : Done) → NoneFull (finish d).lines → NoneFull d.lines
  lines_of d u n i = u n (finish_In d (lines.NodeFull n) i)

  handled_armed : (t : State) (n : ℕ) (m : Msg) (o : Option Op) (b : Option Body) → t.register.armed ≡ None → (Step.handles t n m o b).state.register.armed ≡ None
  handled_armed t n m None b h = h
  handled_armed t n m (Some o) b h = h

  pub healthy_delivers : (i : ℕ) → NoneFull (moved c s (Takes (events.Deliver i))).lines → Healthy c (moved c s (Takes (events.Deliver i))).state
  unfolding finish Kept_so Disarmed
  healthy_delivers i u = together (moved c s (Takes (events.Deliver i))).state
      (delivered c s i (λ d. Kept_so c s sound_here d) N (record {
        unheard = λ k. stays c s sound_here (Step.marked s i) [] [] sound_here;
        none = λ k. stays c s sound_here s [] [] sound_here;
        to_node = λ n m f t v. handled_sound c s sound_here i n m (Step.node_handles n (node_at s n) m).op (Step.node_handles n (node_at s n) m).answer;
        to_sequencer = λ name q m f t l v k. sound_here;
        to_reader = λ name d m f t v k. sound_here;
      }) (lines_of (moves c s (Takes (events.Deliver i))) u))
      (delivers_by Whole whole_same apply_whole c s i)
      (delivered c s i (λ d. d.state.register.armed ≡ None) N (record {
        unheard = λ k. H.register;
        none = λ k. H.register;
        to_node = λ n m f t v. handled_armed _ n m (Step.node_handles n (node_at s n) m).op (Step.node_handles n (node_at s n) m).answer H.register;
        to_sequencer = λ name q m f t l v. replied c s name q v.there (Step.sender_node m.from) m.body (λ k x. Disarmed c s.register q H.register k) (acting_so c s.register q H.register (gone_of s q) (Step.sender_node m.from) m.body);
        to_reader = λ name d m f t v. H.register;
      }))

  pub healthy_ticks : (n l : ℕ) → NoneFull (moved c s (Takes (events.Tick n l))).lines → Healthy c (moved c s (Takes (events.Tick n l))).state
  unfolding finish Kept_so
  healthy_ticks n l u = together (moved c s (Takes (events.Tick n l))).state
      (ticking c s n l (λ d. Kept_so c s sound_here d) (record { still = λ k. stays c s sound_here s [] [] sound_here; ticks = λ t g v k. ticked_sound c s sound_here n l t }) (lines_of (moves c s (Takes (events.Tick n l))) u))
      (ticks_by Whole whole_same apply_whole c s n l (refilled_whole l))
      (ticking c s n l (λ d. d.state.register.armed ≡ None) (record { still = λ k. H.register; ticks = λ t g v k. by_tick t })) where
        by_tick : (t : Ticked) → (Step.ticks_as c s n l t).state.register.armed ≡ None
        by_tick (Cleans k y) = H.register
        by_tick Rebuilt = H.register
        by_tick (Asks from) = H.register
        by_tick Nothing = H.register

  pub healthy_polls : (name : List ℕ) → Healthy c (moved c s (Takes (events.Poll name))).state
  unfolding finish
  healthy_polls name = together (moved c s (Takes (events.Poll name))).state
      (polling c s name (λ d. AllSound c d.state) (record { still = λ k. sound_here; polls = λ d v. sound_here }))
      (polls_by Whole whole_same apply_whole c s name)
      (polling c s name (λ d. d.state.register.armed ≡ None) (record { still = λ k. H.register; polls = λ d v. H.register }))

  pub healthy_announces : (name : List ℕ) (q : Sequencer) → find_named name s.sequencers ≡ Some q → q.gone ≡ false → Healthy c (moved c s (Calms name)).state
  unfolding finish Disarmed
  healthy_announces name q e g = together (moved c s (Calms name)).state
      (announcing c s name q (λ d. AllSound c d.state) e g sound_here)
      (announcing c s name q (λ d. AllBy Whole s d.state) e g (λ y. whole_same (node_at s y).plain))
      (announcing c s name q (λ d. d.state.register.armed ≡ None) e g (retried c s q g (λ k x. Disarmed c s.register q H.register k) (retrying_so c s.register q H.register (gone_of s q))))
