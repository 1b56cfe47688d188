-- What a node that is told of a closed epoch does is a tick of it, or nothing.
use Rattle.std.proofs.Common.{◌≡◌, ◌⊎◌, ◌≤◌, ◌<◌, ◌+◌, ◌&&◌, nat_le, ℕ, Bool, true, false, List, [], ◌++◌, Option, Some, None, is_some, Err, refl, ap, sym, ◌∙◌, subst, inl, inr, arith, if◌then◌else◌}
use Rattle.std.specs.Prelude.{IfOk}
use Rattle.std.specs.Option.{unwrap_or}
use Rattle.std.proofs.lemmas.List.{append-nil}
use Rattle.std.proofs.lemmas.Bool.{leb-true, cases_eq, ne_eqb, eqb-true, and_parts}
use Rattle.ld_table.specs.Table.{find, put, Ordered}
use Rattle.ld_table.proofs.Laws.{put_cases, find-put_same, find-put_other}
use Rattle.ld_table.proofs.Order.{Ordered-put, same_table}
use Rattle.ld_config.specs.declared.config.Config.{Config}
use Rattle.ld_config.specs.Bounds.{IsInBounds}
use Rattle.ld_schedule.specs.declared.event.Event.TheVariants as events
use Rattle.ld_transcript.specs.declared.line.Line.{Line}
use Rattle.ld_msg.specs.declared.msg.Summary.{Summary}
use Rattle.ld_msg.specs.declared.msg.Who.{Who}
use Rattle.ld_msg.specs.declared.msg.Who.TheVariants as whos
use Rattle.ld_msg.specs.declared.msg.Body.{Body}
use Rattle.ld_msg.specs.declared.msg.Body.TheVariants as bodies
use Rattle.ld_msg.specs.declared.msg.Msg.{Msg}
use Rattle.ld_msg.specs.Register.{Register, epochs_of, lce_of, summary_shown}
use Rattle.ld_op.specs.declared.op.Op.{Op}
use Rattle.ld_op.specs.declared.op.Op.TheVariants as ops
use Rattle.ld_op.specs.Plain.{Log, Plain, empty_log, epoch_zero, log_of, cleaned, apply, summary_at}
use Rattle.ld_op.specs.Answers.{clean_op, on_clean}
use Rattle.ld_op.specs.Ticks.{lowest_unclean, tick_with, on_tick}
use Rattle.ld_op.specs.Closed.{AreClean}
use Rattle.ld_op.proofs.Gaps.{gap_is}
use Rattle.ld_node_bounds.specs.States.{last_handed_out, IsClosed}
use Rattle.ld_node_bounds.proofs.Alls.{all-find}
use Rattle.ld_node_bounds.proofs.Ops.{log_state}
use Rattle.ld_machine.specs.Config.{has_log, has_node}
use Rattle.ld_machine.specs.Disk.{Node, Fate, Made, FailsAt, CrashesAt, Failed, new_node, is_up, is_full_for, kept_by, fate, keep_op, keep_end, op_calls}
use Rattle.ld_machine.specs.State.{State, Done, unchanged, finish, node_at, with_node, sent_state}
use Rattle.ld_machine.specs.Step as machine
use Rattle.ld_machine.specs.Step.{happens, to_node, handles, keeps_op, ticks, ticks_as, is_written, kept_lines}
use Rattle.ld_machine.specs.Run.{step}
use Rattle.ld_bounds.specs.Sound.{IsSound}
use Rattle.ld_bounds.proofs.NodeStates.{log_rises}
use Rattle.ld_bounds.proofs.Steps.{step_is, node_is_sound}
use Rattle.ld_dial.specs.declared.fault.Fault.{Fault}
use Rattle.ld_dial.specs.declared.fault.Fault.TheVariants as faults
use Rattle.ld_dial.specs.Far.{Far, alone, is_up_in, handed, IsHanded, SendsTo, CountsFault}
use Rattle.ld_rounds.specs.News.{AreNews}
use Rattle.ld_rounds.specs.Reminding.{waited, is_within, closing, reminded}
use Rattle.ld_rounds.specs.Rounds.{waiting_by, IsReminded, RemindEnd}
use Rattle.ld_rounds.specs.Telling.{is_of, missed_by}
use Rattle.ld_rounds.specs.Drives.{Driver, IsApart, Holds, Moved, Goes, Went, GoesOn, WithNode, IsBroken, AreLater}
use Rattle.ld_rounds.proofs.Joining.{reminds_join}
use Rattle.ld_rounds.proofs.Going.{halted, went_here, went_quietly, went_as, went_on}
use Rattle.ld_rounds.proofs.Steps.{kept_quiet, when_none, answers_none, finished_state, goes_by, stays}

-- ---- tables ----

module _ {X : Type 0} where
  put_there : (k : ℕ) (v : X) (m : List (ℕ × X)) → Ordered m → find k m ≡ Some v → put k v m ≡ m
  put_there k v m o h = same_table (put k v m) m (Ordered-put k v m o) o (λ q. elim (put_cases q k v m) [
    | inl e ↦ e.1 ∙ sym (ap (λ x. find x m) e.0 ∙ h)
    | inr n ↦ n.1
  ])

  put_again : (k : ℕ) (v w : X) (m : List (ℕ × X)) → Ordered m → put k v (put k w m) ≡ put k v m
  put_again k v w m o = same_table (put k v (put k w m)) (put k v m) (Ordered-put k v (put k w m) (Ordered-put k w m o)) (Ordered-put k v m o) (λ q. elim (cases_eq q k) [
    | inl e ↦ find-put_same q k v (put k w m) e ∙ sym (find-put_same q k v m e)
    | inr n ↦ find-put_other q k v (put k w m) n ∙ (find-put_other q k w m n ∙ sym (find-put_other q k v m n))
  ])

-- ---- what a message is about ----

-- a reminder is the close of this epoch, with what the register shows of it
pub record IsReminder (o : Option ℕ) (r : Register) (e : ℕ) (answer m : Msg) : Type 0 where
  pub log : ℕ
  pub summary : Summary
  pub of : o ≡ Some log
  pub waits : is_within (lce_of r log) (waited answer.body) ≡ true
  pub is : m ≡ record { from = whos.Sequencer summary.ballot; to = answer.from; log = log; body = bodies.Clean e summary }
  pub from_one : 1 ≤ e
  pub closed : find e (epochs_of r log).summaries ≡ Some summary

some_is : {X : Type 0} {a b : X} → Some a ≡ Some b → a ≡ b
some_is {X} {a} {b} e = ap (λ o. unwrap_or o a) e

shown_closed : (r : Register) (l e : ℕ) (v : Summary) (b : Bool) → (nat_le 1 e && nat_le e (lce_of r l)) ≡ b → (if b then find e (epochs_of r l).summaries else None) ≡ Some v → (1 ≤ e) × (find e (epochs_of r l).summaries ≡ Some v)
shown_closed r l e v true h f = (leb-true 1 e (and_parts (nat_le 1 e) (nat_le e (lce_of r l)) h).0, f)
shown_closed r l e v false h f = absurd cc

module _ (l : ℕ) (r : Register) (e : ℕ) (answer m : Msg) where
  by_summary : (q : Option Summary) → summary_shown r l e ≡ q → is_within (lce_of r l) (waited answer.body) ≡ true → Some m ≡ closing l e answer.from q → IsReminder (Some l) r e answer m
  by_summary None s w h = absurd cc
  by_summary (Some v) s w h =
      let c = shown_closed r l e v (nat_le 1 e && nat_le e (lce_of r l)) refl s in
      record { log = l; summary = v; of = refl; waits = w; is = some_is h; from_one = c.0; closed = c.1 }

  by_wait : (b : Bool) → is_within (lce_of r l) (waited answer.body) ≡ b → Some m ≡ (if b then closing l e answer.from (summary_shown r l e) else None) → IsReminder (Some l) r e answer m
  by_wait true w h = by_summary (summary_shown r l e) refl w h
  by_wait false w h = absurd cc

pub reminder_is : (o : Option ℕ) (r : Register) (e : ℕ) (answer m : Msg) → Some m ≡ reminded o r e answer → IsReminder o r e answer m
reminder_is None r e answer m h = absurd cc
reminder_is (Some l) r e answer m h = by_wait l r e answer m (is_within (lce_of r l) (waited answer.body)) refl h

-- who sent an answer
pub sender_is : (y : ℕ) (w : Who) → is_of y w ≡ true → w ≡ whos.Node y
sender_is y (whos.Node n) h = ap (λ k. whos.Node k) (eqb-true n y h)
sender_is y (whos.Sequencer e) h = absurd cc
sender_is y (whos.Reader r) h = absurd cc

waits_itself : (lce y : ℕ) (b : Body) → is_within lce (waited b) ≡ true → waiting_by (whos.Node y) b ≡ Some y
waits_itself lce y (bodies.ReadWait round from released) h = refl
waits_itself lce y b h = absurd cc

-- the node that is ticked is the one that said to wait
waits_behind : (lce y : ℕ) (m : Msg) → is_of y m.from ≡ true → is_within lce (waited m.body) ≡ true → waiting_by m.from m.body ≡ Some y
waits_behind lce y m of w = ap (λ f. waiting_by f m.body) (sender_is y m.from of) ∙ waits_itself lce y m.body w

-- ---- what the node knows ----

-- the node, where it is up, knows the epochs of the log below this one
abbrev pub KnowsLog : Config → ℕ → ℕ → ℕ → List (ℕ × Node) → Type 0
KnowsLog c l y e nodes = is_up_in nodes y ≡ true → has_log c l ≡ true → AreClean 1 e (log_of (node_at (alone nodes) y).plain l).summaries

-- the same of the log whose closed epochs it is told of, where there is one
abbrev pub Knows : Config → Option ℕ → ℕ → ℕ → List (ℕ × Node) → Type 0
Knows c o y e nodes = (l : ℕ) → o ≡ Some l → KnowsLog c l y e nodes

pub knows_none : (c : Config) (o : Option ℕ) (y : ℕ) (nodes : List (ℕ × Node)) → Knows c o y 1 nodes
knows_none c o y nodes = λ l of up has k low high. absurd (omega arith)

clean_put : (e : ℕ) (v : Summary) (m : List (ℕ × Summary)) → AreClean 1 e m → AreClean 1 (e + 1) (put e v m)
clean_put e v m a = λ k low high. elim (put_cases k e v m) [
  | inl i ↦ ap is_some i.1
  | inr n ↦ (let l : k < e = omega (arith, n.0) in ap is_some n.1 ∙ a k low l)
]

clean_there : (e : ℕ) (v : Summary) (m : List (ℕ × Summary)) → find e m ≡ Some v → AreClean 1 e m → AreClean 1 (e + 1) m
clean_there e v m h a = λ k low high. elim (cases_eq k e) [
  | inl i ↦ ap (λ q. is_some (find q m)) i ∙ ap is_some h
  | inr n ↦ a k low (omega (arith, n))
]

-- the present node is told of, knows that, and has nothing to say
abbrev pub Open : (Config → Far → Type 0) → Config → Option ℕ → ℕ → ℕ → Far → Type 0
Open tells c o y e far = WithNode tells c y far × Knows c o y e far.nodes

-- ---- the node keeps it ----

module _ (x : Node) (l e : ℕ) (v : Summary) where
  kept_up : (f : Fate) → is_up (kept_by x (ops.Clean l e v) f).status ≡ true → (kept_by x (ops.Clean l e v) f).plain ≡ apply x.plain (ops.Clean l e v)
  kept_up Made h = refl
  kept_up (FailsAt k) h = absurd cc
  kept_up (CrashesAt k p) h = absurd cc

  keeps_by : (b : Bool) → is_up (if b then record x { status = Failed } else kept_by x (ops.Clean l e v) (fate (op_calls x (ops.Clean l e v)) x.fault)).status ≡ true
      → (if b then record x { status = Failed } else kept_by x (ops.Clean l e v) (fate (op_calls x (ops.Clean l e v)) x.fault)).plain ≡ apply x.plain (ops.Clean l e v)
  keeps_by true h = absurd cc
  keeps_by false h = kept_up (fate (op_calls x (ops.Clean l e v)) x.fault) h

  keeps_up : is_up (keep_op x (ops.Clean l e v)).status ≡ true → (keep_op x (ops.Clean l e v)).plain ≡ apply x.plain (ops.Clean l e v)
  unfolding keep_op
  keeps_up h = keeps_by (is_full_for x (ops.Clean l e v)) h

  log_then : log_of (apply x.plain (ops.Clean l e v)) l ≡ cleaned (log_of x.plain l) e v
  unfolding apply
  log_then = ap (λ q. unwrap_or q empty_log) (find-put_same l l (cleaned (log_of x.plain l) e v) x.plain.logs refl)

  -- it knows one epoch more then, where it is up
  kept_clean : is_up (keep_op x (ops.Clean l e v)).status ≡ true → AreClean 1 e (log_of x.plain l).summaries → AreClean 1 (e + 1) (log_of (keep_op x (ops.Clean l e v)).plain l).summaries
  kept_clean h a = subst (λ (p : Plain). AreClean 1 (e + 1) (log_of p l).summaries) (sym (keeps_up h)) (subst (λ (g : Log). AreClean 1 (e + 1) g.summaries) (sym log_then) (clean_put e v (log_of x.plain l).summaries a))

-- ---- what comes of it ----

up_there : (q : Option Node) → is_up (unwrap_or q new_node).status ≡ true → q ≡ Some (unwrap_or q new_node)
up_there None h = absurd cc
up_there (Some x) h = refl

both : (a b : Bool) → a ≡ true → b ≡ true → (a && b) ≡ true
both a b p q = ap (λ x. x && b) p ∙ q

or_else : (b : Bool) → b ≡ false → (a : Bool) → (a && b) ≡ false
or_else b h true = h
or_else b h false = refl

-- nothing, or a tick of the node, by which it keeps this
pub record TicksOnce (c : Config) (s : State) (y l : ℕ) (nodes : List (ℕ × Node)) : Type 0 where
  pub op : Op
  pub tick : happens c s (events.Tick y l) ≡ keeps_op s y op [] []
  pub nodes_are : nodes ≡ put y (keep_op (node_at s y) op) s.nodes

module _ (c : Config) (s : State) (S : IsSound c s) (y l e : ℕ) (v : Summary) (from to : Who) (first : 1 ≤ e) where
  abbrev message : Msg
  message = record { from = from; to = to; log = l; body = bodies.Clean e v }

  abbrev here : Node
  here = node_at s y

  abbrev log : Log
  log = log_of (node_at s y).plain l

  abbrev op : Op
  op = ops.Clean l e v

  abbrev nodes_now : List (ℕ × Node)
  nodes_now = (handed c s.nodes y (record { from = from; to = to; log = l; body = bodies.Clean e v })).state.nodes

  abbrev handled_as : Option Summary → Done
  handled_as q = handles (with_node (alone s.nodes) y here) y message (clean_op l e v q) None

  known_at : summary_at log e ≡ find e log.summaries
  unfolding summary_at
  known_at = ap (λ (b : Bool). if b then Some epoch_zero else find e log.summaries) (ne_eqb e 0 (omega (arith, first)))

  handed_up : is_up here.status ≡ true → has_log c l ≡ true → handed c s.nodes y message ≡ handled_as (find e log.summaries)
  unfolding on_clean
  handed_up up has =
      ap (λ (b : Bool). if b then machine.to_up_node (alone s.nodes) y message else unchanged (alone s.nodes)) (both (is_up here.status) (has_log c l) up has)
      ∙ ap handled_as known_at

  handed_off : has_log c l ≡ false → nodes_now ≡ s.nodes
  handed_off off = ap (λ (b : Bool). (if b then machine.to_up_node (alone s.nodes) y message else unchanged (alone s.nodes)).state.nodes) (or_else (has_log c l) off (is_up here.status))

  put_at : (x : Node) (nodes : List (ℕ × Node)) → node_at (alone (put y x nodes)) y ≡ x
  put_at x nodes = ap (λ q. unwrap_or q new_node) (find-put_same y y x nodes refl)

  -- it knew the epoch
  old_nodes : is_up here.status ≡ true → has_log c l ≡ true → (z : Summary) → find e log.summaries ≡ Some z → nodes_now ≡ s.nodes
  old_nodes up has z h = ap (λ (d : Done). d.state.nodes) (handed_up up has ∙ ap handled_as h) ∙ put_there y here s.nodes S.nodes_rise (up_there (find y s.nodes) up)

  -- it didn't know it
  new_nodes : is_up here.status ≡ true → has_log c l ≡ true → find e log.summaries ≡ None → nodes_now ≡ put y (keep_op here op) s.nodes
  new_nodes up has h =
      ap (λ (d : Done). d.state.nodes) (handed_up up has ∙ ap handled_as h)
      ∙ (ap (λ x. put y (keep_op x op) (put y here s.nodes)) (put_at here s.nodes) ∙ put_again y (keep_op here op) here s.nodes S.nodes_rise)

  none_zero : (q : Option Summary) → find 0 log.summaries ≡ q → q ≡ None
  none_zero None h = refl
  none_zero (Some z) h = absurd (let i = (all-find IsClosed 0 log.summaries z (log_state last_handed_out here.plain l (node_is_sound c s S y).plain).summaries h).epoch in omega (arith, i.0))

  lowest_is : AreClean 1 e log.summaries → find e log.summaries ≡ None → lowest_unclean log ≡ e
  lowest_is a h = gap_is 1 e log.summaries (log_rises here.plain l (node_is_sound c s S y).rise) (record {
    low = λ k under. (let i : k ≡ 0 = omega (arith, under) in ap (λ q. find q log.summaries) i ∙ none_zero (find 0 log.summaries) refl);
    least = first;
    below = a;
    absent = h;
  })

  tick_is : has_node c y ≡ true → is_up here.status ≡ true → has_log c l ≡ true → AreClean 1 e log.summaries → find e log.summaries ≡ None → find e (epochs_of s.register l).summaries ≡ Some v → happens c s (events.Tick y l) ≡ keeps_op s y op [] []
  unfolding happens on_tick
  tick_is there up has a h closed =
      let lowest = lowest_is a h in
      let shown : find (lowest_unclean log) (epochs_of s.register l).summaries ≡ Some v = ap (λ k. find k (epochs_of s.register l).summaries) lowest ∙ closed in
      ap (λ (b : Bool). if b && true then ticks c s y l else unchanged s) there
      ∙ (ap (λ (b : Bool). if b then ticks_as c s y l (tick_with log (find (lowest_unclean log) (epochs_of s.register l).summaries)) else unchanged s) (both (is_up here.status) (has_log c l) up has)
      ∙ (ap (λ q. ticks_as c s y l (tick_with log q)) shown ∙ ap (λ k. keeps_op s y (ops.Clean l k v) [] []) lowest))

  -- the node is up and the log is the configuration's
  by_known : has_node c y ≡ true → is_up here.status ≡ true → has_log c l ≡ true → AreClean 1 e log.summaries → find e (epochs_of s.register l).summaries ≡ Some v → (q : Option Summary) → find e log.summaries ≡ q
      → ((nodes_now ≡ s.nodes) ⊎ TicksOnce c s y l nodes_now) × KnowsLog c l y (e + 1) nodes_now
  by_known there up has a closed None h =
      let n = new_nodes up has h in (
        inr (record { op = op; tick = tick_is there up has a h closed; nodes_are = n }),
        subst (KnowsLog c l y (e + 1)) (sym n) (subst (λ (x : Node). is_up x.status ≡ true → has_log c l ≡ true → AreClean 1 (e + 1) (log_of x.plain l).summaries) (sym (put_at (keep_op here op) s.nodes)) (λ on also. kept_clean here l e v on a)),
      )
  by_known there up has a closed (Some z) h =
      let n = old_nodes up has z h in
      (inl n, subst (KnowsLog c l y (e + 1)) (sym n) (λ on also. clean_there e z log.summaries h a))

  by_log : has_node c y ≡ true → is_up here.status ≡ true → KnowsLog c l y e s.nodes → find e (epochs_of s.register l).summaries ≡ Some v → (b : Bool) → has_log c l ≡ b → ((nodes_now ≡ s.nodes) ⊎ TicksOnce c s y l nodes_now) × KnowsLog c l y (e + 1) nodes_now
  by_log there up knows closed true has = by_known there up has (knows up has) closed (find e log.summaries) refl
  by_log there up knows closed false off = (inl (handed_off off), λ on has. let wrong : true ≡ false = sym has ∙ off in absurd cc)

  -- the close of an epoch comes to a node that is up and knows those below it
  pub reminded_once : has_node c y ≡ true → is_up here.status ≡ true → KnowsLog c l y e s.nodes → find e (epochs_of s.register l).summaries ≡ Some v → ((nodes_now ≡ s.nodes) ⊎ TicksOnce c s y l nodes_now) × KnowsLog c l y (e + 1) nodes_now
  reminded_once there up knows closed = by_log there up knows closed (has_log c l) refl

-- ---- the drive goes on ----

tick_step : (c : Config) (s : State) (y l : ℕ) (d : Done) → happens c s (events.Tick y l) ≡ d → step c s (events.Tick y l) ≡ finish d
unfolding step
tick_step c s y l d h = ap finish h

module _ (who : Driver) (broken : Type 0) (c : Config) (first : ℕ) (b : IsInBounds c) (stands : Config → State → Type 0) (apart : IsApart stands) (s : State) (far : Far) (qs : List (List Msg)) (y : ℕ) (answer : Msg) (h : Holds stands c first s far qs) where
  abbrev end : List (ℕ × Node) → List Msg → Far
  end nodes answers = record { nodes = nodes; present = Some y; answers = answers }

  news_are : (answers : List Msg) → answers ≡ far.answers → AreNews first s.network qs answers
  news_are answers e = subst (λ (ms : List Msg). AreNews first s.network qs ms) (sym e) h.news

  -- nothing comes of it
  stays_so : (nodes : List (ℕ × Node)) (answers : List Msg) → nodes ≡ s.nodes → answers ≡ far.answers → Moved who broken (IsReminded y answer) stands c first s (end nodes answers) qs []
  stays_so nodes answers same e = record {
    state = s;
    goes = stays who broken c (IsReminded y answer) s tt;
    holds = record { sound = h.sound; actor = h.actor; nodes = sym same; count = h.count; news = news_are answers e };
  }

  -- the node is ticked
  ticks_so : (l : ℕ) (nodes : List (ℕ × Node)) (answers : List Msg) → who.ticks ≡ Some l → waiting_by answer.from answer.body ≡ Some y → answers ≡ far.answers → TicksOnce c s y l nodes → Moved who broken (IsReminded y answer) stands c first s (end nodes answers) qs []
  ticks_so l nodes answers own behind e t =
      let d : Done = keeps_op s y t.op [] [] in
      let x : Node = keep_op (node_at s y) t.op in
      let there : step c s (events.Tick y l) ≡ finish d = tick_step c s y l d t.tick in
      let now : (finish d).state ≡ with_node s y x = finished_state d ∙ ap (λ (ms : List Msg). sent_state (with_node s y x) ms) (when_none (is_written (keep_end (node_at s y) t.op))) in
      record {
        state = with_node s y x;
        goes = subst (λ (z : State). Goes who broken (IsReminded y answer) c s z []) now
            (subst (λ (ls : List Line). Goes who broken (IsReminded y answer) c s (finish d).state ls) (kept_quiet y (keep_end (node_at s y) t.op)) (goes_by who broken c (IsReminded y answer) s (events.Tick y l) d own ((refl, behind), tt) there));
        holds = record {
          sound = subst (λ (z : State). IsSound c z) (ap (λ r. r.state) there ∙ now) (step_is c b s (events.Tick y l) tt h.sound);
          actor = apart c s (put y x s.nodes) s.network h.actor;
          nodes = sym t.nodes_are;
          count = h.count;
          news = news_are answers e;
        };
      }

  -- the present node handles a reminder
  pub reminds_on : (T : Far → Type 0) (e : ℕ) (m : Msg) → far.present ≡ Some y → has_node c y ≡ true → is_of y answer.from ≡ true → Knows c who.ticks y e far.nodes → IsReminder who.ticks s.register e answer m → IsHanded c far m T
      → (now : Far) × T now × (now.present ≡ Some y) × (now.answers ≡ far.answers) × Knows c who.ticks y (e + 1) now.nodes × Moved who broken (IsReminded y answer) stands c first s now qs []
  reminds_on T e m present there of knows k i =
      let l : ℕ = k.log in
      let v : Summary = k.summary in
      let close : Msg = record { from = whos.Sequencer v.ballot; to = answer.from; log = l; body = bodies.Clean e v } in
      let node : i.node ≡ y = some_is (sym i.present ∙ present) in
      let told : T (end (handed c s.nodes y close).state.nodes (far.answers ++ (handed c s.nodes y close).sends)) = subst (λ (n : List (ℕ × Node)). T (end (handed c n y close).state.nodes (far.answers ++ (handed c n y close).sends))) (sym h.nodes)
      (subst (λ (z : Msg). T (end (handed c far.nodes y z).state.nodes (far.answers ++ (handed c far.nodes y z).sends))) k.is
      (subst (λ (n : ℕ). T (record { nodes = (handed c far.nodes n m).state.nodes; present = Some n; answers = far.answers ++ (handed c far.nodes n m).sends })) node i.told)) in
      let up : is_up (node_at s y).status ≡ true = ap (λ (n : List (ℕ × Node)). is_up_in n y) h.nodes ∙ subst (λ (n : ℕ). is_up_in far.nodes n ≡ true) node i.up in
      let none : far.answers ++ (handed c s.nodes y close).sends ≡ far.answers = ap (λ (ms : List Msg). far.answers ++ ms) (answers_none c (alone s.nodes) y close refl) ∙ append-nil far.answers in
      let come = reminded_once c s h.sound y l e v (whos.Sequencer v.ballot) answer.from k.from_one there up (subst (KnowsLog c l y e) (sym h.nodes) (knows l k.of)) k.closed in
      let after : Knows c who.ticks y (e + 1) (handed c s.nodes y close).state.nodes = λ p own. subst (λ (q : ℕ). KnowsLog c q y (e + 1) (handed c s.nodes y close).state.nodes) (some_is (sym k.of ∙ own)) come.1 in (
        end (handed c s.nodes y close).state.nodes (far.answers ++ (handed c s.nodes y close).sends),
        told,
        refl,
        none,
        after,
        elim come.0 [
          | inl same ↦ stays_so (handed c s.nodes y close).state.nodes (far.answers ++ (handed c s.nodes y close).sends) same none
          | inr t ↦ ticks_so l (handed c s.nodes y close).state.nodes (far.answers ++ (handed c s.nodes y close).sends) k.of (waits_behind (lce_of s.register l) y answer of k.waits) none t
        ],
      )

-- a node that is told of nothing more, since the link failed
pub broken_off : (f g h e d k : ℕ) (x : Fault) → AreLater f g e d → CountsFault {T = Unit {0}} g h (Err x) → IfOk (missed_by x) (λ on. on ≡ false → IsBroken f h e k)
broken_off f g h e d k faults.Link l r = λ off. inl (omega (arith, l.0, r.0))
broken_off f g h e d k faults.NoMemory l r = tt
broken_off f g h e d k (faults.BadFrame fault) l r = tt

pub reminder_to : (o : Option ℕ) (r : Register) (e y : ℕ) (answer m : Msg) → is_of y answer.from ≡ true → Some m ≡ reminded o r e answer → m.to ≡ whos.Node y
reminder_to o r e y answer m of h = ap (λ (x : Msg). x.to) (reminder_is o r e answer m h).is ∙ sender_is y answer.from of

module _ (who : Driver) (c : Config) (first : ℕ) (b : IsInBounds c) (A : Config → State → Type 0) (apart : IsApart A) (s : State) (qs : List (List Msg)) (a : Option (List ℕ)) (y : ℕ) (answer : Msg) where
  -- nothing is told yet
  pub open_first : (T : Config → Far → Type 0) (far : Far) → WithNode T c y far → Holds A c first s far qs → Went who ⊥ (IsReminded y answer) A (Open T c who.ticks y 1) c first s qs a a
  open_first T far told h = went_here who ⊥ c first b (IsReminded y answer) A (Open T c who.ticks y 1) s far qs a tt (told, knows_none c who.ticks y far.nodes) h

  module _ (T U : Config → Far → Type 0) (e : ℕ) (m : Msg) (w : Went who ⊥ (IsReminded y answer) A (Open T c who.ticks y e) c first s qs a a) where
    -- no more is told
    pub open_last : Went who ⊥ (IsReminded y answer) A (WithNode T c y) c first s qs a a
    open_last = went_as who ⊥ c first b (IsReminded y answer) ⊥ A (Open T c who.ticks y e) (WithNode T c y) s qs a a (λ x. x) (λ f t. t.0) w

    -- one more is told
    pub open_next : has_node c y ≡ true → is_of y answer.from ≡ true → Some m ≡ reminded who.ticks w.moved.state.register e answer → IsHanded c w.far m (U c) → Went who ⊥ (IsReminded y answer) A (Open U c who.ticks y (e + 1)) c first s qs a a
    open_next there of k i =
        let n = reminds_on who ⊥ c first b A apart w.moved.state w.far qs y answer w.moved.holds (U c) e m w.told.0.1 there of w.told.1 (reminder_is who.ticks w.moved.state.register e answer m k) i in
        went_on who ⊥ c first b (IsReminded y answer) (IsReminded y answer) (IsReminded y answer) A A (Open T c who.ticks y e) (Open U c who.ticks y (e + 1)) s qs qs a a a (reminds_join c y answer) w
        (went_quietly who ⊥ c first b (IsReminded y answer) A (Open U c who.ticks y (e + 1)) w.moved.state n.0 qs a (((n.1, n.3 ∙ w.told.0.0.1), n.2), n.4) n.5)

    -- it isn't sent
    pub open_off : (quiet : Bool) (f : Fault) → SendsTo c w.far m quiet (U c) (Err f) → (quiet ≡ true) ⊎ GoesOn who ⊥ (IsReminded y answer) (RemindEnd y answer) A (WithNode U c y) c first s qs a a (missed_by f)
    open_off quiet faults.Link (inl gone) = inr (record { far = w.far; lines = w.lines; told = ((gone.told, w.told.0.0.1), w.told.0.1); moved = w.moved; written = w.written })
    open_off quiet faults.Link (inr silent) = inl silent
    open_off quiet (faults.BadFrame fault) sent = absurd sent
    open_off quiet faults.NoMemory sent = inr (halted who ⊥ c first b (IsReminded y answer) A (Open T c who.ticks y e) s qs a a w)
