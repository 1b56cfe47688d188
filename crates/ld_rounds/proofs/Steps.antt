-- The steps that a drive takes.
use Rattle.std.proofs.Common.{◌≡◌, ℕ, ◌+◌, Bool, true, false, ◌&&◌, List, [], ◌∷◌, ◌++◌, Option, Some, None, refl, ap, sym, ◌∙◌, subst, inl, inr, append_assoc, arith, if◌then◌else◌}
use Rattle.std.specs.List.{AllByRecursion}
use Rattle.std.proofs.lemmas.Bool.{eq-eqb}
use Rattle.std.proofs.lemmas.List.{append-nil}
use Rattle.std.proofs.lemmas.List.Elements.{filter-append}
use Rattle.ld_table.specs.Table.{put}
use Rattle.ld_config.specs.declared.config.Config.{Config}
use Rattle.ld_schedule.specs.declared.event.Event.{Event}
use Rattle.ld_schedule.specs.declared.event.Event.TheVariants as events
use Rattle.ld_transcript.specs.declared.line.Line.{Line}
use Rattle.ld_msg.specs.declared.msg.Msg.{Msg}
use Rattle.ld_msg.specs.declared.msg.Body.{Body}
use Rattle.ld_msg.specs.declared.msg.Body.TheVariants as bodies
use Rattle.ld_msg.specs.Network.{message}
use Rattle.ld_op.specs.declared.op.Op.{Op}
use Rattle.ld_op.specs.Plain.{Log}
use Rattle.ld_op.specs.Answers.{on_clean, on_trim}
use Rattle.ld_op.specs.Ticks.{on_page}
use Rattle.ld_op.specs.Handles.{answer_message, handled_by}
use Rattle.ld_machine.specs.Config.{has_log}
use Rattle.ld_machine.specs.Disk.{Node, is_up, keep_end, Kept, Written, DiskFailed, Crashed, JournalFull}
use Rattle.ld_machine.specs.State.{State, Done, only_state, unchanged, finish, or_none, message_lines, node_at, sent_state}
use Rattle.ld_machine.specs.Step as machine
use Rattle.ld_machine.specs.Step.{happens, delivers, comes_to, marked, to_node, is_written, kept_lines}
use Rattle.ld_machine.specs.Run.{step, state_after, lines_of}
use Rattle.ld_dial.specs.Far.{alone, handed}
use Rattle.ld_bounds.specs.Sound.{IsEvent}
use Rattle.ld_rounds.specs.News.{is_answer}
use Rattle.ld_rounds.specs.Requests.{request_event}
use Rattle.ld_rounds.specs.declared.request.Request.{Request}
use Rattle.ld_rounds.specs.declared.request.Request.TheVariants as asks
use Rattle.ld_rounds.specs.Telling.{is_answered, AnswersOf}
use Rattle.ld_rounds.specs.Drives.{is_own, own_lines, Driver, MayLose, IsDriven, AreDriven, Goes}
use Rattle.ld_rounds.specs.Rounds.{IsLossBy, LosesBy, LoseBy}
use Rattle.ld_rounds.proofs.Joining.{Joins, after-append}

-- ---- lines ----

own_messages : (s : State) (i : ℕ) (ms : List Msg) → own_lines (message_lines s i ms) ≡ []
own_messages s i [] = refl
own_messages s i (m ∷ ms) = own_messages s (i + 1) ms

own_or_none : (ls : List Line) → own_lines (or_none ls) ≡ own_lines ls
own_or_none [] = refl
own_or_none (l ∷ ls) = refl

pub own-append : (xs ys : List Line) → own_lines (xs ++ ys) ≡ own_lines xs ++ own_lines ys
own-append xs ys = filter-append is_own xs ys

pub own_finished : (d : Done) → own_lines (finish d).lines ≡ own_lines d.lines
unfolding finish
own_finished d =
    let ms : List Line = message_lines d.state d.state.network.count d.sends in
    own_or_none (d.lines ++ ms) ∙ (own-append d.lines ms ∙ (ap (λ l. own_lines d.lines ++ l) (own_messages d.state d.state.network.count d.sends) ∙ append-nil (own_lines d.lines)))

-- ---- one after the other ----

pub lines-append : (c : Config) (s : State) (es fs : List Event) → lines_of c s (es ++ fs) ≡ lines_of c s es ++ lines_of c (state_after c s es) fs
unfolding state_after lines_of
lines-append c s [] fs = refl
lines-append c s (e ∷ es) fs =
    ap (λ l. (step c s e).lines ++ l) (lines-append c (step c s e).state es fs) ∙ sym (append_assoc (step c s e).lines (lines_of c (step c s e).state es) (lines_of c (state_after c (step c s e).state es) fs))

driven-append : (who : Driver) (broken : Type 0) (c : Config) (s : State) (es fs : List Event) → AreDriven who broken c s es → AreDriven who broken c (state_after c s es) fs → AreDriven who broken c s (es ++ fs)
unfolding state_after
driven-append who broken c s [] fs a b = b
driven-append who broken c s (e ∷ es) fs a b = (a.0, driven-append who broken c (step c s e).state es fs a.1 b)

driven_if : (who : Driver) (one other : Type 0) (c : Config) (s : State) (es : List Event) → (one → other) → AreDriven who one c s es → AreDriven who other c s es
driven_if who one other c s [] f d = tt
driven_if who one other c s (e ∷ es) f d = (event_if e d.0, driven_if who one other c (step c s e).state es f d.1)
  where
    lose_if : (takes : Msg → Bool) (o : Option Msg) → MayLose one takes o → MayLose other takes o
    lose_if takes None h = h
    lose_if takes (Some m) (inl h) = inl (h.0, f h.1)
    lose_if takes (Some m) (inr h) = inr h

    event_if : (x : Event) → IsDriven who one s x → IsDriven who other s x
    event_if (events.Activate n l) h = h
    event_if (events.Append n payload) h = h
    event_if (events.Trim n point) h = h
    event_if (events.Retry n) h = h
    event_if (events.Open n l from until) h = h
    event_if (events.OpenOne n l from until) h = h
    event_if (events.OpenMessages n l from until) h = h
    event_if (events.Poll n) h = h
    event_if (events.Tick n l) h = h
    event_if (events.Deliver i) h = h
    event_if (events.Lose i) h = lose_if (who.takes s) (message s.network i) h
    event_if x h = absurd h

-- what they lose
few_of : (who : Driver) (broken : Type 0) (c : Config) (s : State) (es : List Event) → AreDriven who broken c s es → LoseBy broken c s es
few_of who broken c s [] d = tt
few_of who broken c s (e ∷ es) d = (few_by e d.0, few_of who broken c (step c s e).state es d.1)
  where
    loss_of : (takes : Msg → Bool) (o : Option Msg) → MayLose broken takes o → IsLossBy broken o
    loss_of takes None h = h
    loss_of takes (Some m) (inl h) = inr h.1
    loss_of takes (Some m) (inr h) = inl h.0

    few_by : (x : Event) → IsDriven who broken s x → LosesBy broken s x
    few_by (events.Lose i) h = loss_of (who.takes s) (message s.network i) h
    few_by x h = tt

module _ (who : Driver) (broken : Type 0) (c : Config) where
  pub stays : (P : State → List Event → Type 0) (s : State) → P s [] → Goes who broken P c s s []
  unfolding state_after lines_of
  stays P s p = record { steps = []; driven = tt; such = p; state = refl; lines = refl }

  pub goes_on : (P Q R : State → List Event → Type 0) (s t u : State) (xs ys : List Line) → Joins c P Q R → Goes who broken P c s t xs → Goes who broken Q c t u ys → Goes who broken R c s u (xs ++ ys)
  goes_on P Q R s t u xs ys j g h = record {
    steps = g.steps ++ h.steps;
    driven = driven-append who broken c s g.steps h.steps g.driven (subst (λ (x : State). AreDriven who broken c x h.steps) g.state h.driven);
    such = j s g.steps h.steps g.such (subst (λ (x : State). Q x h.steps) g.state h.such);
    state = h.state ∙ (ap (λ x. state_after c x h.steps) g.state ∙ sym (after-append c s g.steps h.steps));
    lines = ap (λ l. l ++ ys) g.lines ∙ (ap (λ l. own_lines (lines_of c s g.steps) ++ l) (h.lines ∙ ap (λ x. own_lines (lines_of c x h.steps)) g.state)
        ∙ (sym (own-append (lines_of c s g.steps) (lines_of c (state_after c s g.steps) h.steps)) ∙ ap own_lines (sym (lines-append c s g.steps h.steps))));
  }

  -- one step
  pub goes_by : (P : State → List Event → Type 0) (s : State) (e : Event) (d : Done) → IsDriven who broken s e → P s (e ∷ []) → step c s e ≡ finish d → Goes who broken P c s (finish d).state (own_lines d.lines)
  unfolding state_after lines_of
  goes_by P s e d m p h = record {
    steps = e ∷ [];
    driven = (m, tt);
    such = p;
    state = ap (λ r. r.state) (sym h);
    lines = sym (own_finished d) ∙ (ap (λ r. own_lines r.lines) (sym h) ∙ ap own_lines (sym (append-nil (step c s e).lines)));
  }

  -- where more is broken, and less is said of the steps
  pub goes_if : (less : Type 0) (P Q : State → List Event → Type 0) (s t : State) (xs : List Line) → (less → broken) → ((es : List Event) → t ≡ state_after c s es → P s es → Q s es) → Goes who less P c s t xs → Goes who broken Q c s t xs
  goes_if less P Q s t xs f p g = record { steps = g.steps; driven = driven_if who less broken c s g.steps f g.driven; such = p g.steps g.state g.such; state = g.state; lines = g.lines }

  -- where what they lose is told too
  pub goes_few : (P Q : State → List Event → Type 0) (s t : State) (xs : List Line) → ((es : List Event) → t ≡ state_after c s es → LoseBy broken c s es → P s es → Q s es) → Goes who broken P c s t xs → Goes who broken Q c s t xs
  goes_few P Q s t xs p g = record { steps = g.steps; driven = g.driven; such = p g.steps g.state (few_of who broken c s g.steps g.driven) g.such; state = g.state; lines = g.lines }

-- ---- the steps of a visit ----

pub delivery_is : (c : Config) (s : State) (i : ℕ) (m : Msg) → message s.network i ≡ Some m → step c s (events.Deliver i) ≡ finish (comes_to c (marked s i) m m.to)
unfolding step happens delivers
delivery_is c s i m h = ap (λ o. finish (machine.delivers_it c s i o)) h

pub loss_is : (c : Config) (s : State) (i : ℕ) → step c s (events.Lose i) ≡ finish (only_state (marked s i))
unfolding step happens
loss_is c s i = refl

-- the state after a loss
pub lost_state : (s : State) (i : ℕ) → (finish (only_state (marked s i))).state ≡ marked s i
unfolding finish
lost_state s i = refl

pub finished_state : (d : Done) → (finish d).state ≡ sent_state d.state d.sends
unfolding finish
finished_state d = refl

-- ---- what a node does rests on the nodes alone ----

abbrev with_nodes : State → List (ℕ × Node) → State
with_nodes s nodes = record s { nodes = nodes }

-- only the nodes have changed, and no line is an actor's
pub record IsFar (s : State) (d e : Done) : Type 0 where
  pub state : d.state ≡ record s { nodes = e.state.nodes }
  pub sends : d.sends ≡ e.sends
  pub quiet : own_lines d.lines ≡ []

pub kept_quiet : (n : ℕ) (k : Kept) → own_lines (kept_lines n [] k) ≡ []
kept_quiet n Written = refl
kept_quiet n DiskFailed = refl
kept_quiet n Crashed = refl
kept_quiet n JournalFull = refl

handles_far : (s : State) (n : ℕ) (x : Node) (m : Msg) (o : Option Op) (b : Option Body) → IsFar s (machine.handles (record s { nodes = put n x s.nodes }) n m o b) (machine.handles (record (alone s.nodes) { nodes = put n x s.nodes }) n m o b)
handles_far s n x m None b = record { state = refl; sends = refl; quiet = refl }
handles_far s n x m (Some o) b = record { state = refl; sends = refl; quiet = kept_quiet n (keep_end (node_at (record s { nodes = put n x s.nodes }) n) o) }

to_node_by : (b : Bool) (s : State) (d e : Done) → IsFar s d e → IsFar s (if b then d else unchanged s) (if b then e else unchanged (alone s.nodes))
to_node_by true s d e h = h
to_node_by false s d e h = record { state = refl; sends = refl; quiet = refl }

pub to_node_far : (c : Config) (s : State) (n : ℕ) (m : Msg) → IsFar s (to_node c s n m) (handed c s.nodes n m)
to_node_far c s n m =
    to_node_by (is_up (node_at s n).status && has_log c m.log) s _ _
    (handles_far s n (machine.releases (node_at s n) m.log m.body) m (machine.node_handles n (node_at s n) m).op (machine.node_handles n (node_at s n) m).answer)

-- what it answers comes from a node
answer_from : (n : ℕ) (m : Msg) (b : Option Body) → AllByRecursion (λ x. is_answer x ≡ true) (answer_message n m b)
answer_from n m None = tt
answer_from n m (Some b) = (refl, tt)

when_from : (b : Bool) (ms : List Msg) → AllByRecursion (λ x. is_answer x ≡ true) ms → AllByRecursion (λ x. is_answer x ≡ true) (if b then ms else [])
when_from true ms a = a
when_from false ms a = tt

handles_from : (s : State) (n : ℕ) (m : Msg) (o : Option Op) (b : Option Body) → AllByRecursion (λ x. is_answer x ≡ true) (machine.handles s n m o b).sends
handles_from s n m None b = answer_from n m b
handles_from s n m (Some o) b = when_from (is_written (keep_end (node_at s n) o)) (answer_message n m b) (answer_from n m b)

answers_by : (b : Bool) (s : State) (d : Done) → AllByRecursion (λ x. is_answer x ≡ true) d.sends → AllByRecursion (λ x. is_answer x ≡ true) (if b then d else unchanged s).sends
answers_by true s d h = h
answers_by false s d h = tt

pub answers_from : (c : Config) (s : State) (n : ℕ) (m : Msg) → AllByRecursion (λ x. is_answer x ≡ true) (to_node c s n m).sends
answers_from c s n m =
    answers_by (is_up (node_at s n).status && has_log c m.log) s _
    (handles_from _ n m (machine.node_handles n (node_at s n) m).op (machine.node_handles n (node_at s n) m).answer)

-- it answers at most once
answer_once : (n : ℕ) (m : Msg) (b : Option Body) → AnswersOf n 1 (answer_message n m b)
answer_once n m None = (omega arith, tt)
answer_once n m (Some b) = (omega arith, (eq-eqb n n refl, tt))

when_once : (n : ℕ) (b : Bool) (ms : List Msg) → AnswersOf n 1 ms → AnswersOf n 1 (if b then ms else [])
when_once n true ms a = a
when_once n false ms a = (omega arith, tt)

handles_once : (s : State) (n : ℕ) (m : Msg) (o : Option Op) (b : Option Body) → AnswersOf n 1 (machine.handles s n m o b).sends
handles_once s n m None b = answer_once n m b
handles_once s n m (Some o) b = when_once n (is_written (keep_end (node_at s n) o)) (answer_message n m b) (answer_once n m b)

once_by : (n : ℕ) (b : Bool) (s : State) (d : Done) → AnswersOf n 1 d.sends → AnswersOf n 1 (if b then d else unchanged s).sends
once_by n true s d h = h
once_by n false s d h = (omega arith, tt)

pub answers_once : (c : Config) (s : State) (n : ℕ) (m : Msg) → AnswersOf n 1 (to_node c s n m).sends
answers_once c s n m =
    once_by n (is_up (node_at s n).status && has_log c m.log) s _
    (handles_once _ n m (machine.node_handles n (node_at s n) m).op (machine.node_handles n (node_at s n) m).answer)

-- a message of another kind it doesn't answer
handled_unanswered : (n generation : ℕ) (g : Log) (l ballot released : ℕ) (b : Body) → is_answered b ≡ false → (handled_by n generation g l ballot released b).answer ≡ None
unfolding on_clean on_trim on_page
handled_unanswered n generation g l ballot released (bodies.Store number lng what) h = absurd cc
handled_unanswered n generation g l ballot released (bodies.DigestAsk from) h = absurd cc
handled_unanswered n generation g l ballot released (bodies.ReadAsk round from) h = absurd cc
handled_unanswered n generation g l ballot released (bodies.ReadOne round from set excluded) h = absurd cc
handled_unanswered n generation g l ballot released b h = refl

pub when_none : (b : Bool) → let none : List Msg = [] in (if b then none else none) ≡ none
when_none true = refl
when_none false = refl

handles_none : (s : State) (n : ℕ) (m : Msg) (o : Option Op) (b : Option Body) → b ≡ None → (machine.handles s n m o b).sends ≡ []
handles_none s n m None None e = refl
handles_none s n m (Some o) None e = when_none (is_written (keep_end (node_at s n) o))
handles_none s n m o (Some b) e = absurd cc

none_by : (b : Bool) (s : State) (d : Done) → d.sends ≡ [] → (if b then d else unchanged s).sends ≡ []
none_by true s d h = h
none_by false s d h = refl

pub answers_none : (c : Config) (s : State) (n : ℕ) (m : Msg) → is_answered m.body ≡ false → (to_node c s n m).sends ≡ []
answers_none c s n m h =
    none_by (is_up (node_at s n).status && has_log c m.log) s _
    (handles_none _ n m (machine.node_handles n (node_at s n) m).op (machine.node_handles n (node_at s n) m).answer (handled_unanswered _ _ _ _ _ _ m.body h))

-- ---- the steps of a client ----

pub poll_is : (c : Config) (s : State) (name : List ℕ) → step c s (events.Poll name) ≡ finish (happens c s (events.Poll name))
unfolding step
poll_is c s name = refl

pub open_is : (c : Config) (s : State) (name : List ℕ) (l from until : ℕ) → step c s (events.Open name l from until) ≡ finish (happens c s (events.Open name l from until))
unfolding step
open_is c s name l from until = refl

pub request_is : (c : Config) (s : State) (name : List ℕ) (request : Request) → step c s (request_event name request) ≡ finish (happens c s (request_event name request))
unfolding step
request_is c s name (asks.Append payload) = refl
request_is c s name (asks.Trim point) = refl

pub request_driven : (who : Driver) (broken : Type 0) (s : State) (request : Request) → IsDriven who broken s (request_event who.name request)
request_driven who broken s (asks.Append payload) = refl
request_driven who broken s (asks.Trim point) = refl

pub request_bound : (name : List ℕ) (request : Request) → IsEvent (request_event name request)
request_bound name (asks.Append payload) = tt
request_bound name (asks.Trim point) = tt

pub retry_is : (c : Config) (s : State) (name : List ℕ) → step c s (events.Retry name) ≡ finish (happens c s (events.Retry name))
unfolding step
retry_is c s name = refl

pub activate_is : (c : Config) (s : State) (name : List ℕ) (l : ℕ) → step c s (events.Activate name l) ≡ finish (happens c s (events.Activate name l))
unfolding step
activate_is c s name l = refl
