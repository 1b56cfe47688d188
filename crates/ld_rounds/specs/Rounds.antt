-- Which steps a drive takes, round by round, and which requests they took.
use Rattle.std.specs.Prelude.{ℕ, zero, suc, ◌≡◌, ◌⊎◌, ◌==◌, ◌&&◌, List, [], ◌∷◌, ◌++◌, Bool, true, false, Option, None, Some, if◌then◌else◌}
use Rattle.std.specs.List.{AllByRecursion}
use Rattle.ld_config.specs.declared.config.Config.{Config}
use Rattle.ld_schedule.specs.declared.event.Event.{Event}
use Rattle.ld_schedule.specs.declared.event.Event.TheVariants as events
use Rattle.ld_transcript.specs.declared.line.Line.{Line}
use Rattle.ld_transcript.specs.declared.line.Line.TheVariants as lines
use Rattle.ld_msg.specs.declared.msg.Who.{Who}
use Rattle.ld_msg.specs.declared.msg.Who.TheVariants as whos
use Rattle.ld_msg.specs.declared.msg.Body.{Body}
use Rattle.ld_msg.specs.declared.msg.Body.TheVariants as bodies
use Rattle.ld_msg.specs.declared.msg.Msg.{Msg}
use Rattle.ld_msg.specs.Network.{message}
use Rattle.ld_machine.specs.State.{State}
use Rattle.ld_machine.specs.Step.{happens}
use Rattle.ld_machine.specs.Run.{step, state_after}
use Rattle.ld_rounds.specs.declared.ended.Ended.{Ended}
use Rattle.ld_rounds.specs.declared.ended.Ended.TheVariants as ends
use Rattle.ld_rounds.specs.Ends.{tells_by, is_final}
use Rattle.ld_rounds.specs.Input.{Input, ComesTo}
use Rattle.ld_rounds.specs.Queued.{queue_of}
use Rattle.ld_rounds.specs.News.{AreNews, is_answer, waits_for, some_wait}
use Rattle.ld_rounds.specs.Telling.{is_of}
use Rattle.ld_rounds.specs.Turns.{IsFirst, AreInTurn}
use Rattle.ld_rounds.specs.Drives.{AreLater, CallCounts, counted, HasBroken}
use Rattle.ld_rounds.specs.Requests.{request_event, is_waiting, IsRequestBy}
use Rattle.ld_rounds.specs.declared.request.Request.{Request}
use Rattle.ld_rounds.specs.declared.request.Request.TheVariants as asks

-- ---- one part after the other ----

-- the events are such, and then others are so from the state that the first ones lead to
pub record Splits (P Q : State → List Event → Type 0) (c : Config) (s : State) (es : List Event) : Type 0 where
  pub front : List Event
  pub rest : List Event
  pub whole : es ≡ front ++ rest
  pub came : P s front
  pub goes : Q (state_after c s front) rest

-- so, and of the counts of the nodes the first part has those up to some, and the others those from there on
pub record Chains (P Q : CallCounts → State → List Event → Type 0) (c : Config) (counts : CallCounts) (s : State) (es : List Event) : Type 0 where
  pub faults : ℕ
  pub endings : ℕ
  pub since : AreLater counts.faults faults counts.endings endings
  pub until : AreLater faults counts.faults_now endings counts.endings_now
  pub parts : Splits (P (counted counts.faults faults counts.endings endings)) (Q (counted faults counts.faults_now endings counts.endings_now)) c s es

-- this event alone
abbrev pub IsOne : Event → State → List Event → Type 0
IsOne e s es = es ≡ e ∷ []

-- this event, or none yet
abbrev pub IsBegun : Event → State → List Event → Type 0
IsBegun e s es = (es ≡ []) ⊎ (es ≡ e ∷ [])

-- ---- visits ----

-- the answer of a place is delivered, the first one of those that are new
pub record IsDelivered (first : ℕ) (m : Msg) (s : State) (es : List Event) : Type 0 where
  pub place : ℕ
  pub one : es ≡ events.Deliver place ∷ []
  pub there : message s.network place ≡ Some m
  pub foremost : IsFirst is_answer first s.network place

-- the node that tells its actor to wait, by such a message
abbrev pub waiting_by : Who → Body → Option ℕ
waiting_by (whos.Node n) (bodies.ReadWait round from released) = Some n
waiting_by _ _ = None

-- the node is ticked, where it is a message by which it tells its actor to wait
abbrev pub IsTickBehind : ℕ → Msg → Event → Type 0
IsTickBehind y m (events.Tick n l) = (n ≡ y) × (waiting_by m.from m.body ≡ Some y)
IsTickBehind y m _ = ⊥

abbrev pub IsReminded : ℕ → Msg → State → List Event → Type 0
IsReminded y m s es = AllByRecursion (IsTickBehind y m) es

abbrev pub RemindEnd : ℕ → Msg → Ended → State → List Event → Type 0
RemindEnd y m ended = IsReminded y m

abbrev pub waiting_in : Option Msg → Option ℕ
waiting_in None = None
waiting_in (Some m) = waiting_by m.from m.body

-- the node that told its actor to wait in the step before, or before ticks alone, by what was so before the event
abbrev pub waiting : State → Event → Option ℕ → Option ℕ
waiting s (events.Deliver i) o = waiting_in (message s.network i)
waiting s (events.Tick n l) o = o
waiting s _ o = None

-- a message is delivered or lost, or the node is ticked that told its actor to wait
abbrev pub IsCalm : Option ℕ → Event → Type 0
IsCalm o (events.Deliver i) = Unit {0}
IsCalm o (events.Lose i) = Unit {0}
IsCalm o (events.Tick n l) = o ≡ Some n
IsCalm o _ = ⊥

abbrev pub AreCalm : Config → Option ℕ → State → List Event → Type 0
AreCalm c o s [] = Unit {0}
AreCalm c o s (e ∷ es) = IsCalm o e × AreCalm c (waiting s e o) (step c s e).state es

-- messages are delivered and lost, and behind the delivery of a message by which a node tells its actor to wait, right there, the node may be ticked
abbrev pub Calm : Config → State → List Event → Type 0
Calm c s es = AreCalm c None s es

-- the message is to the node, or an answer of it
abbrev pub Concerns : ℕ → Option Msg → Type 0
Concerns y None = ⊥
Concerns y (Some m) = (waits_for y m ≡ true) ⊎ (is_of y m.from ≡ true)

-- a message to the node or an answer of it is delivered or lost, or the node is ticked
abbrev pub IsAbout : ℕ → State → Event → Type 0
IsAbout y s (events.Deliver i) = Concerns y (message s.network i)
IsAbout y s (events.Lose i) = Concerns y (message s.network i)
IsAbout y s (events.Tick n l) = n ≡ y
IsAbout y s _ = ⊥

abbrev pub AreAbout : ℕ → Config → State → List Event → Type 0
AreAbout y c s [] = Unit {0}
AreAbout y c s (e ∷ es) = IsAbout y s e × AreAbout y c (step c s e).state es

-- the steps of a visit of a node: each message is taken in its turn
abbrev pub Visiting : Config → ℕ → ℕ → State → List Event → Type 0
Visiting c first y s es = Calm c s es × AreAbout y c s es × AreInTurn first y c s es

abbrev pub VisitEnd : Config → ℕ → ℕ → Ended → State → List Event → Type 0
VisitEnd c first y ended = Visiting c first y

-- a message that is no answer is lost only where that is broken
abbrev pub IsLossBy : Type 0 → Option Msg → Type 0
IsLossBy broken None = ⊥
IsLossBy broken (Some m) = (is_answer m ≡ true) ⊎ broken

abbrev pub LosesBy : Type 0 → State → Event → Type 0
LosesBy broken s (events.Lose i) = IsLossBy broken (message s.network i)
LosesBy broken s _ = Unit {0}

abbrev pub LoseBy : Type 0 → Config → State → List Event → Type 0
LoseBy broken c s [] = Unit {0}
LoseBy broken c s (e ∷ es) = LosesBy broken s e × LoseBy broken c (step c s e).state es

-- such steps, in which messages to the node are lost only where by these counts a call of the nodes failed or one was found to have ended
pub record IsVisiting (c : Config) (first y : ℕ) (counts : CallCounts) (s : State) (es : List Event) : Type 0 where
  pub steps : Visiting c first y s es
  pub few : LoseBy (HasBroken counts) c s es

-- and that lead to a state in which no message that is new from the first place on waits for the node, and no answer is to be taken
pub record IsVisit (c : Config) (first y : ℕ) (counts : CallCounts) (s : State) (es : List Event) : Type 0 where
  pub visiting : IsVisiting c first y counts s es
  pub queues : List (List Msg)
  pub news : AreNews first (state_after c s es).network queues []
  pub emptied : queue_of queues y ≡ []

-- the nodes are visited one after the other, each with its own part of the counts
abbrev pub AreVisits : Config → ℕ → List ℕ → CallCounts → State → List Event → Type 0
AreVisits c first [] counts s es = es ≡ []
AreVisits c first (y ∷ ys) counts s es = Chains (IsVisit c first y) (AreVisits c first ys) c counts s es

-- so far: the first ones, and the next one in part
abbrev pub ArePartVisits : Config → ℕ → List ℕ → CallCounts → State → List Event → Type 0
ArePartVisits c first [] counts s es = es ≡ []
ArePartVisits c first (y ∷ ys) counts s es = IsVisiting c first y counts s es ⊎ Chains (IsVisit c first y) (ArePartVisits c first ys) c counts s es

abbrev pub VisitsEnd : Config → ℕ → List ℕ → CallCounts → Ended → State → List Event → Type 0
VisitsEnd c first ys counts ended = ArePartVisits c first ys counts

-- ---- rounds ----

-- so many rounds, from the one of number 0 on, each with its own part of the counts
abbrev pub AreRounds : (ℕ → CallCounts → State → List Event → Type 0) → Config → ℕ → CallCounts → State → List Event → Type 0
AreRounds round c zero counts s es = es ≡ []
AreRounds round c (suc n) counts s es = Chains (AreRounds round c n) (round n) c counts s es

-- a reader polls before a round; one that is sparing doesn't where a message that is new from the first place on waits for one of the nodes
abbrev pub polls : Bool → List ℕ → ℕ → List ℕ → State → List Event
polls sparing name first ys s = if sparing && some_wait first s.network ys then [] else events.Poll name ∷ []

abbrev pub IsPolled : Bool → List ℕ → ℕ → List ℕ → State → List Event → Type 0
IsPolled sparing name first ys s es = es ≡ polls sparing name first ys s

-- and then the nodes are visited
abbrev pub IsReadRound : Bool → List ℕ → Config → ℕ → List ℕ → CallCounts → State → List Event → Type 0
IsReadRound sparing name c first ys counts s es = Splits (IsPolled sparing name first ys) (AreVisits c first ys counts) c s es

-- so far
abbrev pub IsReadPart : Bool → List ℕ → Config → ℕ → List ℕ → CallCounts → State → List Event → Type 0
IsReadPart sparing name c first ys counts s es = (es ≡ []) ⊎ Splits (IsPolled sparing name first ys) (ArePartVisits c first ys counts) c s es

-- a sequencer sends again before each round but the first
abbrev pub IsRetry : List ℕ → Bool → State → List Event → Type 0
IsRetry name true s es = es ≡ []
IsRetry name false s es = es ≡ events.Retry name ∷ []

abbrev pub MayRetry : List ℕ → Bool → State → List Event → Type 0
MayRetry name true s es = es ≡ []
MayRetry name false s es = IsBegun (events.Retry name) s es

-- appends, and trims, each of which comes where all is settled
abbrev pub AreRequests : List ℕ → Config → State → List Event → Type 0
AreRequests name c s [] = Unit {0}
AreRequests name c s (e ∷ es) = IsRequestBy name s e × AreRequests name c (step c s e).state es

-- the request alone, when it may come
abbrev pub IsAsked : List ℕ → Request → State → List Event → Type 0
IsAsked name request s es = IsRequestBy name s (request_event name request) × IsOne (request_event name request) s es

-- or none yet
abbrev pub IsAsking : List ℕ → Request → State → List Event → Type 0
IsAsking name request s es = IsRequestBy name s (request_event name request) × IsBegun (request_event name request) s es

abbrev pub is_full_line : Line → Bool
is_full_line (lines.RefusedWindowFull name) = true
is_full_line _ = false

-- one of the lines refuses since the window is full
abbrev pub tells_full : List Line → Bool
tells_full [] = false
tells_full (l ∷ ls) = if is_full_line l then true else tells_full ls

-- what happens by the event is refused since the window is full
abbrev pub finds_full : Config → State → Event → Bool
finds_full c s e = tells_full (happens c s e).lines

-- what happens by the event is refused since the sequencer was preempted, or since its numbers are used up
abbrev pub finds_final : Config → State → Event → Bool
finds_final c s e = tells_by is_final (happens c s e).lines

-- none of them is refused so
abbrev pub FindRoom : Config → State → List Event → Type 0
FindRoom c s [] = Unit {0}
FindRoom c s (e ∷ es) = (finds_full c s e ≡ false) × (finds_final c s e ≡ false) × FindRoom c (step c s e).state es

-- this one event finds the window full
pub record IsFull (c : Config) (s : State) (es : List Event) : Type 0 where
  pub event : Event
  pub one : es ≡ event ∷ []
  pub full : finds_full c s event ≡ true

-- the last one finds the window full, and each before it found room; or all did, and no more was to be had
abbrev pub Fills : Config → Type 0 → State → List Event → Type 0
Fills c dry s es = (FindRoom c s es × dry) ⊎ Splits (FindRoom c) (IsFull c) c s es

-- the input is over, or doesn't tell that the next request is ready, or the one that is held is a trim, and has to wait
abbrev pub IsDry : Bool → Option Bool → Option Request → Bool → Type 0
IsDry is_over ready held settled = (is_over ≡ true) ⊎ (ready ≡ Some true → ⊥) ⊎ (is_waiting held settled ≡ true)

-- requests are taken until one finds the window full, or no more is to be had
abbrev pub AreFilling : List ℕ → Config → Type 0 → State → List Event → Type 0
AreFilling name c dry s es = AreRequests name c s es × Fills c dry s es

-- so far
abbrev pub FindingRoom : List ℕ → Config → State → List Event → Type 0
FindingRoom name c s es = AreRequests name c s es × FindRoom c s es

-- it sends again, and requests are taken so
abbrev pub IsPrepared : List ℕ → Config → Type 0 → Bool → State → List Event → Type 0
IsPrepared name c dry is_first s es = Splits (IsRetry name is_first) (AreFilling name c dry) c s es

-- and then the nodes are visited
abbrev pub IsAppendRound : List ℕ → Config → Type 0 → ℕ → List ℕ → Bool → CallCounts → State → List Event → Type 0
IsAppendRound name c dry first ys is_first counts s es = Splits (IsPrepared name c dry is_first) (AreVisits c first ys counts) c s es

-- so far
abbrev pub IsAppendPart : List ℕ → Config → ℕ → List ℕ → Bool → CallCounts → State → List Event → Type 0
IsAppendPart name c first ys is_first counts s es = Splits (Splits (MayRetry name is_first) (AreRequests name c) c) (ArePartVisits c first ys counts) c s es

-- so many; which ones no more was to be had in isn't told
abbrev pub AreAppendRounds : List ℕ → Config → ℕ → List ℕ → ℕ → CallCounts → State → List Event → Type 0
AreAppendRounds name c first ys n counts s es = AreRounds (λ k. IsAppendRound name c (Unit {0}) first ys (k == 0)) c n counts s es

abbrev pub AreReadRounds : Bool → List ℕ → Config → ℕ → List ℕ → ℕ → CallCounts → State → List Event → Type 0
AreReadRounds sparing name c first ys n counts s es = AreRounds (λ k. IsReadRound sparing name c first ys) c n counts s es

-- ---- requests ----

-- an append takes its payload, unless the machine answers that the window is full; a trim takes its number, be it refused or not
abbrev pub taken_by : Config → State → Event → List Request
taken_by c s (events.Append name payload) = if finds_full c s (events.Append name payload) then [] else asks.Append payload ∷ []
taken_by c s (events.Trim name point) = if finds_full c s (events.Trim name point) then [] else asks.Trim point ∷ []
taken_by c s _ = []

-- the requests that the events took, in their order
abbrev pub taken_of : Config → State → List Event → List Request
taken_of c s [] = []
taken_of c s (e ∷ es) = taken_by c s e ++ taken_of c (step c s e).state es

-- they are the first ones that were to come, and the others are still to come
pub record HasFed (c : Config) (old : Input) (new : Option Input) (s : State) (es : List Event) : Type 0 where
  pub left : Input
  pub now : new ≡ Some left
  pub requests : old.requests ≡ taken_of c s es ++ left.requests
  pub off : left.off ≡ old.off

abbrev pub Feeds : Config → Option Input → Option Input → State → List Event → Type 0
Feeds c None new s es = Unit {0}
Feeds c (Some old) new s es = HasFed c old new s es

-- they are the first ones that were to come
pub record HasFedSome (c : Config) (old : Input) (s : State) (es : List Event) : Type 0 where
  pub left : List Request
  pub requests : old.requests ≡ taken_of c s es ++ left

-- where it is done, and where it comes to a line with a syntax error, all before are taken
abbrev pub FeedsUntil : Config → Option Input → Ended → State → List Event → Type 0
FeedsUntil c None ended s es = Unit {0}
FeedsUntil c (Some old) ends.Done s es = (old.requests ≡ taken_of c s es) × (old.off ≡ None)
FeedsUntil c (Some old) (ends.BadLine line place) s es = (old.requests ≡ taken_of c s es) × ComesTo old line place
FeedsUntil c (Some old) _ s es = HasFedSome c old s es

-- ---- both ----

abbrev pub Both : (State → List Event → Type 0) → (State → List Event → Type 0) → State → List Event → Type 0
Both P Q s es = P s es × Q s es

-- requests that came, for all of which there was room
abbrev pub Adding : List ℕ → Config → Option Input → Option Input → State → List Event → Type 0
Adding name c old new = Both (FindingRoom name c) (Feeds c old new)

-- requests that came, and so until it ends
abbrev pub Adds : List ℕ → Config → Type 0 → Option Input → Option Input → State → List Event → Type 0
Adds name c dry old new = Both (AreFilling name c dry) (Feeds c old new)

abbrev pub AddsUntil : List ℕ → Config → Option Input → Ended → State → List Event → Type 0
AddsUntil name c old ended = Both (AreRequests name c) (FeedsUntil c old ended)

-- the same with what is sent again before
abbrev pub Prepares : List ℕ → Config → Type 0 → Bool → Option Input → Option Input → State → List Event → Type 0
Prepares name c dry is_first old new = Both (IsPrepared name c dry is_first) (Feeds c old new)

abbrev pub PreparesUntil : List ℕ → Config → Bool → Option Input → Ended → State → List Event → Type 0
PreparesUntil name c is_first old ended = Both (Splits (MayRetry name is_first) (AreRequests name c) c) (FeedsUntil c old ended)

-- the same with visits
abbrev pub Rounds : List ℕ → Config → Type 0 → ℕ → List ℕ → Bool → CallCounts → Option Input → Option Input → State → List Event → Type 0
Rounds name c dry first ys is_first counts old new = Both (IsAppendRound name c dry first ys is_first counts) (Feeds c old new)

abbrev pub RoundsUntil : List ℕ → Config → ℕ → List ℕ → Bool → CallCounts → Option Input → Ended → State → List Event → Type 0
RoundsUntil name c first ys is_first counts old ended = Both (IsAppendPart name c first ys is_first counts) (FeedsUntil c old ended)

-- so many rounds of appends that end so, and after so many a part of one
abbrev pub Appends : List ℕ → Config → ℕ → List ℕ → CallCounts → Option Input → Ended → ℕ → State → List Event → Type 0
Appends name c first ys counts old ended n = Both (AreAppendRounds name c first ys n counts) (FeedsUntil c old ended)

abbrev pub AppendsUntil : List ℕ → Config → ℕ → List ℕ → CallCounts → Option Input → Ended → ℕ → State → List Event → Type 0
AppendsUntil name c first ys counts old ended n = Both (Chains (AreAppendRounds name c first ys n) (IsAppendPart name c first ys (n == 0)) c counts) (FeedsUntil c old ended)

abbrev pub ReadsUntil : Bool → List ℕ → Config → ℕ → List ℕ → ℕ → CallCounts → State → List Event → Type 0
ReadsUntil sparing name c first ys n counts s es = Chains (AreReadRounds sparing name c first ys n) (IsReadPart sparing name c first ys) c counts s es
