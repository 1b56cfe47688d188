-- What a drive represents, and the steps of the written machine that it takes.
use Rattle.std.specs.Prelude.{ℕ, ◌≡◌, ◌⊎◌, ◌≤◌, ◌<◌, ◌+◌, List, [], ◌∷◌, length, Bool, true, false, filter, Option, None, Some}
use Rattle.std.specs.List.{AllByRecursion}
use Rattle.std.specs.Io.KnownBytes.{Appends}
use Rattle.ld_io.specs.Causes.{Rose}
use Rattle.ld_config.specs.declared.config.Config.{Config}
use Rattle.ld_schedule.specs.declared.event.Event.{Event}
use Rattle.ld_schedule.specs.declared.event.Event.TheVariants as events
use Rattle.ld_transcript.specs.declared.line.Line.{Line}
use Rattle.ld_transcript.specs.declared.line.Line.TheVariants as lines
use Rattle.ld_transcript.specs.Text.{text}
use Rattle.ld_msg.specs.declared.msg.Msg.{Msg}
use Rattle.ld_msg.specs.Network.{Network, message}
use Rattle.ld_machine.specs.Config.{has_node}
use Rattle.ld_machine.specs.Disk.{Node}
use Rattle.ld_machine.specs.State.{State}
use Rattle.ld_machine.specs.Run.{step, state_after, lines_of}
use Rattle.ld_bounds.specs.Sound.{IsSound}
use Rattle.ld_dial.specs.Far.{Far}
use Rattle.std.specs.declared.result.Result.{Result}
use Rattle.std.specs.declared.result.Result.TheVariants.{Ok, Err}
use Rattle.ld_rounds.specs.declared.ended.Ended.{Ended}
use Rattle.ld_rounds.specs.declared.ended.Ended.TheVariants as ends
use Rattle.ld_rounds.specs.News.{is_answer, AreNews}
use Rattle.ld_rounds.specs.Output.{AppendsPart}
use Rattle.ld_rounds.specs.Telling.{AnswersOf}

-- a line of an actor, and not of a node, of what is set, of a message or of a step without lines
abbrev pub is_own : Line → Bool
is_own (lines.NodeFormatted node generation) = false
is_own (lines.NodeLost node log epoch) = false
is_own (lines.NodeUp node) = false
is_own (lines.NodeDown node) = false
is_own (lines.NodeWiped node) = false
is_own (lines.NodeFailed node) = false
is_own (lines.NodeFull node) = false
is_own (lines.NodeRebuilt node log) = false
is_own (lines.NodeReplaced node log other count) = false
is_own (lines.NodeRefusedSwapLimit node) = false
is_own (lines.NodeRefusedRegister node) = false
is_own (lines.NodeRefusedGenLimit node) = false
is_own (lines.Set log r extras set) = false
is_own (lines.Message message from to kind number) = false
is_own lines.Nothing = false
is_own _ = true

abbrev pub own_lines : List Line → List Line
own_lines ls = filter is_own ls

-- ---- what may be lost ----

-- since then a call of the nodes failed, or a node was found to have ended; the counts of both before and now
abbrev pub IsBroken : ℕ → ℕ → ℕ → ℕ → Type 0
IsBroken faults faults_now endings endings_now = Rose faults faults_now ⊎ Rose endings endings_now

-- neither count has fallen
abbrev pub AreLater : ℕ → ℕ → ℕ → ℕ → Type 0
AreLater faults faults_now endings endings_now = (faults ≤ faults_now) × (endings ≤ endings_now)

-- the counts of the nodes before and now: how often a call of them failed, and how often one was found to have ended
pub record CallCounts : Type 0 where
  pub faults : ℕ
  pub faults_now : ℕ
  pub endings : ℕ
  pub endings_now : ℕ

abbrev pub counted : ℕ → ℕ → ℕ → ℕ → CallCounts
counted faults faults_now endings endings_now = record { faults = faults; faults_now = faults_now; endings = endings; endings_now = endings_now }

-- by these counts a call of the nodes failed, or a node was found to have ended
abbrev pub HasBroken : CallCounts → Type 0
HasBroken k = IsBroken k.faults k.faults_now k.endings k.endings_now

-- a message to a node is lost only where that is broken, and an answer only where the actor doesn't take it
abbrev pub MayLose : Type 0 → (Msg → Bool) → Option Msg → Type 0
MayLose broken takes None = ⊥
MayLose broken takes (Some m) = ((is_answer m ≡ false) × broken) ⊎ ((is_answer m ≡ true) × (takes m ≡ false))

-- an answer is delivered only where the actor takes it
abbrev pub MayDeliver : (Msg → Bool) → Option Msg → Type 0
MayDeliver takes None = ⊥
MayDeliver takes (Some m) = (is_answer m ≡ false) ⊎ (takes m ≡ true)

-- ---- steps ----

-- the actor that is driven: what it is called, whether it takes a message in a state, and the log whose closed epochs it tells nodes of, where it does: what that does at a node is a tick
pub record Driver : Type 0 where
  pub name : List ℕ
  pub takes : State → Msg → Bool
  pub ticks : Option ℕ

-- in this state the event is one of its drive
abbrev pub IsDriven : Driver → Type 0 → State → Event → Type 0
IsDriven who broken s (events.Activate n l) = n ≡ who.name
IsDriven who broken s (events.Append n payload) = n ≡ who.name
IsDriven who broken s (events.Trim n point) = n ≡ who.name
IsDriven who broken s (events.Retry n) = n ≡ who.name
IsDriven who broken s (events.Open n l from until) = n ≡ who.name
IsDriven who broken s (events.OpenOne n l from until) = n ≡ who.name
IsDriven who broken s (events.OpenMessages n l from until) = n ≡ who.name
IsDriven who broken s (events.Poll n) = n ≡ who.name
IsDriven who broken s (events.Tick n l) = who.ticks ≡ Some l
IsDriven who broken s (events.Deliver i) = MayDeliver (who.takes s) (message s.network i)
IsDriven who broken s (events.Lose i) = MayLose broken (who.takes s) (message s.network i)
IsDriven who broken s _ = ⊥

-- one after the other
abbrev pub AreDriven : Driver → Type 0 → Config → State → List Event → Type 0
AreDriven who broken c s [] = Unit {0}
AreDriven who broken c s (e ∷ es) = IsDriven who broken s e × AreDriven who broken c (step c s e).state es

-- such events lead from the one state to the other, and those are the actor's lines of their steps
pub record Goes (who : Driver) (broken : Type 0) (P : State → List Event → Type 0) (c : Config) (s next : State) (ls : List Line) : Type 0 where
  pub steps : List Event
  pub driven : AreDriven who broken c s steps
  pub such : P s steps
  pub state : next ≡ state_after c s steps
  pub lines : ls ≡ own_lines (lines_of c s steps)

-- an actor's part of a state is told by neither the nodes nor the messages
abbrev pub IsApart : (Config → State → Type 0) → Type 0
IsApart stands = (c : Config) (s : State) (nodes : List (ℕ × Node)) (network : Network) → stands c s → stands c (record s { nodes = nodes; network = network })

-- the actor, the nodes and the messages that are new from the first place on are those of the state
pub record Holds (stands : Config → State → Type 0) (c : Config) (first : ℕ) (s : State) (far : Far) (queues : List (List Msg)) : Type 0 where
  pub sound : IsSound c s
  pub actor : stands c s
  pub nodes : s.nodes ≡ far.nodes
  pub count : length queues ≡ 17
  pub news : AreNews first s.network queues far.answers

-- such steps led to a state that holds, with these lines
pub record Moved (who : Driver) (broken : Type 0) (P : State → List Event → Type 0) (stands : Config → State → Type 0) (c : Config) (first : ℕ) (s : State) (far : Far) (queues : List (List Msg)) (ls : List Line) : Type 0 where
  pub state : State
  pub goes : Goes who broken P c s state ls
  pub holds : Holds stands c first state far queues

-- it went on by such steps to a state for which it stands, and wrote the actor's lines of the steps
pub record Went (who : Driver) (broken : Type 0) (P : State → List Event → Type 0) (stands : Config → State → Type 0) (tells : Far → Type 0) (c : Config) (first : ℕ) (s : State) (queues : List (List Msg)) (old new : Option (List ℕ)) : Type 0 where
  pub far : Far
  pub lines : List Line
  pub told : tells far
  pub moved : Moved who broken P stands c first s far queues lines
  pub written : Appends old new (text lines)

-- it went on by such steps to a state, and wrote the actor's lines of the steps, the last ones in part
pub record Stopped (who : Driver) (broken : Type 0) (P : State → List Event → Type 0) (c : Config) (s : State) (old new : Option (List ℕ)) : Type 0 where
  pub state : State
  pub lines : List Line
  pub goes : Goes who broken P c s state lines
  pub written : AppendsPart old new (text lines)

-- when out of memory and where the output failed it is the first; nodes that are told of answer only frames of messages
abbrev pub CutOr : Type 0 → Type 0 → Ended → Type 0
CutOr cut whole ends.NoMemory = cut
CutOr cut whole ends.Write = cut
CutOr cut whole (ends.BadFrame fault) = ⊥
CutOr cut whole _ = whole

-- how it went where the drive ends: when out of memory and where the output failed the last step may have been done in part
abbrev pub Stops : Driver → Type 0 → (Ended → State → List Event → Type 0) → (Config → State → Type 0) → (Far → Type 0) → Config → ℕ → State → List (List Msg) → Option (List ℕ) → Option (List ℕ) → Ended → Type 0
Stops who broken E stands tells c first s queues old new ended = CutOr (Stopped who broken (E ended) c s old new) (Went who broken (E ended) stands tells c first s queues old new) ended

-- where it goes on by such steps, and where the drive ends by others
abbrev pub GoesOn : {T : Type 0} → Driver → Type 0 → (State → List Event → Type 0) → (Ended → State → List Event → Type 0) → (Config → State → Type 0) → (Far → Type 0) → Config → ℕ → State → List (List Msg) → Option (List ℕ) → Option (List ℕ) → Result T Ended → Type 0
GoesOn who broken P E stands tells c first s queues old new (Ok _) = Went who broken P stands tells c first s queues old new
GoesOn who broken P E stands tells c first s queues old new (Err ended) = Stops who broken E stands tells c first s queues old new ended

-- it went on so, by a number of rounds from the one number on and below the other
pub record Turned (low high : ℕ) (went : ℕ → Type 0) : Type 0 where
  pub rounds : ℕ
  pub least : low ≤ rounds
  pub below : rounds < high
  pub goes : went rounds

-- all rounds were taken; or it is done after one of them; or it ends in the one after so many
abbrev pub TookRounds : ℕ → (ℕ → Type 0) → (ℕ → Type 0) → (Ended → ℕ → Type 0) → Result Bool Ended → Type 0
TookRounds rounds all some part (Ok false) = all rounds
TookRounds rounds all some part (Ok true) = Turned 1 (rounds + 1) some
TookRounds rounds all some part (Err ended) = Turned 0 rounds (part ended)

-- all of them are nodes of the configuration
abbrev pub AreOfConfig : Config → List ℕ → Type 0
AreOfConfig c ys = AllByRecursion (λ y. has_node c y ≡ true) ys

-- the nodes are told of, and no answer is to be taken
abbrev pub AllTaken : (Far → Type 0) → Far → Type 0
AllTaken tells far = tells far × (far.answers ≡ [])

-- so, and this one is present
abbrev pub WithNode : (Config → Far → Type 0) → Config → ℕ → Far → Type 0
WithNode tells c y far = AllTaken (tells c) far × (far.present ≡ Some y)

-- the nodes are told of, this one is present, and so many answers at most are to be taken, all of it
abbrev pub Answering : (Config → Far → Type 0) → Config → ℕ → ℕ → Far → Type 0
Answering tells c y n far = tells c far × (far.present ≡ Some y) × AnswersOf y n far.answers
