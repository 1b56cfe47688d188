-- Serving one peer after the other, by the calls of the link, which every link tells: what was read of each peer, and what was written to it before the next read.
use Rattle.std.specs.Prelude.{◌≡◌, ◌⊎◌, ◌+◌, ◌<◌, ◌++◌, ℕ, List, [], ◌∷◌, Bool, true, false, Option, None, Some}
use Rattle.std.specs.declared.result.Result.{Result}
use Rattle.std.specs.declared.result.Result.TheVariants.{Ok, Err}
use Rattle.ld_msg.specs.declared.msg.Msg.{Msg}
use Rattle.ld_msg.specs.Bounds.{IsMessage}
use Rattle.ld_past.specs.Events.{Event}
use Rattle.ld_link.specs.Calls.{came, nobody}
use Rattle.ld_wire.specs.Frames.{frame_of}
use Rattle.ld_wire.specs.Streams.{frames_of, AreMessages}
use Rattle.ld_framed.specs.Reads.{ReadsWaiting, ReadsToEnd}
use Rattle.ld_framed.specs.Writes.{Writes, WritesPart}
use Rattle.ld_disk.specs.declared.disk.Disk.{Ghosts}
use Rattle.ld_layout.specs.Layout.{Layout}
use Rattle.ld_node.specs.Known.{Known}
use Rattle.ld_node.specs.Msgs.{released_after}
use Rattle.ld_node.specs.ByIndex.{DoesByIndex}
use Rattle.ld_node.specs.declared.node.Node.{Node}
use Rattle.ld_node.specs.Node.{layout_of, released_of}
use Rattle.ld_serve.specs.declared.stop.Stop.{Stop}
use Rattle.ld_serve.specs.declared.stop.Stop.TheVariants.{Disk}
use Rattle.ld_serve.specs.Course.{Cut, Idle, Unread, Refused, Unsent}
use Rattle.ld_serve.specs.Serving.{State, after, answers, IsCut}
use Rattle.ld_serve.specs.Stops.{IsLinkStop, IsUnread, IsNodeStop, IsUnsent}
use Rattle.ld_serve.specs.Talking.{Given}

-- the calls since the first ones, in their order: the frames that were taken, each with the answers that were given to it; the calls now; what is held of the present peer, none where no peer is there; and how
-- many turns that took
pub data Serves (old : List Event) : List Given → List Event → Option (List ℕ) → ℕ → Type 0 where
  -- no call was made
  begins : Serves old [] old None 0
  -- the next peer came
  comes : (taken : List Given) (did : List Event) (turns : ℕ) → Serves old taken did None turns → Serves old taken (came ∷ did) (Some []) turns
  -- a frame was read, and the frames of its answers were written
  takes : (taken : List Given) (did mid new : List Event) (held rest : List ℕ) (message : Msg) (given : List Msg) (turns : ℕ) → Serves old taken did (Some held) turns
      → ReadsWaiting did held mid (frame_of message ++ rest) → IsMessage message → Writes mid new (frames_of given) → AreMessages given
      → Serves old (taken ++ (message, given) ∷ []) new (Some rest) (turns + 1)
  -- the peer was read to its end, and less than a frame was left
  ends : (taken : List Given) (did new : List Event) (held rest : List ℕ) (turns : ℕ) → Serves old taken did (Some held) turns → ReadsToEnd did new held rest → Serves old taken new None (turns + 1)

-- ---- how it ended ----

-- so many turns were taken
pub record AllTaken (old new : List Event) (taken : List Given) (turns : ℕ) : Type 0 where
  pub held : Option (List ℕ)
  pub calls : Serves old taken new held turns

-- fewer were, as the last peer had ended and there was no next one
pub record NoNext (old new : List Event) (taken : List Given) (turns : ℕ) : Type 0 where
  pub did : List Event
  pub count : ℕ
  pub calls : Serves old taken did None count
  pub few : count < turns
  pub none : new ≡ nobody ∷ did

abbrev pub Ends : List Event → List Event → List Given → ℕ → Type 0
Ends old new taken turns = AllTaken old new taken turns ⊎ NoNext old new taken turns

-- where it stopped
pub data Halt : Type 0 where
  -- between two peers
  Between : Halt
  -- with these bytes of a peer, of which no frame was taken
  Reading : (held : List ℕ) → Halt
  -- at a frame of this message, which the node refused
  Refusing : (message : Msg) → Halt
  -- at one whose answers weren't written to their end
  Answering : (message : Msg) (given : List Msg) → Halt

-- the calls behind the last whole turn, and why it stopped then
pub data Stops (stop : Stop) (did : List Event) : List Event → Option (List ℕ) → Halt → Type 0 where
  between : IsLinkStop stop → Stops stop did did None Between
  reading : (new : List Event) (before held : List ℕ) → ReadsWaiting did before new held → IsUnread held stop → Stops stop did new (Some before) (Reading held)
  refusing : (new : List Event) (before rest : List ℕ) (message : Msg) → ReadsWaiting did before new (frame_of message ++ rest) → IsMessage message → IsNodeStop ⊥ stop
      → Stops stop did new (Some before) (Refusing message)
  answering : (mid new : List Event) (before rest : List ℕ) (message : Msg) (given : List Msg) → ReadsWaiting did before mid (frame_of message ++ rest) → IsMessage message
      → WritesPart mid new (frames_of given) → AreMessages given → IsUnsent stop → Stops stop did new (Some before) (Answering message given)

-- fewer turns were taken, and then it stopped
pub record EndsAt (stop : Stop) (halt : Halt) (old new : List Event) (taken : List Given) (turns : ℕ) : Type 0 where
  pub did : List Event
  pub held : Option (List ℕ)
  pub count : ℕ
  pub calls : Serves old taken did held count
  pub few : count < turns
  pub last : Stops stop did new held halt

-- ---- the frames as steps of the node ----

-- each message is one step, and its answers are those of the step
module _ {S : Type 0} (after : S → Msg → S) (answers : S → Msg → List Msg) where
  abbrev pub AreSteps : S → List Given → S → Type 0
  AreSteps s [] now = now ≡ s
  AreSteps s (t ∷ ts) now = (t.1 ≡ answers s t.0) × AreSteps (after s t.0) ts now

-- ---- the frames by what the node has in memory, over any disk ----

-- how its journal lies, with the index, and the released numbers
pub record Memory : Type 0 where
  pub layout : Layout
  pub released : List (ℕ × ℕ)

module _ {D : Type 0} {g : Ghosts D} where
  abbrev pub memory_of : Node D g → Memory
  memory_of node = record { layout = layout_of node; released = released_of node }

module _ (id : ℕ) (known : Known) where
  -- whatever bytes the disk gave, a message was answered by the index, but for the bytes of payloads, and the index is then as after that step
  pub record IsIndexStep (before : Memory) (t : Given) (now : Memory) : Type 0 where
    pub done : DoesByIndex id known before.released t.0 t.1 before.layout now.layout
    pub released : now.released ≡ released_after id known before.released t.0

  abbrev pub AreIndexSteps : Memory → List Given → Memory → Type 0
  AreIndexSteps before [] now = now ≡ before
  AreIndexSteps before (t ∷ ts) now = (next : Memory) × IsIndexStep before t next × AreIndexSteps next ts now

  -- where it stopped, behind the last whole turn
  abbrev pub HaltsInMemory : Memory → Halt → Memory → Type 0
  HaltsInMemory before Between now = now ≡ before
  HaltsInMemory before (Reading held) now = now ≡ before
  HaltsInMemory before (Refusing m) now = now ≡ before
  HaltsInMemory before (Answering m given) now = IsIndexStep before (m, given) now

  -- the state in which it stopped, behind the last whole turn
  abbrev pub state_at : State → Halt → State
  state_at s Between = s
  state_at s (Reading held) = s
  state_at s (Refusing m) = s
  state_at s (Answering m given) = after id known s m

  abbrev pub cut_at : State → Halt → Cut State
  cut_at s Between = Idle s
  cut_at s (Reading held) = Unread held s
  cut_at s (Refusing m) = Refused s m
  cut_at s (Answering m given) = Unsent (after id known s m)

  abbrev pub AreItsAnswers : State → Halt → Type 0
  AreItsAnswers s (Answering m given) = given ≡ answers id known s m
  AreItsAnswers s halt = Unit {0}

  -- why it stopped there, and what may be left of its disk then
  pub record IsCutAt (left : List ℕ → Type 0) (stop : Stop) (s : State) (halt : Halt) : Type 0 where
    pub its : AreItsAnswers s halt
    pub cut : IsCut id known left stop (cut_at s halt)

  -- ---- the whole ----

  -- where the store holds what the disk tells, each frame that was taken is one step of the node
  pub record IsTold (Held : Type 0) (old new : List Event) (first last : State) (before now : Memory) (turns : ℕ) : Type 0 where
    pub taken : List Given
    pub ends : Ends old new taken turns
    pub by_index : AreIndexSteps before taken now
    pub steps : Held → AreSteps (after id known) (answers id known) first taken last

  -- the same of those before it stopped; the node is in the state that was reached, unless its disk failed
  pub record IsToldUntil (Held : Type 0) (left : List ℕ → Type 0) (old new : List Event) (first now : State) (begun ended : Memory) (turns : ℕ) (stop : Stop) : Type 0 where
    pub taken : List Given
    pub halt : Halt
    pub ends : EndsAt stop halt old new taken turns
    pub by_index : (middle : Memory) × AreIndexSteps begun taken middle × HaltsInMemory middle halt ended
    pub exact : Held → (last : State) × AreSteps (after id known) (answers id known) first taken last × IsCutAt left stop last halt × ((stop ≡ Disk) ⊎ (state_at last halt ≡ now))

  -- ---- one turn ----

  -- a frame of the present peer was taken, and answered
  pub record TakesFrame (Held : Type 0) (did new : List Event) (held rest : List ℕ) (s next : State) (before now : Memory) : Type 0 where
    pub mid : List Event
    pub message : Msg
    pub given : List Msg
    pub reads : ReadsWaiting did held mid (frame_of message ++ rest)
    pub is : IsMessage message
    pub writes : Writes mid new (frames_of given)
    pub are : AreMessages given
    pub by_index : IsIndexStep before (message, given) now
    pub step : Held → (given ≡ answers id known s message) × (next ≡ after id known s message)

  -- it ended
  pub record TakesEnd (Held : Type 0) (did new : List Event) (held : List ℕ) (s next : State) (before now : Memory) : Type 0 where
    pub rest : List ℕ
    pub reads : ReadsToEnd did new held rest
    pub stays : now ≡ before
    pub same : Held → next ≡ s

  -- it stopped
  pub record BreaksOff (Held : Type 0) (left : List ℕ → Type 0) (did new : List Event) (held : List ℕ) (s now : State) (begun ended : Memory) (stop : Stop) : Type 0 where
    pub halt : Halt
    pub last : Stops stop did new (Some held) halt
    pub by_index : HaltsInMemory begun halt ended
    pub exact : Held → IsCutAt left stop s halt × ((stop ≡ Disk) ⊎ (state_at s halt ≡ now))

  abbrev pub TellsTurn : Type 0 → (List ℕ → Type 0) → List Event → List Event → List ℕ → List ℕ → State → State → Memory → Memory → Result Bool Stop → Type 0
  TellsTurn Held left did new held rest s next before now (Ok true) = TakesFrame Held did new held rest s next before now
  TellsTurn Held left did new held rest s next before now (Ok false) = TakesEnd Held did new held s next before now
  TellsTurn Held left did new held rest s next before now (Err stop) = BreaksOff Held left did new held s next before now stop

-- what is held of the present peer, where one is there
abbrev pub held_of : Bool → List ℕ → Option (List ℕ)
held_of true held = Some held
held_of false held = None

-- the next peer is there, or there was none, or the link failed
abbrev pub TellsMeeting : List Event → List Given → ℕ → List Event → List ℕ → Result Bool Stop → Type 0
TellsMeeting old taken turns new held (Ok true) = Serves old taken new (Some held) turns
TellsMeeting old taken turns new held (Ok false) = (did : List Event) × Serves old taken did None turns × (new ≡ nobody ∷ did)
TellsMeeting old taken turns new held (Err stop) = Serves old taken new None turns
