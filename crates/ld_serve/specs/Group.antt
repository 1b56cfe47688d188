-- Frames of peers that are taken together: each is staged, and they are answered once all are durable.
use Rattle.std.specs.Prelude.{◌≡◌, ◌≢◌, ◌⊎◌, ◌++◌, ℕ, List, [], ◌∷◌, take, Option, None, Some}
use Rattle.std.specs.Option.{unwrap_or}
use Rattle.ld_msg.specs.declared.msg.Msg.{Msg}
use Rattle.ld_msg.specs.Bounds.{IsMessage}
use Rattle.ld_past.specs.Events.{Event}
use Rattle.ld_op.specs.Plain.{Plain}
use Rattle.ld_wire.specs.Frames.{frame_of}
use Rattle.ld_wire.specs.Streams.{frames_of, AreMessages}
use Rattle.ld_crowd.specs.Calls.{said}
use Rattle.ld_crowd.specs.Course.{Taken, after_taken}
use Rattle.ld_crowd.specs.Serving.{put, plain, AreSteps}
use Rattle.ld_layout.specs.Layout.{Layout}
use Rattle.ld_store.specs.Ops.{StandsFor, StandsForEither}
use Rattle.ld_node.specs.Known.{Known}
use Rattle.ld_node.specs.Changes.{IsPast}
use Rattle.ld_serve.specs.declared.stop.Stop.{Stop}
use Rattle.ld_serve.specs.declared.stop.Stop.TheVariants.{NoMemory, Disk, Full}
use Rattle.ld_serve.specs.declared.stop.Which.TheVariants.{Store}
use Rattle.ld_serve.specs.declared.group.Answer.{Answer}
use Rattle.ld_serve.specs.declared.group.Ending.{Ending}
use Rattle.ld_serve.specs.declared.group.Ending.TheVariants as ends
use Rattle.ld_serve.specs.Serving.{State, after, answers, done}
use Rattle.ld_serve.specs.Stops.{IsNodeStop}
use Rattle.ld_serve.specs.Talking.{Given, AreGiven, BeginsNone}
use Rattle.ld_serve.specs.Told.{Memory, IsIndexStep}
use Rattle.ld_serve.specs.Crowd.{IsBehindSome, AreTaken}

-- the answers that wait: to whom, and their bytes
abbrev pub waiting_in : List Answer → List (ℕ × List ℕ)
waiting_in [] = []
waiting_in (a ∷ more) = (a.peer, a.bytes.items) ∷ waiting_in more

-- those to frames that were taken
abbrev pub answers_to : List (Taken Given) → List (ℕ × List ℕ)
answers_to [] = []
answers_to (w ∷ ws) = (w.0, frames_of w.1.1) ∷ answers_to ws

-- they were said, in order
abbrev pub told : List (ℕ × List ℕ) → List Event → List Event
told [] did = did
told (a ∷ more) did = told more (said a.0 a.1 ∷ did)

-- what was held before these frames were taken, where this is held then
abbrev pub before : List (Taken Msg) → (ℕ → Option (List ℕ)) → ℕ → Option (List ℕ)
before [] later = later
before (t ∷ ts) later = put t.0 (Some (frame_of t.1 ++ unwrap_or (before ts later t.0) [])) (before ts later)

-- a message of this peer was staged, and its answers wait behind the others, of which this is so over any disk; what a crash leaves stands for what it stood for, or for the state before the message
pub record Stages (after : State → Msg → State) (answers : State → Msg → List Msg) (waiting waiting_now : List (ℕ × List ℕ)) (peer : ℕ) (m : Msg) (s next : State) (By : List Msg → Type 0) (Stood Stands : Plain → Type 0) : Type 0 where
  pub given : List Msg
  pub are : AreMessages given
  pub by_index : By given
  pub waits : waiting_now ≡ waiting ++ (peer, frames_of given) ∷ []
  pub step : (p : Plain) → Stood p → (given ≡ answers s m) × (next ≡ after s m)
  pub stands : (p : Plain) → Stood p → (q : Plain) × ((q ≡ p) ⊎ (q ≡ s.plain)) × Stands q

-- one was refused, or there is no memory for its answers, when it is staged
pub record IsKeptOut (id : ℕ) (known : Known) (layout : Layout) (m : Msg) (s next : State) (memory memory_now : Memory) (Stood Stands : Plain → Type 0) (stop : Stop) : Type 0 where
  pub cause : IsNodeStop ((p : Plain) × Stood p) stop
  pub other : stop ≢ Disk
  pub stays : memory_now ≡ memory
  pub step : (p : Plain) → Stood p → next ≡ s
  pub stands : (p : Plain) → Stood p → (q : Plain) × ((q ≡ p) ⊎ (q ≡ s.plain)) × Stands q
  pub past : stop ≡ Full Store → (p : Plain) → Stood p → IsPast layout (done id known s m).op

pub record IsUnanswered (id : ℕ) (known : Known) (m : Msg) (s next : State) (Stood Stands : Plain → Type 0) (stop : Stop) : Type 0 where
  pub cause : stop ≡ NoMemory
  pub step : (p : Plain) → Stood p → next ≡ after id known s m
  pub stands : (p : Plain) → Stood p → (q : Plain) × ((q ≡ p) ⊎ (q ≡ s.plain)) × Stands q

-- ---- one frame ----

module _ (id : ℕ) (known : Known) (waiting waiting_now : List (ℕ × List ℕ)) (now later : ℕ → Option (List ℕ)) (s next : State) (memory memory_now : Memory) (layout : Layout) (Stood Stands : Plain → Type 0) where
  -- nothing was staged
  pub record IsUnmoved : Type 0 where
    pub waits : waiting_now ≡ waiting
    pub stays : memory_now ≡ memory
    pub step : (p : Plain) → Stood p → next ≡ s
    pub stands : (p : Plain) → Stood p → Stands p

  -- a frame was taken of what was held, and staged, and its answers wait; this is held then
  pub record IsTaken (held : ℕ → Option (List ℕ)) : Type 0 where
    pub peer : ℕ
    pub message : Msg
    pub rest : List ℕ
    pub others : ℕ → Option (List ℕ)
    pub is : IsMessage message
    pub now_is : (q : ℕ) → now q ≡ put peer (Some (frame_of message ++ rest)) others q
    pub stages : Stages (after id known) (answers id known) waiting waiting_now peer message s next (λ given. IsIndexStep id known memory (message, given) memory_now) Stood Stands
    pub held_is : (q : ℕ) → held q ≡ put peer (Some rest) others q

  -- one was taken, and refused, or its answers don't wait
  pub record IsTakenOnly (stop : Stop) : Type 0 where
    pub peer : ℕ
    pub message : Msg
    pub rest : List ℕ
    pub others : ℕ → Option (List ℕ)
    pub now_is : (q : ℕ) → now q ≡ put peer (Some (frame_of message ++ rest)) others q
    pub waits : waiting_now ≡ waiting
    pub why : IsKeptOut id known layout message s next memory memory_now Stood Stands stop ⊎ IsUnanswered id known message s next Stood Stands stop

  -- the bytes of a peer begin no frame
  pub record IsNoFrame (peer : ℕ) : Type 0 where
    pub bytes : List ℕ
    pub now_is : (q : ℕ) → now q ≡ put peer (Some bytes) later q
    pub gone : later peer ≡ None
    pub none : BeginsNone bytes
    pub unmoved : IsUnmoved

  abbrev pub Tries : Ending → Type 0
  Tries ends.More = IsTaken later ⊎ (IsUnmoved × ((q : ℕ) → now q ≡ later q))
  Tries (ends.Off peer) = IsNoFrame peer
  Tries (ends.Stops stop) = IsTakenOnly stop ⊎ ((stop ≡ NoMemory) × (((held : ℕ → Option (List ℕ)) × IsTaken held) ⊎ IsUnmoved))

-- ---- a whole group ----

-- where all that was taken is answered, the node has this in memory
abbrev pub IfAnswered : List (Taken Msg) → Memory → Memory → Type 0
IfAnswered [] last now = now ≡ last
IfAnswered (u ∷ us) last now = Unit {0}

module _ (id : ℕ) (known : Known) (Held : Type 0) where
  -- frames were taken and staged, and the answers wait to all but the last ones; what a crash leaves stands for the state before them or behind some of them
  pub record Gathers (waiting : List (ℕ × List ℕ)) (now later : ℕ → Option (List ℕ)) (s next : State) (memory memory_now : Memory) (Stands : Plain → Type 0) (unanswered : List (Taken Msg)) : Type 0 where
    pub answered : List (Taken Given)
    pub are : AreGiven answered
    pub last : Memory
    pub by_index : AreTaken id known memory last answered
    pub here : IfAnswered unanswered last memory_now
    pub waits : waiting ≡ answers_to answered
    pub held : (q : ℕ) → now q ≡ before (plain answered ++ unanswered) later q
    pub steps : Held → AreSteps (after id known) (answers id known) s answered (after_taken (after id known) s (plain answered))
    pub state : Held → next ≡ after_taken (after id known) s (plain answered ++ unanswered)
    pub stands : Held → IsBehindSome (after id known) s (plain answered ++ unanswered) Stands

  -- the disk failed
  pub record IsLost (now : ℕ → Option (List ℕ)) (s : State) (left : List ℕ → Type 0) : Type 0 where
    pub group : List (Taken Msg)
    pub later : ℕ → Option (List ℕ)
    pub held : (q : ℕ) → now q ≡ before group later q
    pub leaves : Held → (bytes : List ℕ) → left bytes → IsBehindSome (after id known) s group (λ p. StandsFor p bytes)

  -- the node refused a frame of a message
  pub record IsRefusal (layout : Layout) (later : ℕ → Option (List ℕ)) (next : State) (stop : Stop) : Type 0 where
    pub peer : ℕ
    pub message : Msg
    pub rest : List ℕ
    pub there : later peer ≡ Some (frame_of message ++ rest)
    pub cause : IsNodeStop Held stop
    pub other : stop ≢ Disk
    pub past : stop ≡ Full Store → Held → IsPast layout (done id known next message).op

  abbrev pub IsShort : Layout → (ℕ → Option (List ℕ)) → State → List (Taken Msg) → Stop → Type 0
  IsShort layout later next unanswered stop = (stop ≡ NoMemory) ⊎ ((unanswered ≡ []) × IsRefusal layout later next stop)

  -- why no further frame is taken
  module _ (waiting : List (ℕ × List ℕ)) (now here : ℕ → Option (List ℕ)) (s next : State) (memory memory_now : Memory) (layout : Layout) (Stands : Plain → Type 0) where
    pub record IsOff (peer : ℕ) : Type 0 where
      pub bytes : List ℕ
      pub gathers : Gathers waiting now (put peer (Some bytes) here) s next memory memory_now Stands []
      pub gone : here peer ≡ None
      pub none : BeginsNone bytes

    pub record IsStop (stop : Stop) : Type 0 where
      pub later : ℕ → Option (List ℕ)
      pub unanswered : List (Taken Msg)
      pub gathers : Gathers waiting now later s next memory memory_now Stands unanswered
      pub short : IsShort layout later next unanswered stop

    abbrev pub Ends : Ending → Type 0
    Ends ends.More = Gathers waiting now here s next memory memory_now Stands []
    Ends (ends.Off peer) = IsOff peer
    Ends (ends.Stops stop) = IsStop stop

-- how many turns it takes beside its frames
abbrev pub turns_off : Ending → ℕ
turns_off ends.More = 0
turns_off (ends.Off peer) = 1
turns_off (ends.Stops stop) = 0

-- a group was not made durable; or its answers were not all said
pub record IsUncommitted (did new : List Event) (s : State) (Stood : Plain → Type 0) (left : List ℕ → Type 0) (stop : Stop) : Type 0 where
  pub cause : (stop ≡ Disk) ⊎ (stop ≡ NoMemory)
  pub did_is : new ≡ did
  pub leaves : (p : Plain) → Stood p → (bytes : List ℕ) → left bytes → StandsForEither p s.plain bytes

pub record IsUnsaid (waiting : List (ℕ × List ℕ)) (did new : List Event) (s next : State) (Stood : Plain → Type 0) (left : List ℕ → Type 0) (stop : Stop) : Type 0 where
  pub cause : stop ≡ NoMemory
  pub count : ℕ
  pub did_is : new ≡ told (take count waiting) did
  pub same : (p : Plain) → Stood p → next ≡ s
  pub leaves : (p : Plain) → Stood p → (bytes : List ℕ) → left bytes → StandsFor s.plain bytes

abbrev pub IsUnsettled : List (ℕ × List ℕ) → List Event → List Event → State → State → (Plain → Type 0) → (List ℕ → Type 0) → Stop → Type 0
IsUnsettled waiting did new s next Stood left stop = IsUncommitted did new s Stood left stop ⊎ IsUnsaid waiting did new s next Stood left stop
