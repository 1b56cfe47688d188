-- A node that serves a crowd: each frame of a peer is a step, and where it stops.
use Rattle.std.specs.Prelude.{◌≡◌, ◌≤◌, ◌+◌, ◌⊎◌, ◌++◌, ⊤, ℕ, List, [], ◌∷◌, true, Option}
use Rattle.ld_msg.specs.declared.msg.Msg.{Msg}
use Rattle.ld_past.specs.Events.{Event}
use Rattle.ld_wire.specs.Frames.{frame_of}
use Rattle.ld_wire.specs.Streams.{frames_of, AreMessages}
use Rattle.ld_crowd.specs.Calls.{read_of, said_to, is_ended, is_finished, is_dismissed}
use Rattle.ld_crowd.specs.Course.{Taken, of, frames, after_taken, messages_of, IsTalk}
use Rattle.ld_crowd.specs.Serving.{AreTurns, AreSteps, turns_of}
use Rattle.ld_op.specs.Plain.{Plain}
use Rattle.ld_store.specs.Ops.{StandsFor, StandsForEither}
use Rattle.ld_node.specs.Known.{Known}
use Rattle.ld_serve.specs.declared.stop.Stop.{Stop}
use Rattle.ld_serve.specs.declared.stop.Stop.TheVariants.{NoMemory, Link, Disk, Full, Damaged}
use Rattle.ld_serve.specs.declared.stop.Which.TheVariants as journals
use Rattle.ld_serve.specs.Serving.{State, after, answers, done, PastLimit}
use Rattle.ld_serve.specs.Stops.{IsNodeStop}
use Rattle.ld_serve.specs.Talking.{Given, AreGiven, IsLess, BeginsNone, AreServed, IsServing, IsBetweenStop}
use Rattle.ld_serve.specs.Told.{Memory, AreIndexSteps}

-- while it serves a crowd it stops for want of memory, or with the disk, the crowd or a store that is full; or with a payload that is missing, where its store doesn't hold what its disk has
abbrev pub IsCrowdStop : Type 0 → Stop → Type 0
IsCrowdStop Held NoMemory = Unit {0}
IsCrowdStop Held Disk = Unit {0}
IsCrowdStop Held Link = Unit {0}
IsCrowdStop Held (Full journals.Store) = Unit {0}
IsCrowdStop Held (Damaged journals.Store place) = Held → ⊥
IsCrowdStop Held _ = ⊥

-- this is so of the plain state before these frames, behind some of them, or behind all
pub record IsBehindSome (after : State → Msg → State) (s : State) (group : List (Taken Msg)) (Is : Plain → Type 0) : Type 0 where
  pub front : List (Taken Msg)
  pub back : List (Taken Msg)
  pub group_is : group ≡ front ++ back
  pub is : Is (after_taken after s front).plain

-- why a message was not handled to its end, and what may be left of the disk then: the node refused it, when it is in the state before unless its disk failed; or its answers weren't said for want of
-- memory, when it is in the state behind it
pub record IsRefusedStep (id : ℕ) (known : Known) (left : List ℕ → Type 0) (s now : State) (m : Msg) (stop : Stop) : Type 0 where
  pub cause : IsNodeStop ⊤ stop
  pub at_is : (stop ≡ Disk) ⊎ (s ≡ now)
  pub leaves : (bytes : List ℕ) → left bytes → StandsForEither s.plain (after id known s m).plain bytes
  pub past : stop ≡ Full journals.Store → PastLimit left s.plain (done id known s m).op

pub record IsUnsaidStep (id : ℕ) (known : Known) (left : List ℕ → Type 0) (s now : State) (m : Msg) (stop : Stop) : Type 0 where
  pub cause : stop ≡ NoMemory
  pub at_is : now ≡ after id known s m
  pub leaves : (bytes : List ℕ) → left bytes → StandsFor (after id known s m).plain bytes

-- a frame of this message is the first of what is held of this peer
pub record IsNextOf (did : List Event) (ts : List (Taken Given)) (peer : ℕ) (m : Msg) : Type 0 where
  pub rest : List ℕ
  pub got_is : read_of peer did ≡ frames (λ (e : Given). frame_of e.0) (of peer ts) ++ (frame_of m ++ rest)

-- frames of these messages are the first of what is held of this peer
pub record AreNextOf (did : List Event) (ts : List (Taken Given)) (group : List (Taken Msg)) (peer : ℕ) : Type 0 where
  pub rest : List ℕ
  pub got_is : read_of peer did ≡ frames (λ (e : Given). frame_of e.0) (of peer ts) ++ (frames frame_of (of peer group) ++ rest)

-- where it stopped: between two frames; at a frame that was taken, which was refused or whose answers weren't said; or at frames that were taken together, of which none was answered
pub data Break : Type 0 where
  Between : Break
  At : (peer : ℕ) (message : Msg) → Break
  Among : (group : List (Taken Msg)) → Break

abbrev pub IsNext : List Event → List (Taken Given) → Break → Type 0
IsNext did ts Between = Unit {0}
IsNext did ts (At peer m) = IsNextOf did ts peer m
IsNext did ts (Among group) = (peer : ℕ) → AreNextOf did ts group peer

-- why frames that were taken together weren't answered, and what may be left of the disk then: the disk failed, or there was no memory to make them durable, when it stands for the state before them or behind
-- some of them; or there was none for the answers, when it stands for the state behind all
pub record IsLostGroup (id : ℕ) (known : Known) (left : List ℕ → Type 0) (s : State) (group : List (Taken Msg)) (stop : Stop) : Type 0 where
  pub cause : (stop ≡ Disk) ⊎ (stop ≡ NoMemory)
  pub leaves : (bytes : List ℕ) → left bytes → IsBehindSome (after id known) s group (λ p. StandsFor p bytes)

pub record IsUnsaidGroup (id : ℕ) (known : Known) (left : List ℕ → Type 0) (s now : State) (group : List (Taken Msg)) (stop : Stop) : Type 0 where
  pub cause : stop ≡ NoMemory
  pub at_is : now ≡ after_taken (after id known) s group
  pub leaves : (bytes : List ℕ) → left bytes → StandsFor (after_taken (after id known) s group).plain bytes

-- why, and what may be left of the disk then; the node is in the state `now`, and the frames that were answered led to `last`
module _ (id : ℕ) (known : Known) (left : List ℕ → Type 0) (stop : Stop) where
  abbrev pub IsBreak : State → State → Break → Type 0
  IsBreak last now Between = IsBetweenStop stop × (now ≡ last) × ((bytes : List ℕ) → left bytes → StandsFor last.plain bytes)
  IsBreak last now (At peer m) = IsRefusedStep id known left last now m stop ⊎ IsUnsaidStep id known left last now m stop
  IsBreak last now (Among group) = IsLostGroup id known left last group stop ⊎ IsUnsaidGroup id known left last now group stop

-- ---- over any disk ----

-- the messages that were taken with the answers that were given, whoever sent them
abbrev pub givens : List (Taken Given) → List Given
givens [] = []
givens (t ∷ ts) = t.1 ∷ givens ts

-- whatever bytes the disk gave, each was answered by the index, but for the bytes of payloads, and the index is then as after these steps
abbrev pub AreTaken : ℕ → Known → Memory → Memory → List (Taken Given) → Type 0
AreTaken id known before now ts = AreIndexSteps id known before (givens ts) now

pub record AreTakenOn (id : ℕ) (known : Known) (before : Memory) (ts : List (Taken Given)) : Type 0 where
  pub last : Memory
  pub steps : AreTaken id known before last ts

-- ---- one call ----

-- a call that went on: the frames that it took with their answers, what is held then, how many turns it took, what is so of them over any disk, and each frame as a step where the store holds what the disk tells
pub record Advances (after : State → Msg → State) (answers : State → Msg → List Msg) (Held : Type 0) (did new : List Event) (now then : ℕ → Option (List ℕ)) (s next : State) (By : List (Taken Given) → Type 0) (turns : ℕ) : Type 0 where
  pub more : List (Taken Given)
  pub are : AreGiven more
  pub by_index : By more
  pub serving : (ts : List (Taken Given)) → IsServing did ts now → IsServing new (ts ++ more) then
  pub turns_are : (ts : List (Taken Given)) → turns_of new (ts ++ more) ≡ turns_of did ts + turns
  pub steps : Held → (first : State) (ts : List (Taken Given)) → AreSteps after answers first ts s → AreSteps after answers first (ts ++ more) next

-- a call that stopped
pub record Halts (id : ℕ) (known : Known) (Held : Type 0) (left : List ℕ → Type 0) (did new : List Event) (now : ℕ → Option (List ℕ)) (s next : State) (before : Memory) (turns : ℕ) (stop : Stop) : Type 0 where
  pub more : List (Taken Given)
  pub are : AreGiven more
  pub by_index : AreTakenOn id known before more
  pub served : (ts : List (Taken Given)) → IsServing did ts now → AreServed new (ts ++ more)
  pub most : (ts : List (Taken Given)) → turns_of new (ts ++ more) ≤ turns_of did ts + turns
  pub break : Break
  pub at_is : (ts : List (Taken Given)) → IsServing did ts now → IsNext new (ts ++ more) break
  pub cut : Held → (last : State) × ((first : State) (ts : List (Taken Given)) → AreSteps (after id known) (answers id known) first ts s → AreSteps (after id known) (answers id known) first (ts ++ more) last) × IsBreak id known left stop last next break

-- ---- the whole ----

-- the frames that were taken, over all peers in order, with the answers that were given: of each peer what was read is its frames and then what is held of it, and what was said to it are the answers to its
-- frames; it was let go only at its end, when less than a frame was held of it, and dismissed only for bytes that begin no frame; over any disk, whatever bytes it gives, the answers are those of steps from
-- the index, but for the bytes of payloads
pub record IsHeardAll (id : ℕ) (known : Known) (before : Memory) (did : List Event) (turns : ℕ) : Type 0 where
  pub taken : List (Taken Given)
  pub are : AreGiven taken
  pub by_index : AreTakenOn id known before taken
  pub peers : AreServed did taken
  pub turns_are : AreTurns did taken turns

pub record IsHeardUntil (id : ℕ) (known : Known) (before : Memory) (did : List Event) (turns : ℕ) : Type 0 where
  pub taken : List (Taken Given)
  pub are : AreGiven taken
  pub by_index : AreTakenOn id known before taken
  pub peers : AreServed did taken
  pub most : turns_of did taken ≤ turns

-- and each frame is one step of the node, whoever sent it, and its answers are those of that step
module _ (after : State → Msg → State) (answers : State → Msg → List Msg) where
  pub record IsPeer (did : List Event) (start : State) (taken : List (Taken Msg)) (peer : ℕ) (held : List ℕ) : Type 0 where
    pub talk : IsTalk after (λ s m. frames_of (answers s m)) frame_of peer start taken (read_of peer did) (said_to peer did) held
    pub less : is_finished peer did ≡ true → (is_ended peer did ≡ true) × IsLess held
    pub off : is_dismissed peer did ≡ true → BeginsNone held

  pub record IsServedAll (did : List Event) (start state : State) (turns : ℕ) : Type 0 where
    pub taken : List (Taken Msg)
    pub messages : AreMessages (messages_of taken)
    pub state_is : state ≡ after_taken after start taken
    pub peers : (peer : ℕ) → (held : List ℕ) × IsPeer did start taken peer held
    pub turns_are : AreTurns did taken turns

-- the same of the frames that were taken before it stopped, but for the frame at which it did
module _ (id : ℕ) (known : Known) (left : List ℕ → Type 0) (stop : Stop) where
  abbrev pub IsNextTaken : List Event → List (Taken Msg) → Break → Type 0
  IsNextTaken did ts Between = Unit {0}
  IsNextTaken did ts (At peer m) = (rest : List ℕ) × (read_of peer did ≡ frames frame_of (of peer ts) ++ (frame_of m ++ rest))
  IsNextTaken did ts (Among group) = (peer : ℕ) → (rest : List ℕ) × (read_of peer did ≡ frames frame_of (of peer ts) ++ (frames frame_of (of peer group) ++ rest))

  pub record IsServedUntil (did : List Event) (start now : State) (turns : ℕ) : Type 0 where
    pub taken : List (Taken Msg)
    pub messages : AreMessages (messages_of taken)
    pub peers : (peer : ℕ) → (held : List ℕ) × IsPeer (after id known) (answers id known) did start taken peer held
    pub most : turns_of did taken ≤ turns
    pub break : Break
    pub at_is : IsNextTaken did taken break
    pub cut : IsBreak id known left stop (after_taken (after id known) start taken) now break
