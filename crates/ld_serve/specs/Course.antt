-- The course of serving: which peers came, which frames were taken of each, and what was answered.
use Rattle.std.specs.Prelude.{◌≡◌, ◌⊎◌, ◌+◌, ◌<◌, ℕ, List, [], ◌∷◌, ◌++◌, length, map, Bool, Option, Some, MatchBool}
use Rattle.ld_msg.specs.declared.msg.Msg.{Msg}
use Rattle.ld_msg.specs.Bounds.{IsMessage}
use Rattle.ld_wire.specs.Frames.{frame_of}
use Rattle.ld_wire.specs.Streams.{frames_of, AreMessages}
use Rattle.ld_wire.specs.Judging.{judge, Waits}
use Rattle.ld_link.specs.Peers.{Talk, Peers, as_list}

-- what a peer said: the frames that were taken, and bytes behind them
pub record Speech : Type 0 where
  pub messages : List Msg
  pub rest : List ℕ

abbrev pub bytes_of : Speech → List ℕ
bytes_of p = frames_of p.messages ++ p.rest

-- each is whole, but for a last frame that was cut
abbrev pub AreSpeeches : List Speech → Type 0
AreSpeeches [] = Unit {0}
AreSpeeches (p ∷ ps) = AreMessages p.messages × (judge p.rest ≡ Waits) × AreSpeeches ps

-- a turn is a frame that was taken, or a peer that ended
abbrev pub turns_of : List Speech → ℕ
turns_of [] = 0
turns_of (p ∷ ps) = length p.messages + 1 + turns_of ps

-- all peers that came so far
abbrev pub talks : Peers → List Talk
talks p = p.past ++ as_list p.present

-- where serving may stop, and the state that was reached
pub data Cut (S : Type 0) : Type 0 where
  -- between two peers
  Idle : (state : S) → Cut S
  -- with these bytes of a peer, which are no whole frame
  Unread : (held : List ℕ) (state : S) → Cut S
  -- at a frame of this message, which was taken
  Refused : (state : S) (message : Msg) → Cut S
  -- before all answers of a step were written
  Unsent : (state : S) → Cut S

-- a step of the node takes a message to its next state, and answers
module _ {S : Type 0} (after : S → Msg → S) (answers : S → Msg → List Msg) where
  abbrev pub after_all : S → List Msg → S
  after_all s [] = s
  after_all s (m ∷ ms) = after_all (after s m) ms

  -- the frames of the answers, in order
  abbrev pub answers_all : S → List Msg → List ℕ
  answers_all s [] = []
  answers_all s (m ∷ ms) = frames_of (answers s m) ++ answers_all (after s m) ms

  abbrev pub after_peers : S → List Speech → S
  after_peers s [] = s
  after_peers s (p ∷ ps) = after_peers (after_all s p.messages) ps

  -- the talk with a peer that was read to its end
  abbrev pub whole_talk : S → Speech → Talk
  whole_talk s p = record { got = bytes_of p; left = []; sent = answers_all s p.messages }

  abbrev pub whole_talks : S → List Speech → List Talk
  whole_talks s [] = []
  whole_talks s (p ∷ ps) = whole_talk s p ∷ whole_talks (after_all s p.messages) ps

  -- each peer that came was read to its end, and answered
  pub record BetweenPeers (start : Peers) (s : S) (now : Option Peers) (state : S) (turns : ℕ) : Type 0 where
    pub ended : List Speech
    pub peers : Peers
    pub told : now ≡ Some peers
    pub past : talks peers ≡ talks start ++ whole_talks s ended
    pub coming : start.coming ≡ map bytes_of ended ++ peers.coming
    pub speeches : AreSpeeches ended
    pub state_is : state ≡ after_peers s ended
    pub turns_are : turns ≡ turns_of ended

  -- each peer that came but the present one was read to its end, and answered; of the present one these frames were
  -- taken, and these bytes are held
  pub record WithPeer (start : Peers) (s : S) (now : Option Peers) (held : List ℕ) (state : S) (turns : ℕ) : Type 0 where
    pub ended : List Speech
    pub messages : List Msg
    pub left : List ℕ
    pub peers : Peers
    pub told : now ≡ Some peers
    pub past : peers.past ≡ talks start ++ whole_talks s ended
    pub present : peers.present ≡ Some (record { got = frames_of messages ++ held; left = left; sent = answers_all (after_peers s ended) messages })
    pub coming : start.coming ≡ map bytes_of ended ++ (frames_of messages ++ (held ++ left)) ∷ peers.coming
    pub speeches : AreSpeeches ended
    pub taken : AreMessages messages
    pub state_is : state ≡ after_all (after_peers s ended) messages
    pub turns_are : turns ≡ turns_of ended + length messages

  -- ---- a turn that was cut off: the bytes that were held, what was written of its answers, and the states before and now ----

  -- no frame could be taken
  pub record WithoutFrame (C : Cut S → Type 0) (held part : List ℕ) (before now : S) : Type 0 where
    pub nothing : part ≡ []
    pub same : now ≡ before
    pub cause : C (Unread held before)

  -- a frame was taken, and the node refused it
  pub record AtFrame (C : Cut S → Type 0) (held part : List ℕ) (before now : S) : Type 0 where
    pub message : Msg
    pub rest : List ℕ
    pub frame : held ≡ frame_of message ++ rest
    pub is : IsMessage message
    pub nothing : part ≡ []
    pub same : now ≡ before
    pub cause : C (Refused before message)

  -- a frame was taken, and its answers weren't written to their end
  pub record InAnswers (C : Cut S → Type 0) (held part : List ℕ) (before now : S) : Type 0 where
    pub message : Msg
    pub rest : List ℕ
    pub missing : List ℕ
    pub frame : held ≡ frame_of message ++ rest
    pub is : IsMessage message
    pub answered : frames_of (answers before message) ≡ part ++ missing
    pub next : now ≡ after before message
    pub cause : C (Unsent (after before message))

  abbrev pub IsCutOff : (Cut S → Type 0) → List ℕ → List ℕ → S → S → Type 0
  IsCutOff C held part before now = WithoutFrame C held part before now ⊎ AtFrame C held part before now ⊎ InAnswers C held part before now

  -- as `WithPeer`, and in a turn that was cut off
  pub record InTurn (C : Cut S → Type 0) (start : Peers) (s : S) (now : Option Peers) (state : S) : Type 0 where
    pub ended : List Speech
    pub messages : List Msg
    pub held : List ℕ
    pub left : List ℕ
    pub part : List ℕ
    pub peers : Peers
    pub told : now ≡ Some peers
    pub past : peers.past ≡ talks start ++ whole_talks s ended
    pub present : peers.present ≡ Some (record { got = frames_of messages ++ held; left = left; sent = answers_all (after_peers s ended) messages ++ part })
    pub coming : start.coming ≡ map bytes_of ended ++ (frames_of messages ++ (held ++ left)) ∷ peers.coming
    pub speeches : AreSpeeches ended
    pub taken : AreMessages messages
    pub last : IsCutOff C held part (after_all (after_peers s ended) messages) state

  -- how serving goes on: with a present peer, or with none
  abbrev pub Goes : Bool → Peers → S → Option Peers → List ℕ → S → ℕ → Type 0
  Goes is_there start s now held state turns = MatchBool is_there (WithPeer start s now held state turns) (BetweenPeers start s now state turns)

  -- all turns were taken
  pub record AllTurns (start : Peers) (s : S) (now : Option Peers) (state : S) (turns : ℕ) : Type 0 where
    pub is_there : Bool
    pub held : List ℕ
    pub goes : Goes is_there start s now held state turns

  -- the last peer has ended, and there is no next one
  pub record NoMore (start : Peers) (s : S) (now : Option Peers) (state : S) (turns : ℕ) : Type 0 where
    pub between : BetweenPeers start s now state turns
    pub none : between.peers.coming ≡ []

  -- it ended early, as the peers did
  pub record Early (start : Peers) (s : S) (now : Option Peers) (state : S) (limit : ℕ) : Type 0 where
    pub turns : ℕ
    pub few : turns < limit
    pub none : NoMore start s now state turns

  abbrev pub IsServed : Peers → S → Option Peers → S → ℕ → Type 0
  IsServed start s now state limit = AllTurns start s now state limit ⊎ Early start s now state limit

  pub record Between (C : Cut S → Type 0) (start : Peers) (s : S) (now : Option Peers) (state : S) : Type 0 where
    pub turns : ℕ
    pub between : BetweenPeers start s now state turns
    pub cause : C (Idle state)

  -- serving stopped: between two peers, or in a turn
  abbrev pub IsStopped : (Cut S → Type 0) → Peers → S → Option Peers → S → Type 0
  IsStopped C start s now state = Between C start s now state ⊎ InTurn C start s now state
