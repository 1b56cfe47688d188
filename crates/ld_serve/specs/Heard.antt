-- Serving whatever the disk tells: each frame that was taken has its answers.
use Rattle.std.specs.Prelude.{◌+◌, ◌++◌, ℕ, List, [], ◌∷◌, Bool, Option, MatchBool, MatchResult}
use Rattle.std.specs.declared.result.Result.{Result}
use Rattle.ld_msg.specs.declared.msg.Msg.{Msg}
use Rattle.ld_wire.specs.Streams.{AreMessages}
use Rattle.ld_link.specs.Peers.{Peers}
use Rattle.ld_serve.specs.declared.stop.Stop.{Stop}
use Rattle.ld_serve.specs.Course.{Cut, Idle, Unread, Refused, Unsent, WithPeer, BetweenPeers, InTurn, IsServed, IsStopped}
use Rattle.ld_serve.specs.Stops.{IsLinkStop, IsUnread, IsNodeStop, IsUnsent}

-- answers in the order in which they were given, a list for each frame: the next step takes the first one
abbrev pub first_given : List (List Msg) → Msg → List Msg
first_given [] m = []
first_given (a ∷ more) m = a

abbrev pub after_first : List (List Msg) → Msg → List (List Msg)
after_first [] m = []
after_first (a ∷ more) m = more

abbrev pub AreAnswers : List (List Msg) → Type 0
AreAnswers [] = Unit {0}
AreAnswers (a ∷ more) = AreMessages a × AreAnswers more

-- where it stopped there is cause to
abbrev pub IsCause : Stop → Cut (List (List Msg)) → Type 0
IsCause stop (Idle s) = IsLinkStop stop
IsCause stop (Unread held s) = IsUnread held stop
IsCause stop (Refused s m) = IsNodeStop ⊥ stop
IsCause stop (Unsent s) = IsUnsent stop

-- a turn gives these answers
pub record IsTurn (now new : Option Peers) (held held_now : List ℕ) (result : Result Bool Stop) : Type 0 where
  pub given : List (List Msg)
  pub are : AreAnswers given
  pub turned : (start : Peers) (all more : List (List Msg)) (turns : ℕ) → WithPeer after_first first_given start all now held (given ++ more) turns
      → MatchResult result
      (λ there. MatchBool there (WithPeer after_first first_given start all new held_now more (turns + 1)) (BetweenPeers after_first first_given start all new more (turns + 1)))
      (λ stop. InTurn after_first first_given (IsCause stop) start all new more)

-- so many turns gave answers, or all until there was no next peer
pub record Heard (start : Peers) (now : Option Peers) (turns : ℕ) : Type 0 where
  pub given : List (List Msg)
  pub are : AreAnswers given
  pub course : IsServed after_first first_given start given now [] turns

-- the turns before it stopped did
pub record HeardUntil (start : Peers) (now : Option Peers) (stop : Stop) : Type 0 where
  pub given : List (List Msg)
  pub are : AreAnswers given
  pub course : IsStopped after_first first_given (IsCause stop) start given now []
