-- In which order a drive takes the messages that are new.
use Rattle.std.specs.Prelude.{ℕ, ◌≡◌, ◌<◌, nat_le, List, [], ◌∷◌, filter, Bool, true, false, Option, None, Some, if◌then◌else◌}
use Rattle.ld_table.specs.Words.{is_in}
use Rattle.ld_config.specs.declared.config.Config.{Config}
use Rattle.ld_schedule.specs.declared.event.Event.{Event}
use Rattle.ld_schedule.specs.declared.event.Event.TheVariants as events
use Rattle.ld_msg.specs.declared.msg.Msg.{Msg}
use Rattle.ld_msg.specs.Network.{Network, message}
use Rattle.ld_machine.specs.State.{State}
use Rattle.ld_machine.specs.Run.{step}
use Rattle.ld_rounds.specs.News.{is_answer, waits_for, such_in}

-- the message of this place is new, and of the new ones from the first place on none before it is such
pub record IsFirst (p : Msg → Bool) (first : ℕ) (w : Network) (i : ℕ) : Type 0 where
  pub fresh : is_in i (filter (λ j. nat_le first j) w.fresh) ≡ true
  pub least : (j : ℕ) → is_in j (filter (λ k. nat_le first k) w.fresh) ≡ true → j < i → such_in p (message w j) ≡ false

-- of an answer the others are all answers, and of another message those that wait for the node
abbrev pub is_beside : ℕ → Msg → Msg → Bool
is_beside y m o = if is_answer m then is_answer o else waits_for y o

-- an answer comes in its turn among the answers, and another message among those that wait for the node
abbrev pub IsTurn : ℕ → ℕ → Network → ℕ → Option Msg → Type 0
IsTurn first y w i None = ⊥
IsTurn first y w i (Some m) = IsFirst (is_beside y m) first w i

-- what is delivered or lost is so in its turn
abbrev pub IsInTurn : ℕ → ℕ → State → Event → Type 0
IsInTurn first y s (events.Deliver i) = IsTurn first y s.network i (message s.network i)
IsInTurn first y s (events.Lose i) = IsTurn first y s.network i (message s.network i)
IsInTurn first y s _ = Unit {0}

-- so each is taken once, since what was taken is no longer new, and in the order in which they were sent
abbrev pub AreInTurn : ℕ → ℕ → Config → State → List Event → Type 0
AreInTurn first y c s [] = Unit {0}
AreInTurn first y c s (e ∷ es) = IsInTurn first y s e × AreInTurn first y c (step c s e).state es
