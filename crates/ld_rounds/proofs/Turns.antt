-- Messages are taken in their turn.
use Rattle.std.proofs.Common.{◌≡◌, ℕ, Bool, true, false, List, [], ◌∷◌, ◌++◌, Some, refl, sym, subst, if◌then◌else◌}
use Rattle.std.specs.List.{AllByRecursion}
use Rattle.ld_config.specs.declared.config.Config.{Config}
use Rattle.ld_schedule.specs.declared.event.Event.{Event}
use Rattle.ld_schedule.specs.declared.event.Event.TheVariants as events
use Rattle.ld_msg.specs.declared.msg.Who.{Who}
use Rattle.ld_msg.specs.declared.msg.Who.TheVariants as whos
use Rattle.ld_msg.specs.declared.msg.Msg.{Msg}
use Rattle.ld_msg.specs.Network.{Network}
use Rattle.ld_machine.specs.State.{State}
use Rattle.ld_machine.specs.Run.{step, state_after}
use Rattle.ld_bounds.specs.Sound.{is_node}
use Rattle.ld_rounds.specs.News.{is_answer, waits_for}
use Rattle.ld_rounds.specs.Telling.{is_of}
use Rattle.ld_rounds.specs.Rounds.{IsTickBehind}
use Rattle.ld_rounds.specs.Turns.{IsFirst, IsTurn, AreInTurn}

-- a message that waits for the node
pub asked_turn : (first y : ℕ) (w : Network) (m : Msg) → is_answer m ≡ false → (i : ℕ) → IsFirst (waits_for y) first w i → IsTurn first y w i (Some m)
asked_turn first y w m h i n = subst (λ (b : Bool). IsFirst (λ o. if b then is_answer o else waits_for y o) first w i) (sym h) n

-- an answer
pub heard_turn : (first y : ℕ) (w : Network) (m : Msg) → is_answer m ≡ true → (i : ℕ) → IsFirst is_answer first w i → IsTurn first y w i (Some m)
heard_turn first y w m h i n = subst (λ (b : Bool). IsFirst (λ o. if b then is_answer o else waits_for y o) first w i) (sym h) n

-- what is of a node is an answer
pub of_node : (y : ℕ) (t : Who) → is_of y t ≡ true → is_node t ≡ true
of_node y (whos.Node k) h = refl
of_node y (whos.Sequencer k) h = absurd cc
of_node y (whos.Reader k) h = absurd cc

module _ (c : Config) (first y : ℕ) where
  pub turns-append : (s : State) (es fs : List Event) → AreInTurn first y c s es → AreInTurn first y c (state_after c s es) fs → AreInTurn first y c s (es ++ fs)
  unfolding state_after
  turns-append s [] fs a b = b
  turns-append s (e ∷ es) fs a b = (a.0, turns-append (step c s e).state es fs a.1 b)

  pub ticks_turn : (m : Msg) (s : State) (es : List Event) → AllByRecursion (IsTickBehind y m) es → AreInTurn first y c s es
  ticks_turn m s [] h = tt
  ticks_turn m s (events.Tick n l ∷ es) h = (tt, ticks_turn m (step c s (events.Tick n l)).state es h.1)
  ticks_turn m s (e ∷ es) h = absurd h.0
