-- What holds along every run, all at once.
use Rattle.std.specs.Prelude.{ℕ, ◌≡◌, List, true}
use Rattle.ld_config.specs.declared.config.Config.{Config}
use Rattle.ld_config.specs.Bounds.{IsInBounds}
use Rattle.ld_machine.specs.State.{node_at}
use Rattle.ld_machine.specs.Facts.{Happened, Lost, standing, stands_for}
use Rattle.ld_machine.specs.World.{World, begin}
use Rattle.ld_machine.specs.Run.{InvariantHolds, Move, trace, world_after}
use Rattle.ld_safety.specs.Closes.{ClosesSay, FullOrShort}
use Rattle.ld_safety.specs.Lost.{LostOnce, WholeStays, may_be_lost}
use Rattle.ld_safety.specs.OneCopy.{OneSends}

-- a node that may be lost for an epoch of a log stands lost for it in the lines
abbrev pub LostInLines : List Happened → World → Type 0
LostInLines hs w = (y l e : ℕ) → may_be_lost l e (node_at w.state y) ≡ true → stands_for e (standing y l hs Lost) ≡ true

-- what holds of a state beside the invariant
pub record Beside (c : Config) (hs : List Happened) (w : World) : Type 0 where
  -- an epoch is closed fully or short, and its closing plan has an item at each offset that it has to
  pub closes : FullOrShort c w
  pub closes_say : ClosesSay w
  pub lost_in_lines : LostInLines hs w
  -- of each record one node alone sends the payload, where a reader asks for one copy
  pub one_sends : OneSends w

-- in each state the invariant and what is beside it; and between states, a node is lost once under a generation, and one that isn't lost stays so until it is wiped
pub record AllHold : Type 0 where
  pub invariant : InvariantHolds
  pub beside : (c : Config) (ms : List Move) → IsInBounds c → Beside c (trace c (begin c) ms) (world_after c (begin c) ms)
  pub lost_once : LostOnce
  pub whole_stays : WholeStays
