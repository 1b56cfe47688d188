-- How epochs were closed: fully, or short.
use Rattle.std.specs.Prelude.{ℕ, ◌≡◌, ◌≤◌, ◌<◌, ◌⊎◌, Bool, true, false, ◌==◌, Some}
use Rattle.ld_table.specs.Words.{is_in}
use Rattle.ld_lsn.specs.Number.{epoch_of, numbered, home_epoch}
use Rattle.ld_config.specs.declared.config.Config.{Config}
use Rattle.ld_msg.specs.declared.msg.What.{What}
use Rattle.ld_msg.specs.declared.msg.Summary.{Summary}
use Rattle.ld_msg.specs.declared.msg.Body.{Body}
use Rattle.ld_msg.specs.declared.msg.Body.TheVariants as bodies
use Rattle.ld_machine.specs.Config.{fixed_at}
use Rattle.ld_machine.specs.World.{World, Made, HasPlan, has_told, says_settled, item}
use Rattle.ld_machine.specs.Invariant.{Closed, Ready}

-- lost for the epoch
abbrev pub says_lost : ℕ → Body → Bool
says_lost e (bodies.LostHere n round generation end) = home_epoch n == e
says_lost e _ = false

-- the closing plan found what it says, and each of its items, the bridge too, was settled for it by as many nodes as there are copies, of those that were fixed for the epoch
pub record ClosedFully (c : Config) (w : World) (l e : ℕ) (s : Summary) : Type 0 where
  pub found : s.loss ≡ false
  pub ready : Ready c w l e s.ballot

-- each node that was fixed for the epoch settled each item of the closing plan for it, the bridge too, or told its sequencer that it is lost for the epoch; and no plan of the epoch has a greater ballot
pub record ClosedShort (c : Config) (w : World) (l e : ℕ) (s : Summary) : Type 0 where
  pub settled : (n : ℕ) (x : What) (y : ℕ) → epoch_of n ≡ e → item w l n s.ballot ≡ Some x → is_in y (fixed_at c w.state.register l e) ≡ true →
      (has_told w (says_settled n) l s.ballot y ≡ true) ⊎ (has_told w (says_lost e) l s.ballot y ≡ true)
  pub last : (b : ℕ) (m : Made) → HasPlan w l e b m → b ≤ s.ballot

-- each closed epoch was closed in one of these ways
abbrev pub FullOrShort : Config → World → Type 0
FullOrShort c w = (l e : ℕ) (s : Summary) → Closed w l e s → ClosedFully c w l e s ⊎ ClosedShort c w l e s

-- the closing plan has an item at each offset up to its end that is above its last known good offset, where the number is above its trim
abbrev pub ClosesSay : World → Type 0
ClosesSay w = (l e k : ℕ) (s : Summary) → Closed w l e s → s.trim < numbered e k → s.lng < k → k ≤ s.end → (x : What) × (item w l (numbered e k) s.ballot ≡ Some x)
