-- How a stopped node's store is opened, and why it may not be.
use Rattle.std.specs.Prelude.{◌≡◌, ◌⊎◌, ℕ, List, Option, IfSome}
use Rattle.ld_io.specs.Causes.{Rose}
use Rattle.ld_store.specs.Ops.{IfStands, IsOfFirst, IsDamaged, HasNoRoom}
use Rattle.ld_store.specs.Loads.{LeftOrMarked}
use Rattle.ld_serve.specs.Opening.{IsBlank, ShowsSame}
use Rattle.ld_serve.specs.declared.stop.Which.TheVariants.{Store}
use Rattle.ld_stopped.specs.declared.stop.Stop.{Stop}
use Rattle.ld_stopped.specs.declared.stop.Stop.TheVariants as stops

-- of a disk with these counts of faults, which showed these bytes: it failed; or its bytes represent nothing, and this is the place where that shows; or no record stands there; or they are of the first
-- version, and a mark, or the segment that it needs, would pass the store's limit; or there is no memory left
abbrev pub IsLoadStop : ℕ → ℕ → Option (List ℕ) → Stop → Type 0
IsLoadStop before now seen stops.NoMemory = Unit {0}
IsLoadStop before now seen stops.Disk = Rose before now
IsLoadStop before now seen (stops.Damaged Store place) = IfSome seen (IsDamaged place)
IsLoadStop before now seen stops.Blank = IfSome seen IsBlank
IsLoadStop before now seen (stops.Full Store) = IfSome seen (IfStands HasNoRoom)
IsLoadStop before now seen _ = ⊥

-- what may be left of a disk that showed these bytes might have been left before, or represents the same as the store of the first version that was marked
abbrev pub LeavesMarked : Option (List ℕ) → (List ℕ → Type 0) → (List ℕ → Type 0) → Type 0
LeavesMarked seen before left = IfSome seen (λ shown. (c : List ℕ) → left c → LeftOrMarked before shown c)

-- the store wasn't opened: why, what the disk shows then, and what may be left of it
pub record IsNotLoaded (before now : ℕ) (seen seen_now : Option (List ℕ)) (could may : List ℕ → Type 0) (stop : Stop) : Type 0 where
  pub cause : IsLoadStop before now seen stop
  pub bytes : (stop ≡ stops.Disk) ⊎ ShowsSame seen seen_now
  pub leaves : LeavesMarked seen could may

-- a disk shows what it showed, or that with a mark behind a store of the first version
abbrev pub ShowsMarked : Option (List ℕ) → Option (List ℕ) → Type 0
ShowsMarked seen seen_now = (seen_now ≡ seen) ⊎ IfSome seen (IfStands IsOfFirst)
