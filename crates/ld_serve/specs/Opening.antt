-- How a node is opened: what it represents then, and why it may be refused.
use Rattle.std.specs.Prelude.{◌≡◌, ◌⊎◌, ◌≤◌, ◌-◌, ◌^◌, ℕ, List, [], Bool, true, false, Option, None, Some, IfSome}
use Rattle.ld_io.specs.Causes.{Rose}
use Rattle.ld_msg.specs.Register.{Register as Contents, generation_of}
use Rattle.ld_op.specs.Plain.{Plain, unformatted, apply}
use Rattle.ld_layout.specs.Layout.{new_layout}
use Rattle.ld_store.specs.Ops.{StandsFor, IfStands, IsJournalOf, IsDamaged, HasNoRoom}
use Rattle.ld_register.specs.declared.fault.RegisterFault.TheVariants as refusals
use Rattle.ld_register.specs.declared.register.Drawn.{Drawn}
use Rattle.ld_register.specs.Calls.{drawn, after_draw, is_full, draw_length}
use Rattle.ld_node.specs.declared.fault.NodeFault.{NodeFault}
use Rattle.ld_node.specs.declared.fault.NodeFault.TheVariants as nodes
use Rattle.ld_node.specs.Changes.{IsPast}
use Rattle.ld_node.specs.Draws.{answered}
use Rattle.ld_node.specs.Formats.{format_of}
use Rattle.ld_serve.specs.declared.stop.Stop.{Stop}
use Rattle.ld_serve.specs.declared.stop.Stop.TheVariants as stops
use Rattle.ld_serve.specs.declared.stop.Which.TheVariants.{Store, Register}

-- a disk tells bytes that represent a plain state
abbrev pub Stands : Option (List ℕ) → Type 0
Stands None = ⊥
Stands (Some bytes) = (p : Plain) × StandsFor p bytes

-- no record stands on the disk
abbrev pub IsBlank : List ℕ → Type 0
IsBlank bytes = IsJournalOf [] bytes

-- some record stands on the disk, and its bytes represent this state
pub record IsFormatted (p : Plain) (bytes : List ℕ) : Type 0 where
  pub some : IsBlank bytes → ⊥
  pub stands : StandsFor p bytes

-- of a register that may hold these: what each of them answers to a draw of the node
abbrev pub Draws : (Contents → Type 0) → ℕ → Drawn → Type 0
Draws holds id given = (c : Contents) → holds c → answered given ≡ drawn c id

-- of a register that may have held the first and may hold the second now: what it held it holds now with that one draw more
abbrev pub HoldsDraw : (Contents → Type 0) → (Contents → Type 0) → ℕ → Type 0
HoldsDraw holds holds_now id = (c : Contents) → holds c → holds_now (after_draw c id)

-- the disk was blank, this is the state of a format under what the register drew, and the register holds that one draw more now
pub record IsFormattedNow (holds holds_now : Contents → Type 0) (id : ℕ) (format : Bool) (p : Plain) (bytes : List ℕ) : Type 0 where
  pub asked : format ≡ true
  pub blank : IsBlank bytes
  pub given : Drawn
  pub drawn : Draws holds id given
  pub drew : HoldsDraw holds holds_now id
  pub state : p ≡ apply unformatted (format_of given)

abbrev pub IsOpening : (Contents → Type 0) → (Contents → Type 0) → ℕ → Bool → Plain → List ℕ → Type 0
IsOpening holds holds_now id format p bytes = IsFormatted p bytes ⊎ IsFormattedNow holds holds_now id format p bytes

-- where the node wasn't opened, and the register didn't fail: what it held it holds now, with the draw or without it
abbrev pub HoldsDrawOrNot : (Contents → Type 0) → (Contents → Type 0) → ℕ → Stop → Type 0
HoldsDrawOrNot holds holds_now id stop = (c : Contents) → holds c → (stop ≡ stops.Register) ⊎ holds_now c ⊎ holds_now (after_draw c id)

-- of a disk that showed bytes: it shows the same now
abbrev pub ShowsSame : Option (List ℕ) → Option (List ℕ) → Type 0
ShowsSame seen seen_now = IfSome seen (λ bytes. seen_now ≡ Some bytes)

-- what may be left by a format that was refused: a blank disk, or the state of the format under what the register drew
abbrev pub LeftByFormat : (Contents → Type 0) → ℕ → List ℕ → Type 0
LeftByFormat holds id left = StandsFor unformatted left ⊎ ((given : Drawn) × Draws holds id given × StandsFor (apply unformatted (format_of given)) left)

-- ---- faults of a load and of a format as reasons to stop; those that can't come are want of memory ----

abbrev pub stop_of_load : NodeFault → Stop
stop_of_load nodes.Disk = stops.Disk
stop_of_load (nodes.Damaged place) = stops.Damaged Store place
stop_of_load nodes.Full = stops.Full Store
stop_of_load nodes.NeedsLoad = stops.NoMemory
stop_of_load (nodes.Register fault) = stops.NoMemory
stop_of_load nodes.NoMemory = stops.NoMemory

abbrev pub stop_of_format : NodeFault → Stop
stop_of_format nodes.Disk = stops.Disk
stop_of_format (nodes.Damaged place) = stops.NoMemory
stop_of_format nodes.Full = stops.Full Store
stop_of_format nodes.NeedsLoad = stops.NoMemory
stop_of_format (nodes.Register refusals.Failed) = stops.Register
stop_of_format (nodes.Register (refusals.Damaged place)) = stops.Damaged Register place
stop_of_format (nodes.Register refusals.LogLimit) = stops.NoMemory
stop_of_format (nodes.Register (refusals.Behind lce next)) = stops.NoMemory
stop_of_format (nodes.Register (refusals.Overtaken kept)) = stops.NoMemory
stop_of_format (nodes.Register refusals.EpochLimit) = stops.NoMemory
stop_of_format (nodes.Register refusals.SwapLimit) = stops.NoMemory
stop_of_format (nodes.Register refusals.GenLimit) = stops.GenLimit
stop_of_format (nodes.Register refusals.Full) = stops.Full Register
stop_of_format (nodes.Register refusals.NoMemory) = stops.NoMemory
stop_of_format nodes.NoMemory = stops.NoMemory

-- ---- why it is refused ----

-- of a disk with these counts of faults and these bytes, and of a register with these counts: whether it tells, what it may hold, and where it is damaged
module _ (disk_before disk_now : ℕ) (seen : Option (List ℕ)) (register_before register_now : ℕ) (Told : Type 0) (holds : Contents → Type 0) (damaged : ℕ → Type 0) (id : ℕ) (format : Bool) where
  -- a format was asked for, and the disk is blank
  abbrev pub Formats : Type 0
  Formats = (format ≡ true) × IfSome seen IsBlank

  -- the format's record would pass the store's limit
  abbrev pub StoreIsFull : Type 0
  StoreIsFull = IfSome seen (λ bytes. (c : Contents) → holds c → (given : Drawn) × (answered given ≡ drawn c id) × IsPast new_layout (Some (format_of given)))

  -- the store is of the first version, and a mark, or the segment that it needs, would pass its limit
  abbrev pub HasNoRoomToMark : Type 0
  HasNoRoomToMark = IfSome seen (IfStands HasNoRoom)

  abbrev pub IsOpeningStop : Stop → Type 0
  IsOpeningStop stops.NoMemory = Unit {0}
  IsOpeningStop stops.Disk = Rose disk_before disk_now
  IsOpeningStop stops.Register = Formats × Rose register_before register_now
  IsOpeningStop stops.Link = ⊥
  IsOpeningStop (stops.BadFrame fault) = ⊥
  IsOpeningStop (stops.Damaged Store place) = IfSome seen (IsDamaged place)
  IsOpeningStop (stops.Damaged Register place) = Formats × (Told → damaged place)
  IsOpeningStop stops.Blank = (format ≡ false) × IfSome seen IsBlank
  IsOpeningStop (stops.Full Store) = HasNoRoomToMark ⊎ (Formats × StoreIsFull)
  IsOpeningStop (stops.Full Register) = Formats × (Told → (c : Contents) × holds c × (is_full c draw_length ≡ true))
  IsOpeningStop stops.GenLimit = Formats × (Told → (c : Contents) × holds c × (2 ^ 32 - 1 ≤ generation_of c id))
