-- A node is opened, and serves until its turns are taken, its peers have ended, or it stops.
use Rattle.std.specs.Prelude.{◌≡◌, ◌⊎◌, ℕ, List, [], Bool, true, Option, IfSome}
use Rattle.ld_msg.specs.Register.{Register as Contents}
use Rattle.ld_op.specs.Plain.{Plain}
use Rattle.ld_store.specs.Ops.{StandsFor, IfStands}
use Rattle.ld_store.specs.Loads.{LeftOrMarked}
use Rattle.ld_past.specs.Events.{Event}
use Rattle.ld_link.specs.Peers.{Peers}
use Rattle.ld_node.specs.Known.{Known}
use Rattle.ld_serve.specs.declared.stop.Stop.{Stop}
use Rattle.ld_serve.specs.declared.stop.Stop.TheVariants.{Disk}
use Rattle.ld_serve.specs.Course.{IsServed, IsStopped}
use Rattle.ld_serve.specs.Heard.{Heard, HeardUntil}
use Rattle.ld_serve.specs.Opening.{IsOpening, IsOpeningStop, ShowsSame, LeftByFormat, HoldsDrawOrNot}
use Rattle.ld_serve.specs.Serving.{State, after, answers, IsCut}
use Rattle.ld_serve.specs.Talking.{Given}
use Rattle.ld_serve.specs.Told.{Ends, EndsAt, Halt, Memory, AreSteps, AreIndexSteps, HaltsInMemory, IsCutAt}

-- a node is opened in this state, with nothing released
abbrev pub at_first : Plain → State
at_first p = record { plain = p; released = [] }

-- over any disk, whatever bytes it gave: the node was opened with some index, with nothing released, and took these frames, with these answers
pub record TookByIndex (id : ℕ) (known : Known) (taken : List Given) : Type 0 where
  pub first : Memory
  pub opened : first.released ≡ []
  pub last : Memory
  pub steps : AreIndexSteps id known first taken last

-- and stopped behind them
pub record TookUntilByIndex (id : ℕ) (known : Known) (taken : List Given) (halt : Halt) : Type 0 where
  pub first : Memory
  pub opened : first.released ≡ []
  pub last : Memory
  pub steps : AreIndexSteps id known first taken last
  pub now : Memory
  pub halts : HaltsInMemory id known last halt now

-- of a disk that showed these bytes, of which this may be left now, and of a register that may have held these contents, and may hold those now
module _ (seen : List ℕ) (left : List ℕ → Type 0) (holds holds_now : Contents → Type 0) (id : ℕ) (known : Known) (format : Bool) where
  -- the node was opened, and served so many turns, or until there was no next peer
  pub record ServedOn (start : Peers) (now : Option Peers) (turns : ℕ) : Type 0 where
    pub first : Plain
    pub opened : IsOpening holds holds_now id format first seen
    pub last : State
    pub course : IsServed (after id known) (answers id known) start (at_first first) now last turns
    pub stands : (bytes : List ℕ) → left bytes → StandsFor last.plain bytes

  -- the node was opened, and stopped while it served
  pub record StoppedOn (start : Peers) (now : Option Peers) (stop : Stop) : Type 0 where
    pub first : Plain
    pub opened : IsOpening holds holds_now id format first seen
    pub last : State
    pub course : IsStopped (after id known) (answers id known) (IsCut id known left stop) start (at_first first) now last

  -- the node was opened, and took these frames, with these answers
  pub record TookOn (taken : List Given) : Type 0 where
    pub first : Plain
    pub opened : IsOpening holds holds_now id format first seen
    pub last : State
    pub steps : AreSteps (after id known) (answers id known) (at_first first) taken last
    pub stands : (bytes : List ℕ) → left bytes → StandsFor last.plain bytes

  -- and stopped behind them
  pub record TookUntilOn (taken : List Given) (halt : Halt) (stop : Stop) : Type 0 where
    pub first : Plain
    pub opened : IsOpening holds holds_now id format first seen
    pub last : State
    pub steps : AreSteps (after id known) (answers id known) (at_first first) taken last
    pub cut : IsCutAt id known left stop last halt

-- of a disk that may have shown bytes
module _ (seen : Option (List ℕ)) (left : List ℕ → Type 0) (holds holds_now : Contents → Type 0) (id : ℕ) (known : Known) (format : Bool) where
  -- the node was opened and served, and where the disk showed bytes that represent a plain state, its answers are those of that
  pub record HasServed (start : Peers) (now : Option Peers) (turns : ℕ) : Type 0 where
    pub heard : Heard start now turns
    pub exact : IfSome seen (IfStands (λ bytes. ServedOn bytes left holds holds_now id known format start now turns))

  -- it was opened, and stopped while it served
  pub record HasStopped (start : Peers) (now : Option Peers) (stop : Stop) : Type 0 where
    pub heard : HeardUntil start now stop
    pub exact : IfSome seen (IfStands (λ bytes. StoppedOn bytes left holds holds_now id known format start now stop))

  -- the same by the calls of the link before and now, which every link tells
  pub record HasTold (old new : List Event) (turns : ℕ) : Type 0 where
    pub taken : List Given
    pub ends : Ends old new taken turns
    pub by_index : TookByIndex id known taken
    pub exact : IfSome seen (IfStands (λ bytes. TookOn bytes left holds holds_now id known format taken))

  pub record HasToldUntil (old new : List Event) (turns : ℕ) (stop : Stop) : Type 0 where
    pub taken : List Given
    pub halt : Halt
    pub ends : EndsAt stop halt old new taken turns
    pub by_index : TookUntilByIndex id known taken halt
    pub exact : IfSome seen (IfStands (λ bytes. TookUntilOn bytes left holds holds_now id known format taken halt stop))

-- of a disk, its counts of faults, the bytes that it showed and shows, and what might be left of it and may be now; and of a register
module _ (disk_before disk_now : ℕ) (seen seen_now : Option (List ℕ)) (before left : List ℕ → Type 0) (register_before register_now : ℕ) (Told : Type 0) (holds holds_now : Contents → Type 0) (damaged : ℕ → Type 0) (id : ℕ) (format : Bool) where
  -- the node wasn't opened, and the link wasn't called
  pub record IsNotOpened {L : Type 0} (link_before link_now : L) (stop : Stop) : Type 0 where
    pub link : link_now ≡ link_before
    pub cause : IsOpeningStop disk_before disk_now seen register_before register_now Told holds damaged id format stop
    pub draw : HoldsDrawOrNot holds holds_now id stop
    pub bytes : (stop ≡ Disk) ⊎ ShowsSame seen seen_now
    pub leaves : IfSome seen (λ shown. (bytes : List ℕ) → left bytes → LeftOrMarked before shown bytes ⊎ ((format ≡ true) × LeftByFormat holds id bytes))
