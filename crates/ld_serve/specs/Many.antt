-- A node is opened, and serves a crowd until its turns are taken, nobody is left to wait for, or it stops.
use Rattle.std.specs.Prelude.{◌≡◌, ℕ, List, [], Bool, Option, IfSome}
use Rattle.ld_msg.specs.Register.{Register as Contents}
use Rattle.ld_op.specs.Plain.{Plain}
use Rattle.ld_past.specs.Events.{Event}
use Rattle.ld_store.specs.Ops.{StandsFor, IfStands}
use Rattle.ld_node.specs.Known.{Known}
use Rattle.ld_serve.specs.declared.stop.Stop.{Stop}
use Rattle.ld_serve.specs.Opening.{IsOpening}
use Rattle.ld_serve.specs.Serving.{State, after, answers}
use Rattle.ld_serve.specs.Told.{Memory}
use Rattle.ld_serve.specs.Whole.{at_first}
use Rattle.ld_serve.specs.Crowd.{IsHeardAll, IsHeardUntil, IsServedAll, IsServedUntil}

-- of a disk that showed these bytes, of which this may be left now, and of a register that may have held these contents, and may hold those now
module _ (seen : List ℕ) (left : List ℕ → Type 0) (holds holds_now : Contents → Type 0) (id : ℕ) (known : Known) (format : Bool) where
  -- the node was opened, and served a crowd with which this passed
  pub record CrowdServedOn (did : List Event) (turns : ℕ) : Type 0 where
    pub first : Plain
    pub opened : IsOpening holds holds_now id format first seen
    pub last : State
    pub course : IsServedAll (after id known) (answers id known) did (at_first first) last turns
    pub stands : (bytes : List ℕ) → left bytes → StandsFor last.plain bytes

  -- the node was opened, and stopped while it served
  pub record CrowdStoppedOn (did : List Event) (turns : ℕ) (stop : Stop) : Type 0 where
    pub first : Plain
    pub opened : IsOpening holds holds_now id format first seen
    pub last : State
    pub course : IsServedUntil id known left stop did (at_first first) last turns

-- of a disk that may have shown bytes
module _ (seen : Option (List ℕ)) (left : List ℕ → Type 0) (holds holds_now : Contents → Type 0) (id : ℕ) (known : Known) (format : Bool) where
  -- the node was opened with some index, with nothing released, and served a crowd, and where the disk showed bytes that represent a plain state, its answers are those of that
  pub record HasServedCrowd (did : List Event) (turns : ℕ) : Type 0 where
    pub first : Memory
    pub nothing : first.released ≡ []
    pub heard : IsHeardAll id known first did turns
    pub exact : IfSome seen (IfStands (λ bytes. CrowdServedOn bytes left holds holds_now id known format did turns))

  -- it was opened so, and stopped while it served
  pub record HasStoppedCrowd (did : List Event) (turns : ℕ) (stop : Stop) : Type 0 where
    pub first : Memory
    pub nothing : first.released ≡ []
    pub heard : IsHeardUntil id known first did turns
    pub exact : IfSome seen (IfStands (λ bytes. CrowdStoppedOn bytes left holds holds_now id known format did turns stop))
