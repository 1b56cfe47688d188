-- A crowd in memory, as contracts see it.
use Rattle.std.specs.Prelude.{◌≡◌, ◌⊎◌, ℕ, zero, suc, ◌+◌, min, List, [], ◌∷◌, ◌++◌, length, map, Bool, not, nat_lt, ◌==◌, if◌then◌else◌}
use Rattle.ld_io.specs.Memory.{is_listed}
use Rattle.ld_past.specs.Events.{Event}
use Rattle.ld_crowd.specs.declared.Turn.{Turn}
use Rattle.ld_crowd.specs.declared.Turn.TheVariants as turns
use Rattle.ld_crowd.specs.declared.Heard.{Heard}
use Rattle.ld_crowd.specs.declared.Heard.TheVariants as reads
use Rattle.ld_crowd.specs.declared.memory.Step.{Step}
use Rattle.ld_crowd.specs.declared.memory.Step.TheVariants as steps

-- a peer: what it has yet to say, how many bytes of that are there, and what was said to it
pub record Seat : Type 0 where
  pub left : List ℕ
  pub ready : ℕ
  pub told : List ℕ

-- its calls that answered, its peers by number, how many of them came, the steps that are left, how many calls there were, which are to fail, and how many have failed
pub record CrowdState : Type 0 where
  pub did : List Event
  pub seats : List Seat
  pub present : ℕ
  pub steps : List Step
  pub calls : ℕ
  pub fails : List ℕ
  pub faults : ℕ

abbrev pub call_succeeds : CrowdState → Bool
call_succeeds s = not (is_listed s.calls s.fails)

abbrev pub lefts : List Seat → List (List ℕ)
lefts seats = map (λ s. s.left) seats

abbrev pub at_seat : ℕ → (Seat → Seat) → List Seat → List Seat
at_seat peer f [] = []
at_seat zero f (s ∷ more) = f s ∷ more
at_seat (suc peer) f (s ∷ more) = s ∷ at_seat peer f more

-- so many further bytes of it are there
abbrev pub allowed : ℕ → Seat → Seat
allowed count s = record { left = s.left; ready = min (s.ready + count) (length s.left); told = s.told }

abbrev pub told_more : List ℕ → Seat → Seat
told_more bytes s = record { left = s.left; ready = s.ready; told = s.told ++ bytes }

-- whose turn a step makes it
abbrev pub turn_of : Step → ℕ → ℕ → Turn
turn_of steps.Comes present all = if nat_lt present all then turns.Came present else turns.Of present
turn_of (steps.Has peer count) present all = turns.Of peer
turn_of (steps.Silent peer) present all = if nat_lt peer present then turns.Silent peer else turns.Of peer

-- what it makes of the peers
abbrev pub seats_after : Step → ℕ → List Seat → List Seat
seats_after steps.Comes present seats = seats
seats_after (steps.Has peer count) present seats = if nat_lt peer present then at_seat peer (allowed count) seats else seats
seats_after (steps.Silent peer) present seats = seats

-- a turn takes the first step, and behind the last one it is nobody's
pub record StepsOn (old new : CrowdState) (turn : Turn) : Type 0 where
  pub step : Step
  pub first : old.steps ≡ step ∷ new.steps
  pub turn_is : turn ≡ turn_of step old.present (length old.seats)
  pub seats : new.seats ≡ seats_after step old.present old.seats

pub record StepsPast (old new : CrowdState) (turn : Turn) : Type 0 where
  pub none : old.steps ≡ []
  pub turn_is : turn ≡ turns.Nobody
  pub steps : new.steps ≡ []
  pub seats : new.seats ≡ old.seats

abbrev pub TakesStep : CrowdState → CrowdState → Turn → Type 0
TakesStep old new turn = StepsOn old new turn ⊎ StepsPast old new turn

-- what a read gives: of one that came, as much as is there and as there is room for
abbrev pub heard_in : Seat → ℕ → Heard
heard_in s room = if length s.left == 0 then reads.End else (if min s.ready room == 0 then reads.Later else reads.Some (min s.ready room))

abbrev pub heard_at : ℕ → List Seat → ℕ → Heard
heard_at peer [] room = reads.Later
heard_at zero (s ∷ more) room = heard_in s room
heard_at (suc peer) (s ∷ more) room = heard_at peer more room

abbrev pub heard_of : ℕ → ℕ → List Seat → ℕ → Heard
heard_of peer present seats room = if nat_lt peer present then heard_at peer seats room else reads.Later
