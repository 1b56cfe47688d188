-- What is left to do of a calm, and its steps.
use Rattle.std.specs.Prelude.{ℕ, ◌≡◌, ◌⊎◌, List, [], ◌∷◌, ◌++◌, Bool, true, false, Some, None}
use Rattle.ld_transcript.specs.declared.line.Line.{Line}
use Rattle.ld_config.specs.declared.config.Config.{Config}
use Rattle.ld_machine.specs.Calm.{Move, Left, Announces, Settles, Ticks, Reads, Drains, Again, moved, next_of, steps_from, calmed, calms, calm_moves}
use Rattle.ld_machine.specs.Config.{has_log, has_node}
use Rattle.ld_cluster.specs.declared.cluster.Cluster.{Cluster}
use Rattle.ld_cluster.specs.declared.part.Part.{Part}
use Rattle.ld_cluster.specs.declared.part.Part.TheVariants as parts
use Rattle.ld_cluster.specs.Standing.{config_of, past_of, state_of, IsReached}
use Rattle.ld_cluster.specs.Steps.{IsStep, IsStepInPart}
use Rattle.ld_cluster.specs.Outcomes.{IsSame}

-- ---- what is left ----

abbrev pub as_left : Part → Left
as_left (parts.Announces l) = Announces l
as_left (parts.Settles l) = Settles l
as_left (parts.Ticks l n) = Ticks l n
as_left (parts.Reads name) = Reads name
as_left parts.Drains = Drains
as_left (parts.Again name next) = Again name next

-- parts of which the last one is the next, before others
abbrev pub left_before : List Part → List Left → List Left
left_before [] rest = rest
left_before (p ∷ ps) rest = left_before ps (as_left p ∷ rest)

-- parts of which the last one is the next
abbrev pub left_in : List Part → List Left
left_in ps = left_before ps []

-- a node that ticks and its log are of the configuration
abbrev pub IsOf : Config → Left → Type 0
IsOf c (Ticks l n) = (has_node c n ≡ true) × (has_log c l ≡ true)
IsOf c _ = Unit {0}

abbrev pub AreOf : Config → List Left → Type 0
AreOf c [] = Unit {0}
AreOf c (p ∷ ps) = IsOf c p × AreOf c ps

-- the part delivers messages
abbrev pub IsDelivering : Left → Type 0
IsDelivering (Settles l) = Unit {0}
IsDelivering Drains = Unit {0}
IsDelivering _ = ⊥

-- ---- one step ----

-- the next step was taken, and what is left to do then is the rest
pub record TookNext (old : Cluster) (lines_old : List Line) (left : List Left) (new : Cluster) (lines_new : List Line) (rest : List Left) : Type 0 where
  pub move : Move
  pub next : next_of (config_of old) (state_of old) left ≡ Some (record { move = move; left = rest })
  pub step : IsStep old new lines_old lines_new (moved (config_of old) (state_of old) move) (move ∷ [])

-- nothing is left to do, and nothing was done
pub record TookNone (old : Cluster) (lines_old : List Line) (left : List Left) (new : Cluster) (lines_new : List Line) : Type 0 where
  pub none : next_of (config_of old) (state_of old) left ≡ None
  pub same : new ≡ old
  pub lines : lines_new ≡ lines_old

abbrev pub MayTake : Bool → Cluster → List Line → List Left → Cluster → List Line → List Left → Type 0
MayTake true old lines_old left new lines_new rest = TookNext old lines_old left new lines_new rest
MayTake false old lines_old left new lines_new rest = TookNone old lines_old left new lines_new

-- the part has no step: what comes next is the rest's
pub record Passes (old : Cluster) (lines_old : List Line) (left rest : List Left) (new : Cluster) (lines_new : List Line) (left_new : List Left) : Type 0 where
  pub next : next_of (config_of old) (state_of old) left ≡ next_of (config_of old) (state_of old) rest
  pub same : new ≡ old
  pub lines : lines_new ≡ lines_old
  pub rest_is : left_new ≡ rest

abbrev pub Begins : Bool → Cluster → List Line → List Left → List Left → Cluster → List Line → List Left → Type 0
Begins true old lines_old left rest new lines_new left_new = TookNext old lines_old left new lines_new left_new
Begins false old lines_old left rest new lines_new left_new = Passes old lines_old left rest new lines_new left_new

-- there was no memory for the next step: nothing of it is told, or its first lines are
pub record CutOff (old : Cluster) (lines_old : List Line) (left : List Left) (new : Cluster) (lines_new : List Line) : Type 0 where
  pub move : Move
  pub rest : List Left
  pub next : next_of (config_of old) (state_of old) left ≡ Some (record { move = move; left = rest })
  pub part : IsStepInPart old new lines_old lines_new (moved (config_of old) (state_of old) move) (move ∷ [])

abbrev pub IsCut : Cluster → List Line → List Left → Cluster → List Line → Type 0
IsCut old lines_old left new lines_new = (IsSame old new × (lines_new ≡ lines_old)) ⊎ CutOff old lines_old left new lines_new

-- ---- all of them ----

-- the steps so far, and those that are left to be looked for
pub record IsCalming (old : Cluster) (lines_old : List Line) (now : Cluster) (lines_now : List Line) (left : List Left) (fuel : ℕ) : Type 0 where
  pub config : config_of now ≡ config_of old
  pub state : (calmed fuel (config_of old) (state_of now) left).state ≡ (calms (config_of old) (state_of old)).state
  pub lines : lines_now ++ (calmed fuel (config_of old) (state_of now) left).lines ≡ lines_old ++ (calms (config_of old) (state_of old)).lines
  pub past : past_of now ++ steps_from fuel (config_of old) (state_of now) left ≡ past_of old ++ calm_moves (config_of old) (state_of old)
  pub made : List Move
  pub made_are : past_of now ≡ past_of old ++ made
  pub told : List Line
  pub told_are : lines_now ≡ lines_old ++ told
  pub of : AreOf (config_of old) left
  pub reached : IsReached now

-- the steps of a calm were taken
pub record HasCalmed (old : Cluster) (lines_old : List Line) (new : Cluster) (lines_new : List Line) : Type 0 where
  pub config : config_of new ≡ config_of old
  pub past : past_of new ≡ past_of old ++ calm_moves (config_of old) (state_of old)
  pub state : state_of new ≡ (calms (config_of old) (state_of old)).state
  pub lines : lines_new ≡ lines_old ++ (calms (config_of old) (state_of old)).lines
  pub reached : IsReached new
