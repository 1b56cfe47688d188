-- Nodes that are lost, and those that may be: where a crash left two states that a load may find, in one of them.
use Rattle.std.specs.Prelude.{ℕ, ◌≡◌, ◌≤◌, ◌<◌, ◌⊎◌, List, [], ◌∷◌, ◌++◌, Option, Some, None, Bool, true, false, ◌&&◌, ◌||◌, nat_le, if◌then◌else◌}
use Rattle.ld_table.specs.Table.{find}
use Rattle.ld_table.specs.Named.{find_named}
use Rattle.ld_table.specs.Words.{is_in, how_many}
use Rattle.ld_lsn.specs.Number.{esn_of, home_epoch}
use Rattle.ld_config.specs.declared.config.Config.{Config}
use Rattle.ld_config.specs.Bounds.{IsInBounds}
use Rattle.ld_transcript.specs.declared.line.Line.TheVariants as lines
use Rattle.ld_transcript.specs.declared.line.GapKind.TheVariants as gaps
use Rattle.ld_msg.specs.declared.msg.Summary.{Summary}
use Rattle.ld_msg.specs.Reading.{Held, lacks}
use Rattle.ld_msg.specs.Reader.{Reader}
use Rattle.ld_op.specs.Plain.{Plain, log_of, is_lost}
use Rattle.ld_machine.specs.Config.{fixed_of, fixed_at, spec_of, set_at}
use Rattle.ld_machine.specs.Disk.{Node, Cut}
use Rattle.ld_machine.specs.State.{node_at}
use Rattle.ld_machine.specs.Facts.{Writes, Lost, standing, stands_for, stands_lost}
use Rattle.ld_machine.specs.World.{World, Made, In, HasPlan, begin, MayHold, has_append, has_settled, made_on}
use Rattle.ld_machine.specs.Calm.{event_of}
use Rattle.ld_machine.specs.Run.{Move, after_step, world_after, step_happened, trace}
use Rattle.ld_machine.specs.Invariant.{Closed, Ready}
use Rattle.ld_machine.specs.Losses.{Completes, EndsAsLoss}
use Rattle.ld_safety.specs.Closes.{ClosedFully, ClosedShort}

-- ---- lost under a generation ----

-- a state that a load may find at the node is lost for the epoch of the log, under the generation
abbrev pub LostUnder : Node → ℕ → ℕ → ℕ → Type 0
LostUnder x l e g = (p : Plain) × MayHold x p × (p.generation ≡ g) × (is_lost (log_of p l) e ≡ true)

-- a node that is lost under a generation, and is so later, was so all the time between
abbrev pub LostOnce : Type 0
LostOnce = (c : Config) (first between last : List Move) (y l e g : ℕ) → IsInBounds c →
    LostUnder (node_at (world_after c (begin c) first).state y) l e g →
    LostUnder (node_at (world_after c (world_after c (world_after c (begin c) first) between) last).state y) l e g →
    LostUnder (node_at (world_after c (world_after c (begin c) first) between).state y) l e g

-- ---- rebuilt ----

-- formatted, and not lost for the log, in each plain state that a load may find
abbrev pub IsWhole : ℕ → Node → Type 0
IsWhole l x = (p : Plain) → MayHold x p → (0 < p.generation) × ((log_of p l).lost ≡ false)

-- a node that is so stays so, and no line says that it is rebuilt, until a line says that it is wiped: also where a crash hid the record that it is rebuilt, so that no line told of it, and a load found it
abbrev pub WholeStays : Type 0
WholeStays = (c : Config) (first last : List Move) (y l : ℕ) → IsInBounds c →
    IsWhole l (node_at (world_after c (begin c) first).state y) →
    ((k : ℕ) → Writes (trace c (world_after c (begin c) first) last) k (lines.NodeWiped y) → ⊥) →
    IsWhole l (node_at (world_after c (world_after c (begin c) first) last).state y) × ((k : ℕ) → Writes (trace c (world_after c (begin c) first) last) k (lines.NodeRebuilt y l) → ⊥)

-- ---- when the confirming asks are sent ----

-- the node is lost for the epoch in its plain state: before a record that was cut short, where there is one
abbrev pub is_lost_at : ℕ → ℕ → Node → Bool
is_lost_at l e x = is_lost (log_of x.plain l) e

abbrev pub cut_may : ℕ → ℕ → Option Cut → Bool
cut_may l e None = false
cut_may l e (Some k) = is_lost (log_of k.plain l) e

-- the node may be lost for the epoch: before that record, or after it
abbrev pub may_be_lost : ℕ → ℕ → Node → Bool
may_be_lost l e x = is_lost_at l e x || cut_may l e x.cut

-- the reader of the name holds a clean page of the node that covers the number without it
pub record ShowsWithout (w : World) (name : List ℕ) (s y : ℕ) : Type 0 where
  pub reader : Reader
  pub there : find_named name w.state.readers ≡ Some reader
  pub answer : Held
  pub held : find y reader.held ≡ Some answer
  pub without : lacks s answer.body ≡ true

-- the node is lost for the number's epoch, and stands lost for it in the lines
pub record SeenLost (c : Config) (before : List Move) (asks : Move) (l s y : ℕ) : Type 0 where
  pub state : is_lost_at l (home_epoch s) (node_at (after_step c (world_after c (begin c) before) asks).state y) ≡ true
  pub lines : stands_for (home_epoch s) (standing y l (trace c (begin c) before ++ step_happened c (world_after c (begin c) before).state asks ∷ []) Lost) ≡ true

-- when a reader asks once more for a number that it then calls lost, each node of the number's epoch is lost for it, or had shown the reader a clean page without it
abbrev pub LossesWereSeen : Type 0
LossesWereSeen = (c : Config) (name : List ℕ) (l s round : ℕ) (before : List Move) (asks : Move) (between : List Move) (gives : Move) (y : ℕ) → IsInBounds c →
    EndsAsLoss c name l s round before asks between gives → is_in y (set_at c (after_step c (world_after c (begin c) before) asks).state.register l (home_epoch s)) ≡ true →
    SeenLost c before asks l s y ⊎ ShowsWithout (after_step c (world_after c (begin c) before) asks) name s y

-- the node has answered for the copy of the number that counts where its epoch is closed so: it settled the number for the closing plan, or it stored the append where that was known good; or it took a place in the epoch
abbrev pub has_copied : World → ℕ → ℕ → Summary → ℕ → Bool
has_copied w l s y n = if nat_le (esn_of s) y.lng then has_append w l s n else has_settled w l s y.ballot n

-- as many nodes of the number's epoch as it has copies are lost; and where the number was known good as the epoch was closed, or each item of the closing plan was settled by as many, so many are lost that had so answered, or took places in the epoch: each in its plain state, which a crash leaves where the record that the node writes is lost.
-- Each item of the closing plan was settled so, and stays so, where the epoch was closed fully; else it was closed short, and the lost nodes may be any, whether or not they answered.
-- It doesn't hold that each of them is lost in both states that a crash leaves, nor in the one that a load would find: a lost node that crashes in the record that it is rebuilt is not lost after this record.
-- With three nodes and two copies: nodes 1 and 3 have a record; node 3 is wiped and gets it back from node 1, which is wiped then; a reader hears that node 3 is lost, which crashes in that record, at the third writing call, with a picture of the open gate.
-- The reader hears that node 1 is lost, and asks both once more. A load of node 3 would find it rebuilt now; it crashes in its next load with a picture of the closed gate, loads, is found lost, and says so under the generation that was held for it, as does node 1.
-- So the number is called lost, and one node alone had been lost in both states, and in the state that a load would find (the run is `torn_later` in ld_rows).
abbrev pub CopiesAreLost : Config → World → ℕ → ℕ → Type 0
CopiesAreLost c w l s = (y : Summary) × Closed w l (home_epoch s) y ×
    ((spec_of c w.state.register l (home_epoch s)).r ≤ how_many (λ n. is_lost_at l (home_epoch s) (node_at w.state n)) (set_at c w.state.register l (home_epoch s))) ×
    ((esn_of s ≤ y.lng) ⊎ Ready c w l (home_epoch s) y.ballot → (spec_of c w.state.register l (home_epoch s)).r ≤ how_many (λ n. is_lost_at l (home_epoch s) (node_at w.state n) && has_copied w l s y n) (set_at c w.state.register l (home_epoch s))) ×
    (ClosedFully c w l (home_epoch s) y ⊎ ClosedShort c w l (home_epoch s) y)

-- that holds where the reader asks once more for a number that it then calls lost
abbrev pub CopiesWereLost : Type 0
CopiesWereLost = (c : Config) (name : List ℕ) (l s round : ℕ) (before : List Move) (asks : Move) (between : List Move) (gives : Move) → IsInBounds c →
    EndsAsLoss c name l s round before asks between gives → CopiesAreLost c (after_step c (world_after c (begin c) before) asks) l s

-- ---- plans that say what is lost ----

-- one of these steps made the plan, and before that step as many of the nodes that were fixed for the epoch as it has copies stood lost for it in the lines
pub record MadeOfLost (c : Config) (steps : List Move) (l e : ℕ) (plan : Made) : Type 0 where
  pub earlier : List Move
  pub move : Move
  pub after : List Move
  pub split : steps ≡ earlier ++ move ∷ after
  pub makes : In plan (made_on c (world_after c (begin c) earlier).state (event_of move))
  pub stood : (fixed_of c (world_after c (begin c) earlier).state.register l e).r ≤ how_many (stands_lost l e (trace c (begin c) earlier)) (fixed_at c (world_after c (begin c) earlier).state.register l e)

-- the epoch has a plan that says what is lost, and it was made so
pub record LossPlanned (c : Config) (steps : List Move) (l e : ℕ) : Type 0 where
  pub ballot : ℕ
  pub plan : Made
  pub there : HasPlan (world_after c (begin c) steps) l e ballot plan
  pub says : plan.loss ≡ true
  pub moment : MadeOfLost c steps l e plan

-- numbers that a reader is told are lost are of an epoch that has such a plan, except the one number whose confirmation the step completes
abbrev pub LossesWereTold : Type 0
LossesWereTold = (c : Config) (name : List ℕ) (low high n : ℕ) (before : List Move) (gives : Move) (d : Reader) → IsInBounds c → find_named name (world_after c (begin c) before).state.readers ≡ Some d →
    In (lines.Gap name gaps.DataLoss low high) (step_happened c (world_after c (begin c) before).state gives).lines → (Completes (world_after c (begin c) before) d gives → low ≡ d.next → high ≡ d.next → ⊥) → low ≤ n → n ≤ high →
    LossPlanned c before d.log (home_epoch n)

-- ---- losses that are confirmed ----

-- a step before sent the confirming asks, so that the reader's loss ends so
pub record LossAsked (c : Config) (name : List ℕ) (l s : ℕ) (before : List Move) (gives : Move) : Type 0 where
  pub round : ℕ
  pub earlier : List Move
  pub asks : Move
  pub between : List Move
  pub split : before ≡ earlier ++ asks ∷ between
  pub ends : EndsAsLoss c name l s round earlier asks between gives

-- the one number that is excepted there is one whose asks were sent in a step before
abbrev pub LossesWereAsked : Type 0
LossesWereAsked = (c : Config) (name : List ℕ) (s : ℕ) (before : List Move) (gives : Move) (d : Reader) → find_named name (world_after c (begin c) before).state.readers ≡ Some d →
    In (lines.Gap name gaps.DataLoss s s) (step_happened c (world_after c (begin c) before).state gives).lines → Completes (world_after c (begin c) before) d gives → s ≡ d.next → LossAsked c name d.log s before gives
