-- How the drive of a sequencer over payloads and trims ends.
use Rattle.std.specs.Prelude.{◌⊎◌, ◌≡◌, ◌+◌, ◌<◌, ℕ, List, [], Option, None, Some, Bool, true, false}
use Rattle.std.specs.declared.result.Result.{Result}
use Rattle.std.specs.declared.result.Result.TheVariants.{Ok, Err}
use Rattle.std.specs.Io.KnownBytes.{Appends}
use Rattle.ld_table.specs.Named.{find_named}
use Rattle.ld_ids.specs.Set.{members}
use Rattle.ld_config.specs.declared.config.Config.{Config}
use Rattle.ld_schedule.specs.declared.event.Event.{Event}
use Rattle.ld_schedule.specs.declared.event.Event.TheVariants.{Activate}
use Rattle.ld_msg.specs.declared.msg.Msg.{Msg}
use Rattle.ld_msg.specs.Register.{Register}
use Rattle.ld_sequencer.specs.Whole.{Whole, is_settled}
use Rattle.ld_machine.specs.Config.{first_spec}
use Rattle.ld_machine.specs.State.{State}
use Rattle.ld_dial.specs.Far.{Far}
use Rattle.ld_rounds.specs.Queued.{are_empty}
use Rattle.ld_rounds.specs.News.{AreNews}
use Rattle.ld_rounds.specs.Input.{Input}
use Rattle.ld_rounds.specs.Rounds as rounds
use Rattle.ld_rounds.specs.Rounds.{Splits, IsOne, IsBegun, FeedsUntil, Both, AppendsUntil}
use Rattle.ld_rounds.specs.Drives.{Driver, Stopped, Turned, CallCounts, HasBroken}
use Rattle.ld_rounds.specs.Reaching.{Reached}
use Rattle.ld_rounds.specs.declared.ended.Refusal.TheVariants as refusals
use Rattle.ld_rounds.specs.declared.ended.Ended.{Ended}
use Rattle.ld_rounds.specs.declared.ended.Ended.TheVariants as ends
use Rattle.ld_rounds.specs.Endings.{IsEnding}
use Rattle.ld_rounds.specs.Refusals.{IsRefusal}
use Rattle.ld_rounds.specs.Feeding.{IsAppendEnding}
use Rattle.ld_append.specs.Acting.{takes}

-- at the activation: nothing is written where the register holds as many other logs as may be, or is damaged from that offset on
abbrev pub IsStartEnding : Type 0 → (ℕ → Type 0) → ℕ → ℕ → Option (List ℕ) → Option (List ℕ) → Ended → Type 0
IsStartEnding crowded damaged before now old new ends.LogLimit = Appends old new [] × crowded
IsStartEnding crowded damaged before now old new (ends.Register (refusals.Damaged place)) = Appends old new [] × damaged place
IsStartEnding crowded damaged before now old new ended = IsEnding before now old new ended

-- at the activation, or as the rounds do
abbrev pub IsDriveEnding : Type 0 → (ℕ → Type 0) → Option Input → ℕ → ℕ → ℕ → ℕ → Option (List ℕ) → Option (List ℕ) → Ended → Type 0
IsDriveEnding crowded damaged coming input_before input_now before now old new ended = IsStartEnding crowded damaged before now old new ended ⊎ IsAppendEnding coming input_before input_now before now old new ended

-- or it is done, all rounds were taken, or the register refused a close, since it holds as many other logs as may be
abbrev pub IsEndOfAppend : Type 0 → (ℕ → Type 0) → Option Input → ℕ → ℕ → ℕ → ℕ → Option (List ℕ) → Option (List ℕ) → Ended → Type 0
IsEndOfAppend crowded damaged coming input_before input_now before now old new ends.Done = Unit {0}
IsEndOfAppend crowded damaged coming input_before input_now before now old new ends.Rounds = Unit {0}
IsEndOfAppend crowded damaged coming input_before input_now before now old new ends.LogLimit = crowded
IsEndOfAppend crowded damaged coming input_before input_now before now old new ended = IsDriveEnding crowded damaged coming input_before input_now before now old new ended

-- why the register refused, where it ends by that, by the register's counts of faults before and now: a call of it failed; or none did, and it was damaged from that offset on, or whole and is without room
abbrev pub IsRefused : (ℕ → Type 0) → Type 0 → ℕ → ℕ → Ended → Type 0
IsRefused damaged whole before now (ends.Register refusal) = IsRefusal (λ place. (now ≡ before) × damaged place) ((now ≡ before) × whole) before now refusal
IsRefused damaged whole before now _ = Unit {0}

-- all rounds were taken
abbrev pub taken_end : Bool → Ended
taken_end true = ends.LogLimit
taken_end false = ends.Rounds

-- ---- what the drive has come to ----

-- it has no sequencer of the name, and a register that is told
pub record HasNone (name : List ℕ) (tells : Register → Type 0) (s : State) : Type 0 where
  pub free : find_named name s.sequencers ≡ None
  pub register : tells s.register

-- its sequencer of the name has each append acknowledged and each epoch before its own closed, no message to a node that is new from the first offset on waits, and no answer is to be taken
pub record IsSettled (name : List ℕ) (c : Config) (first : ℕ) (s : State) : Type 0 where
  pub sequencer : Whole
  pub there : find_named name s.sequencers ≡ Some sequencer.sequencer
  pub known : sequencer.origin.first ≡ first_spec c sequencer.sequencer.log
  pub settled : is_settled sequencer ≡ true
  pub queues : List (List Msg)
  pub news : AreNews first s.network queues []
  pub empty : are_empty queues ≡ true

-- ---- its steps ----

-- the activation, and so many rounds over the configuration's nodes, with this to come
abbrev pub AreSteps : List ℕ → ℕ → Config → ℕ → CallCounts → Option Input → Ended → ℕ → State → List Event → Type 0
AreSteps name log c first counts coming ended n s es = Splits (IsOne (Activate name log)) (rounds.Appends name c first (members c.nodes) counts coming ended n) c s es

-- the activation, and fewer rounds and a part of one
pub record AreSome (name : List ℕ) (log : ℕ) (c : Config) (first : ℕ) (counts : CallCounts) (coming : Option Input) (ended : Ended) (most : ℕ) (s : State) (es : List Event) : Type 0 where
  pub rounds : ℕ
  pub below : rounds < most
  pub goes : Splits (IsOne (Activate name log)) (AppendsUntil name c first (members c.nodes) counts coming ended rounds) c s es

-- at most the activation, by which it ends, or those
abbrev pub EndAt : List ℕ → ℕ → Config → ℕ → CallCounts → Option Input → ℕ → Ended → State → List Event → Type 0
EndAt name log c first counts coming most ended s es = Both (IsBegun (Activate name log)) (FeedsUntil c coming ended) s es ⊎ AreSome name log c first counts coming ended most s es

-- the sequencer that is driven
abbrev pub sequencing : List ℕ → Driver
sequencing name = record { name = name; takes = takes name; ticks = None }

-- by those steps, with these rounds, by the counts of the nodes before and now; where it is done its sequencer is settled. It never ends with a frame that is off
abbrev pub IsAppended : List ℕ → ℕ → CallCounts → Option Input → ℕ → (Config → Far → Type 0) → (Register → Type 0) → Config → State → Option (List ℕ) → Option (List ℕ) → Ended → Type 0
IsAppended name log counts coming rounds tells registered c s old new ends.Done =
    Turned 1 (rounds + 1) (λ n. Reached (sequencing name) (HasBroken counts) (AreSteps name log c s.network.count counts coming ends.Done n) (tells c) c s old new (λ t. registered t.register × IsSettled name c s.network.count t))
IsAppended name log counts coming rounds tells registered c s old new ends.Rounds = Reached (sequencing name) (HasBroken counts) (AreSteps name log c s.network.count counts coming ends.Rounds rounds) (tells c) c s old new (λ t. registered t.register)
IsAppended name log counts coming rounds tells registered c s old new ends.NoMemory = Stopped (sequencing name) (HasBroken counts) (EndAt name log c s.network.count counts coming rounds ends.NoMemory) c s old new
IsAppended name log counts coming rounds tells registered c s old new ends.Write = Stopped (sequencing name) (HasBroken counts) (EndAt name log c s.network.count counts coming rounds ends.Write) c s old new
IsAppended name log counts coming rounds tells registered c s old new ends.LogLimit =
    Reached (sequencing name) (HasBroken counts) (λ t es. AreSteps name log c s.network.count counts coming ends.Rounds rounds t es ⊎ EndAt name log c s.network.count counts coming rounds ends.LogLimit t es) (tells c) c s old new (λ t. registered t.register)
IsAppended name log counts coming rounds tells registered c s old new (ends.BadFrame fault) = ⊥
IsAppended name log counts coming rounds tells registered c s old new ended = Reached (sequencing name) (HasBroken counts) (EndAt name log c s.network.count counts coming rounds ended) (tells c) c s old new (λ t. registered t.register)

-- how the rounds went: they were all taken, or after one of them it was done
abbrev pub DroveAppend : List ℕ → ℕ → CallCounts → Option Input → ℕ → (Config → Far → Type 0) → (Register → Type 0) → Config → State → Option (List ℕ) → Option (List ℕ) → Result Bool Ended → Type 0
DroveAppend name log counts coming rounds tells registered c s old new (Ok true) = IsAppended name log counts coming rounds tells registered c s old new ends.Done
DroveAppend name log counts coming rounds tells registered c s old new (Ok false) = IsAppended name log counts coming rounds tells registered c s old new ends.Rounds
DroveAppend name log counts coming rounds tells registered c s old new (Err ended) = IsAppended name log counts coming rounds tells registered c s old new ended
