-- What the drive of a reader has come to.
use Rattle.std.specs.Prelude.{ℕ, ◌≡◌, ◌⊎◌, ◌+◌, ◌<◌, List, [], Bool, true, false, Option, Some}
use Rattle.std.specs.declared.result.Result.{Result}
use Rattle.std.specs.declared.result.Result.TheVariants.{Ok, Err}
use Rattle.std.specs.Io.KnownBytes.{Appends}
use Rattle.ld_io.specs.Causes.{Rose}
use Rattle.ld_table.specs.Named.{find_named}
use Rattle.ld_ids.specs.Set.{members}
use Rattle.ld_config.specs.declared.config.Config.{Config}
use Rattle.ld_schedule.specs.declared.event.Event.{Event}
use Rattle.ld_msg.specs.declared.style.Style.{Style}
use Rattle.ld_msg.specs.Reader.{Reader, is_finished, is_single}
use Rattle.ld_msg.specs.Register.{Register}
use Rattle.ld_machine.specs.State.{State}
use Rattle.ld_clients.specs.Reads as readings
use Rattle.ld_dial.specs.Far.{Far}
use Rattle.ld_rounds.specs.declared.ended.Ended.{Ended}
use Rattle.ld_rounds.specs.declared.ended.Ended.TheVariants as ends
use Rattle.ld_rounds.specs.Rounds.{Splits, IsOne, IsBegun, AreReadRounds, ReadsUntil}
use Rattle.ld_rounds.specs.Drives.{Driver, Stopped, Turned, CallCounts, HasBroken}
use Rattle.ld_rounds.specs.Reaching.{Reached}
use Rattle.ld_rounds.specs.Onward.{RunsOn}
use Rattle.ld_rounds.specs.Output.{AppendsPart}
use Rattle.ld_tail.specs.Looking.{IsLookEnd}
use Rattle.ld_tail.specs.Readers.{takes}

-- it has no readers, and a register that is told
pub record HasNone (tells : Register → Type 0) (s : State) : Type 0 where
  pub readers : s.readers ≡ []
  pub register : tells s.register

-- what a reader is opened on, and how it reads
pub record Wanted : Type 0 where
  pub name : List ℕ
  pub log : ℕ
  pub from : ℕ
  pub until : ℕ
  pub style : Style

abbrev pub opening : Wanted → Event
opening w = readings.opening w.style w.name w.log w.from w.until

-- the reader that is driven: it tells nodes of its log's closed epochs
abbrev pub tailing : Wanted → Driver
tailing w = record { name = w.name; takes = takes w.log; ticks = Some w.log }

-- the reader of the name is past its last number
pub record IsFinished (name : List ℕ) (s : State) : Type 0 where
  pub reader : Reader
  pub there : find_named name s.readers ≡ Some reader
  pub finished : is_finished reader ≡ true

-- ---- its steps ----

-- the reader is opened, and so many rounds over the configuration's nodes; a reader of one copy is sparing with polls
abbrev pub AreSteps : Wanted → Config → ℕ → ℕ → CallCounts → State → List Event → Type 0
AreSteps w c first n counts s es = Splits (IsOne (opening w)) (AreReadRounds (is_single w.style) w.name c first (members c.nodes) n counts) c s es

-- the reader is opened, and fewer rounds and a part of one
pub record AreSome (w : Wanted) (c : Config) (first most : ℕ) (counts : CallCounts) (s : State) (es : List Event) : Type 0 where
  pub rounds : ℕ
  pub below : rounds < most
  pub goes : Splits (IsOne (opening w)) (ReadsUntil (is_single w.style) w.name c first (members c.nodes) rounds counts) c s es

-- at most the opening, or those
abbrev pub EndAt : Wanted → Config → ℕ → ℕ → CallCounts → State → List Event → Type 0
EndAt w c first most counts s es = IsBegun (opening w) s es ⊎ AreSome w c first most counts s es

-- by those steps, with these rounds, by the counts of the nodes before and now; where it is done its reader is finished, and where all rounds were taken it isn't. It never ends with a frame that is off. Where it can't go on the last step may have been done in part
abbrev pub IsTailed : Wanted → CallCounts → ℕ → (Config → Far → Type 0) → (Register → Type 0) → Config → State → Option (List ℕ) → Option (List ℕ) → Ended → Type 0
IsTailed w counts rounds tells registered c s old new ends.Done = Turned 1 (rounds + 1) (λ n. Reached (tailing w) (HasBroken counts) (AreSteps w c s.network.count n counts) (tells c) c s old new (λ t. registered t.register × IsFinished w.name t))
IsTailed w counts rounds tells registered c s old new ends.Rounds = Reached (tailing w) (HasBroken counts) (AreSteps w c s.network.count rounds counts) (tells c) c s old new (λ t. registered t.register × (0 < rounds → IsFinished w.name t → ⊥))
IsTailed w counts rounds tells registered c s old new (ends.BadFrame fault) = ⊥
IsTailed w counts rounds tells registered c s old new _ = Stopped (tailing w) (HasBroken counts) (EndAt w c s.network.count rounds counts) c s old new

-- how it may end, by the counts of faults before and now: the register's first, and then the output's
abbrev pub IsTailEnd : (ℕ → Type 0) → ℕ → ℕ → ℕ → ℕ → Ended → Type 0
IsTailEnd damaged register_before register_now before now ends.Done = Unit {0}
IsTailEnd damaged register_before register_now before now ends.Rounds = Unit {0}
IsTailEnd damaged register_before register_now before now (ends.BadFrame fault) = Unit {0}
IsTailEnd damaged register_before register_now before now ends.Write = Rose before now
IsTailEnd damaged register_before register_now before now ended = IsLookEnd damaged register_before register_now ended

-- how the rounds went: they were all taken, or after one of them the reader was finished
abbrev pub DroveTail : Wanted → CallCounts → ℕ → (Config → Far → Type 0) → (Register → Type 0) → Config → State → Option (List ℕ) → Option (List ℕ) → Result Bool Ended → Type 0
DroveTail w counts rounds tells registered c s old new (Ok true) = IsTailed w counts rounds tells registered c s old new ends.Done
DroveTail w counts rounds tells registered c s old new (Ok false) = IsTailed w counts rounds tells registered c s old new ends.Rounds
DroveTail w counts rounds tells registered c s old new (Err (ends.BadFrame fault)) = IsTailed w counts rounds tells registered c s old new (ends.BadFrame fault)
DroveTail w counts rounds tells registered c s old new (Err ended) = Stopped (tailing w) (HasBroken counts) (EndAt w c s.network.count rounds counts) c s old new

-- how it ends, where this is why the reader can't go on
abbrev pub end_of : Result Bool Ended → Ended → Ended
end_of (Ok true) why = ends.Done
end_of (Ok false) why = ends.Rounds
end_of (Err (ends.BadFrame fault)) why = ends.BadFrame fault
end_of (Err ends.Write) why = ends.Write
end_of (Err ended) why = why

-- how a run goes on by it: where it can't go on the last lines may have been written in part
abbrev pub EndsTail : Wanted → Type 0 → Config → List Event → Option (List ℕ) → Option (List ℕ) → Ended → Type 0
EndsTail w broken c before old new ends.Done = RunsOn (tailing w) broken (Appends old new) c before
EndsTail w broken c before old new ends.Rounds = RunsOn (tailing w) broken (Appends old new) c before
EndsTail w broken c before old new (ends.BadFrame fault) = ⊥
EndsTail w broken c before old new _ = RunsOn (tailing w) broken (AppendsPart old new) c before
