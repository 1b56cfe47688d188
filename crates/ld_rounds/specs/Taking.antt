-- How the rounds of a drive went.
use Rattle.std.specs.Prelude.{ℕ, List, Option, Bool}
use Rattle.std.specs.declared.result.Result.{Result}
use Rattle.ld_config.specs.declared.config.Config.{Config}
use Rattle.ld_msg.specs.declared.msg.Msg.{Msg}
use Rattle.ld_machine.specs.State.{State}
use Rattle.ld_dial.specs.Far.{Far}
use Rattle.ld_rounds.specs.declared.ended.Ended.{Ended}
use Rattle.ld_rounds.specs.declared.ended.Ended.TheVariants as ends
use Rattle.ld_rounds.specs.Input.{Input}
use Rattle.ld_rounds.specs.Rounds.{Appends, AppendsUntil, AreReadRounds, ReadsUntil}
use Rattle.ld_rounds.specs.Drives.{Driver, CallCounts, HasBroken, Went, Stops, TookRounds}

-- of a sequencer over these nodes, with this to come
abbrev pub TookAppends : Driver → CallCounts → List ℕ → Option Input → ℕ → (Config → State → Type 0) → (Far → Type 0) → Config → ℕ → State → List (List Msg) → Option (List ℕ) → Option (List ℕ) → Result Bool Ended → Type 0
TookAppends who counts ys coming rounds stands tells c first s queues old new result = TookRounds rounds
    (λ n. Went who (HasBroken counts) (Appends who.name c first ys counts coming ends.Rounds n) stands tells c first s queues old new)
    (λ n. Went who (HasBroken counts) (Appends who.name c first ys counts coming ends.Done n) stands tells c first s queues old new)
    (λ e n. Stops who (HasBroken counts) (λ f. AppendsUntil who.name c first ys counts coming f n) stands tells c first s queues old new e) result

-- of a reader over these nodes, which is sparing or isn't
abbrev pub TookReads : Bool → Driver → CallCounts → List ℕ → ℕ → (Config → State → Type 0) → (Far → Type 0) → Config → ℕ → State → List (List Msg) → Option (List ℕ) → Option (List ℕ) → Result Bool Ended → Type 0
TookReads sparing who counts ys rounds stands tells c first s queues old new result = TookRounds rounds
    (λ n. Went who (HasBroken counts) (AreReadRounds sparing who.name c first ys n counts) stands tells c first s queues old new)
    (λ n. Went who (HasBroken counts) (AreReadRounds sparing who.name c first ys n counts) stands tells c first s queues old new)
    (λ e n. Stops who (HasBroken counts) (λ f. ReadsUntil sparing who.name c first ys n counts) stands tells c first s queues old new e) result
