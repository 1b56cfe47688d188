-- A run in which the one node that had a record is wiped: its steps up to the one in which a reader asks the node once more, and from there to the one in which it calls the number lost.
use Rattle.std.specs.Prelude.{ℕ, List, [], ◌∷◌, ◌++◌, map}
use Rattle.ld_lsn.specs.Number.{numbered}
use Rattle.ld_table.specs.Words.{numbers_from}
use Rattle.ld_schedule.specs.declared.event.Event.TheVariants as events
use Rattle.ld_machine.specs.Run.{Move, Takes}
use Rattle.ld_rows.specs.Schedules.{sequencer_a, sequencer_b, reader_r}

abbrev pub one : ℕ
one = numbered 1 1

abbrev pub delivered : ℕ → Move
delivered i = Takes (events.Deliver i)

-- the record is stored and acknowledged, and its epoch is closed
abbrev pub closed : List Move
closed =
    Takes (events.Format 1) ∷ Takes (events.Activate sequencer_a 1) ∷ Takes (events.Append sequencer_a (1 ∷ [])) ∷ map delivered (numbers_from 0 3)
    ++ Takes (events.Activate sequencer_b 1) ∷ map delivered (numbers_from 3 8)

-- the node is wiped, formatted, and told that the epoch is closed; a reader asks it for the record
abbrev pub before_asks : List Move
before_asks =
    closed ++ Takes (events.Wipe 1) ∷ Takes (events.Format 1) ∷ Takes (events.Tick 1 1) ∷ Takes (events.Open reader_r 1 one one) ∷ Takes (events.Poll reader_r) ∷ delivered 11 ∷ []

-- it says that it is lost, so it is asked once more
abbrev pub asks : Move
asks = delivered 12

abbrev pub after_asks : List Move
after_asks = delivered 13 ∷ []

-- and says so again
abbrev pub gives : Move
gives = delivered 14
