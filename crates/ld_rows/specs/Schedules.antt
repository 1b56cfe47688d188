-- Some schedules.
use Rattle.std.specs.Prelude.{ℕ, ◌-◌, List, [], ◌∷◌, ◌++◌, Bool, true, false, replicate, codes}
use Rattle.ld_lsn.specs.Number.{numbered}
use Rattle.ld_schedule.specs.declared.event.Event.{Event}
use Rattle.ld_schedule.specs.declared.event.Event.TheVariants as events
use Rattle.ld_schedule.specs.declared.event.Picture.{Picture}
use Rattle.ld_schedule.specs.declared.event.Picture.TheVariants as pictures
use Rattle.ld_config.specs.declared.config.Config.{Config}

-- the first nodes, as many as the number says
abbrev pub first_nodes : ℕ → List Bool
first_nodes k = replicate k true ++ replicate (16 - k) false

-- so many nodes keep one log, with so many copies of each record
abbrev pub one_log : ℕ → ℕ → Config
one_log k r = record { nodes = first_nodes k; logs = record { log = 1; set = first_nodes k; r = r; extras = 0 } ∷ [] }

abbrev pub three_nodes : Config
three_nodes = one_log 3 2

abbrev pub one_node : Config
one_node = one_log 1 1

abbrev pub five_nodes : Config
five_nodes = one_log 5 3

-- three of four nodes keep a log at first
abbrev pub four_nodes : Config
four_nodes = record { nodes = first_nodes 4; logs = record { log = 1; set = first_nodes 3; r = 2; extras = 0 } ∷ [] }

abbrev pub sequencer_a : List ℕ
sequencer_a = codes "a"

abbrev pub sequencer_b : List ℕ
sequencer_b = codes "b"

abbrev pub sequencer_c : List ℕ
sequencer_c = codes "c"

abbrev pub reader_r : List ℕ
reader_r = codes "r"

abbrev pub reader_q : List ℕ
reader_q = codes "q"

-- one record is appended, acknowledged, released and read
abbrev pub one_append : List Event
one_append =
    events.Format 1 ∷ events.Format 2 ∷ events.Format 3 ∷ events.Activate sequencer_a 1 ∷ events.Append sequencer_a (104 ∷ 105 ∷ []) ∷ events.Flow 10 ∷
    events.Open reader_r 1 1 (numbered 1 1) ∷ events.Poll reader_r ∷ events.Flow 20 ∷ []

-- a batch of two messages is appended, acknowledged, released and read
abbrev pub one_batch : List Event
one_batch =
    events.Format 1 ∷ events.Format 2 ∷ events.Format 3 ∷ events.Activate sequencer_a 1 ∷ events.Batch sequencer_a ((1 ∷ []) ∷ (2 ∷ []) ∷ []) ∷ events.Flow 10 ∷
    events.OpenMessages reader_r 1 1 (numbered 1 1) ∷ events.Poll reader_r ∷ events.Flow 20 ∷ []

-- nodes 1 and 4
abbrev pub first_and_fourth : List Bool
first_and_fourth = true ∷ false ∷ false ∷ true ∷ replicate 12 false

-- a record is stored on nodes of the first set, the next epoch's on the second set's, and both are read
abbrev pub moved : List Event
moved =
    events.Format 1 ∷ events.Format 2 ∷ events.Format 3 ∷ events.Format 4 ∷ events.Activate sequencer_a 1 ∷ events.Append sequencer_a (1 ∷ []) ∷ events.Flow 99 ∷
    events.Set 1 2 0 first_and_fourth ∷ events.Activate sequencer_b 1 ∷ events.Append sequencer_b (2 ∷ []) ∷ events.Flow 99 ∷
    events.Open reader_r 1 (numbered 1 1) (numbered 2 1) ∷ events.Poll reader_r ∷ events.Flow 99 ∷ []

-- two records are appended, one after the other
abbrev pub two_appends : List Event
two_appends =
    events.Format 1 ∷ events.Format 2 ∷ events.Format 3 ∷ events.Activate sequencer_a 1 ∷ events.Append sequencer_a (1 ∷ []) ∷ events.Append sequencer_a (2 ∷ []) ∷ []

-- a record that only one node stored: it is not acknowledged, and a reader waits
abbrev pub half_stored : List Event
half_stored =
    events.Format 1 ∷ events.Format 2 ∷ events.Format 3 ∷ events.Activate sequencer_a 1 ∷ events.Append sequencer_a (104 ∷ 105 ∷ []) ∷ events.Deliver 0 ∷
    events.Deliver 2 ∷ events.Lose 1 ∷ events.Open reader_r 1 (numbered 1 1) (numbered 1 1) ∷ events.Poll reader_r ∷ events.Flow 9 ∷ []

-- a record that no digest found: the bridge stands in its place
abbrev pub cut_off : List Event
cut_off =
    events.Format 1 ∷ events.Format 2 ∷ events.Format 3 ∷ events.Format 4 ∷ events.Format 5 ∷ events.Activate sequencer_a 1 ∷
    events.Append sequencer_a (1 ∷ []) ∷ events.Flow 50 ∷ events.Append sequencer_a (2 ∷ []) ∷ events.Append sequencer_a (3 ∷ []) ∷ events.Lose 11 ∷
    events.Lose 12 ∷ events.Lose 13 ∷ events.Deliver 14 ∷ events.Lose 15 ∷ events.Lose 16 ∷ events.Lose 17 ∷ events.Drop sequencer_a ∷
    events.Activate sequencer_b 1 ∷ events.Flow 200 ∷ events.Open reader_r 1 (numbered 1 1) (numbered 2 0) ∷ events.Poll reader_r ∷ events.Flow 200 ∷ []

-- three records are trimmed on one node, which the next recovery finds and which is then wiped
abbrev pub trimmed : List Event
trimmed =
    events.Format 1 ∷ events.Format 2 ∷ events.Format 3 ∷ events.Activate sequencer_a 1 ∷ events.Append sequencer_a (1 ∷ []) ∷
    events.Append sequencer_a (2 ∷ []) ∷ events.Append sequencer_a (3 ∷ []) ∷ events.Flow 99 ∷ events.Trim sequencer_a (numbered 1 3) ∷ events.Lose 21 ∷
    events.Lose 23 ∷ events.Deliver 22 ∷ events.Drop sequencer_a ∷ events.Activate sequencer_b 1 ∷ events.Flow 99 ∷ events.Wipe 2 ∷
    events.Open reader_r 1 (numbered 1 1) (numbered 2 0) ∷ events.Poll reader_r ∷ events.Flow 99 ∷ []

-- a record is on two nodes; one is wiped and refills, then the other is wiped
abbrev pub rebuilt : List Event
rebuilt =
    events.Format 1 ∷ events.Format 2 ∷ events.Format 3 ∷ events.Activate sequencer_a 1 ∷ events.Append sequencer_a (104 ∷ 105 ∷ []) ∷ events.Flow 10 ∷
    events.Activate sequencer_b 1 ∷ events.Flow 99 ∷ events.Open reader_r 1 (numbered 1 1) (numbered 1 1) ∷ events.Poll reader_r ∷ events.Lose 29 ∷
    events.Wipe 1 ∷ events.Format 1 ∷ events.Flow 99 ∷ events.Activate sequencer_c 1 ∷ events.Flow 99 ∷ events.Tick 1 1 ∷ events.Tick 1 1 ∷
    events.Flow 9 ∷ events.Tick 1 1 ∷ events.Wipe 3 ∷ events.Format 3 ∷ events.Deliver 29 ∷ events.Flow 99 ∷ []

-- both nodes that had the first of two records are wiped
abbrev pub lost : List Event
lost =
    events.Format 1 ∷ events.Format 2 ∷ events.Format 3 ∷ events.Activate sequencer_a 1 ∷ events.Append sequencer_a (1 ∷ []) ∷
    events.Append sequencer_a (2 ∷ []) ∷ events.Flow 99 ∷ events.Drop sequencer_a ∷ events.Activate sequencer_b 1 ∷ events.Flow 99 ∷ events.Wipe 1 ∷
    events.Wipe 3 ∷ events.Format 1 ∷ events.Format 3 ∷ events.Open reader_r 1 (numbered 1 1) (numbered 1 2) ∷ events.Poll reader_r ∷ events.Flow 99 ∷ []

-- one of two records that were never acknowledged is found by no digest: a hole stands in its place
abbrev pub hole_between : List Event
hole_between =
    events.Format 1 ∷ events.Format 2 ∷ events.Format 3 ∷ events.Format 4 ∷ events.Format 5 ∷ events.Activate sequencer_a 1 ∷
    events.Append sequencer_a (1 ∷ []) ∷ events.Flow 50 ∷ events.Append sequencer_a (2 ∷ []) ∷ events.Append sequencer_a (3 ∷ []) ∷ events.Lose 11 ∷
    events.Lose 12 ∷ events.Lose 13 ∷ events.Lose 14 ∷ events.Deliver 15 ∷ events.Lose 16 ∷ events.Lose 17 ∷ events.Drop sequencer_a ∷
    events.Activate sequencer_b 1 ∷ events.Flow 200 ∷ events.Open reader_r 1 (numbered 1 1) (numbered 2 0) ∷ events.Poll reader_r ∷ events.Flow 200 ∷ []

-- two sequencers recover one epoch; one closes it, and the other one goes on from there
abbrev pub two_recoveries : List Event
two_recoveries =
    events.Format 1 ∷ events.Format 2 ∷ events.Format 3 ∷ events.Activate sequencer_a 1 ∷ events.Append sequencer_a (104 ∷ 105 ∷ []) ∷ events.Flow 10 ∷
    events.Activate sequencer_b 1 ∷ events.Deliver 7 ∷ events.Deliver 8 ∷ events.Deliver 10 ∷ events.Deliver 11 ∷ events.Deliver 12 ∷ events.Deliver 13 ∷
    events.Deliver 14 ∷ events.Deliver 15 ∷ events.Deliver 16 ∷ events.Deliver 17 ∷ events.Deliver 18 ∷ events.Activate sequencer_c 1 ∷
    events.Deliver 20 ∷ events.Deliver 21 ∷ events.Deliver 23 ∷ events.Deliver 24 ∷ events.Deliver 25 ∷ events.Deliver 26 ∷ events.Deliver 27 ∷
    events.Deliver 28 ∷ events.Deliver 29 ∷ events.Deliver 30 ∷ events.Deliver 31 ∷ events.Deliver 19 ∷ events.Deliver 32 ∷ events.Flow 300 ∷
    events.Open reader_r 1 (numbered 1 1) (numbered 2 0) ∷ events.Open reader_q 1 (numbered 1 1) (numbered 2 0) ∷ events.Poll reader_r ∷ events.Flow 50 ∷
    events.Poll reader_q ∷ events.Flow 50 ∷ []

-- an activation fails in the register though it was made; the asks of the next one are lost, and sent again
abbrev pub register_fault : List Event
register_fault =
    events.Format 1 ∷ events.Format 2 ∷ events.Format 3 ∷ events.RegFail 1 true ∷ events.Activate sequencer_b 1 ∷ events.Activate sequencer_c 1 ∷
    events.Lose 0 ∷ events.Lose 1 ∷ events.Lose 2 ∷ events.Retry sequencer_c ∷ events.Flow 99 ∷ events.Open reader_r 1 (numbered 1 1) (numbered 2 0) ∷
    events.Poll reader_r ∷ events.Flow 99 ∷ []

-- node 3 crashes in a writing call of its first record, and is loaded
abbrev pub torn : ℕ → Picture → List Event
torn call picture =
    events.Format 1 ∷ events.Format 2 ∷ events.Format 3 ∷ events.Activate sequencer_a 1 ∷ events.Append sequencer_a (104 ∷ 105 ∷ []) ∷ events.Tear 3 call picture ∷
    events.Deliver 0 ∷ events.Up 3 ∷ []

-- a record is on nodes 1 and 3; node 3 is wiped and refills from node 1, which is wiped then; a reader hears that node 3 is lost, and node 3 crashes in a writing call of the record that it is rebuilt
abbrev pub rebuild_torn : ℕ → Picture → List Event
rebuild_torn call picture =
    events.Format 1 ∷ events.Format 2 ∷ events.Format 3 ∷ events.Activate sequencer_a 1 ∷ events.Append sequencer_a (97 ∷ []) ∷ events.Flow 100 ∷
    events.Activate sequencer_b 1 ∷ events.Flow 200 ∷ events.Wipe 3 ∷ events.Format 3 ∷ events.Activate sequencer_c 1 ∷ events.Flow 300 ∷ events.Tick 3 1 ∷
    events.Tick 3 1 ∷ events.Flow 20 ∷ events.Wipe 1 ∷ events.Format 1 ∷ events.Open reader_r 1 (numbered 1 1) (numbered 1 1) ∷ events.Poll reader_r ∷
    events.Flow 5 ∷ events.Tear 3 call picture ∷ events.Tick 3 1 ∷ []

-- in the first call: the record isn't there
abbrev pub torn_rebuild_heard : List Event
torn_rebuild_heard = rebuild_torn 1 pictures.Old

-- one answer more, and the reader asks the lost nodes once more
abbrev pub torn_rebuild_asked : List Event
torn_rebuild_asked = torn_rebuild_heard ++ events.Flow 1 ∷ []

-- node 3 loads, and both answer
abbrev pub torn_rebuild : List Event
torn_rebuild = torn_rebuild_asked ++ events.Up 3 ∷ events.Flow 20 ∷ []

-- in the third call, with a picture of the open gate: the record is there for a load, when the reader asks once more
abbrev pub torn_later_asked : List Event
torn_later_asked = rebuild_torn 3 pictures.New ++ events.Flow 1 ∷ []

-- node 3 crashes in its load, with a picture of the gate that was closed, loads without the record, and both answer
abbrev pub torn_later : List Event
torn_later = torn_later_asked ++ events.Tear 3 1 pictures.Old ∷ events.Up 3 ∷ events.Up 3 ∷ events.Flow 20 ∷ []

-- 64 op records stand in the first segment of a node that keeps its log alone, and one more is on its way
abbrev pub behind_full : List Event
behind_full = events.Format 1 ∷ events.Activate sequencer_a 1 ∷ (replicate 63 (events.Append sequencer_a (0 ∷ [])) ++ (events.Flow 300 ∷ events.Append sequencer_a (1 ∷ []) ∷ []))

-- one of its writing calls fails
abbrev pub switch_fails : ℕ → List Event
switch_fails call = behind_full ++ events.Fail 1 call ∷ events.Deliver 189 ∷ []

-- or the node crashes in it, and loads
abbrev pub switch_torn : ℕ → Picture → List Event
switch_torn call picture = behind_full ++ events.Tear 1 call picture ∷ events.Deliver 189 ∷ events.Up 1 ∷ []
