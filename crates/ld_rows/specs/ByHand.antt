-- Runs told by hand, each of which breaks one rule of a safe run and keeps the others.
use Rattle.std.specs.Prelude.{ℕ, List, [], ◌∷◌, ◌++◌, Some, None}
use Rattle.ld_lsn.specs.Number.{numbered}
use Rattle.ld_schedule.specs.declared.event.Event.{Event}
use Rattle.ld_schedule.specs.declared.event.Event.TheVariants as events
use Rattle.ld_transcript.specs.declared.line.Line.{Line}
use Rattle.ld_transcript.specs.declared.line.Line.TheVariants as lines
use Rattle.ld_transcript.specs.declared.line.GapKind.TheVariants as gaps
use Rattle.ld_config.specs.declared.config.Config.{Config}
use Rattle.ld_machine.specs.Facts.{Happened}
use Rattle.ld_rows.specs.Schedules.{first_nodes, sequencer_a, sequencer_b, reader_r, reader_q}

-- three nodes keep two logs, with two copies of each record
abbrev pub two_logs : Config
two_logs = record { nodes = first_nodes 3; logs = record { log = 1; set = first_nodes 3; r = 2; extras = 0 } ∷ record { log = 2; set = first_nodes 3; r = 2; extras = 0 } ∷ [] }

-- the first numbers of epoch 1
abbrev pub one : ℕ
one = numbered 1 1

abbrev pub two : ℕ
two = numbered 1 2

-- ---- steps ----

abbrev pub happens : Event → List Line → Happened
happens e ls = record { event = e; lines = ls; made = None; swapped = None }

-- a message is delivered, which makes a step write a line
abbrev pub writes : Line → Happened
writes x = happens (events.Deliver 0) (x ∷ [])

abbrev pub formats : ℕ → Happened
formats n = happens (events.Format n) (lines.NodeFormatted n 1 ∷ [])

abbrev pub wipes : ℕ → Happened
wipes n = happens (events.Wipe n) (lines.NodeWiped n ∷ [])

-- a sequencer of a log gets epoch 1
abbrev pub activates : List ℕ → ℕ → Happened
activates s l = record { event = events.Activate s l; lines = lines.Active s 1 ∷ []; made = Some (l, 1); swapped = None }

abbrev pub appends : List ℕ → List ℕ → ℕ → Happened
appends s payload n = happens (events.Append s payload) (lines.Appended s n ∷ [])

abbrev pub acks : List ℕ → ℕ → Happened
acks s n = writes (lines.Acked s n)

abbrev pub trims : List ℕ → ℕ → Happened
trims s n = happens (events.Trim s n) (lines.Trimmed s n ∷ [])

abbrev pub opens : List ℕ → ℕ → Happened
opens r until = happens (events.Open r 1 one until) (lines.Nothing ∷ [])

abbrev pub opens_messages : List ℕ → ℕ → Happened
opens_messages r until = happens (events.OpenMessages r 1 one until) (lines.Nothing ∷ [])

-- three nodes are formatted, and a sequencer is active
abbrev pub begun : List Happened
begun = formats 1 ∷ formats 2 ∷ formats 3 ∷ activates sequencer_a 1 ∷ []

-- and its record is acknowledged
abbrev pub acknowledged : List Happened
acknowledged = begun ++ (appends sequencer_a (1 ∷ []) one ∷ acks sequencer_a one ∷ [])

-- ---- what readers get ----

-- a number is called lost where one node of two is lost
abbrev pub one_lost : List Happened
one_lost = acknowledged ++ (wipes 1 ∷ opens reader_r one ∷ writes (lines.Gap reader_r gaps.DataLoss one one) ∷ [])

-- or before the second one is
abbrev pub lost_afterwards : List Happened
lost_afterwards = one_lost ++ wipes 2 ∷ []

-- a hole is read before its number is acknowledged
abbrev pub early_hole : List Happened
early_hole = begun ++ (appends sequencer_a (1 ∷ []) one ∷ opens reader_r one ∷ writes (lines.Gap reader_r gaps.Hole one one) ∷ acks sequencer_a one ∷ [])

-- a bridge holds a number that was acknowledged
abbrev pub bridge_over : List Happened
bridge_over = acknowledged ++ (opens reader_r one ∷ writes (lines.Gap reader_r gaps.Bridge one one) ∷ [])

-- a hole stands where another reader got the record, which nobody acknowledged
abbrev pub other_reader : List Happened
other_reader = begun ++ (appends sequencer_a (1 ∷ []) one ∷ opens reader_r one ∷ opens reader_q one ∷ writes (lines.Record reader_q one (1 ∷ [])) ∷ writes (lines.Gap reader_r gaps.Hole one one) ∷ [])

-- a record is read before it is appended
abbrev pub early_record : List Happened
early_record = begun ++ (opens reader_r one ∷ writes (lines.Record reader_r one (1 ∷ [])) ∷ appends sequencer_a (1 ∷ []) one ∷ [])

-- a trim gap is read before its point is issued
abbrev pub early_trim : List Happened
early_trim = acknowledged ++ (opens reader_r one ∷ writes (lines.Gap reader_r gaps.Trim one one) ∷ trims sequencer_a one ∷ [])

-- or where the point was issued for another log
abbrev pub other_log : List Happened
other_log = begun ++ (activates sequencer_b 2 ∷ trims sequencer_b one ∷ opens reader_r one ∷ writes (lines.Gap reader_r gaps.Trim one one) ∷ [])

-- an item lies past the last number that the reader was opened for
abbrev pub past_until : List Happened
past_until = begun ++ (appends sequencer_a (1 ∷ []) one ∷ appends sequencer_a (2 ∷ []) two ∷ opens reader_r one ∷ writes (lines.Record reader_r one (1 ∷ [])) ∷ writes (lines.Record reader_r two (2 ∷ [])) ∷ [])

-- a hole holds an acknowledged number, for a reader whose open wrote two lines
abbrev pub two_lines : List Happened
two_lines = acknowledged ++ (happens (events.Open reader_r 1 one one) (lines.Nothing ∷ lines.Nothing ∷ []) ∷ writes (lines.Gap reader_r gaps.Hole one one) ∷ [])

-- the payload of a batch of one message
abbrev pub batch : List ℕ
batch = 0 ∷ 1 ∷ 0 ∷ 1 ∷ 7 ∷ []

-- a reader of records gets the message of a batch
abbrev pub message_of_record : List Happened
message_of_record = begun ++ (appends sequencer_a batch one ∷ opens reader_r one ∷ writes (lines.BatchMessage reader_r one 0 (7 ∷ [])) ∷ [])

-- a reader of messages gets a batch as a record
abbrev pub record_of_messages : List Happened
record_of_messages = begun ++ (appends sequencer_a batch one ∷ opens_messages reader_r one ∷ writes (lines.Record reader_r one batch) ∷ [])

-- ---- numbers ----

-- two sequencers of a log append under one number
abbrev pub one_number_twice : List Happened
one_number_twice = begun ++ (activates sequencer_b 1 ∷ appends sequencer_a (1 ∷ []) one ∷ appends sequencer_b (2 ∷ []) one ∷ [])

-- one step appends two numbers
abbrev pub two_numbers : List Happened
two_numbers = begun ++ happens (events.Append sequencer_a (1 ∷ [])) (lines.Appended sequencer_a two ∷ lines.Appended sequencer_a one ∷ []) ∷ []

-- a number is of another epoch than its sequencer
abbrev pub other_epoch : List Happened
other_epoch = begun ++ appends sequencer_a (1 ∷ []) (numbered 7 1) ∷ []

-- a number is acknowledged that wasn't appended
abbrev pub acked_for_nothing : List Happened
acked_for_nothing = begun ++ acks sequencer_a one ∷ []

-- or released
abbrev pub released_for_nothing : List Happened
released_for_nothing = begun ++ writes (lines.Released sequencer_a one) ∷ []

-- a released number lies past its sequencer's epoch
abbrev pub released_past : List Happened
released_past = begun ++ writes (lines.Released sequencer_a (numbered 7 0)) ∷ []

-- a sequencer releases that was never active
abbrev pub released_by_nobody : List Happened
released_by_nobody = begun ++ writes (lines.Released sequencer_b (numbered 1 0)) ∷ []
