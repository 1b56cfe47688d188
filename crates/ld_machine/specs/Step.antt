-- What each event does.
use Rattle.std.specs.Prelude.{ℕ, ◌+◌, List, [], ◌∷◌, ◌++◌, length, Option, Some, None, is_some, Bool, true, false, ◌&&◌, ◌||◌, not, ◌==◌, nat_lt, nat_le, if◌then◌else◌}
use Rattle.std.specs.Option.{unwrap_or}
use Rattle.ld_table.specs.Table.{find, put}
use Rattle.ld_table.specs.Named.{find_named}
use Rattle.ld_table.specs.Words.{all_of}
use Rattle.ld_ids.specs.Set.{members}
use Rattle.ld_lsn.specs.Number.{numbered}
use Rattle.ld_schedule.specs.declared.event.Event.{Event}
use Rattle.ld_schedule.specs.declared.event.Event.TheVariants as events
use Rattle.ld_transcript.specs.declared.line.Line.{Line}
use Rattle.ld_transcript.specs.declared.line.Line.TheVariants as lines
use Rattle.ld_transcript.specs.declared.line.GapKind.TheVariants as gaps
use Rattle.ld_msg.specs.declared.msg.Who.{Who}
use Rattle.ld_msg.specs.declared.msg.Who.TheVariants as whos
use Rattle.ld_msg.specs.declared.msg.Msg.{Msg}
use Rattle.ld_msg.specs.declared.msg.Body.{Body}
use Rattle.ld_msg.specs.declared.msg.Body.TheVariants as bodies
use Rattle.ld_ids.specs.declared.set.Spec.{Spec}
use Rattle.ld_msg.specs.Reading.{Item, TrimTo, RecordHere, HoleHere, BridgeTo, LossHere, LossTo}
use Rattle.ld_op.specs.declared.op.Op.{Op}
use Rattle.ld_op.specs.declared.op.Op.TheVariants as ops
use Rattle.ld_op.specs.Plain.{log_of}
use Rattle.ld_op.specs.Answers.{Handled, on_release}
use Rattle.ld_op.specs.Ticks.{Ticked, Cleans, Rebuilt, Asks, Nothing, on_tick, node_asks}
use Rattle.ld_op.specs.Handles.{ballot_of, handled_by, answer_message}
use Rattle.ld_config.specs.declared.config.Config.{Config}
use Rattle.ld_batch.specs.Batch.{packed, Unpacked, Messages, Bad, unpacked}
use Rattle.ld_machine.specs.Config.{first_spec, all_nodes, looks_at, has_log, has_node}
pub use Rattle.ld_machine.specs.Lines.{message_lines_from}
use Rattle.ld_msg.specs.Register.{Register, Changed, Answer, Granted, AtLimit, Behind, Overtaken, Fails, epochs_of, epochs_in, generation_of, lce_of, activate, draw, swap, swappable}
use Rattle.ld_machine.specs.Disk.{Node, Fault, new_node, is_up, is_blank, is_down, is_failed, Kept, Written, DiskFailed, Crashed, JournalFull, keep_op, keep_end, load, load_end, Down}
use Rattle.ld_msg.specs.Network.{message, mark, posted}
use Rattle.ld_msg.specs.Sequencer.{Sequencer, Acts, Called, called, rose, acted_messages, on_reply, on_retry, released_of, to_each, activated, recovery_asks, Appending, TooLong, Preempted, EpochFull, WindowFull, Numbered, appending, appended, first_stores, next_esn}
use Rattle.ld_msg.specs.declared.style.Style.{Style}
use Rattle.ld_msg.specs.declared.style.Style.TheVariants as styles
use Rattle.ld_msg.specs.Reader.{Reader, Read, opened, is_finished, polled, poll_asks, on_answer}
use Rattle.ld_machine.specs.State.{State, Done, unchanged, only_state, with_line, node_at, with_node, with_register, with_sequencer, with_reader, sequencer_of, reader_of}

-- ---- nodes ----

-- the lines of a record that was kept or not; the given ones where it was
abbrev pub kept_lines : ℕ → List Line → Kept → List Line
kept_lines n ls Written = ls
kept_lines n ls DiskFailed = lines.NodeFailed n ∷ []
kept_lines n ls Crashed = lines.NodeDown n ∷ []
kept_lines n ls JournalFull = lines.NodeFull n ∷ []

abbrev pub is_written : Kept → Bool
is_written Written = true
is_written _ = false

-- a node keeps an op; the lines and the messages come only where it is written
abbrev pub keeps_op : State → ℕ → Op → List Line → List Msg → Done
keeps_op s n o ls ms = record {
  state = with_node s n (keep_op (node_at s n) o);
  lines = kept_lines n ls (keep_end (node_at s n) o);
  sends = if is_written (keep_end (node_at s n) o) then ms else [];
}

abbrev pub handles : State → ℕ → Msg → Option Op → Option Body → Done
handles s n m None answer = record { state = s; lines = []; sends = answer_message n m answer }
handles s n m (Some o) answer = keeps_op s n o [] (answer_message n m answer)

abbrev pub released_at : Node → ℕ → ℕ
released_at x l = unwrap_or (find l x.released) 0

abbrev pub node_handles : ℕ → Node → Msg → Handled
node_handles n x m = handled_by n x.plain.generation (log_of x.plain m.log) m.log (ballot_of m.from) (released_at x m.log) m.body

abbrev pub releases : Node → ℕ → Body → Node
releases x l (bodies.Release y) = record x { released = put l (on_release (released_at x l) y) x.released }
releases x l _ = x

-- a message to a node that is up
abbrev pub to_up_node : State → ℕ → Msg → Done
to_up_node s n m = handles (with_node s n (releases (node_at s n) m.log m.body)) n m (node_handles n (node_at s n) m).op (node_handles n (node_at s n) m).answer

abbrev pub to_node : Config → State → ℕ → Msg → Done
to_node c s n m = if is_up (node_at s n).status && has_log c m.log then to_up_node s n m else unchanged s

-- ---- sequencers ----

abbrev pub numbered_lines : (ℕ → Line) → List ℕ → List Line
numbered_lines f [] = []
numbered_lines f (n ∷ ns) = f n ∷ numbered_lines f ns

abbrev pub when : {X : Type 0} → Bool → X → List X
when b x = if b then x ∷ [] else []

abbrev pub acted_lines : List ℕ → Sequencer → Acts → List Line
acted_lines name old a = numbered_lines (lines.RefusedPreempted name) a.preempts ++ (when a.failed (lines.RefusedRegister name)
    ++ (numbered_lines (lines.Acked name) a.acked ++ (numbered_lines (lines.Clean name) a.closed ++ when (rose old a.sequencer) (lines.Released name (released_of a.sequencer)))))

-- what a sequencer did is told
abbrev pub told : State → List ℕ → Sequencer → Called → Done
told s name old k = record {
  state = with_register (with_sequencer s name k.acts.sequencer) k.register;
  lines = acted_lines name old k.acts;
  sends = posted (whos.Sequencer old.epoch) old.log (acted_messages old k.acts);
}

abbrev pub acted : Config → State → List ℕ → Sequencer → Acts → Done
acted c s name old a = told s name old (called (looks_at c s.register old.log) s.register a a.tries)

abbrev pub sender_node : Who → ℕ
sender_node (whos.Node n) = n
sender_node _ = 0

abbrev pub to_live : Config → State → List ℕ → Sequencer → Msg → Done
to_live c s name q m = if q.gone then unchanged s else acted c s name q (on_reply (looks_at c s.register q.log) q (sender_node m.from) m.body)

abbrev pub to_sequencer : Config → State → Msg → Option (List ℕ × Sequencer) → Done
to_sequencer c s m None = unchanged s
to_sequencer c s m (Some q) = to_live c s q.0 q.1 m

-- the numbers are told, or why not
abbrev pub append_done : State → List ℕ → Sequencer → List ℕ → Appending → Done
append_done s name q payload TooLong = with_line s (lines.RefusedLong name (length payload))
append_done s name q payload (Preempted k) = with_line s (lines.RefusedPreempted name k)
append_done s name q payload EpochFull = with_line s (lines.RefusedEpochFull name)
append_done s name q payload WindowFull = with_line s (lines.RefusedWindowFull name)
append_done s name q payload Numbered = record {
  state = with_sequencer s name (appended q payload);
  lines = lines.Appended name (numbered q.epoch (next_esn q)) ∷ [];
  sends = posted (whos.Sequencer q.epoch) q.log (first_stores q payload);
}

abbrev pub trim_done : Config → State → List ℕ → Sequencer → ℕ → Done
trim_done c s name q point =
    if nat_lt (released_of q) point then with_line s (lines.RefusedPast name (released_of q))
    else record { state = s; lines = lines.Trimmed name point ∷ []; sends = posted (whos.Sequencer q.epoch) q.log (to_each (bodies.Trim point) (all_nodes c)) }

abbrev pub dropped : Sequencer → Sequencer
dropped q = record q { gone = true }

-- an event of a sequencer that is there
abbrev pub on_live : State → Option Sequencer → (Sequencer → Done) → Done
on_live s None f = unchanged s
on_live s (Some q) f = if q.gone then unchanged s else f q

abbrev pub live : State → List ℕ → (Sequencer → Done) → Done
live s name f = on_live s (find_named name s.sequencers) f

-- what later activations of a log use
abbrev pub spec_set : Config → State → ℕ → Spec
spec_set c s l = unwrap_or (find l s.specs) (first_spec c l)

abbrev pub activated_as : Config → State → List ℕ → ℕ → Register → ℕ → ℕ → Done
activated_as c s name l r epoch lce = record {
  state = with_register (with_sequencer s name (activated (looks_at c r l) (spec_set c s l) l epoch lce)) r;
  lines = lines.Active name epoch ∷ [];
  sends = posted (whos.Sequencer epoch) l (recovery_asks (looks_at c r l) (activated (looks_at c r l) (spec_set c s l) l epoch lce) lce);
}

abbrev pub activates_by : Config → State → List ℕ → ℕ → Register → Answer → Done
activates_by c s name l r Granted = activated_as c s name l r (epochs_of r l).epoch (lce_of r l)
activates_by c s name l r AtLimit = with_line (with_register s r) (lines.RefusedEpochLimit name)
activates_by c s name l r (Behind lce) = unchanged s
activates_by c s name l r (Overtaken k) = unchanged s
activates_by c s name l r Fails = with_line (with_register s r) (lines.RefusedRegister name)

abbrev pub activates : Config → State → List ℕ → ℕ → Changed → Done
activates c s name l d = activates_by c s name l d.register d.answer

-- ---- readers ----

abbrev pub item_line : List ℕ → ℕ → ℕ → Item → Line
item_line name s until (TrimTo last) = lines.Gap name gaps.Trim s (if nat_lt until last then until else last)
item_line name s until (RecordHere p) = lines.Record name s p
item_line name s until HoleHere = lines.Gap name gaps.Hole s s
item_line name s until (BridgeTo last) = lines.Gap name gaps.Bridge s (if nat_lt until last then until else last)
item_line name s until LossHere = lines.Gap name gaps.DataLoss s s
item_line name s until (LossTo last) = lines.Gap name gaps.DataLoss s (if nat_lt until last then until else last)

-- the messages of a batch, and of another payload the record
abbrev pub payload_lines : List ℕ → ℕ → List ℕ → Unpacked → List Line
payload_lines name s p (Messages ms) = message_lines_from name s 0 ms
payload_lines name s p (Bad place) = lines.Record name s p ∷ []

abbrev pub lines_of_item : Style → List ℕ → ℕ → ℕ → Item → List Line
lines_of_item styles.OfMessages name s until (RecordHere p) = payload_lines name s p (unpacked p)
lines_of_item style name s until i = item_line name s until i ∷ []

abbrev pub item_lines : Style → List ℕ → ℕ → List (ℕ × Item) → List Line
item_lines style name until [] = []
item_lines style name until (i ∷ is) = lines_of_item style name i.0 until i.1 ++ item_lines style name until is

abbrev pub read : State → List ℕ → Read → Done
read s name a = record {
  state = with_reader s name a.reader;
  lines = item_lines a.reader.style name a.reader.until a.items;
  sends = posted (whos.Reader a.reader.number) a.reader.log a.asks;
}

abbrev pub to_open : Config → State → List ℕ → Reader → Msg → Done
to_open c s name d m = if is_finished d then unchanged s else read s name (on_answer (looks_at c s.register d.log) d (sender_node m.from) m.body)

abbrev pub to_reader : Config → State → Msg → Option (List ℕ × Reader) → Done
to_reader c s m None = unchanged s
to_reader c s m (Some d) = to_open c s d.0 d.1 m

abbrev pub polls : Config → State → List ℕ → Option Reader → Done
polls c s name None = unchanged s
polls c s name (Some d) =
    if is_finished d then unchanged s
    else record { state = with_reader s name (polled (looks_at c s.register d.log) d); lines = []; sends = posted (whos.Reader d.number) d.log (poll_asks (looks_at c s.register d.log) d) }

-- the greatest number of readers of a run
abbrev pub reader_limit : ℕ
reader_limit = 1000

abbrev pub opens : State → Style → List ℕ → ℕ → ℕ → ℕ → Done
opens s style name l from until =
    if (from == 0) || nat_lt until from then with_line s (lines.RefusedRange name)
    else if nat_le reader_limit (length s.readers) then with_line s (lines.RefusedFull name)
    else only_state (with_reader s name (opened style l (length s.readers) from until))

abbrev pub opens_new : Config → State → Style → List ℕ → ℕ → ℕ → ℕ → Done
opens_new c s style name l from until = if has_log c l && not (is_some (find_named name s.readers)) then opens s style name l from until else unchanged s

-- ---- deliveries ----

abbrev pub comes_to : Config → State → Msg → Who → Done
comes_to c s m (whos.Node n) = to_node c s n m
comes_to c s m (whos.Sequencer e) = to_sequencer c s m (sequencer_of m.log e s.sequencers)
comes_to c s m (whos.Reader r) = to_reader c s m (reader_of r s.readers)

abbrev pub marked : State → ℕ → State
marked s i = record s { network = mark s.network i }

abbrev pub delivers_it : Config → State → ℕ → Option Msg → Done
delivers_it c s i None = unchanged s
delivers_it c s i (Some m) = comes_to c (marked s i) m m.to

unfoldable pub delivers : Config → State → ℕ → Done
delivers c s i = delivers_it c s i (message s.network i)

-- ---- disks ----

-- the lines of the logs for which a formatted node is lost
abbrev pub lost_line : ℕ → ℕ → Spec → List Line
lost_line n epoch p = if nat_lt 0 epoch then lines.NodeLost n p.log epoch ∷ [] else []

abbrev pub lost_lines : ℕ → Register → List Spec → List Line
lost_lines n r [] = []
lost_lines n r (p ∷ ps) = lost_line n (epochs_of r p.log).epoch p ++ lost_lines n r ps

abbrev pub format_lines : Config → ℕ → Register → List Line
format_lines c n r = lines.NodeFormatted n (generation_of r n) ∷ lost_lines n r c.logs

abbrev pub formats_by : Config → State → ℕ → Register → Answer → Done
formats_by c s n r Granted = keeps_op (with_register s r) n (ops.Format (generation_of r n) (epochs_in r.logs)) (format_lines c n r) []
formats_by c s n r AtLimit = with_line s (lines.NodeRefusedGenLimit n)
formats_by c s n r (Behind lce) = unchanged s
formats_by c s n r (Overtaken k) = unchanged s
formats_by c s n r Fails = with_line (with_register s r) (lines.NodeRefusedRegister n)

abbrev pub formats_with : Config → State → ℕ → Changed → Done
formats_with c s n d = formats_by c s n d.register d.answer

-- a blank node loads its store, draws a generation and keeps its first record
abbrev pub formats_loaded : Config → State → ℕ → Kept → Done
formats_loaded c s n Written = formats_with c s n (draw s.register n)
formats_loaded c s n DiskFailed = with_line s (lines.NodeFailed n)
formats_loaded c s n Crashed = with_line s (lines.NodeDown n)
formats_loaded c s n JournalFull = unchanged s

abbrev pub formats : Config → State → ℕ → Done
formats c s n = formats_loaded c (with_node s n (load (node_at s n))) n (load_end (node_at s n))

abbrev pub comes_up : State → ℕ → Done
comes_up s n = record { state = with_node s n (load (node_at s n)); lines = kept_lines n (lines.NodeUp n ∷ []) (load_end (node_at s n)); sends = [] }

abbrev pub stopped : Node → Node
stopped x = record x { status = Down }

abbrev pub with_fault : Node → Fault → Node
with_fault x f = record x { fault = Some f }

-- ---- ticks ----

abbrev pub ticks_as : Config → State → ℕ → ℕ → Ticked → Done
ticks_as c s n l (Cleans epoch y) = keeps_op s n (ops.Clean l epoch y) [] []
ticks_as c s n l Rebuilt = keeps_op s n (ops.Refilled l) (lines.NodeRebuilt n l ∷ []) []
ticks_as c s n l (Asks from) = record { state = s; lines = []; sends = posted (whos.Node n) l (node_asks n (all_nodes c) from) }
ticks_as c s n l Nothing = unchanged s

abbrev pub ticks : Config → State → ℕ → ℕ → Done
ticks c s n l =
    if is_up (node_at s n).status && has_log c l then ticks_as c s n l (on_tick (log_of (node_at s n).plain l) (epochs_of s.register l).summaries)
    else unchanged s

-- ---- events ----

-- an event of a node of the configuration that is in the state which it needs
abbrev pub where_node : Config → State → ℕ → Bool → Done → Done
where_node c s n fits d = if has_node c n && fits then d else unchanged s

abbrev pub armed : Register → ℕ → Bool → Register
armed r k done = record r { armed = Some (record { left = k; done = done }) }

-- a node takes the place of another one where it has all that it lost of a log: up to the epoch that it was lost for
abbrev pub can_replace : Config → State → ℕ → ℕ → ℕ → Bool
can_replace c s n other l = (has_log c l && (has_node c other && not (n == other))) && (is_up (node_at s n).status && (not (log_of (node_at s n).plain l).lost && nat_lt 0 (log_of (node_at s n).plain l).lost_to))

abbrev pub replaces_by : State → ℕ → ℕ → ℕ → ℕ → Register → Answer → Done
replaces_by s n other l count r Granted = if count == 0 then unchanged s else with_line (with_register s r) (lines.NodeReplaced n l other count)
replaces_by s n other l count r AtLimit = with_line s (lines.NodeRefusedSwapLimit n)
replaces_by s n other l count r (Behind lce) = unchanged s
replaces_by s n other l count r (Overtaken k) = unchanged s
replaces_by s n other l count r Fails = with_line (with_register s r) (lines.NodeRefusedRegister n)

abbrev pub replaces_with : State → ℕ → ℕ → ℕ → ℕ → Changed → Done
replaces_with s n other l count d = replaces_by s n other l count d.register d.answer

abbrev pub replaces : State → ℕ → ℕ → ℕ → ℕ → Done
replaces s n other l upto = replaces_with s n other l (swappable s.register l upto other n) (swap s.register l upto other n)

-- later activations of a log use these nodes, where the configuration has them, this factor, from 1 up to their count, and these extras, at most 3
abbrev pub can_set : Config → ℕ → ℕ → ℕ → List ℕ → Bool
can_set c l r x nodes = has_log c l && (all_of (has_node c) nodes && (nat_le 1 r && (nat_le r (length nodes) && nat_le x 3)))

abbrev pub sets : Config → State → ℕ → ℕ → ℕ → List Bool → Done
sets c s l r x set =
    if can_set c l r x (members set) then with_line (record s { specs = put l (record { log = l; set = set; r = r; extras = x }) s.specs }) (lines.Set l r x set)
    else unchanged s

-- what an event does; a flow and a calm are some steps, each of its own
unfoldable pub happens : Config → State → Event → Done
happens c s (events.Format n) = where_node c s n (is_blank (node_at s n).status) (formats c s n)
happens c s (events.Activate name l) = if has_log c l && not (is_some (find_named name s.sequencers)) then activates c s name l (activate s.register l (spec_set c s l)) else unchanged s
happens c s (events.Append name payload) = live s name (λ q. append_done s name q payload (appending q payload))
happens c s (events.Batch name messages) = live s name (λ q. append_done s name q (packed messages) (appending q (packed messages)))
happens c s (events.Trim name point) = live s name (λ q. trim_done c s name q point)
happens c s (events.Retry name) = live s name (λ q. acted c s name q (on_retry (looks_at c s.register q.log) q))
happens c s (events.Drop name) = live s name (λ q. only_state (with_sequencer s name (dropped q)))
happens c s (events.Deliver i) = delivers c s i
happens c s (events.Lose i) = only_state (marked s i)
happens c s (events.Flow k) = unchanged s
happens c s events.Calm = unchanged s
happens c s (events.Open name l from until) = opens_new c s styles.EachCopy name l from until
happens c s (events.OpenOne name l from until) = opens_new c s styles.OneCopy name l from until
happens c s (events.OpenMessages name l from until) = opens_new c s styles.OfMessages name l from until
happens c s (events.Poll name) = polls c s name (find_named name s.readers)
happens c s (events.Tick n l) = where_node c s n true (ticks c s n l)
happens c s (events.Down n) = where_node c s n (is_up (node_at s n).status || is_failed (node_at s n).status) (with_line (with_node s n (stopped (node_at s n))) (lines.NodeDown n))
happens c s (events.Up n) = where_node c s n (is_down (node_at s n).status) (comes_up s n)
happens c s (events.Wipe n) = where_node c s n true (with_line (with_node s n new_node) (lines.NodeWiped n))
happens c s (events.Fail n k) = where_node c s n true (only_state (with_node s n (with_fault (node_at s n) (record { left = k; crash = None }))))
happens c s (events.Tear n k picture) = where_node c s n true (only_state (with_node s n (with_fault (node_at s n) (record { left = k; crash = Some picture }))))
happens c s (events.Set l r x set) = sets c s l r x set
happens c s (events.Replace n other l) = where_node c s n (can_replace c s n other l) (replaces s n other l (log_of (node_at s n).plain l).lost_to)
happens c s (events.RegFail k done) = only_state (with_register s (armed s.register k done))
