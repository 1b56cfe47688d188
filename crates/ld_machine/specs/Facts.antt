-- What is read from a run's steps: what was appended, acknowledged and trimmed, what readers got, and which nodes stood lost.
use Rattle.std.specs.Prelude.{ℕ, ◌≡◌, List, [], ◌∷◌, ◌++◌, filter_map, flat_map, Option, Some, None, Bool, true, false, not, ◌⊎◌, ◌&&◌, ◌==◌, nat_le, if◌then◌else◌, slice_get}
use Rattle.std.specs.Option.{unwrap_or}
use Rattle.ld_table.specs.Table.{find}
use Rattle.ld_table.specs.Named.{same}
use Rattle.ld_table.specs.Words.{any_of, first}
use Rattle.ld_schedule.specs.declared.event.Event.{Event}
use Rattle.ld_schedule.specs.declared.event.Event.TheVariants as events
use Rattle.ld_transcript.specs.declared.line.Line.{Line}
use Rattle.ld_transcript.specs.declared.line.Line.TheVariants as lines
use Rattle.ld_transcript.specs.declared.line.GapKind.{GapKind}
use Rattle.ld_ids.specs.declared.set.Spec.{Spec}
use Rattle.ld_config.specs.declared.config.Config.{Config}
use Rattle.ld_batch.specs.Batch.{packed}
use Rattle.ld_machine.specs.Logs.{has_log}
use Rattle.ld_machine.specs.Lines.{message_lines_from}

-- the nodes, factor and extras of a log's epochs, as a swap left them
pub record Swapped : Type 0 where
  pub log : ℕ
  pub specs : List (ℕ × Spec)

-- one step: its event, its lines, the log and epoch that it made in the register, and what the swap left that it made there, which lines alone don't tell of a refused activation or swap
pub record Happened : Type 0 where
  pub event : Event
  pub lines : List Line
  pub made : Option (ℕ × ℕ)
  pub swapped : Option Swapped

-- ---- the nodes, factor and extras of an epoch ----

-- what later activations of a log use after a line
abbrev pub set_by : ℕ → Line → Spec → Spec
set_by l (lines.Set k r x set) s = if k == l then record { log = k; set = set; r = r; extras = x } else s
set_by l _ s = s

abbrev pub set_in : ℕ → List Line → Spec → Spec
set_in l [] s = s
set_in l (x ∷ ls) s = set_in l ls (set_by l x s)

-- what later activations of a log use after these steps
abbrev pub set_after : ℕ → List Happened → Spec → Spec
set_after l [] s = s
set_after l (h ∷ hs) s = set_after l hs (set_in l h.lines s)

abbrev pub makes : ℕ → ℕ → Option (ℕ × ℕ) → Bool
makes l e None = false
makes l e (Some m) = (m.0 == l) && (m.1 == e)

-- what was fixed for an epoch of a log: what the lines before the step that made it set, beginning with the given one
abbrev pub spec_fixed : ℕ → ℕ → List Happened → Spec → Option Spec
spec_fixed l e [] s = None
spec_fixed l e (h ∷ hs) s = if makes l e h.made then Some s else spec_fixed l e hs (set_in l h.lines s)

-- what a swap made of an epoch
abbrev pub swapped_by : ℕ → ℕ → Option Swapped → Spec → Spec
swapped_by l e None s = s
swapped_by l e (Some x) s = if x.log == l then unwrap_or (find e x.specs) s else s

-- what these steps make of an epoch that was made before
abbrev pub swapped_in : ℕ → ℕ → List Happened → Spec → Spec
swapped_in l e [] s = s
swapped_in l e (h ∷ hs) s = swapped_in l e hs (swapped_by l e h.swapped s)

-- what was fixed for an epoch of a log, as the swaps since then left it
abbrev pub spec_now : ℕ → ℕ → List Happened → Spec → Option Spec
spec_now l e [] s = None
spec_now l e (h ∷ hs) s = if makes l e h.made then Some (swapped_in l e hs s) else spec_now l e hs (set_in l h.lines s)

-- ---- the log of a name ----

abbrev pub activates_name : List ℕ → Line → Bool
activates_name s (lines.Active name epoch) = same name s
activates_name s _ = false

abbrev pub log_activated : List ℕ → List Line → Event → Option ℕ
log_activated s ls (events.Activate name l) = if same name s && any_of (activates_name s) ls then Some l else None
log_activated s ls _ = None

-- the log of a sequencer
abbrev pub sequencer_log : List ℕ → List Happened → Option ℕ
sequencer_log s hs = first (filter_map (λ h. log_activated s h.lines h.event) hs)

-- an open that was taken: of a log, from a number to another one, for messages or for records
pub record Opening : Type 0 where
  pub log : ℕ
  pub from : ℕ
  pub until : ℕ
  pub messages : Bool

-- a line refuses to open the reader
abbrev pub refuses_reader : List ℕ → Line → Bool
refuses_reader r (lines.RefusedRange name) = same name r
refuses_reader r (lines.RefusedFull name) = same name r
refuses_reader r _ = false

abbrev pub opened_as : Config → List ℕ → List Line → Bool → List ℕ → ℕ → ℕ → ℕ → Option Opening
opened_as c r ls messages name l from until = if (same name r && has_log c l) && not (any_of (refuses_reader r) ls) then Some (record { log = l; from = from; until = until; messages = messages }) else None

abbrev pub opening_of : Config → List ℕ → List Line → Event → Option Opening
opening_of c r ls (events.Open name l from until) = opened_as c r ls false name l from until
opening_of c r ls (events.OpenOne name l from until) = opened_as c r ls false name l from until
opening_of c r ls (events.OpenMessages name l from until) = opened_as c r ls true name l from until
opening_of c r ls _ = None

-- how a reader was opened: the first open of its name, for a log that is there, that wasn't refused
abbrev pub opening : Config → List ℕ → List Happened → Option Opening
opening c r hs = first (filter_map (λ h. opening_of c r h.lines h.event) hs)

-- ---- the lines of steps ----

-- a line of step k
abbrev pub Writes : List Happened → ℕ → Line → Type 0
Writes hs k x = (h : Happened) × (slice_get hs k ≡ Some h) × (i : ℕ) × (slice_get h.lines i ≡ Some x)

-- the number that a line says was appended
abbrev pub number_appended : Line → Option ℕ
number_appended (lines.Appended name n) = Some n
number_appended _ = None

abbrev pub OfLog : List Happened → ℕ → List ℕ → Type 0
OfLog hs l s = sequencer_log s hs ≡ Some l

abbrev pub ReadsLog : Config → List Happened → ℕ → List ℕ → Type 0
ReadsLog c hs l r = (o : Opening) × (opening c r hs ≡ Some o) × (o.log ≡ l)

-- the event asks a sequencer to append a payload
abbrev pub AsksToAppend : List ℕ → List ℕ → Event → Type 0
AsksToAppend name p e = (e ≡ events.Append name p) ⊎ ((ms : List (List ℕ)) × (e ≡ events.Batch name ms) × (p ≡ packed ms))

-- step k appended the payload under the number of the log
pub record Appends (hs : List Happened) (l n : ℕ) (p : List ℕ) (k : ℕ) : Type 0 where
  pub name : List ℕ
  pub here : Happened
  pub at : slice_get hs k ≡ Some here
  pub asked : AsksToAppend name p here.event
  pub told : Writes hs k (lines.Appended name n)
  pub of_log : OfLog hs l name

-- step k acknowledged the number
pub record Acks (hs : List Happened) (l n k : ℕ) : Type 0 where
  pub name : List ℕ
  pub told : Writes hs k (lines.Acked name n)
  pub of_log : OfLog hs l name

-- step k issued the trim point
pub record Issues (hs : List Happened) (l t k : ℕ) : Type 0 where
  pub name : List ℕ
  pub told : Writes hs k (lines.Trimmed name t)
  pub of_log : OfLog hs l name

-- a line gives the reader a message of the number
abbrev pub gives_message : List ℕ → ℕ → Line → Bool
gives_message name n (lines.BatchMessage r number index m) = same r name && (number == n)
gives_message name n _ = false

-- step k wrote the messages of the batch one after the other, in order, and no other of the number
pub record WritesBatch (hs : List Happened) (k : ℕ) (name : List ℕ) (n : ℕ) (ms : List (List ℕ)) : Type 0 where
  pub here : Happened
  pub at : slice_get hs k ≡ Some here
  pub before : List Line
  pub after : List Line
  pub run : here.lines ≡ before ++ (message_lines_from name n 0 ms ++ after)
  pub alone : any_of (gives_message name n) (before ++ after) ≡ false

-- step k gave a reader the record
pub record GivesRecord (c : Config) (hs : List Happened) (l n : ℕ) (p : List ℕ) (k : ℕ) : Type 0 where
  pub name : List ℕ
  pub told : Writes hs k (lines.Record name n p)
  pub of_log : ReadsLog c hs l name

-- step k gave a reader the message of a batch
pub record GivesMessage (c : Config) (hs : List Happened) (l n index : ℕ) (m : List ℕ) (k : ℕ) : Type 0 where
  pub name : List ℕ
  pub told : Writes hs k (lines.BatchMessage name n index m)
  pub of_log : ReadsLog c hs l name

-- step k gave a reader the gap
pub record GivesGap (c : Config) (hs : List Happened) (l : ℕ) (kind : GapKind) (low high k : ℕ) : Type 0 where
  pub name : List ℕ
  pub told : Writes hs k (lines.Gap name kind low high)
  pub of_log : ReadsLog c hs l name

-- ---- items ----

pub record Interval : Type 0 where
  pub low : ℕ
  pub high : ℕ

abbrev pub interval_of : List ℕ → Line → Option Interval
interval_of r (lines.Record name n p) = if same name r then Some (record { low = n; high = n }) else None
interval_of r (lines.BatchMessage name n index p) = if same name r && (index == 0) then Some (record { low = n; high = n }) else None
interval_of r (lines.Gap name kind low high) = if same name r then Some (record { low = low; high = high }) else None
interval_of r _ = None

-- what a reader got, in order; the messages of one batch are one item
abbrev pub intervals : List ℕ → List Happened → List Interval
intervals r hs = flat_map (λ h. filter_map (interval_of r) h.lines) hs

-- ---- nodes that stand lost ----

-- whether a node stands lost for a log, and up to which epoch, where a line said so since the start or the last wipe
pub data Standing : Type 0 where
  Lost : Standing
  LostTo : (epoch : ℕ) → Standing
  Sound : Standing

abbrev pub lost_to : ℕ → ℕ → List Line → Option ℕ
lost_to n l [] = None
lost_to n l (lines.NodeLost m k e ∷ ls) = if (m == n) && (k == l) then Some e else lost_to n l ls
lost_to n l (x ∷ ls) = lost_to n l ls

abbrev pub formatted_as : Option ℕ → Standing
formatted_as None = Sound
formatted_as (Some e) = LostTo e

-- what a line of a step does to a node's standing; the lines after it are given
abbrev pub standing_after : ℕ → ℕ → Line → List Line → Standing → Standing
standing_after n l (lines.NodeWiped m) after st = if m == n then Lost else st
standing_after n l (lines.NodeRebuilt m k) after st = if (m == n) && (k == l) then Sound else st
standing_after n l (lines.NodeFormatted m g) after st = if m == n then formatted_as (lost_to n l after) else st
standing_after n l _ after st = st

abbrev pub standing_in : ℕ → ℕ → List Line → Standing → Standing
standing_in n l [] st = st
standing_in n l (x ∷ ls) st = standing_in n l ls (standing_after n l x ls st)

abbrev pub standing : ℕ → ℕ → List Happened → Standing → Standing
standing n l [] st = st
standing n l (h ∷ hs) st = standing n l hs (standing_in n l h.lines st)

abbrev pub stands_for : ℕ → Standing → Bool
stands_for e Lost = true
stands_for e (LostTo c) = nat_le e c
stands_for e Sound = false

-- an epoch of the log, at least this one, is active
abbrev pub active_line : ℕ → Line → Bool
active_line e (lines.Active name epoch) = nat_le e epoch
active_line e _ = false

abbrev pub activates_log : ℕ → ℕ → List Line → Event → Bool
activates_log l e ls (events.Activate name k) = (k == l) && any_of (active_line e) ls
activates_log l e ls _ = false

abbrev pub has_epoch : ℕ → ℕ → List Happened → Bool
has_epoch l e hs = any_of (λ h. activates_log l e h.lines h.event) hs

-- after these steps the node stands lost for the epoch
abbrev pub stands_lost : ℕ → ℕ → List Happened → ℕ → Bool
stands_lost l e hs n = has_epoch l e hs && stands_for e (standing n l hs Lost)
