-- What is asked of nodes about a log, and the text of what they answer. Where the first argument of a text says so each line is a JSON object.
use Rattle.std.specs.Prelude.{ℕ, ◌+◌, ◌-◌, ◌^◌, ◌≡◌, max, nat_lt, filter, map, List, [], ◌++◌, codes, Bool, true, false, if◌then◌else◌}
use Rattle.std.specs.List.{flat_map, range_with_len}
use Rattle.ld_lsn.specs.Number.{numbered, last_esn}
use Rattle.ld_msg.specs.declared.msg.Who.TheVariants as whos
use Rattle.ld_msg.specs.declared.msg.Msg.{Msg}
use Rattle.ld_msg.specs.declared.msg.Body.{Body}
use Rattle.ld_msg.specs.declared.msg.Body.TheVariants as bodies
use Rattle.ld_msg.specs.Reading.{trim_told}
use Rattle.ld_op.specs.Plain.{log_of}
use Rattle.ld_op.specs.Answers.{read_answer}
use Rattle.ld_machine.specs.Disk.{Node, is_up}
use Rattle.ld_machine.specs.State.{node_at}
use Rattle.ld_machine.specs.Step.{released_at}
use Rattle.ld_dial.specs.Far.{alone}
use Rattle.ld_operate.specs.Shown.{labelled, labelled_lsn}
use Rattle.ld_operate.specs.Members.{first_member, member, lsn_member, word_member}

-- ---- asks ----

-- the first number of all, one above all epochs, and the last one of an epoch
abbrev pub first_number : ℕ
first_number = numbered 0 1

abbrev pub past_all : ℕ
past_all = numbered (2 ^ 32 - 1) 1

abbrev pub past_epoch : ℕ → ℕ
past_epoch epoch = numbered epoch last_esn

-- the message that asks a node what stands at a number of a log
abbrev pub asks : ℕ → ℕ → ℕ → Msg
asks node log from = record { from = whos.Reader 0; to = whos.Node node; log = log; body = bodies.ReadAsk 1 from }

-- what a node that is up answers to it
abbrev pub node_answer : Node → ℕ → ℕ → Body
node_answer x log from = read_answer x.plain.generation (log_of x.plain log) (released_at x log) 1 from

-- the first one of the last epochs, so many of them
abbrev pub first_of_last : ℕ → ℕ → ℕ
first_of_last count last = max 1 (last + 1 - count)

-- of so many epochs from one on those that aren't trimmed whole
abbrev pub asked : ℕ → ℕ → ℕ → List ℕ
asked trim first count = filter (λ epoch. nat_lt trim (past_epoch epoch)) (range_with_len first count)

-- ---- answers ----

abbrev pub released_told : Body → ℕ
released_told (bodies.ReadWait round from released) = released
released_told _ = 0

-- the node knows the epoch's end, or is lost for it under a generation, or has trimmed it; else it doesn't know that the epoch is closed
unfoldable pub state_text : Bool → Body → List ℕ
state_text false (bodies.ReadEnded round from end loss) = labelled_lsn (codes " clean ") end
state_text false (bodies.LostHere number round generation end) = labelled (codes " lost ") generation
state_text false (bodies.ReadTrim round from trim) = codes " trimmed"
state_text false _ = codes " open"
state_text true (bodies.ReadEnded round from end loss) = word_member (codes "state") (codes "clean") ++ lsn_member (codes "end") end
state_text true (bodies.LostHere number round generation end) = word_member (codes "state") (codes "lost") ++ member (codes "generation") generation
state_text true (bodies.ReadTrim round from trim) = word_member (codes "state") (codes "trimmed")
state_text true _ = word_member (codes "state") (codes "open")

unfoldable pub points_line : Bool → ℕ → Body → Body → List ℕ
points_line false node trim released = labelled (codes "node ") node ++ labelled_lsn (codes " trim ") (trim_told trim) ++ labelled_lsn (codes " released ") (released_told released) ++ codes "\n"
points_line true node trim released = first_member (codes "node") node ++ lsn_member (codes "trim") (trim_told trim) ++ lsn_member (codes "released") (released_told released) ++ codes "}\n"

unfoldable pub state_line : Bool → ℕ → ℕ → Body → List ℕ
state_line false node epoch state = labelled (codes "node ") node ++ labelled (codes " epoch ") epoch ++ state_text false state ++ codes "\n"
state_line true node epoch state = first_member (codes "node") node ++ member (codes "epoch") epoch ++ state_text true state ++ codes "}\n"

unfoldable pub silent_line : Bool → ℕ → List ℕ
silent_line false node = labelled (codes "node ") node ++ codes " silent\n"
silent_line true node = first_member (codes "node") node ++ word_member (codes "state") (codes "silent") ++ codes "}\n"

-- ---- what came of asking a node ----

-- it was silent before it answered the first two asks; or these were its answers to them, and then those of epochs, whole, or up to where it fell silent
pub data Said : Type 0 where
  Silent : Said
  Points : (trim released : Body) → (states : List (ℕ × Body)) → (whole : Bool) → Said

abbrev pub is_whole : Said → Bool
is_whole Silent = false
is_whole (Points trim released states whole) = whole

abbrev pub state_lines : Bool → ℕ → List (ℕ × Body) → List ℕ
state_lines json node states = flat_map (λ s. state_line json node s.0 s.1) states

-- the lines of its answers
abbrev pub answers_text : Bool → ℕ → Said → List ℕ
answers_text json node Silent = []
answers_text json node (Points trim released states whole) = points_line json node trim released ++ state_lines json node states

abbrev pub said_text : Bool → ℕ → Said → List ℕ
said_text json node said = answers_text json node said ++ (if is_whole said then [] else silent_line json node)

abbrev pub epochs_in : List (ℕ × Body) → List ℕ
epochs_in states = map (λ s. s.0) states

-- it was asked for the epochs that aren't trimmed, from the first one on, and where it wasn't silent it answered for all of them
abbrev pub IsSaid : ℕ → ℕ → Said → Type 0
IsSaid first count Silent = Unit {0}
IsSaid first count (Points trim released states whole) = (rest : List ℕ) × (asked (trim_told trim) first count ≡ epochs_in states ++ rest) × (whole ≡ true → rest ≡ [])

-- what a node of the written machine says
abbrev pub states_of : Node → ℕ → List ℕ → List (ℕ × Body)
states_of x log epochs = map (λ epoch. (epoch, node_answer x log (past_epoch epoch))) epochs

abbrev pub said_of : Node → ℕ → ℕ → ℕ → Said
said_of x log first count = if is_up x.status then Points (node_answer x log first_number) (node_answer x log past_all) (states_of x log (asked (trim_told (node_answer x log first_number)) first count)) true else Silent

-- each of some nodes
abbrev pub saids_text : Bool → List (ℕ × Said) → List ℕ
saids_text json saids = flat_map (λ s. said_text json s.0 s.1) saids

abbrev pub saids_of : List (ℕ × Node) → ℕ → ℕ → ℕ → List ℕ → List (ℕ × Said)
saids_of nodes log first count ys = map (λ y. (y, said_of (node_at (alone nodes) y) log first count)) ys
