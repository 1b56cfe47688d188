-- The state of a run, and what one step leaves.
use Rattle.std.specs.Prelude.{ℕ, ◌+◌, List, [], ◌∷◌, ◌++◌, Option, Some, None, ◌&&◌, ◌==◌, if◌then◌else◌}
use Rattle.std.specs.Option.{unwrap_or}
use Rattle.ld_table.specs.Table.{find, put}
use Rattle.ld_table.specs.Named.{put_named}
use Rattle.ld_transcript.specs.declared.line.Line.{Line}
use Rattle.ld_transcript.specs.declared.line.Line.TheVariants as lines
use Rattle.ld_transcript.specs.declared.line.Actor.{Actor}
use Rattle.ld_transcript.specs.declared.line.Actor.TheVariants as actors
use Rattle.ld_transcript.specs.declared.line.Kind.{Kind}
use Rattle.ld_transcript.specs.declared.line.Kind.TheVariants as kinds
use Rattle.ld_lsn.specs.Number.{numbered, home_epoch}
use Rattle.ld_msg.specs.declared.msg.Who.{Who}
use Rattle.ld_msg.specs.declared.msg.Who.TheVariants as whos
use Rattle.ld_msg.specs.declared.msg.Msg.{Msg}
use Rattle.ld_msg.specs.declared.msg.Body.{Body}
use Rattle.ld_msg.specs.declared.msg.Body.TheVariants as bodies
use Rattle.ld_ids.specs.Set.{members}
use Rattle.ld_ids.specs.declared.set.Spec.{Spec}
use Rattle.ld_config.specs.declared.config.Config.{Config}
use Rattle.ld_msg.specs.Register.{Register, empty_register}
use Rattle.ld_machine.specs.Disk.{Node, new_node}
use Rattle.ld_msg.specs.Network.{Network, no_messages, send_all}
pub use Rattle.ld_msg.specs.Network.{posted}
use Rattle.ld_msg.specs.Sequencer.{Sequencer}
use Rattle.ld_msg.specs.Reader.{Reader}

-- specs are those that were set for later activations
pub record State : Type 0 where
  pub nodes : List (ℕ × Node)
  pub register : Register
  pub network : Network
  pub sequencers : List (List ℕ × Sequencer)
  pub readers : List (List ℕ × Reader)
  pub specs : List (ℕ × Spec)

abbrev pub new_nodes : List ℕ → List (ℕ × Node)
new_nodes [] = []
new_nodes (n ∷ ns) = (n, new_node) ∷ new_nodes ns

-- all nodes are blank, on new disks
abbrev pub start : Config → State
start c = record { nodes = new_nodes (members c.nodes); register = empty_register; network = no_messages; sequencers = []; readers = []; specs = [] }

abbrev pub node_at : State → ℕ → Node
node_at s n = unwrap_or (find n s.nodes) new_node

abbrev pub with_node : State → ℕ → Node → State
with_node s n x = record s { nodes = put n x s.nodes }

abbrev pub with_register : State → Register → State
with_register s r = record s { register = r }

abbrev pub with_sequencer : State → List ℕ → Sequencer → State
with_sequencer s name q = record s { sequencers = put_named name q s.sequencers }

abbrev pub with_reader : State → List ℕ → Reader → State
with_reader s name d = record s { readers = put_named name d s.readers }

-- ---- who is who ----

-- the sequencer of an epoch of a log, with its name
abbrev pub sequencer_of : ℕ → ℕ → List (List ℕ × Sequencer) → Option (List ℕ × Sequencer)
sequencer_of l epoch [] = None
sequencer_of l epoch (q ∷ qs) = if (q.1.log == l) && (q.1.epoch == epoch) then Some q else sequencer_of l epoch qs

-- the reader of a place in the order of opening, with its name
abbrev pub reader_of : ℕ → List (List ℕ × Reader) → Option (List ℕ × Reader)
reader_of number [] = None
reader_of number (d ∷ ds) = if d.1.number == number then Some d else reader_of number ds

abbrev pub name_of : {X : Type 0} → Option (List ℕ × X) → List ℕ
name_of None = []
name_of (Some e) = e.0

abbrev pub actor_of : State → ℕ → Who → Actor
actor_of s l (whos.Node n) = actors.Node n
actor_of s l (whos.Sequencer e) = actors.Sequencer (name_of (sequencer_of l e s.sequencers))
actor_of s l (whos.Reader r) = actors.Reader (name_of (reader_of r s.readers))

-- ---- the line of a message ----

abbrev pub kind_of : Body → Kind
kind_of (bodies.Store n lng w) = kinds.Store
kind_of (bodies.Stored n) = kinds.Stored
kind_of (bodies.SealedHere n k) = kinds.SealedHere
kind_of (bodies.LostHere n round g end) = kinds.LostHere
kind_of (bodies.CleanHere n y) = kinds.CleanHere
kind_of (bodies.TrimmedHere n t) = kinds.TrimmedHere
kind_of (bodies.DigestAsk n) = kinds.DigestAsk
kind_of (bodies.DigestPage n upto t lng es) = kinds.DigestPage
kind_of (bodies.Clean e y) = kinds.Clean
kind_of (bodies.Release n) = kinds.Release
kind_of (bodies.Trim t) = kinds.Trim
kind_of (bodies.ReadAsk round n) = kinds.ReadAsk
kind_of (bodies.ReadPage round n upto c es) = kinds.ReadPage
kind_of (bodies.ReadEnded round n end loss) = kinds.ReadEnded
kind_of (bodies.ReadTrim round n t) = kinds.ReadTrim
kind_of (bodies.ReadWait round n r) = kinds.ReadWait
kind_of (bodies.ReadOne round n set excluded) = kinds.ReadOne

-- the number that its line shows
abbrev pub shown : Body → ℕ
shown (bodies.Store n lng w) = n
shown (bodies.Stored n) = n
shown (bodies.SealedHere n k) = numbered k 0
shown (bodies.LostHere n round g end) = n
shown (bodies.CleanHere n y) = numbered (home_epoch n) y.end
shown (bodies.TrimmedHere n t) = t
shown (bodies.DigestAsk n) = n
shown (bodies.DigestPage n upto t lng es) = n
shown (bodies.Clean e y) = numbered e y.end
shown (bodies.Release n) = n
shown (bodies.Trim t) = t
shown (bodies.ReadAsk round n) = n
shown (bodies.ReadPage round n upto c es) = n
shown (bodies.ReadEnded round n end loss) = end
shown (bodies.ReadTrim round n t) = t
shown (bodies.ReadWait round n r) = r
shown (bodies.ReadOne round n set excluded) = n

abbrev pub message_line : State → ℕ → Msg → Line
message_line s i m = lines.Message i (actor_of s m.log m.from) (actor_of s m.log m.to) (kind_of m.body) (shown m.body)

abbrev pub message_lines : State → ℕ → List Msg → List Line
message_lines s i [] = []
message_lines s i (m ∷ ms) = message_line s i m ∷ message_lines s (i + 1) ms

-- ---- a step ----

-- the state before the messages are sent, the lines but theirs, and the messages
pub record Done : Type 0 where
  pub state : State
  pub lines : List Line
  pub sends : List Msg

pub record Stepped : Type 0 where
  pub state : State
  pub lines : List Line

abbrev pub or_none : List Line → List Line
or_none [] = lines.Nothing ∷ []
or_none (l ∷ ls) = l ∷ ls

abbrev pub sent_state : State → List Msg → State
sent_state s ms = record s { network = send_all s.network ms }

-- the messages are sent; a step without lines writes `none`
unfoldable pub finish : Done → Stepped
finish d = record { state = sent_state d.state d.sends; lines = or_none (d.lines ++ message_lines d.state d.state.network.count d.sends) }

-- no line and no message
abbrev pub only_state : State → Done
only_state s = record { state = s; lines = []; sends = [] }

-- nothing changes
abbrev pub unchanged : State → Done
unchanged s = only_state s

abbrev pub with_line : State → Line → Done
with_line s l = record { state = s; lines = l ∷ []; sends = [] }
