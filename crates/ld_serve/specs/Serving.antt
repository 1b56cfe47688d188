-- A node that serves: what a message makes of it, and what its disk represents.
use Rattle.std.specs.Prelude.{◌≡◌, ◌⊎◌, ⊤, ℕ, List, Option}
use Rattle.ld_msg.specs.declared.msg.Msg.{Msg}
use Rattle.ld_op.specs.declared.op.Op.{Op}
use Rattle.ld_op.specs.Plain.{Plain}
use Rattle.ld_op.specs.Answers.{Handled}
use Rattle.ld_op.specs.Handles.{answer_message}
use Rattle.ld_op.specs.Cells.{read_plain}
use Rattle.ld_layout.specs.Layout.{Layout}
use Rattle.ld_segment.specs.Lies.{Slots, LiesAs, IsSound, written}
use Rattle.ld_store.specs.Ops.{StandsFor, StandsForEither}
use Rattle.ld_node.specs.Known.{Known}
use Rattle.ld_node.specs.Changes.{kept, IsPast}
use Rattle.ld_node.specs.Msgs.{handled, released_after}
use Rattle.ld_disk.specs.declared.disk.Disk.{Ghosts}
use Rattle.ld_node.specs.declared.node.Node.{Node}
use Rattle.ld_node.specs.Node.{plain_of, released_of}
use Rattle.ld_serve.specs.declared.stop.Stop.{Stop}
use Rattle.ld_serve.specs.declared.stop.Stop.TheVariants.{Disk, Full}
use Rattle.ld_serve.specs.declared.stop.Which.TheVariants.{Store}
use Rattle.ld_serve.specs.Course.{Cut, Idle, Unread, Refused, Unsent}
use Rattle.ld_serve.specs.Stops.{IsLinkStop, IsUnread, IsNodeStop, IsUnsent}

-- what a node has in memory: its plain state, and the released numbers of its logs
pub record State : Type 0 where
  pub plain : Plain
  pub released : List (ℕ × ℕ)

module _ {D : Type 0} {g : Ghosts D} where
  abbrev pub state_of : Node D g → State
  state_of node = record { plain = plain_of node; released = released_of node }

  -- the node is in the state that serving reached, unless its disk failed
  abbrev pub IsAt : State → Stop → Node D g → Type 0
  IsAt last stop node = (stop ≡ Disk) ⊎ (last ≡ state_of node)

-- all that may be left lies as this layout says, and represents this plain state; and the op's record, or the segment that it needs, would pass the journal's limit
pub record PastLimit (left : List ℕ → Type 0) (p : Plain) (op : Option Op) : Type 0 where
  pub layout : Layout
  pub slots : Slots
  pub sound : IsSound layout
  pub lies : (bytes : List ℕ) → left bytes → LiesAs (written layout) layout slots bytes
  pub plain : (bytes : List ℕ) → left bytes → p ≡ read_plain bytes layout.index
  pub past : IsPast layout op

-- the node of this number, which knows this of the configuration
module _ (id : ℕ) (known : Known) where
  -- what it makes of a message
  abbrev pub done : State → Msg → Handled
  done s m = handled id known s.released s.plain m

  abbrev pub after : State → Msg → State
  after s m = record { plain = kept (done s m).op s.plain; released = released_after id known s.released m }

  abbrev pub answers : State → Msg → List Msg
  answers s m = answer_message id m (done s m).answer

  -- where it stopped, why, and what may be left of its disk then; its store held what the disk has
  module _ (left : List ℕ → Type 0) (stop : Stop) where
    -- all that may be left is such
    abbrev pub Leaves : (List ℕ → Type 0) → Type 0
    Leaves P = (bytes : List ℕ) → left bytes → P bytes

    abbrev pub IsCut : Cut State → Type 0
    IsCut (Idle s) = IsLinkStop stop × Leaves (StandsFor s.plain)
    IsCut (Unread held s) = IsUnread held stop × Leaves (StandsFor s.plain)
    IsCut (Refused s m) = IsNodeStop ⊤ stop × Leaves (StandsForEither s.plain (after s m).plain) × (stop ≡ Full Store → PastLimit left s.plain (done s m).op)
    IsCut (Unsent s) = IsUnsent stop × Leaves (StandsFor s.plain)
