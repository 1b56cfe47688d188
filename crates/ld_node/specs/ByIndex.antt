-- What a message does to a node over any disk, whatever bytes that gives: what the specification says where some bytes stand at the places of the payloads, but for the bytes of the payloads that are answered.
use Rattle.std.specs.Prelude.{◌≡◌, ℕ, List, map, Option}
use Rattle.ld_msg.specs.declared.msg.Msg.{Msg}
use Rattle.ld_op.specs.declared.op.Op.{Op}
use Rattle.ld_op.specs.Plain.{Plain}
use Rattle.ld_op.specs.Cells.{each_plain, each_msg}
use Rattle.ld_op.specs.Handles.{answer_message}
use Rattle.ld_layout.specs.Layout.{Layout}
use Rattle.ld_node.specs.Known.{Known}
use Rattle.ld_node.specs.Changes.{laid_with}
use Rattle.ld_node.specs.Msgs.{handled}

-- with each byte of each payload as 0, so that of a payload its length alone counts
abbrev pub without_bytes : List Msg → List Msg
without_bytes ms = map (each_msg (λ _. 0)) ms

-- the op that is kept of a message, and the answers to it, where the node has this index in memory
pub record IsByIndex (id : ℕ) (known : Known) (released : List (ℕ × ℕ)) (index : Plain) (m : Msg) (op : Option Op) (answers : List Msg) : Type 0 where
  pub byte : ℕ → ℕ
  pub op_is : op ≡ (handled id known released (each_plain byte index) m).op
  pub answers_are : without_bytes answers ≡ without_bytes (answer_message id m (handled id known released (each_plain byte index) m).answer)

-- the same, and how the journal lies with its index, before and with that op behind it
pub record DoesByIndex (id : ℕ) (known : Known) (released : List (ℕ × ℕ)) (m : Msg) (answers : List Msg) (before now : Layout) : Type 0 where
  pub op : Option Op
  pub done : IsByIndex id known released before.index m op answers
  pub laid : now ≡ laid_with before op
