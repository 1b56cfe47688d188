-- What each call does to one node, and how it ends.
use Rattle.std.specs.Prelude.{◌≡◌, ℕ, List, [], Option, Some, None, Bool, false, ◌&&◌, not, ◌==◌, nat_lt, Ok, Err, if◌then◌else◌}
use Rattle.std.specs.declared.result.Result.{Result}
use Rattle.std.specs.Option.{unwrap_or}
use Rattle.ld_table.specs.Table.{find, put}
use Rattle.ld_msg.specs.declared.msg.Msg.{Msg}
use Rattle.ld_msg.specs.Register.{Register, epochs_of}
use Rattle.ld_config.specs.declared.config.Config.{Config}
use Rattle.ld_op.specs.declared.op.Op.{Op}
use Rattle.ld_op.specs.declared.op.Op.TheVariants as ops
use Rattle.ld_op.specs.Handles.{answer_message}
use Rattle.ld_op.specs.Plain.{log_of}
use Rattle.ld_op.specs.Ticks.{Ticked, on_tick}
use Rattle.ld_register.specs.Calls.{after_draw, swapped, after_swap}
use Rattle.ld_register.specs.Calls as calls
use Rattle.ld_register.specs.declared.fault.RegisterFault.{RegisterFault}
use Rattle.ld_register.specs.declared.register.Drawn.{Drawn}
use Rattle.ld_node.specs.Looks.{op_of, answer_of}
use Rattle.ld_node.specs.declared.tick.Ticked as answers
use Rattle.ld_node.specs.declared.tick.Ticked.TheVariants as ticks
use Rattle.ld_machine.specs.Config.{all_nodes, has_log, has_node}
use Rattle.ld_machine.specs.Disk.{Node, new_node, is_up, Kept, Written, DiskFailed, Crashed, JournalFull, keep_op, keep_end, load, load_end}
use Rattle.ld_machine.specs.Step.{node_handles, releases, is_written}
use Rattle.ld_host.specs.declared.kept.Kept.{Kept as HostKept}
use Rattle.ld_host.specs.declared.kept.Kept.TheVariants as ends
use Rattle.ld_host.specs.declared.kept.Formatted.{Formatted}
use Rattle.ld_host.specs.declared.kept.Formatted.TheVariants as formats

abbrev pub shown_kept : HostKept → Kept
shown_kept ends.Written = Written
shown_kept ends.Failed = DiskFailed
shown_kept ends.Crashed = Crashed
shown_kept ends.Full = JournalFull

-- the node as it is then, how its op was kept, and what it sends
pub record NodeDone : Type 0 where
  pub node : Node
  pub end : Kept
  pub sends : List Msg

-- an op is kept where there is one, and the messages come only where it is written
abbrev pub op_done : Node → Option Op → List Msg → NodeDone
op_done x None ms = record { node = x; end = Written; sends = ms }
op_done x (Some o) ms = record { node = keep_op x o; end = keep_end x o; sends = if is_written (keep_end x o) then ms else [] }

-- a message to the node of this number, which is up
abbrev pub message_done : ℕ → Node → Msg → NodeDone
message_done n x m = op_done (releases x m.log m.body) (node_handles n x m).op (answer_message n m (node_handles n x m).answer)

-- ---- a format ----

-- it wasn't kept under what was drawn: the node and the register after it
pub record NotKeptAs (x : Node) (n : ℕ) (r : Register) (k : HostKept) (y : Node) (after : Register) : Type 0 where
  pub drawn : Drawn
  pub loaded : load_end x ≡ Written
  pub granted : calls.drawn r n ≡ Ok drawn
  pub node : y ≡ keep_op (load x) (ops.Format drawn.gen_ drawn.epochs)
  pub register : after ≡ after_draw r n
  pub end : shown_kept k ≡ keep_end (load x) (ops.Format drawn.gen_ drawn.epochs)
  pub unwritten : is_written (keep_end (load x) (ops.Format drawn.gen_ drawn.epochs)) ≡ false

-- it was kept under this
pub record DoneAs (x : Node) (n : ℕ) (r : Register) (d : Drawn) (y : Node) (after : Register) : Type 0 where
  pub loaded : load_end x ≡ Written
  pub granted : calls.drawn r n ≡ Ok d
  pub node : y ≡ keep_op (load x) (ops.Format d.gen_ d.epochs)
  pub register : after ≡ after_draw r n
  pub end : keep_end (load x) (ops.Format d.gen_ d.epochs) ≡ Written

-- the node of this number is loaded, a generation is drawn for it, and its format is kept: by how it ended, the node and the register after it
abbrev pub FormatsAs : Node → ℕ → Register → Formatted → Node → Register → Type 0
FormatsAs x n r (formats.NotLoaded k) y after = (shown_kept k ≡ load_end x) × (is_written (load_end x) ≡ false) × (y ≡ load x) × (after ≡ r)
FormatsAs x n r (formats.Refused f) y after = (load_end x ≡ Written) × (calls.drawn r n ≡ Err f) × (y ≡ load x) × (after ≡ after_draw r n)
FormatsAs x n r (formats.NotKept k) y after = NotKeptAs x n r k y after
FormatsAs x n r (formats.Done d) y after = DoneAs x n r d y after

-- the host stands as that node, and the register tells what it does of those contents
pub record HasFormatted (hosts : Node → Type 0) (tells : Register → Type 0) (x : Node) (n : ℕ) (r : Register) (formatted : Formatted) : Type 0 where
  pub node : Node
  pub register : Register
  pub stands : hosts node
  pub told : tells register
  pub does : FormatsAs x n r formatted node register

-- ---- a tick ----

-- what a look at the register makes a node do for a log
abbrev pub tick_of : Node → ℕ → Register → Ticked
tick_of x l r = on_tick (log_of x.plain l) (epochs_of r l).summaries

abbrev pub tick_done : Config → ℕ → Node → ℕ → Register → NodeDone
tick_done c n x l r = op_done x (op_of l (tick_of x l r)) []

-- the node of a number; one that isn't there is new
abbrev pub node_in : List (ℕ × Node) → ℕ → Node
node_in nodes n = unwrap_or (find n nodes) new_node

-- the nodes once that one keeps an op, where there is one
abbrev pub kept_nodes : ℕ → Option Op → List (ℕ × Node) → List (ℕ × Node)
kept_nodes n None nodes = nodes
kept_nodes n (Some o) nodes = put n (keep_op (node_in nodes n) o) nodes

-- what it answers, which is nothing where its op wasn't kept
abbrev pub tick_answer : Config → ℕ → Node → ℕ → Register → answers.Ticked
tick_answer c n x l r = if is_written (tick_done c n x l r).end then answer_of n l (all_nodes c) (tick_of x l r) else ticks.Nothing

-- ---- a node that takes another one's place ----

-- it is up, isn't lost for the log and was so once; the other one is another node
abbrev pub can_replace : Config → ℕ → Node → ℕ → ℕ → Bool
can_replace c n x other l = (has_log c l && (has_node c other && not (n == other))) && (is_up x.status && (not (log_of x.plain l).lost && nat_lt 0 (log_of x.plain l).lost_to))

-- in how many closed epochs it takes the other one's place, or why the register refuses
abbrev pub replaced : Config → ℕ → Node → ℕ → ℕ → Register → Result ℕ RegisterFault
replaced c n x other l r = if can_replace c n x other l then swapped r l (log_of x.plain l).lost_to other n else Ok 0

abbrev pub after_replace : Config → ℕ → Node → ℕ → ℕ → Register → Register
after_replace c n x other l r = if can_replace c n x other l then after_swap r l (log_of x.plain l).lost_to other n else r
