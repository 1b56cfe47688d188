-- What a message does to a node.
use Rattle.std.specs.Prelude.{ℕ, List, Option, Some, None, Bool, false, ◌&&◌, ◌==◌, if◌then◌else◌}
use Rattle.std.specs.Option.{unwrap_or}
use Rattle.ld_table.specs.Table.{find, put}
use Rattle.ld_table.specs.Words.{is_in}
use Rattle.ld_msg.specs.declared.msg.Who.{Who}
use Rattle.ld_msg.specs.declared.msg.Who.TheVariants as whos
use Rattle.ld_msg.specs.declared.msg.Msg.{Msg}
use Rattle.ld_msg.specs.declared.msg.Body.{Body}
use Rattle.ld_msg.specs.declared.msg.Body.TheVariants as bodies
use Rattle.ld_msg.specs.Bounds.{ballot_of}
use Rattle.ld_op.specs.Plain.{Plain, log_of}
use Rattle.ld_op.specs.Answers.{Handled, silent, on_release}
use Rattle.ld_op.specs.Handles.{handled_by}
use Rattle.ld_node.specs.Known.{Known}

abbrev pub is_node : ℕ → Who → Bool
is_node id (whos.Node n) = n == id
is_node id (whos.Sequencer e) = false
is_node id (whos.Reader r) = false

-- a message for the node of this number, of a log that it knows
abbrev pub is_for : ℕ → Known → Msg → Bool
is_for id known m = is_node id m.to && is_in m.log known.logs

-- the released number of a log, 0 where none was told
abbrev pub released_in : List (ℕ × ℕ) → ℕ → ℕ
released_in released l = unwrap_or (find l released) 0

-- what the node makes of a message: nothing where it isn't for it
unfoldable pub handled : ℕ → Known → List (ℕ × ℕ) → Plain → Msg → Handled
handled id known released p m = if is_for id known m then handled_by id p.generation (log_of p m.log) m.log (ballot_of m.from) (released_in released m.log) m.body else silent

-- the number that a message releases at the node
abbrev pub number_in : Body → Option ℕ
number_in (bodies.Release y) = Some y
number_in _ = None

unfoldable pub released_by : ℕ → Known → Msg → Option ℕ
released_by id known m = if is_for id known m then number_in m.body else None

abbrev pub raised : List (ℕ × ℕ) → ℕ → Option ℕ → List (ℕ × ℕ)
raised released l None = released
raised released l (Some y) = put l (on_release (released_in released l) y) released

abbrev pub released_after : ℕ → Known → List (ℕ × ℕ) → Msg → List (ℕ × ℕ)
released_after id known released m = raised released m.log (released_by id known m)
