-- What is read from a run: its lines but those of messages, whether a number was called lost, and the summary of a made one.
use Rattle.std.specs.Prelude.{ℕ, ◌+◌, List, [], ◌∷◌, filter, map, Option, Some, None, is_some, Bool, true, false}
use Rattle.ld_table.specs.Table.{find}
use Rattle.ld_table.specs.Named.{find_named}
use Rattle.ld_table.specs.Words.{any_of}
use Rattle.ld_lsn.specs.Number.{numbered}
use Rattle.ld_schedule.specs.declared.event.Event.{Event}
use Rattle.ld_schedule.specs.declared.event.Picture.{Picture}
use Rattle.ld_transcript.specs.declared.line.Line.{Line}
use Rattle.ld_transcript.specs.declared.line.Line.TheVariants as lines
use Rattle.ld_transcript.specs.Text.{text}
use Rattle.ld_config.specs.declared.config.Config.{Config}
use Rattle.ld_msg.specs.Reader.{Reader, Confirmation}
use Rattle.ld_op.specs.Plain.{log_of, is_lost}
use Rattle.ld_machine.specs.Disk.{Cut, Node, found, is_failed}
use Rattle.ld_machine.specs.State.{start, node_at}
use Rattle.ld_machine.specs.Run.{lines_of, state_after}
use Rattle.ld_maker.specs.Made.{made_config, made}
use Rattle.ld_maker.specs.Tally.{is_data_loss, summary, tally}
use Rattle.ld_rows.specs.Schedules.{three_nodes, one_node, reader_r, torn, switch_fails, switch_torn}

abbrev pub is_telling : Line → Bool
is_telling (lines.Message i from to kind n) = false
is_telling lines.Nothing = false
is_telling _ = true

abbrev pub told_text : Config → List Event → List ℕ
told_text c es = text (filter is_telling (lines_of c (start c) es))

abbrev pub has_loss : Config → List Event → Bool
has_loss c es = any_of is_data_loss (lines_of c (start c) es)

-- the summary of the made schedule's run, of so many events behind the first seven
abbrev pub made_summary : ℕ → ℕ → List ℕ
made_summary seed m = summary (m + 7) (tally (lines_of made_config (start made_config) (made seed m)))

-- whether the record that was torn is there once the node is loaded
abbrev pub is_kept : ℕ → Picture → Bool
is_kept call picture = is_some (find (numbered 1 1) (log_of (node_at (state_after three_nodes (start three_nodes) (torn call picture)) 3).plain 1).entries)

-- for each of a record's four writing calls
abbrev pub kept_by_call : Picture → List Bool
kept_by_call picture = map (λ call. is_kept call picture) (1 ∷ 2 ∷ 3 ∷ 4 ∷ [])

-- whether a node is lost for an epoch of log 1 in the state before a record that was cut short, and in the one after it
abbrev pub cut_states : ℕ → Option Cut → List Bool
cut_states e None = []
cut_states e (Some k) = is_lost (log_of k.plain 1) e ∷ []

abbrev pub lost_states : ℕ → ℕ → List Event → List Bool
lost_states e n es = let x : Node = node_at (state_after three_nodes (start three_nodes) es) n in is_lost (log_of x.plain 1) e ∷ cut_states e x.cut

-- whether the state that a load would find is lost for an epoch of log 1
abbrev pub found_lost : ℕ → ℕ → List Event → Bool
found_lost e n es = let x : Node = node_at (state_after three_nodes (start three_nodes) es) n in is_lost (log_of (found x x.cut) 1) e

-- the round in which a reader asks lost nodes once more, if it does
abbrev pub again_in : Option Confirmation → List ℕ
again_in None = []
again_in (Some v) = v.round ∷ []

abbrev pub again_of : Option Reader → List ℕ
again_of None = []
again_of (Some d) = again_in d.confirming

abbrev pub asks_again : List Event → List ℕ
asks_again es = again_of (find_named reader_r (state_after three_nodes (start three_nodes) es).readers)

-- whether the node has failed where this call of the record behind a full segment was to
abbrev pub has_failed : ℕ → Bool
has_failed call = is_failed (node_at (state_after one_node (start one_node) (switch_fails call)) 1).status

-- whether a load found the new segment after a crash in this call, and whether the record
abbrev pub switched_by : ℕ → Picture → Bool × Bool
switched_by call picture = let x : Node = node_at (state_after one_node (start one_node) (switch_torn call picture)) 1 in (is_some x.layout.later, is_some (find (numbered 1 64) (log_of x.plain 1).entries))
