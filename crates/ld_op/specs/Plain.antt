-- A node's plain state, and what each op does to it.
use Rattle.std.specs.Prelude.{ℕ, ◌+◌, max, List, [], ◌∷◌, length, Option, Some, None, Bool, false, ◌&&◌, ◌||◌, not, ◌==◌, nat_lt, nat_le, if◌then◌else◌}
use Rattle.std.specs.Option.{unwrap_or}
use Rattle.ld_table.specs.Table.{find, put, take_out, keep, keep_keys}
use Rattle.ld_lsn.specs.Number.{epoch_of, esn_of, numbered}
use Rattle.ld_msg.specs.declared.msg.What.{What}
use Rattle.ld_msg.specs.declared.msg.What.TheVariants.{Rec, Hole, Bridge, Plug, Withheld}
use Rattle.ld_msg.specs.declared.msg.Entry.{Entry}
use Rattle.ld_msg.specs.declared.msg.Summary.{Summary}
use Rattle.ld_op.specs.declared.op.Op.{Op}
use Rattle.ld_op.specs.declared.op.Op.TheVariants as ops

-- one log's: the greatest ballot seen, the trim, the entries by number, the summaries of the clean epochs, the last known good offsets that accepted stores told of the others, and the epoch up to which it is lost, kept once it is refilled
pub record Log : Type 0 where
  pub sealed : ℕ
  pub trim : ℕ
  pub entries : List (ℕ × Entry)
  pub summaries : List (ℕ × Summary)
  pub lngs : List (ℕ × ℕ)
  pub lost : Bool
  pub lost_to : ℕ

abbrev pub empty_log : Log
empty_log = record { sealed = 0; trim = 0; entries = []; summaries = []; lngs = []; lost = false; lost_to = 0 }

-- the generation, 0 before the store is formatted, and the logs
pub record Plain : Type 0 where
  pub generation : ℕ
  pub logs : List (ℕ × Log)

abbrev pub unformatted : Plain
unformatted = record { generation = 0; logs = [] }

abbrev pub log_of : Plain → ℕ → Log
log_of p l = unwrap_or (find l p.logs) empty_log

-- ---- words on one log ----

-- epoch 0 is closed and clean everywhere, and ends before its offset 1
abbrev pub epoch_zero : Summary
epoch_zero = record { ballot = 0; lng = 0; trim = 0; end = 1; loss = false }

unfoldable pub summary_at : Log → ℕ → Option Summary
summary_at g e = if e == 0 then Some epoch_zero else find e g.summaries

abbrev pub is_lost : Log → ℕ → Bool
is_lost g e = g.lost && (nat_lt 0 e && nat_le e g.lost_to)

abbrev pub end_of : ℕ → Option Summary → ℕ
end_of e None = 0
end_of e (Some y) = numbered e y.end

-- the end of an epoch that is clean here, else 0
abbrev pub end_here : Log → ℕ → ℕ
end_here g e = end_of e (summary_at g e)

-- ---- ops ----

-- a bridge takes the entries of its epoch above it away that have a smaller ballot
abbrev pub survives_bridge : Entry → Entry → Bool
survives_bridge b e = nat_le e.number b.number || (not (epoch_of e.number == epoch_of b.number) || nat_le b.ballot e.ballot)

abbrev pub accept_entry : Entry → What → List (ℕ × Entry) → List (ℕ × Entry)
accept_entry e (Rec p) m = put e.number e m
accept_entry e Hole m = put e.number e m
accept_entry e Plug m = put e.number e m
accept_entry e Withheld m = put e.number e m
accept_entry e Bridge m = put e.number e (keep (λ s f. survives_bridge e f) m)

-- the greatest last known good offset that was told of an epoch; none is kept of 0
abbrev pub lng_in : List (ℕ × ℕ) → ℕ → ℕ
lng_in m epoch = unwrap_or (find epoch m) 0

abbrev pub lng_at : Log → ℕ → ℕ
lng_at g epoch = lng_in g.lngs epoch

abbrev pub raised_lng : ℕ → ℕ → List (ℕ × ℕ) → List (ℕ × ℕ)
raised_lng epoch lng m = if nat_lt (lng_in m epoch) lng then put epoch lng m else m

abbrev pub accepted : Log → ℕ → Entry → Log
accepted g lng e = record g { sealed = e.ballot; entries = accept_entry e e.what g.entries; lngs = raised_lng (epoch_of e.number) lng g.lngs }

abbrev pub sealed_by : Log → ℕ → Log
sealed_by g b = record g { sealed = b }

-- the trim rises, and all that stands at or below it goes
abbrev pub trimmed_to : Log → ℕ → Log
trimmed_to g t = record g { trim = max g.trim t; entries = keep_keys (λ s. nat_lt (max g.trim t) s) g.entries }

-- above the trim there stay, of the closed epoch, what the closing sequencer stored and what was known good
abbrev pub survives_clean : ℕ → ℕ → Summary → Entry → Bool
survives_clean trim epoch y e = nat_lt trim e.number && (not (epoch_of e.number == epoch) || (nat_le y.ballot e.ballot || nat_le (esn_of e.number) y.lng))

abbrev pub cleaned : Log → ℕ → Summary → Log
cleaned g epoch y = record g { trim = max g.trim y.trim; entries = keep (λ s e. survives_clean (max g.trim y.trim) epoch y e) g.entries; summaries = put epoch y g.summaries; lngs = take_out epoch g.lngs }

abbrev pub refill_entries : List Entry → List (ℕ × Entry) → List (ℕ × Entry)
refill_entries [] m = m
refill_entries (e ∷ es) m = refill_entries es (put e.number e m)

abbrev pub refilled_with : Log → List Entry → Log
refilled_with g es = record g { entries = refill_entries es g.entries }

abbrev pub refilled : Log → Log
refilled g = record g { lost = false }

abbrev pub lost_log : ℕ → Log
lost_log c = record empty_log { lost = nat_lt 0 c; lost_to = c }

abbrev pub lost_logs : List (ℕ × ℕ) → List (ℕ × Log)
lost_logs [] = []
lost_logs (d ∷ ds) = (d.0, lost_log d.1) ∷ lost_logs ds

abbrev pub with_log : Plain → ℕ → Log → Plain
with_log p l g = record p { logs = put l g p.logs }

-- the plain state after an op
unfoldable pub apply : Plain → Op → Plain
apply p (ops.Format generation epochs) = record { generation = generation; logs = lost_logs epochs }
apply p (ops.Accept l lng e) = with_log p l (accepted (log_of p l) lng e)
apply p (ops.Seal l b) = with_log p l (sealed_by (log_of p l) b)
apply p (ops.Clean l epoch y) = with_log p l (cleaned (log_of p l) epoch y)
apply p (ops.Trim l t) = with_log p l (trimmed_to (log_of p l) t)
apply p (ops.Refill l es) = with_log p l (refilled_with (log_of p l) es)
apply p (ops.Refilled l) = with_log p l (refilled (log_of p l))

-- ---- lengths of ops in the journal ----

abbrev pub what_length : What → ℕ
what_length (Rec p) = 2 + length p
what_length Hole = 0
what_length Bridge = 0
what_length Plug = 0
what_length Withheld = 0

abbrev pub entry_length : Entry → ℕ
entry_length e = 13 + what_length e.what

abbrev pub entries_length : List Entry → ℕ
entries_length [] = 0
entries_length (e ∷ es) = entry_length e + entries_length es

abbrev pub epochs_length : List (ℕ × ℕ) → ℕ
epochs_length [] = 0
epochs_length (d ∷ ds) = 8 + epochs_length ds

unfoldable pub op_length : Op → ℕ
op_length (ops.Format generation epochs) = 7 + epochs_length epochs
op_length (ops.Accept l lng e) = 9 + entry_length e
op_length (ops.Seal l b) = 9
op_length (ops.Clean l epoch y) = 30
op_length (ops.Trim l t) = 13
op_length (ops.Refill l es) = 7 + entries_length es
op_length (ops.Refilled l) = 5
