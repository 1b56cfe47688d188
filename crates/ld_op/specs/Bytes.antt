-- Ops and records as bytes, and how bytes are judged.
use Rattle.std.specs.Prelude.{ℕ, ◌+◌, ◌-◌, ◌^◌, List, [], ◌∷◌, ◌++◌, length, Bool, true, false, ◌||◌, ◌==◌, nat_le, if◌then◌else◌, zero, suc}
use Rattle.byteorder.specs.Endian.{big_bytes}
use Rattle.ld_msg.specs.declared.msg.Summary.{Summary}
use Rattle.ld_op.specs.declared.op.Op.{Op}
use Rattle.ld_op.specs.declared.op.Op.TheVariants as ops
use Rattle.ld_op.specs.declared.record.Record.{Record}
use Rattle.ld_op.specs.declared.record.Record.TheVariants.{Now, Before, Mark}
use Rattle.ld_fields.specs.declared.beside.Beside.TheVariants as besides
use Rattle.ld_fields.specs.Fields.{Read, Got, follow, check, field, within, end_at}
use Rattle.ld_fields.specs.Items.{entry_bytes, entries_bytes, older_summary_bytes, summary_bytes, greatest_epoch, greatest_lng, read_entry, read_entries, read_older_summary, read_summary, read_log}

-- ---- the bytes of an op ----

abbrev pub epochs_bytes : List (ℕ × ℕ) → List ℕ
epochs_bytes [] = []
epochs_bytes (d ∷ ds) = big_bytes 4 d.0 ++ (big_bytes 4 d.1 ++ epochs_bytes ds)

-- a generation, a count of one byte, and so many logs and epochs
abbrev pub format_bytes : ℕ → List (ℕ × ℕ) → List ℕ
format_bytes generation epochs = big_bytes 4 generation ++ (big_bytes 1 (length epochs) ++ epochs_bytes epochs)

-- a format tells the journal's version
unfoldable pub op_bytes : Op → List ℕ
op_bytes (ops.Format generation epochs) = big_bytes 1 10 ++ (big_bytes 1 2 ++ format_bytes generation epochs)
op_bytes (ops.Accept l lng e) = big_bytes 1 2 ++ (big_bytes 4 l ++ (big_bytes 4 lng ++ entry_bytes e))
op_bytes (ops.Seal l b) = big_bytes 1 3 ++ (big_bytes 4 l ++ big_bytes 4 b)
op_bytes (ops.Clean l epoch y) = big_bytes 1 12 ++ (big_bytes 4 l ++ (big_bytes 4 epoch ++ summary_bytes y))
op_bytes (ops.Trim l t) = big_bytes 1 5 ++ (big_bytes 4 l ++ big_bytes 8 t)
op_bytes (ops.Refill l es) = big_bytes 1 6 ++ (big_bytes 4 l ++ (big_bytes 2 (length es) ++ entries_bytes es))
op_bytes (ops.Refilled l) = big_bytes 1 7 ++ big_bytes 4 l

-- a format or a close as the first version of journals spelt it; it spelt the others as they are spelt now
unfoldable pub older_bytes : Op → List ℕ
older_bytes (ops.Format generation epochs) = big_bytes 1 1 ++ format_bytes generation epochs
older_bytes (ops.Clean l epoch y) = big_bytes 1 4 ++ (big_bytes 4 l ++ (big_bytes 4 epoch ++ older_summary_bytes y))
older_bytes _ = []

-- a mark tells the journal's version from there on
abbrev pub record_bytes : Record → List ℕ
record_bytes (Now o) = op_bytes o
record_bytes (Before o) = older_bytes o
record_bytes Mark = big_bytes 1 11 ++ big_bytes 1 2

-- ---- how bytes are judged ----

-- the byte that tells the second version
unfoldable pub read_version : List ℕ → ℕ → Read ℕ
read_version bs at = follow (field 1 bs at) (λ byte next. check (byte == 2) at (Got byte next))

-- a log and its epoch, the log at least the least
unfoldable pub read_epoch : List ℕ → ℕ → ℕ → Read (ℕ × ℕ)
read_epoch bs least at =
    follow (field 4 bs at) (λ log at_epoch. check (within least 65535 log) at (
    follow (field 4 bs at_epoch) (λ epoch next. check (nat_le 1 epoch) at_epoch (Got (log, epoch) next))))

-- so many, the logs rising
unfoldable pub read_epochs : List ℕ → ℕ → ℕ → ℕ → Read (List (ℕ × ℕ))
read_epochs bs zero least at = Got [] at
read_epochs bs (suc k) least at =
    follow (read_epoch bs least at) (λ d next. follow (read_epochs bs k (d.0 + 1) next) (λ ds last. Got (d ∷ ds) last))

unfoldable pub read_format : List ℕ → ℕ → Read Op
read_format bs at =
    follow (field 4 bs at) (λ generation at_count.
    follow (field 1 bs at_count) (λ count at_epochs.
    follow (read_epochs bs count 1 at_epochs) (λ epochs next. Got (ops.Format generation epochs) next)))

unfoldable pub read_accept : List ℕ → ℕ → ℕ → Read Op
read_accept bs l at = follow (field 4 bs at) (λ lng at_entry. check (nat_le lng greatest_lng) at (follow (read_entry bs besides.Bridges (2 ^ 64 - 1) 0 at_entry) (λ e next. Got (ops.Accept l lng e) next)))

-- a ballot is the epoch of a sequencer
unfoldable pub read_seal : List ℕ → ℕ → ℕ → Read Op
read_seal bs l at = follow (field 4 bs at) (λ b next. check (within 1 greatest_epoch b) at (Got (ops.Seal l b) next))

-- a summary in its older form or its present one
abbrev pub read_either : Bool → List ℕ → ℕ → ℕ → Read Summary
read_either older bs epoch at = if older then read_older_summary bs epoch at else read_summary bs epoch at

unfoldable pub read_clean : Bool → List ℕ → ℕ → ℕ → Read Op
read_clean older bs l at =
    follow (field 4 bs at) (λ epoch at_summary. check (within 1 greatest_epoch epoch) at (
    follow (read_either older bs epoch at_summary) (λ y next. Got (ops.Clean l epoch y) next)))

unfoldable pub read_refill : List ℕ → ℕ → ℕ → Read Op
read_refill bs l at =
    follow (field 2 bs at) (λ count at_entries. check (within 1 64 count) at (
    follow (read_entries bs besides.Bridges (2 ^ 64 - 1) count 0 at_entries) (λ es next. Got (ops.Refill l es) next)))

-- the fields of a log's op, by its first byte
unfoldable pub read_fields : List ℕ → ℕ → ℕ → ℕ → Read Op
read_fields bs kind l at =
    if kind == 2 then read_accept bs l at
    else if kind == 3 then read_seal bs l at
    else if kind == 4 then read_clean true bs l at
    else if kind == 5 then follow (field 8 bs at) (λ t next. Got (ops.Trim l t) next)
    else if kind == 6 then read_refill bs l at
    else if kind == 7 then Got (ops.Refilled l) at
    else read_clean false bs l at

unfoldable pub read_op : List ℕ → ℕ → ℕ → Read Op
read_op bs kind at =
    if kind == 1 then read_format bs at
    else if kind == 10 then follow (read_version bs at) (λ byte next. read_format bs next)
    else follow (read_log bs at) (read_fields bs kind)

-- an op by the first byte that it was read behind
abbrev pub recorded : ℕ → Op → Record
recorded kind o = if (kind == 1) || (kind == 4) then Before o else Now o

unfoldable pub read_body : List ℕ → ℕ → ℕ → Read Record
read_body bs kind at =
    if kind == 11 then follow (read_version bs at) (λ byte next. Got Mark next)
    else follow (read_op bs kind at) (λ o next. Got (recorded kind o) next)

abbrev pub is_kind : ℕ → Bool
is_kind kind = within 1 7 kind || within 10 12 kind

-- the record that bytes are, or the first byte of the first field that is cut off or out of its range, or else the first that is too many
unfoldable pub judge : List ℕ → Read Record
judge bs = follow (field 1 bs 0) (λ kind at. check (is_kind kind) 0 (follow (read_body bs kind at) (λ v next. end_at bs next v)))
