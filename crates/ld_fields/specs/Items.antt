-- Entries, summaries and logs as bytes, and how bytes are judged.
use Rattle.std.specs.Prelude.{ℕ, ◌+◌, ◌-◌, ◌^◌, List, [], ◌∷◌, ◌++◌, length, take, drop, Bool, not, ◌&&◌, ◌||◌, ◌==◌, nat_lt, nat_le, if◌then◌else◌, false, zero, suc}
use Rattle.byteorder.specs.Endian.{big_bytes}
use Rattle.ld_lsn.specs.Number.{epoch_of, esn_of, last_esn}
use Rattle.ld_msg.specs.declared.msg.What.{What}
use Rattle.ld_msg.specs.declared.msg.What.TheVariants.{Rec, Hole, Bridge, Plug, Withheld}
use Rattle.ld_msg.specs.declared.msg.Entry.{Entry}
use Rattle.ld_msg.specs.declared.msg.Summary.{Summary}
use Rattle.ld_fields.specs.declared.beside.Beside.{Beside}
use Rattle.ld_fields.specs.declared.beside.Beside.TheVariants as besides
use Rattle.ld_fields.specs.Fields.{Read, Got, follow, check, field, within}

-- ---- their bytes ----

-- a tag, and for a record a length of two bytes and the payload
abbrev pub what_bytes : What → List ℕ
what_bytes (Rec p) = big_bytes 1 0 ++ (big_bytes 2 (length p) ++ p)
what_bytes Hole = big_bytes 1 1
what_bytes Bridge = big_bytes 1 2
what_bytes Plug = big_bytes 1 3
what_bytes Withheld = big_bytes 1 4

abbrev pub entry_bytes : Entry → List ℕ
entry_bytes e = big_bytes 8 e.number ++ (big_bytes 4 e.ballot ++ what_bytes e.what)

abbrev pub entries_bytes : List Entry → List ℕ
entries_bytes [] = []
entries_bytes (e ∷ es) = entry_bytes e ++ entries_bytes es

-- a summary as the first version of frames and journals had it, which says nothing of a loss
abbrev pub older_summary_bytes : Summary → List ℕ
older_summary_bytes y = big_bytes 4 y.ballot ++ (big_bytes 4 y.lng ++ (big_bytes 8 y.trim ++ big_bytes 4 y.end))

abbrev pub flag : Bool → ℕ
flag b = if b then 1 else 0

abbrev pub summary_bytes : Summary → List ℕ
summary_bytes y = older_summary_bytes y ++ big_bytes 1 (flag y.loss)

-- ---- how bytes are judged ----

abbrev pub greatest_epoch : ℕ
greatest_epoch = 2 ^ 32 - 2

-- a last known good offset lies below the greatest offset of an epoch
abbrev pub greatest_lng : ℕ
greatest_lng = last_esn - 1

-- the last offset of an epoch is a bridge's alone, which the tag tells
abbrev pub is_number : ℕ → Bool
is_number n = within 1 greatest_epoch (epoch_of n) && nat_le 1 (esn_of n)

abbrev pub is_tag : ℕ → ℕ → Bool
is_tag n tag = nat_le tag 4 && (nat_lt (esn_of n) last_esn || (tag == 2))

-- a payload that is longer than what is left is charged to its length
abbrev pub payload : List ℕ → ℕ → ℕ → ℕ → Read What
payload bs at n next = check (nat_le (next + n) (length bs)) at (Got (Rec (take n (drop next bs))) (next + n))

abbrev pub tagged : List ℕ → ℕ → ℕ → Read What
tagged bs at zero = follow (field 2 bs at) (payload bs at)
tagged bs at (suc zero) = Got Hole at
tagged bs at (suc (suc zero)) = Got Bridge at
tagged bs at (suc (suc (suc zero))) = Got Plug at
tagged bs at (suc (suc (suc (suc n)))) = Got Withheld at

-- bridges and withheld records stand only where they may
abbrev pub may_stand : Beside → ℕ → Bool
may_stand besides.Bridges tag = not (tag == 4)
may_stand besides.Nothing tag = not (tag == 2) && not (tag == 4)
may_stand besides.Withheld tag = not (tag == 2)

-- an entry whose number lies between two others, and what may stand beside records, holes and plugs
unfoldable pub read_entry : List ℕ → Beside → ℕ → ℕ → ℕ → Read Entry
read_entry bs beside most least at =
    follow (field 8 bs at) (λ number at_ballot. check (is_number number && within least most number) at (
    follow (field 4 bs at_ballot) (λ ballot at_tag. check (within (epoch_of number) greatest_epoch ballot) at_ballot (
    follow (field 1 bs at_tag) (λ tag at_what. check (is_tag number tag && may_stand beside tag) at_tag (
    follow (tagged bs at_what tag) (λ what next. Got (record { number = number; ballot = ballot; what = what }) next)))))))

-- so many entries, their numbers rising
unfoldable pub read_entries : List ℕ → Beside → ℕ → ℕ → ℕ → ℕ → Read (List Entry)
read_entries bs beside most zero least at = Got [] at
read_entries bs beside most (suc k) least at =
    follow (read_entry bs beside most least at) (λ e next. follow (read_entries bs beside most k (e.number + 1) next) (λ es last. Got (e ∷ es) last))

-- the summary of an epoch in its older form: nothing is lost there
unfoldable pub read_older_summary : List ℕ → ℕ → ℕ → Read Summary
read_older_summary bs epoch at =
    follow (field 4 bs at) (λ ballot at_lng. check (within (epoch + 1) greatest_epoch ballot) at (
    follow (field 4 bs at_lng) (λ lng at_trim. check (nat_le lng greatest_lng) at_lng (
    follow (field 8 bs at_trim) (λ trim at_end.
    follow (field 4 bs at_end) (λ end next. check (nat_le 1 end) at_end (Got (record { ballot = ballot; lng = lng; trim = trim; end = end; loss = false }) next)))))))

abbrev pub with_loss : Summary → Bool → Summary
with_loss y loss = record { ballot = y.ballot; lng = y.lng; trim = y.trim; end = y.end; loss = loss }

-- a byte that is 0 or 1
abbrev pub read_flag : List ℕ → ℕ → Read Bool
read_flag bs at = follow (field 1 bs at) (λ byte next. check (nat_le byte 1) at (Got (byte == 1) next))

-- the summary of an epoch
unfoldable pub read_summary : List ℕ → ℕ → ℕ → Read Summary
read_summary bs epoch at = follow (read_older_summary bs epoch at) (λ y at_loss. follow (read_flag bs at_loss) (λ loss next. Got (with_loss y loss) next))

-- a log
abbrev pub read_log : List ℕ → ℕ → Read ℕ
read_log bs at = follow (field 4 bs at) (λ log next. check (within 1 65535 log) at (Got log next))
