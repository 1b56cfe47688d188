-- The bytes of an index: the plain state, with the place and the length of each payload; and how bytes are judged.
use Rattle.std.specs.Prelude.{◌≡◌, ◌<◌, ◌≤◌, ℕ, zero, suc, ◌+◌, ◌-◌, ◌^◌, max, List, [], ◌∷◌, ◌++◌, length, Bool, true, false, ◌&&◌, not, nat_le}
use Rattle.byteorder.specs.Endian.{big_bytes}
use Rattle.std.specs.List.{AllByRecursion}
use Rattle.ld_table.specs.Table.{Ordered}
use Rattle.ld_table.specs.Words.{numbers_from}
use Rattle.ld_ids.specs.Id.{IsLog}
use Rattle.ld_msg.specs.Bounds.{Is32, Is64, IsEpoch, IsLng, IsEntry, IsKept, IsSummary}
use Rattle.ld_lsn.specs.Number.{epoch_of}
use Rattle.ld_msg.specs.declared.msg.What.{What}
use Rattle.ld_msg.specs.declared.msg.What.TheVariants.{Rec, Hole, Bridge, Plug, Withheld}
use Rattle.ld_msg.specs.declared.msg.Entry.{Entry}
use Rattle.ld_msg.specs.declared.msg.Summary.{Summary}
use Rattle.ld_fields.specs.Fields.{Read, Got, follow, check, field, within}
use Rattle.ld_fields.specs.Items.{summary_bytes, flag, greatest_epoch, greatest_lng, is_number, is_tag, read_summary, read_flag}
use Rattle.ld_op.specs.Plain.{Plain, Log}

-- ---- the bytes ----

-- where a payload begins; one without bytes stands nowhere, and 0 is written for its offset
abbrev pub first_place : List ℕ → ℕ
first_place [] = 0
first_place (k ∷ ks) = k

-- a tag, and for a record its payload's offset and length; a store keeps no record without its payload
abbrev pub what_based : What → List ℕ
what_based (Rec p) = big_bytes 1 0 ++ (big_bytes 8 (first_place p) ++ big_bytes 2 (length p))
what_based Hole = big_bytes 1 1
what_based Bridge = big_bytes 1 2
what_based Plug = big_bytes 1 3
what_based Withheld = big_bytes 1 4

abbrev pub entry_based : Entry → List ℕ
entry_based e = big_bytes 8 e.number ++ (big_bytes 4 e.ballot ++ what_based e.what)

abbrev pub entries_bytes_based : List (ℕ × Entry) → List ℕ
entries_bytes_based [] = []
entries_bytes_based (e ∷ es) = entry_based e.1 ++ entries_bytes_based es

abbrev pub summaries_based : List (ℕ × Summary) → List ℕ
summaries_based [] = []
summaries_based (s ∷ ss) = big_bytes 4 s.0 ++ (summary_bytes s.1 ++ summaries_based ss)

abbrev pub lngs_based : List (ℕ × ℕ) → List ℕ
lngs_based [] = []
lngs_based (g ∷ gs) = big_bytes 4 g.0 ++ (big_bytes 4 g.1 ++ lngs_based gs)

-- the log's number, the greatest ballot seen, the trim, and up to which epoch it is or was lost
abbrev pub state_based : ℕ → Log → List ℕ
state_based l g = big_bytes 4 l ++ (big_bytes 4 g.sealed ++ (big_bytes 8 g.trim ++ (big_bytes 1 (flag g.lost) ++ big_bytes 4 g.lost_to)))

abbrev pub tables_based : Log → List ℕ
tables_based g =
    (big_bytes 4 (length g.summaries) ++ summaries_based g.summaries) ++ ((big_bytes 4 (length g.lngs) ++ lngs_based g.lngs) ++ (big_bytes 4 (length g.entries) ++ entries_bytes_based g.entries))

abbrev pub logs_bytes_based : List (ℕ × Log) → List ℕ
logs_bytes_based [] = []
logs_bytes_based (l ∷ ls) = state_based l.0 l.1 ++ (tables_based l.1 ++ logs_bytes_based ls)

-- the generation, and each log
unfoldable pub index_bytes : Plain → List ℕ
index_bytes p = big_bytes 4 p.generation ++ (big_bytes 2 (length p.logs) ++ logs_bytes_based p.logs)

-- how many entries all logs have
abbrev pub entry_count : List (ℕ × Log) → ℕ
entry_count [] = 0
entry_count (l ∷ ls) = length l.1.entries + entry_count ls

-- the offset of the first byte of a payload that has some
abbrev pub first_of : List ℕ → List ℕ
first_of [] = []
first_of (k ∷ ks) = k ∷ []

abbrev pub start_of : What → List ℕ
start_of (Rec p) = first_of p
start_of Hole = []
start_of Bridge = []
start_of Plug = []
start_of Withheld = []

abbrev pub entry_starts : List (ℕ × Entry) → List ℕ
entry_starts [] = []
entry_starts (e ∷ es) = start_of e.1.what ++ entry_starts es

-- where the payloads of an index begin
abbrev pub payload_starts : List (ℕ × Log) → List ℕ
payload_starts [] = []
payload_starts (l ∷ ls) = entry_starts l.1.entries ++ payload_starts ls

-- ---- how bytes are judged ----

-- where a payload stands, and how long it is; the offsets of its bytes are numbers of 64 bits
abbrev pub read_place : List ℕ → ℕ → Read What
read_place bs at =
    follow (field 8 bs at) (λ place at_length. follow (field 2 bs at_length) (λ length next. check (nat_le (place + length) (2 ^ 64 - 1)) at (Got (Rec (numbers_from place length)) next)))

abbrev pub read_held : List ℕ → ℕ → ℕ → Read What
read_held bs at zero = read_place bs at
read_held bs at (suc zero) = Got Hole at
read_held bs at (suc (suc zero)) = Got Bridge at
read_held bs at (suc (suc (suc n))) = Got Plug at

-- so many items, each from a least key on
unfoldable pub read_rising : {X : Type 0} → (ℕ → ℕ → Read (ℕ × X)) → ℕ → ℕ → ℕ → Read (List (ℕ × X))
read_rising item zero least at = Got [] at
read_rising item (suc k) least at = follow (item least at) (λ e next. follow (read_rising item k (e.0 + 1) next) (λ es last. Got (e ∷ es) last))

-- a count of four bytes, and so many items
abbrev pub read_table : {X : Type 0} → List ℕ → (ℕ → ℕ → Read (ℕ × X)) → ℕ → Read (List (ℕ × X))
read_table bs item at = follow (field 4 bs at) (λ count next. read_rising item count 0 next)

-- no record stands there without its payload
unfoldable pub read_based_entry : List ℕ → ℕ → ℕ → Read (ℕ × Entry)
read_based_entry bs least at =
    follow (field 8 bs at) (λ number at_ballot. check (is_number number && nat_le least number) at (
    follow (field 4 bs at_ballot) (λ ballot at_tag. check (within (epoch_of number) greatest_epoch ballot) at_ballot (
    follow (field 1 bs at_tag) (λ tag at_held. check (is_tag number tag && nat_le tag 3) at_tag (
    follow (read_held bs at_held tag) (λ what next. Got (number, record { number = number; ballot = ballot; what = what }) next)))))))

-- in an older index no epoch was closed with a loss: the byte behind the summary is 0
unfoldable pub read_based_summary : List ℕ → Bool → ℕ → ℕ → Read (ℕ × Summary)
read_based_summary bs older least at =
    follow (field 4 bs at) (λ epoch at_summary. check (within (max 1 least) greatest_epoch epoch) at (
    follow (read_summary bs epoch at_summary) (λ y next. check (not (older && y.loss)) (next - 1) (Got (epoch, y) next))))

-- one that lists a 0 is read
unfoldable pub read_based_lng : List ℕ → ℕ → ℕ → Read (ℕ × ℕ)
read_based_lng bs least at =
    follow (field 4 bs at) (λ epoch at_lng. check (within (max 1 least) greatest_epoch epoch) at (
    follow (field 4 bs at_lng) (λ lng next. check (nat_le lng greatest_lng) at_lng (Got (epoch, lng) next))))

unfoldable pub read_tables : List ℕ → Bool → Log → ℕ → Read Log
read_tables bs older g at =
    follow (read_table bs (read_based_summary bs older) at) (λ summaries at_lngs.
    follow (read_table bs (read_based_lng bs) at_lngs) (λ lngs at_entries.
    follow (read_table bs (read_based_entry bs) at_entries) (λ entries next. Got (record g { summaries = summaries; lngs = lngs; entries = entries }) next)))

unfoldable pub read_based_log : List ℕ → Bool → ℕ → ℕ → Read (ℕ × Log)
read_based_log bs older least at =
    follow (field 4 bs at) (λ log at_sealed. check (within (max 1 least) 65535 log) at (
    follow (field 4 bs at_sealed) (λ sealed at_trim.
    follow (field 8 bs at_trim) (λ trim at_lost.
    follow (read_flag bs at_lost) (λ lost at_lost_to.
    follow (field 4 bs at_lost_to) (λ lost_to at_tables.
    follow (read_tables bs older (record { sealed = sealed; trim = trim; entries = []; summaries = []; lngs = []; lost = lost; lost_to = lost_to }) at_tables) (λ g next. Got (log, g) next)))))))

-- an index from an offset on
unfoldable pub read_index : List ℕ → Bool → ℕ → Read Plain
read_index bs older at =
    follow (field 4 bs at) (λ generation at_logs.
    follow (field 2 bs at_logs) (λ count at_log. follow (read_rising (read_based_log bs older) count 0 at_log) (λ logs next. Got (record { generation = generation; logs = logs }) next)))

-- ---- what the bytes can carry ----

-- a payload's bytes stand side by side, at numbers of 64 bits
abbrev pub IsPlaced : What → Type 0
IsPlaced (Rec p) = (p ≡ numbers_from (first_place p) (length p)) × (first_place p + length p ≤ 2 ^ 64 - 1)
IsPlaced Hole = Unit {0}
IsPlaced Bridge = Unit {0}
IsPlaced Plug = Unit {0}
IsPlaced Withheld = Unit {0}

-- an entry under its own number, with the place of its payload where it is a record
pub record IsBasedEntry (e : ℕ × Entry) : Type 0 where
  pub number : e.1.number ≡ e.0
  pub entry : IsEntry e.1
  pub kept : IsKept e.1.what
  pub placed : IsPlaced e.1.what

-- a summary under the epoch that it closes; in an older index it was closed without a loss
pub record IsBasedSummary (older : Bool) (s : ℕ × Summary) : Type 0 where
  pub epoch : IsEpoch s.0
  pub summary : IsSummary s.0 s.1
  pub loss : older ≡ true → s.1.loss ≡ false

-- a last known good offset under its epoch
pub record IsBasedLng (m : ℕ × ℕ) : Type 0 where
  pub epoch : IsEpoch m.0
  pub lng : IsLng m.1

-- the keys rise, and their count fits four bytes
pub record IsBasedTable {X : Type 0} (P : ℕ × X → Type 0) (m : List (ℕ × X)) : Type 0 where
  pub rise : Ordered m
  pub few : length m < 2 ^ 32
  pub each : AllByRecursion P m

-- a log under its number
pub record IsBasedLog (older : Bool) (l : ℕ × Log) : Type 0 where
  pub log : IsLog l.0
  pub sealed : Is32 l.1.sealed
  pub trim : Is64 l.1.trim
  pub lost_to : Is32 l.1.lost_to
  pub summaries : IsBasedTable (IsBasedSummary older) l.1.summaries
  pub lngs : IsBasedTable IsBasedLng l.1.lngs
  pub entries : IsBasedTable IsBasedEntry l.1.entries

-- the numbers and counts of an index fit their fields, and its logs and their tables rise
pub record IsBased (older : Bool) (p : Plain) : Type 0 where
  pub generation : Is32 p.generation
  pub rise : Ordered p.logs
  pub few : length p.logs < 2 ^ 16
  pub logs : AllByRecursion (IsBasedLog older) p.logs
