-- How bytes are judged: the message that they begin with, or what is wrong with them.
use Rattle.std.specs.Prelude.{ℕ, List, length, take, drop, Bool, true, ◌&&◌, ◌||◌, not, ◌==◌, nat_lt, nat_le, if◌then◌else◌, get_or}
use Rattle.byteorder.specs.Endian.{big_number}
use Rattle.ld_lsn.specs.Number.{epoch_of, esn_of, home_epoch}
use Rattle.ld_ids.specs.Set.{bits_set}
use Rattle.ld_msg.specs.declared.msg.Who.{Who}
use Rattle.ld_msg.specs.declared.msg.Who.TheVariants as whos
use Rattle.ld_msg.specs.declared.msg.Entry.{Entry}
use Rattle.ld_msg.specs.declared.msg.Msg.{Msg}
use Rattle.ld_msg.specs.declared.msg.Body.{Body}
use Rattle.ld_msg.specs.declared.msg.Body.TheVariants as bodies
use Rattle.ld_msg.specs.Bounds.{ballot_of, last_reader, share_out}
use Rattle.ld_wire.specs.declared.role.Role.{Role}
use Rattle.ld_wire.specs.declared.fault.WireFault.{WireFault}
use Rattle.ld_wire.specs.declared.fault.WireFault.TheVariants as faults
use Rattle.ld_fields.specs.declared.beside.Beside.{Beside}
use Rattle.ld_fields.specs.declared.beside.Beside.TheVariants as besides
use Rattle.ld_fields.specs.Fields.{Read, Got, Off, follow, check, field, within, end_at}
use Rattle.ld_fields.specs.Items.{greatest_epoch, greatest_lng, is_number, is_tag, may_stand, tagged, read_entries, read_flag, read_summary, read_log}
use Rattle.ld_wire.specs.Roles.{may_be, sender, receiver}

-- ---- actors ----

abbrev pub is_actor : ℕ → ℕ → Bool
is_actor tag n =
    if tag == 0 then within 1 16 n
    else if tag == 1 then within 1 greatest_epoch n
    else nat_le n last_reader

abbrev pub actor : ℕ → ℕ → Who
actor tag n =
    if tag == 0 then whos.Node n
    else if tag == 1 then whos.Sequencer n
    else whos.Reader n

unfoldable pub read_who : Role → List ℕ → ℕ → Read Who
read_who role bs at =
    follow (field 1 bs at) (λ tag at_number. check (may_be role tag) at (
    follow (field 4 bs at_number) (λ n next. check (is_actor tag n) at_number (Got (actor tag n) next))))

-- ---- pages ----

-- withheld records stand in pages to readers alone
abbrev pub page_beside : Who → Beside
page_beside (whos.Node n) = besides.Nothing
page_beside (whos.Sequencer e) = besides.Nothing
page_beside (whos.Reader r) = besides.Withheld

-- how many entries, and the entries, among them what may stand beside records, holes and plugs
unfoldable pub read_page : List ℕ → Beside → ℕ → ℕ → ℕ → Read (List Entry)
read_page bs beside from upto at = follow (field 2 bs at) (λ count next. check (nat_le count 64) at (read_entries bs beside upto count from next))

-- the last number of a page
unfoldable pub read_upto : List ℕ → ℕ → ℕ → Read ℕ
read_upto bs from at = follow (field 8 bs at) (λ upto next. check (nat_le from upto && (home_epoch from == home_epoch upto)) at (Got upto next))

-- ---- the fields of each kind ----

-- a node asks in round 0
abbrev pub asks_in : Who → ℕ → Bool
asks_in (whos.Node n) round = round == 0
asks_in (whos.Sequencer e) round = true
asks_in (whos.Reader r) round = true

-- a sequencer is answered in round 0
abbrev pub answers_in : Who → ℕ → Bool
answers_in (whos.Node n) round = true
answers_in (whos.Sequencer e) round = round == 0
answers_in (whos.Reader r) round = true

-- what an epoch's own sequencer stores is a record
abbrev pub may_store : ℕ → ℕ → ℕ → Bool
may_store ballot n tag = is_tag n tag && may_stand besides.Bridges tag && (not (epoch_of n == ballot) || (tag == 0))

unfoldable pub read_store : ℕ → List ℕ → ℕ → Read Body
read_store ballot bs at =
    follow (field 8 bs at) (λ n at_lng. check (is_number n && nat_le (epoch_of n) ballot) at (
    follow (field 4 bs at_lng) (λ lng at_tag. check (nat_le lng greatest_lng) at_lng (
    follow (field 1 bs at_tag) (λ tag at_what. check (may_store ballot n tag) at_tag (
    follow (tagged bs at_what tag) (λ what next. Got (bodies.Store n lng what) next)))))))

unfoldable pub read_sealed : List ℕ → ℕ → Read Body
read_sealed bs at = follow (field 8 bs at) (λ n a. follow (field 4 bs a) (λ k next. Got (bodies.SealedHere n k) next))

unfoldable pub read_lost : Who → List ℕ → ℕ → Read Body
read_lost to bs at =
    follow (field 8 bs at) (λ n at_round. check (nat_le 1 n) at (
    follow (field 4 bs at_round) (λ round at_generation. check (answers_in to round) at_round (
    follow (field 4 bs at_generation) (λ g at_end.
    follow (field 8 bs at_end) (λ end next. Got (bodies.LostHere n round g end) next))))))

unfoldable pub read_clean_here : List ℕ → ℕ → Read Body
read_clean_here bs at = follow (field 8 bs at) (λ n a. follow (read_summary bs (epoch_of n) a) (λ y next. Got (bodies.CleanHere n y) next))

unfoldable pub read_trimmed : List ℕ → ℕ → Read Body
read_trimmed bs at = follow (field 8 bs at) (λ n a. follow (field 8 bs a) (λ t next. Got (bodies.TrimmedHere n t) next))

unfoldable pub read_digest_ask : ℕ → List ℕ → ℕ → Read Body
read_digest_ask ballot bs at = follow (field 8 bs at) (λ n next. check (nat_le 1 (epoch_of n) && nat_lt (epoch_of n) ballot && nat_le 1 (esn_of n)) at (Got (bodies.DigestAsk n) next))

unfoldable pub read_digest_page : List ℕ → ℕ → Read Body
read_digest_page bs at =
    follow (field 8 bs at) (λ n at_upto.
    follow (read_upto bs n at_upto) (λ upto at_trim.
    follow (field 8 bs at_trim) (λ t at_lng.
    follow (field 4 bs at_lng) (λ lng at_page. check (nat_le lng greatest_lng) at_lng (
    follow (read_page bs besides.Bridges n upto at_page) (λ es next. Got (bodies.DigestPage n upto t lng es) next))))))

unfoldable pub read_clean : List ℕ → ℕ → Read Body
read_clean bs at = follow (field 4 bs at) (λ e a. check (within 1 greatest_epoch e) at (follow (read_summary bs e a) (λ y next. Got (bodies.Clean e y) next)))

unfoldable pub read_read_ask : Who → List ℕ → ℕ → Read Body
read_read_ask from bs at =
    follow (field 4 bs at) (λ round at_from. check (asks_in from round) at (
    follow (field 8 bs at_from) (λ n next. check (nat_le 1 n) at_from (Got (bodies.ReadAsk round n) next))))

-- the round and the number that a reader asked for
unfoldable pub read_asked : List ℕ → ℕ → Read (ℕ × ℕ)
read_asked bs at = follow (field 4 bs at) (λ round at_from. follow (field 8 bs at_from) (λ n next. check (nat_le 1 n) at_from (Got (round, n) next)))

unfoldable pub read_read_page : Who → List ℕ → ℕ → Read Body
read_read_page to bs at =
    follow (read_asked bs at) (λ asked at_upto.
    follow (read_upto bs asked.1 at_upto) (λ upto at_clean.
    follow (read_flag bs at_clean) (λ clean at_page.
    follow (read_page bs (page_beside to) asked.1 upto at_page) (λ es next. Got (bodies.ReadPage asked.0 asked.1 upto clean es) next))))

unfoldable pub read_ended : List ℕ → ℕ → Read Body
read_ended bs at =
    follow (read_asked bs at) (λ asked at_end.
    follow (field 8 bs at_end) (λ end at_loss.
    follow (read_flag bs at_loss) (λ loss next. Got (bodies.ReadEnded asked.0 asked.1 end loss) next)))

-- some node of the set isn't excluded, and each excluded node is one of the set
abbrev pub may_share : List Bool → List Bool → Bool
may_share excluded set = share_out excluded set && not (share_out set excluded)

-- what is wrong between a set and its excluded nodes is charged to these
unfoldable pub read_read_one : List ℕ → ℕ → Read Body
read_read_one bs at =
    follow (read_asked bs at) (λ asked at_set.
    follow (field 2 bs at_set) (λ set at_excluded.
    follow (field 2 bs at_excluded) (λ excluded next.
    check (may_share (bits_set excluded) (bits_set set)) at_excluded (Got (bodies.ReadOne asked.0 asked.1 (bits_set set) (bits_set excluded)) next))))

-- an answer of one number to a reader
abbrev pub answer : ℕ → ℕ → ℕ → ℕ → Body
answer kind round from n =
    if kind == 15 then bodies.ReadTrim round from n
    else bodies.ReadWait round from n

unfoldable pub read_answer : ℕ → List ℕ → ℕ → Read Body
read_answer kind bs at = follow (read_asked bs at) (λ asked a. follow (field 8 bs a) (λ n next. Got (answer kind asked.0 asked.1 n) next))

-- what a node answers to a sequencer or about its loss, and what it is sent to store
unfoldable pub read_stored : ℕ → Who → Who → List ℕ → ℕ → Read Body
read_stored kind from to bs at =
    if kind == 1 then read_store (ballot_of from) bs at
    else if kind == 2 then follow (field 8 bs at) (λ n next. Got (bodies.Stored n) next)
    else if kind == 3 then read_sealed bs at
    else if kind == 4 then read_lost to bs at
    else read_trimmed bs at

-- digests, and what a sequencer tells
unfoldable pub read_told : ℕ → Who → List ℕ → ℕ → Read Body
read_told kind from bs at =
    if kind == 7 then read_digest_ask (ballot_of from) bs at
    else if kind == 8 then read_digest_page bs at
    else if kind == 10 then follow (field 8 bs at) (λ n next. Got (bodies.Release n) next)
    else follow (field 8 bs at) (λ n next. Got (bodies.Trim n) next)

-- what grew since the first version or is new, and the answers of one number
unfoldable pub read_late : ℕ → List ℕ → ℕ → Read Body
read_late kind bs at =
    if kind == 17 then read_clean_here bs at
    else if kind == 18 then read_clean bs at
    else if kind == 19 then read_ended bs at
    else if kind == 20 then read_read_one bs at
    else read_answer kind bs at

unfoldable pub read_body : ℕ → Who → Who → List ℕ → ℕ → Read Body
read_body kind from to bs at =
    if nat_le kind 6 then read_stored kind from to bs at
    else if nat_le kind 11 then read_told kind from bs at
    else if kind == 12 then read_read_ask from bs at
    else if kind == 13 then read_read_page to bs at
    else read_late kind bs at

-- ---- frames ----

-- the message of a kind that the bytes behind a length are, or the first byte of the first field that is cut off or
-- out of its range, or else the first that is too many
unfoldable pub read_msg : ℕ → List ℕ → Read Msg
read_msg kind bs =
    follow (read_who (sender kind) bs 1) (λ from at_to.
    follow (read_who (receiver kind) bs at_to) (λ to at_log.
    follow (read_log bs at_log) (λ log at_body.
    follow (read_body kind from to bs at_body) (λ body next. end_at bs next (record { from = from; to = to; log = log; body = body })))))

-- what bytes begin with: a whole frame, and what is behind it; less than one; or what is no frame
pub data Reading : Type 0 where
  Complete : (message : Msg) (rest : List ℕ) → Reading
  Waits : Reading
  Refused : (fault : WireFault) → Reading

abbrev pub longest : ℕ
longest = 8388608

abbrev pub framed : ℕ → List ℕ → Read Msg → Reading
framed kind rest (Got m next) = Complete m rest
framed kind rest (Off place) = Refused (faults.BadField kind place)

-- 5, 9 and 14 were the first version's closes
abbrev pub is_kind : ℕ → Bool
is_kind kind = within 1 20 kind && not ((kind == 5) || (kind == 9) || (kind == 14))

-- behind a length of n
unfoldable pub of_kind : ℕ → ℕ → List ℕ → Reading
of_kind n kind bs =
    if is_kind kind then (if nat_lt (length bs) n then Waits else framed kind (drop n bs) (read_msg kind (take n bs)))
    else Refused (faults.BadKind kind)

unfoldable pub behind : ℕ → List ℕ → Reading
behind n bs = if length bs == 0 then Waits else of_kind n (get_or bs 0 0) bs

unfoldable pub sized : ℕ → List ℕ → Reading
sized n bs =
    if nat_lt longest n then Refused (faults.TooLong n)
    else if n == 0 then Refused (faults.BadField 0 0)
    else behind n bs

-- a length that is too long, one of 0 and a kind that there is not are told as soon as they are there, all else once
-- the frame is whole
unfoldable pub judge : List ℕ → Reading
judge bs = if nat_lt (length bs) 4 then Waits else sized (big_number 4 bs) (drop 4 bs)
