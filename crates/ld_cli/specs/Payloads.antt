-- The payloads and trims that the lines of an input spell.
use Rattle.std.specs.Prelude.{ℕ, ◌≡◌, ◌≢◌, ◌<◌, ◌+◌, ◌-◌, ◌^◌, ◌==◌, ◌&&◌, ◌||◌, nat_le, nat_lt, min, take, drop, if◌then◌else◌, Bool, true, false, List, [], ◌∷◌, ◌++◌, map, replicate, length, Option, None, Some, Result, Ok, Err}
use Rattle.std.specs.Str.Parse.{digits_value}
use Rattle.hex.specs.Hex.{decode_of}
use Rattle.hex.specs.declared.error.FromHexError.{FromHexError}
use Rattle.ld_io.specs.Memory.{is_listed}
use Rattle.ld_table.specs.Named.{same}
use Rattle.ld_lsn.specs.Number.{numbered, lsn_text}
use Rattle.ld_ids.specs.Bytes.{AreBytes, hex_text}
use Rattle.ld_batch.specs.Batch.{batch_limit, packed}
use Rattle.ld_schedule.specs.Reading.{IsText}
use Rattle.ld_schedule.specs.Grammar.{IsBatch, messages_text}
use Rattle.ld_rounds.specs.Lines.{longest, trim_word, trim_text, IsNoTrim, IsOffPayload, IsMisspelt}
use Rattle.ld_rounds.specs.Input.{Input, all_taken}
use Rattle.ld_rounds.specs.declared.payloads.InputFault.{InputFault}
use Rattle.ld_rounds.specs.declared.payloads.InputFault.TheVariants as faults
use Rattle.ld_rounds.specs.declared.request.Request.{Request}
use Rattle.ld_rounds.specs.declared.request.Request.TheVariants as asks

-- ---- a line ----

-- the greatest length of a payload
abbrev pub payload_limit : ℕ
payload_limit = 65535

-- the payload of the batch of these messages; where that would be longer than a payload may be, so many bytes 0: an append of either is refused, and told by its length alone
abbrev pub batch_payload : List (List ℕ) → List ℕ
batch_payload ms = if nat_le (length (packed ms)) payload_limit then packed ms else replicate (length (packed ms)) 0

-- the line spells the messages of a batch, and that is their payload
pub record IsBatchLine (line payload : List ℕ) : Type 0 where
  pub messages : List (List ℕ)
  pub text : IsText IsBatch messages_text line messages
  pub packs : payload ≡ batch_payload messages

-- the line spells this payload, by the messages of its batch where each line is to spell such
abbrev pub SpellsPayload : Bool → List ℕ → List ℕ → Type 0
SpellsPayload false line payload = IsText AreBytes hex_text line payload
SpellsPayload true line payload = IsBatchLine line payload

-- the line spells this: a line that begins with `trim ` a trim, and any other one a payload
abbrev pub Spells : Bool → List ℕ → Request → Type 0
Spells batches line (asks.Append payload) = IsNoTrim line × SpellsPayload batches line payload
Spells batches line (asks.Trim point) = (point < 2 ^ 64) × (line ≡ trim_text point)

-- the line of this number spells no payload, and goes on at that offset as no such line does; or memory ended
abbrev pub IsUnspeltPayload : Bool → ℕ → List ℕ → InputFault → Type 0
IsUnspeltPayload batches number line (faults.BadLine at place) = (at ≡ number) × IsOffPayload batches line place
IsUnspeltPayload batches number line faults.NoMemory = Unit {0}
IsUnspeltPayload batches number line faults.Read = ⊥

-- what stands behind `trim ` spells no number
abbrev pub IsUnspeltTrim : ℕ → List ℕ → InputFault → Type 0
IsUnspeltTrim number behind (faults.BadLine at place) = (at ≡ number) × (place ≡ length trim_word) × ((point : ℕ) → point < 2 ^ 64 → behind ≢ lsn_text point)
IsUnspeltTrim number behind faults.NoMemory = Unit {0}
IsUnspeltTrim number behind faults.Read = ⊥

-- the line of this number spells nothing, and goes on at that offset as no such line does; or memory ended
abbrev pub IsUnspelt : Bool → ℕ → List ℕ → InputFault → Type 0
IsUnspelt batches number line (faults.BadLine at place) = (at ≡ number) × IsMisspelt batches line place
IsUnspelt batches number line faults.NoMemory = Unit {0}
IsUnspelt batches number line faults.Read = ⊥

-- ---- as a function of the bytes ----

abbrev pub decoded : Result (List ℕ) FromHexError → List ℕ
decoded (Ok bytes) = bytes
decoded (Err fault) = []

-- the bytes that a text spells, where it spells some
abbrev pub bytes_in : List ℕ → List ℕ
bytes_in text = decoded (decode_of text)

-- the payload of a line, where it spells one and isn't too long
abbrev pub single_in : List ℕ → Option (List ℕ)
single_in line = if nat_le (length line) longest && same line (hex_text (bytes_in line)) then Some (bytes_in line) else None

-- the parts of a text between its commas, of which the first begins with what was seen
abbrev pub parts_from : List ℕ → List ℕ → List (List ℕ)
parts_from seen [] = seen ∷ []
parts_from seen (b ∷ text) = if b == 44 then seen ∷ parts_from [] text else parts_from (seen ++ b ∷ []) text

-- the messages that a line spells, where it spells some
abbrev pub messages_in : List ℕ → List (List ℕ)
messages_in line = map bytes_in (parts_from [] line)

-- the payload of the batch of a line, where it spells one and isn't too long
abbrev pub batch_in : List ℕ → Option (List ℕ)
batch_in line = if nat_le (length line) longest && (nat_le (length (messages_in line)) batch_limit && same line (messages_text (messages_in line))) then Some (batch_payload (messages_in line)) else None

abbrev pub payload_in : Bool → List ℕ → Option (List ℕ)
payload_in false line = single_in line
payload_in true line = batch_in line

-- a text before and behind its first byte 110, of which the first part begins with what was seen
abbrev pub halves_from : List ℕ → List ℕ → List ℕ × List ℕ
halves_from seen [] = (seen, [])
halves_from seen (b ∷ text) = if b == 110 then (seen, text) else halves_from (seen ++ b ∷ []) text

abbrev pub numbered_by : List ℕ × List ℕ → ℕ
numbered_by halves = numbered (digits_value 10 halves.0) (digits_value 10 halves.1)

-- the number that a text spells, where it spells one
abbrev pub point_in : List ℕ → ℕ
point_in text = numbered_by (halves_from [] (drop 1 text))

-- the number of a trim, where the line spells one and isn't too long
abbrev pub trim_in : List ℕ → Option Request
trim_in line =
    if nat_le (length line) longest && (nat_lt (point_in (drop 5 line)) (2 ^ 64) && same (drop 5 line) (lsn_text (point_in (drop 5 line)))) then Some (asks.Trim (point_in (drop 5 line))) else None

abbrev pub append_of : Option (List ℕ) → Option Request
append_of None = None
append_of (Some payload) = Some (asks.Append payload)

abbrev pub request_in : Bool → List ℕ → Option Request
request_in batches line = if same (take 5 line) trim_word then trim_in line else append_of (payload_in batches line)

-- the next number of a line; it is counted up to the greatest 64-bit number
abbrev pub counted : ℕ → ℕ
counted number = min (number + 1) (2 ^ 64 - 1)

-- nothing is asked for any more: the line of this number, with which the bytes begin, is off
abbrev pub stops_at : Bool → ℕ → List ℕ → Input
stops_at batches number bytes = record { requests = []; off = Some (record { number = number; bytes = bytes; batches = batches }) }

-- a line was begun where the input ends
abbrev pub cut_at : Bool → ℕ → List ℕ → Input
cut_at batches number [] = all_taken
cut_at batches number (b ∷ line) = stops_at batches number (b ∷ line)

-- a whole line, and what follows it
abbrev pub with_line : Bool → ℕ → List ℕ → List ℕ → Option Request → Input → Input
with_line batches number line rest None input = stops_at batches number (line ++ 10 ∷ rest)
with_line batches number line rest (Some request) input = record { requests = request ∷ input.requests; off = input.off }

-- the requests of the lines up to the first one with a syntax error, where a part of the line of this number was seen
unfoldable pub input_from : Bool → ℕ → List ℕ → List ℕ → Input
input_from batches number line [] = cut_at batches number line
input_from batches number line (b ∷ bytes) =
    if b == 10 then with_line batches number line bytes (request_in batches line) (input_from batches (counted number) [] bytes)
    else input_from batches number (line ++ b ∷ []) bytes

-- where so many lines were begun, and the bytes behind them are known
abbrev pub input_after : Bool → ℕ → Option (List ℕ) → Option Input
input_after batches number None = None
input_after batches number (Some bytes) = Some (input_from batches (counted number) [] bytes)

-- whether the next line is had without a wait: the input doesn't wait, or these bytes that were read of it hold a whole one
abbrev pub line_ready : List ℕ → Option Bool → Option Bool
line_ready bytes None = None
line_ready bytes (Some ready) = Some (ready || is_listed 10 bytes)

-- what an input spells: each line a payload, or the messages of a batch; or a trim
abbrev pub payloads_in : Bool → Option (List ℕ) → Option Input
payloads_in batches bytes = input_after batches 0 bytes
