-- Batches: a count, and for each message its length and its bytes, nothing more.
use Rattle.std.specs.Prelude.{◌≡◌, ℕ, zero, suc, ◌≤◌, ◌<◌, ◌+◌, ◌*◌, ◌/◌, ◌%◌, List, [], ◌∷◌, ◌++◌, length, take, drop, get_or, ◌||◌, nat_lt, if◌then◌else◌}
use Rattle.std.specs.List.{All}

-- the most messages of a batch
abbrev pub batch_limit : ℕ
batch_limit = 1024

-- a number of two bytes, the high one first
abbrev pub two_bytes : ℕ → List ℕ
two_bytes n = n / 256 ∷ n % 256 ∷ []

-- a message: its length and its bytes
abbrev pub packed_message : List ℕ → List ℕ
packed_message m = two_bytes (length m) ++ m

abbrev pub packed_messages : List (List ℕ) → List ℕ
packed_messages [] = []
packed_messages (m ∷ ms) = packed_message m ++ packed_messages ms

-- the payload of a batch
unfoldable pub packed : List (List ℕ) → List ℕ
packed ms = two_bytes (length ms) ++ packed_messages ms

-- the messages, or the first byte of the first field that is cut or out of range, or the first byte that is left over
pub data Unpacked : Type 0 where
  Messages : (messages : List (List ℕ)) → Unpacked
  Bad : (place : ℕ) → Unpacked

abbrev pub with_first : List ℕ → Unpacked → Unpacked
with_first m (Messages ms) = Messages (m ∷ ms)
with_first m (Bad place) = Bad place

abbrev pub number_at : List ℕ → ℕ → ℕ
number_at bs at = get_or bs at 0 * 256 + get_or bs (at + 1) 0

-- the length at the offset is cut, or the bytes that it counts are
abbrev pub IsCutAt : List ℕ → ℕ → Type 0
IsCutAt bs at = length bs < at + 2 + number_at bs at

-- the message whose length stands at the offset
abbrev pub IsMessageAt : List ℕ → ℕ → List ℕ → Type 0
IsMessageAt bs at m = (at + 2 + number_at bs at ≤ length bs) × (m ≡ take (number_at bs at) (drop (at + 2) bs))

-- so many messages stand from an offset on, and nothing after them; one whose bytes are cut is off at its length
abbrev pub read_messages : ℕ → List ℕ → ℕ → Unpacked
read_messages zero bs at = if nat_lt at (length bs) then Bad at else Messages []
read_messages (suc k) bs at =
    if nat_lt (length bs) (at + 2) || nat_lt (length bs) (at + 2 + number_at bs at) then Bad at
    else with_first (take (number_at bs at) (drop (at + 2) bs)) (read_messages k bs (at + 2 + number_at bs at))

unfoldable pub unpacked : List ℕ → Unpacked
unpacked bs =
    if nat_lt (length bs) 2 || (nat_lt (number_at bs 0) 1 || nat_lt batch_limit (number_at bs 0)) then Bad 0
    else read_messages (number_at bs 0) bs 2

-- the messages of a batch, and none of what is no batch
abbrev pub listed : Unpacked → List (List ℕ)
listed (Messages ms) = ms
listed (Bad place) = []

abbrev pub messages_in : List ℕ → List (List ℕ)
messages_in bs = listed (unpacked bs)

-- a message whose length fits two bytes
abbrev pub IsShort : List ℕ → Type 0
IsShort m = length m ≤ 65535

-- the bytes are the batch of these messages
pub record IsBatchOf (bs : List ℕ) (ms : List (List ℕ)) : Type 0 where
  pub is : bs ≡ packed ms
  pub some : 1 ≤ length ms
  pub most : length ms ≤ batch_limit
  pub short : All IsShort ms
