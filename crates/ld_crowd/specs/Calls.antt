-- The calls of a crowd that answered, the newest first, and what passed in them by peer.
use Rattle.std.specs.Prelude.{◌≡◌, ◌+◌, ◌<◌, ◌≤◌, ◌==◌, ◌&&◌, ◌++◌, ℕ, List, [], ◌∷◌, take, Bool, true, false, if◌then◌else◌}
use Rattle.std.specs.declared.result.Result.{Result}
use Rattle.std.specs.declared.result.Result.TheVariants.{Ok, Err}
use Rattle.ld_past.specs.Events.{Event, event_of}
use Rattle.ld_crowd.specs.declared.Turn.{Turn}
use Rattle.ld_crowd.specs.declared.Turn.TheVariants as turns
use Rattle.ld_crowd.specs.declared.Heard.{Heard}
use Rattle.ld_crowd.specs.declared.Heard.TheVariants as reads

-- ---- the calls ----

-- a peer came: its number is how many came before it
abbrev pub came : Event
came = event_of (0 ∷ []) []

-- this peer was silent for too long, and was dismissed for it by the crowd
abbrev pub silenced : ℕ → Event
silenced peer = event_of (1 ∷ peer ∷ []) []

-- it was the turn of this peer
abbrev pub turned : ℕ → Event
turned peer = event_of (2 ∷ peer ∷ []) []

-- it was nobody's turn: for now (0), or for good (1), since the crowd was free to wait
abbrev pub nobody : ℕ → Event
nobody waited = event_of (3 ∷ waited ∷ []) []

-- these bytes were read of this peer
abbrev pub read : ℕ → List ℕ → Event
read peer bytes = event_of (4 ∷ peer ∷ []) bytes

-- this peer has ended
abbrev pub ended : ℕ → Event
ended peer = event_of (5 ∷ peer ∷ []) []

-- these bytes were said to this peer
abbrev pub said : ℕ → List ℕ → Event
said peer bytes = event_of (6 ∷ peer ∷ []) bytes

-- this peer was let go
abbrev pub finished : ℕ → Event
finished peer = event_of (7 ∷ peer ∷ []) []

-- this peer was dismissed by whoever calls
abbrev pub dismissed : ℕ → Event
dismissed peer = event_of (8 ∷ peer ∷ []) []

-- ---- what each call adds ----

abbrev pub waited : Bool → ℕ
waited may_wait = if may_wait then 1 else 0

abbrev pub noted : Turn → Bool → List Event → List Event
noted (turns.Came peer) may_wait did = came ∷ did
noted (turns.Of peer) may_wait did = turned peer ∷ did
noted (turns.Silent peer) may_wait did = silenced peer ∷ did
noted turns.Nobody may_wait did = nobody (waited may_wait) ∷ did

abbrev pub after_turn : {E : Type 0} → Result Turn E → Bool → List Event → List Event
after_turn (Ok turn) may_wait did = noted turn may_wait did
after_turn (Err e) may_wait did = did

abbrev pub after_read : {E : Type 0} → Result Heard E → ℕ → List ℕ → List Event → List Event
after_read (Ok (reads.Some n)) peer buf did = read peer (take n buf) ∷ did
after_read (Ok reads.Later) peer buf did = did
after_read (Ok reads.End) peer buf did = ended peer ∷ did
after_read (Err e) peer buf did = did

abbrev pub after_say : {E : Type 0} → Result (Unit {0}) E → ℕ → List ℕ → List Event → List Event
after_say (Ok _) peer bytes did = said peer bytes ∷ did
after_say (Err e) peer bytes did = did

-- ---- what they tell ----

-- a call of this kind with this peer
abbrev pub is_call : ℕ → ℕ → List ℕ → Bool
is_call kind peer [] = false
is_call kind peer (k ∷ []) = false
is_call kind peer (k ∷ p ∷ _) = (k == kind) && (p == peer)

abbrev pub is_kind : ℕ → List ℕ → Bool
is_kind kind [] = false
is_kind kind (k ∷ _) = k == kind

-- the bytes of all calls of this kind with this peer, in order
abbrev pub passed : ℕ → ℕ → List Event → List ℕ
passed kind peer [] = []
passed kind peer (e ∷ earlier) = if is_call kind peer e.numbers then passed kind peer earlier ++ e.bytes else passed kind peer earlier

-- there was such a call
abbrev pub was : ℕ → ℕ → List Event → Bool
was kind peer [] = false
was kind peer (e ∷ earlier) = if is_call kind peer e.numbers then true else was kind peer earlier

-- how many calls of this kind there were
abbrev pub count_of : ℕ → List Event → ℕ
count_of kind [] = 0
count_of kind (e ∷ earlier) = if is_kind kind e.numbers then count_of kind earlier + 1 else count_of kind earlier

-- what was read of a peer, and what was said to it
abbrev pub read_of : ℕ → List Event → List ℕ
read_of peer did = passed 4 peer did

abbrev pub said_to : ℕ → List Event → List ℕ
said_to peer did = passed 6 peer did

-- the crowd dismissed it for its silence; it was read to its end; it was let go; it was dismissed by whoever calls
abbrev pub is_silenced : ℕ → List Event → Bool
is_silenced peer did = was 1 peer did

abbrev pub is_ended : ℕ → List Event → Bool
is_ended peer did = was 5 peer did

abbrev pub is_finished : ℕ → List Event → Bool
is_finished peer did = was 7 peer did

abbrev pub is_dismissed : ℕ → List Event → Bool
is_dismissed peer did = was 8 peer did

-- how many peers came
abbrev pub arrivals : List Event → ℕ
arrivals did = count_of 0 did

-- the last call told that nobody is left to wait for
abbrev pub is_over : List Event → Bool
is_over [] = false
is_over (e ∷ earlier) = is_call 3 1 e.numbers

-- ---- which peer a turn names ----

-- one that came is the next one in the order of coming, and one that was silent had come
abbrev pub Names : Turn → List Event → Type 0
Names (turns.Came peer) did = peer ≡ arrivals did
Names (turns.Of peer) did = Unit {0}
Names (turns.Silent peer) did = peer < arrivals did
Names turns.Nobody did = Unit {0}

abbrev pub IsNamed : {E : Type 0} → Result Turn E → List Event → Type 0
IsNamed (Ok turn) did = Names turn did
IsNamed (Err e) did = Unit {0}

-- a read gives no more than there is room for, and some where it says so
abbrev pub IsWithin : Heard → ℕ → Type 0
IsWithin (reads.Some n) size = (0 < n) × (n ≤ size)
IsWithin reads.Later size = Unit {0}
IsWithin reads.End size = Unit {0}

abbrev pub HeardAtMost : {E : Type 0} → Result Heard E → ℕ → Type 0
HeardAtMost (Ok heard) size = IsWithin heard size
HeardAtMost (Err e) size = Unit {0}
