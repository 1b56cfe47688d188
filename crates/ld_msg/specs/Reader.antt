-- A reader of a log: its asks, what it holds, and the items that it gives.
use Rattle.std.specs.Prelude.{ℕ, ◌+◌, ◌-◌, ◌^◌, min, suc, zero, List, [], ◌∷◌, ◌++◌, length, filter, Option, Some, None, Bool, true, false, ◌&&◌, not, ◌==◌, nat_lt, nat_le, if◌then◌else◌}
use Rattle.ld_table.specs.Table.{find, put, take_out}
use Rattle.ld_table.specs.Words.{is_in, with_one, all_of, any_of}
use Rattle.ld_lsn.specs.Number.{home_epoch}
use Rattle.ld_ids.specs.Set.{no_nodes, with_node}
use Rattle.ld_ids.specs.Choice.{nodes_of}
use Rattle.ld_msg.specs.Choice.{sender}
use Rattle.ld_msg.specs.Register.{View}
use Rattle.ld_msg.specs.declared.style.Style.{Style}
use Rattle.ld_msg.specs.declared.style.Style.TheVariants as styles
use Rattle.ld_msg.specs.declared.msg.Body.{Body}
use Rattle.ld_msg.specs.declared.msg.Body.TheVariants as bodies
use Rattle.ld_msg.specs.Reading.{Held, Item, TrimTo, RecordHere, HoleHere, BridgeTo, LossHere, LossTo, Verdict, Gives, Confirms, AsksAll, NotYet, lacks_copy, decide}

-- the lost nodes that are asked once more: the round, the generation held for each, and those that said so again
pub record Confirmation : Type 0 where
  pub round : ℕ
  pub asked : List (ℕ × ℕ)
  pub told : List ℕ

-- the nodes that are asked in a round in which one of them sends each payload, and those that are not to send
pub record Senders : Type 0 where
  pub set : List Bool
  pub excluded : List Bool

-- seen is what its last look showed, least the round below which answers aren't taken any more, senders those of the present round where one node sends each payload;
-- polled is the next number as it was polled last, and missing has the nodes whose last answer was that they are lost, each with the epoch that was asked
pub record Reader : Type 0 where
  pub log : ℕ
  pub number : ℕ
  pub next : ℕ
  pub until : ℕ
  pub round : ℕ
  pub held : List (ℕ × Held)
  pub confirming : Option Confirmation
  pub seen : Option View
  pub least : ℕ
  pub style : Style
  pub senders : Option Senders
  pub polled : ℕ
  pub missing : List (ℕ × ℕ)

abbrev pub opened : Style → ℕ → ℕ → ℕ → ℕ → Reader
opened style l number from until = record { log = l; number = number; next = from; until = until; round = 0; held = []; confirming = None; seen = None; least = 0; style = style; senders = None; polled = 0; missing = [] }

abbrev pub is_finished : Reader → Bool
is_finished d = nat_lt d.until d.next

abbrev pub last_round : ℕ
last_round = 2 ^ 32 - 1

-- what one answer did: the items with the numbers from which they stand, the asks, and whether these began a round that ends the going-through
pub record Read : Type 0 where
  pub reader : Reader
  pub items : List (ℕ × Item)
  pub asks : List (ℕ × Body)
  pub anew : Bool

-- ---- asks ----

abbrev pub asks_with : Body → List ℕ → List (ℕ × Body)
asks_with b [] = []
asks_with b (y ∷ ys) = (y, b) ∷ asks_with b ys

-- each node is asked for all that it has
abbrev pub asks_of : ℕ → ℕ → List ℕ → List (ℕ × Body)
asks_of round next ys = asks_with (bodies.ReadAsk round next) ys

abbrev pub keys : List (ℕ × ℕ) → List ℕ
keys [] = []
keys (k ∷ ks) = k.0 ∷ keys ks

-- looks tell what a look at an epoch of the log shows at this moment; a round begins with one at the home epoch of the next number
abbrev pub look_of : (ℕ → View) → Reader → View
look_of looks d = looks (home_epoch d.next)

-- the count of swaps that a look showed
abbrev pub shown_swaps : Option View → ℕ
shown_swaps None = 0
shown_swaps (Some v) = v.swaps

-- it is another one than at the last look: sets have changed since
abbrev pub sees_swap : Option View → View → Bool
sees_swap o w = not (shown_swaps o == w.swaps)

-- ---- rounds in which one node sends each payload ----

abbrev pub is_single : Style → Bool
is_single styles.EachCopy = false
is_single styles.OneCopy = true
is_single styles.OfMessages = false

abbrev pub is_epoch : ℕ → Option ℕ → Bool
is_epoch e None = false
is_epoch e (Some f) = f == e

-- the node's last answer was that it is lost for the epoch
abbrev pub missed_by : List (ℕ × ℕ) → ℕ → ℕ → Bool
missed_by missing e y = is_epoch e (find y missing)

abbrev pub flags_of : List ℕ → List Bool
flags_of [] = no_nodes
flags_of (y ∷ ys) = with_node y (flags_of ys)

-- those of the nodes that are lost for the epoch of the next number
abbrev pub left_out : Reader → View → List ℕ
left_out d w = filter (missed_by d.missing (home_epoch d.next)) (nodes_of w.spec)

-- one of the nodes that are left sends each payload, unless all are to send, or none would be left
abbrev pub senders_of : Bool → View → Reader → Option Senders
senders_of full w d =
    if (is_single d.style && not full) && nat_lt (length (left_out d w)) (length (nodes_of w.spec))
    then Some (record { set = w.spec.set; excluded = flags_of (left_out d w) })
    else None

abbrev pub round_ask : Option Senders → ℕ → ℕ → Body
round_ask None round next = bodies.ReadAsk round next
round_ask (Some o) round next = bodies.ReadOne round next o.set o.excluded

-- ---- rounds ----

-- a new round, which ends a confirmation, one in which all nodes are to send payloads or not; where sets have changed, answers of earlier rounds don't count any more
abbrev pub starts : Bool → (ℕ → View) → Reader → Reader
starts full looks d = record d {
  round = if nat_lt d.round last_round then d.round + 1 else d.round;
  held = if nat_lt d.round last_round && sees_swap d.seen (look_of looks d) then [] else d.held;
  confirming = None;
  seen = if nat_lt d.round last_round then Some (look_of looks d) else d.seen;
  least = if nat_lt d.round last_round && sees_swap d.seen (look_of looks d) then d.round + 1 else d.least;
  senders = if nat_lt d.round last_round then senders_of full (look_of looks d) d else d.senders;
}

-- it asks the nodes that its look showed
abbrev pub start_asks : Bool → (ℕ → View) → Reader → List (ℕ × Body)
start_asks full looks d = if nat_lt d.round last_round then asks_with (round_ask (senders_of full (look_of looks d) d) (d.round + 1) d.next) (nodes_of (look_of looks d).spec) else []

-- where the next number is what it was at the last poll, all nodes are to send
abbrev pub is_full_poll : Reader → Bool
is_full_poll d = d.polled == d.next

abbrev pub polled : (ℕ → View) → Reader → Reader
polled looks d = record (starts (is_full_poll d) looks d) { polled = d.next }

abbrev pub poll_asks : (ℕ → View) → Reader → List (ℕ × Body)
poll_asks looks d = start_asks (is_full_poll d) looks d

-- ---- items ----

-- the last number of an item from a number on
abbrev pub item_end : ℕ → Item → ℕ
item_end s (TrimTo last) = last
item_end s (RecordHere p) = s
item_end s HoleHere = s
item_end s (BridgeTo last) = last
item_end s LossHere = s
item_end s (LossTo last) = last

-- an item ends a confirmation
abbrev pub after_item : Reader → Item → Reader
after_item d i = record d { next = min (item_end d.next i) d.until + 1; confirming = None }

abbrev pub gives : Read → Item → Read
gives a i = record { reader = after_item a.reader i; items = a.items ++ (a.reader.next, i) ∷ []; asks = a.asks; anew = a.anew }

-- the asks of a confirmation go to the lost nodes alone, unless its look shows that sets have changed: then the round is one over all nodes
abbrev pub confirms : (ℕ → View) → Read → List (ℕ × ℕ) → Read
confirms looks a lost = record {
  reader = record a.reader {
    round = a.reader.round + 1;
    held = if sees_swap a.reader.seen (look_of looks a.reader) then [] else a.reader.held;
    confirming = if sees_swap a.reader.seen (look_of looks a.reader) then None else Some (record { round = a.reader.round + 1; asked = lost; told = [] });
    seen = Some (look_of looks a.reader);
    least = if sees_swap a.reader.seen (look_of looks a.reader) then a.reader.round + 1 else a.reader.least;
    senders = if sees_swap a.reader.seen (look_of looks a.reader) then senders_of false (look_of looks a.reader) a.reader else None;
  };
  items = a.items;
  asks = if sees_swap a.reader.seen (look_of looks a.reader) then start_asks false looks a.reader else asks_of (a.reader.round + 1) a.reader.next (keys lost);
  anew = false;
}

-- the next number is asked of all nodes anew, each with all that it has
abbrev pub asks_all : (ℕ → View) → Read → Read
asks_all looks a = record { reader = starts true looks a.reader; items = a.items; asks = start_asks true looks a.reader; anew = true }

abbrev pub is_confirming : Option Confirmation → Bool
is_confirming None = false
is_confirming (Some v) = true

abbrev pub seen_nodes : Option View → List ℕ
seen_nodes None = []
seen_nodes (Some w) = nodes_of w.spec

-- the last look was at this epoch, and it was handed out by then: its nodes were shown
abbrev pub has_seen : ℕ → Option View → Bool
has_seen e None = false
has_seen e (Some w) = (w.at == e) && nat_le e w.epoch

abbrev pub may_confirm : Reader → Bool
may_confirm d = (not (is_confirming d.confirming) && nat_lt d.round last_round) && has_seen (home_epoch d.next) d.seen

-- the node that is to send the next number in this round lacks it
abbrev pub misses : Reader → Option Senders → Bool
misses d None = false
misses d (Some o) = lacks_copy d.round d.next (sender o.set o.excluded d.next) d.held

abbrev pub verdict : Reader → Verdict
verdict d = if is_finished d then NotYet else decide d.next (misses d d.senders) (may_confirm d) (seen_nodes d.seen) d.held

-- while a row of the table holds, at most so often
abbrev pub gives_all : ℕ → (ℕ → View) → Read → Read
gives_all zero looks a = a
gives_all (suc k) looks a = elim (verdict a.reader) [ Gives i ↦ gives_all k looks (gives a i) | Confirms lost ↦ confirms looks a lost | AsksAll ↦ asks_all looks a | NotYet ↦ a ]

abbrev pub body_size : Body → ℕ
body_size (bodies.ReadPage round from upto clean es) = 1 + length es
body_size _ = 1

abbrev pub held_size : List (ℕ × Held) → ℕ
held_size [] = 0
held_size (h ∷ hs) = body_size h.1.body + held_size hs

-- each held answer gives an item for each of its entries, or one; and there may be a loss, and a confirmation after it
abbrev pub most_items : Reader → ℕ
most_items d = held_size d.held + 2

-- ---- an answer ----

abbrev pub round_of : Body → ℕ
round_of (bodies.LostHere number round generation end) = round
round_of (bodies.ReadPage round from upto clean es) = round
round_of (bodies.ReadEnded round from end loss) = round
round_of (bodies.ReadTrim round from trim) = round
round_of (bodies.ReadWait round from released) = round
round_of _ = 0

abbrev pub is_newer : Option Held → ℕ → Bool
is_newer None round = true
is_newer (Some h) round = nat_le h.round round

-- the answer of the greatest round is held, of equal ones the last
abbrev pub held_with : List (ℕ × Held) → ℕ → Body → List (ℕ × Held)
held_with hs y b = if is_newer (find y hs) (round_of b) then put y (record { round = round_of b; body = b }) hs else hs

abbrev pub same_generation : Option ℕ → ℕ → Bool
same_generation None g = false
same_generation (Some h) g = h == g

-- the node is lost still, under the generation that was held for it
abbrev pub confirms_loss : List (ℕ × ℕ) → ℕ → Body → Bool
confirms_loss asked y (bodies.LostHere number round generation end) = same_generation (find y asked) generation
confirms_loss asked y _ = false

-- any other answer of its round ends a confirmation
abbrev pub confirming_with : Option Confirmation → ℕ → Body → Option Confirmation
confirming_with None y b = None
confirming_with (Some v) y b =
    if not (round_of b == v.round) then Some v
    else if confirms_loss v.asked y b then Some (record { round = v.round; asked = v.asked; told = with_one y v.told })
    else None

abbrev pub is_confirmed : Option Confirmation → Bool
is_confirmed None = false
is_confirmed (Some v) = all_of (λ k. is_in k.0 v.told) v.asked

-- the number that was asked
abbrev pub number_of : Body → ℕ
number_of (bodies.LostHere number round generation end) = number
number_of (bodies.ReadPage round from upto clean es) = from
number_of (bodies.ReadEnded round from end loss) = from
number_of (bodies.ReadTrim round from trim) = from
number_of (bodies.ReadWait round from released) = from
number_of _ = 0

abbrev pub is_lost_answer : Body → Bool
is_lost_answer (bodies.LostHere number round generation end) = true
is_lost_answer _ = false

-- an answer that is held tells whether its node is lost for the epoch that was asked
abbrev pub missing_with : List (ℕ × ℕ) → ℕ → Body → List (ℕ × ℕ)
missing_with m y b = if is_lost_answer b then put y (home_epoch (number_of b)) m else take_out y m

abbrev pub tells_missing : Reader → ℕ → Body → Bool
tells_missing d y b = is_single d.style && is_newer (find y d.held) (round_of b)

abbrev pub heard : Reader → ℕ → Body → Reader
heard d y b = record d {
  held = held_with d.held y b;
  confirming = confirming_with d.confirming y b;
  missing = if tells_missing d y b then missing_with d.missing y b else d.missing;
}

abbrev pub nothing_read : Reader → Read
nothing_read d = record { reader = d; items = []; asks = []; anew = false }

-- a number that is confirmed to be lost is called so, after one more look
abbrev pub loses : (ℕ → View) → Reader → Read
loses looks d = if is_confirmed d.confirming then gives (nothing_read (record d { seen = Some (look_of looks d) })) LossHere else nothing_read d

-- that look may show that sets have changed: then a new round begins, and nothing is given
abbrev pub is_swapped : (ℕ → View) → Reader → Bool
is_swapped looks d = is_confirmed d.confirming && sees_swap d.seen (look_of looks d)

-- ---- the next round ----

-- a page whose range holds the number
abbrev pub reaches : ℕ → Body → Bool
reaches s (bodies.ReadPage round from upto clean es) = nat_le from s && nat_le s upto
reaches s _ = false

abbrev pub gave_item : List (ℕ × Item) → Bool
gave_item [] = false
gave_item (i ∷ is) = true

-- an item was given, the reader isn't finished, no confirmation lasts, and no held page reaches the next number
abbrev pub asks_on : Read → Bool
asks_on a = ((gave_item a.items && not a.anew) && not (is_finished a.reader)) && (not (is_confirming a.reader.confirming) && not (any_of (λ h. reaches a.reader.next h.1.body) a.reader.held))

abbrev pub next_round : (ℕ → View) → Read → Read
next_round looks a = record {
  reader = if asks_on a then starts false looks a.reader else a.reader;
  items = a.items;
  asks = if asks_on a then a.asks ++ start_asks false looks a.reader else a.asks;
  anew = a.anew;
}

abbrev pub goes_through : (ℕ → View) → Reader → Read
goes_through looks d = next_round looks (gives_all (most_items d) looks (loses looks d))

abbrev pub heard_on : (ℕ → View) → Reader → Read
heard_on looks d = if is_swapped looks d then record { reader = starts false looks d; items = []; asks = start_asks false looks d; anew = true } else goes_through looks d

-- an answer of a round before the least one isn't taken
unfoldable pub on_answer : (ℕ → View) → Reader → ℕ → Body → Read
on_answer looks d y b = if nat_lt (round_of b) d.least then nothing_read d else heard_on looks (heard d y b)
