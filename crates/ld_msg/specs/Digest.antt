-- What nodes tell of an epoch before it is closed, and the plan that follows from it.
use Rattle.std.specs.Prelude.{ℕ, ◌+◌, ◌-◌, max, min, suc, List, [], ◌∷◌, ◌++◌, map, length, Option, Some, None, Bool, true, false, ◌&&◌, ◌||◌, not, ◌==◌, nat_lt, nat_le, if◌then◌else◌}
use Rattle.ld_table.specs.Words.{how_many, all_of, numbers_from}
use Rattle.ld_lsn.specs.Number.{epoch_of, esn_of, numbered, last_esn}
use Rattle.ld_ids.specs.declared.set.Spec.{Spec}
use Rattle.ld_ids.specs.Choice.{nodes_of}
use Rattle.ld_msg.specs.declared.msg.What.{What}
use Rattle.ld_msg.specs.declared.msg.What.TheVariants.{Rec, Hole, Bridge, Plug, Withheld}
use Rattle.ld_msg.specs.declared.msg.Entry.{Entry}

-- ---- statements ----

-- the greater ballot; of equal ones the first
abbrev pub better : Option Entry → Option Entry → Option Entry
better None o = o
better (Some e) None = Some e
better (Some e) (Some f) = if nat_lt e.ballot f.ballot then Some f else Some e

abbrev pub is_bridge : What → Bool
is_bridge (Rec p) = false
is_bridge Hole = false
is_bridge Bridge = true
is_bridge Plug = false
is_bridge Withheld = false

-- an entry speaks of its own number; a bridge also of each number above it
abbrev pub says : ℕ → Entry → Option Entry
says s e = if e.number == s then Some e else if is_bridge e.what && nat_lt e.number s then Some e else None

-- what a node's entries, their numbers rising, say of a number: the greatest ballot, of equal ones the entry's
unfoldable pub statement : ℕ → List Entry → Option Entry
statement s [] = None
statement s (e ∷ es) = better (statement s es) (says s e)

-- ---- a digest ----

-- what one node has told: the number that it was asked from last, the entries, the trim and the last known good offset of its pages, whether they reach the epoch's end, and whether it then said that it is lost
pub record Told : Type 0 where
  pub node : ℕ
  pub asked : ℕ
  pub entries : List Entry
  pub trim : ℕ
  pub lng : ℕ
  pub whole : Bool
  pub lost : Bool

-- a digest has one entry for each node, in rising order
abbrev pub told_nothing : ℕ → ℕ → Told
told_nothing epoch y = record { node = y; asked = numbered epoch 1; entries = []; trim = 0; lng = 0; whole = false; lost = false }

abbrev pub no_digest : Spec → ℕ → List Told
no_digest s epoch = map (told_nothing epoch) (nodes_of s)

-- the greatest last known good offset of a digest: up to it nothing needs to be told, planned or stored again
unfoldable pub digest_lng : List Told → ℕ
digest_lng [] = 0
digest_lng (t ∷ d) = max t.lng (digest_lng d)

-- a node is asked on past its page, and past what is known good; lng is the digest's, the page counted
abbrev pub told_page : ℕ → ℕ → ℕ → ℕ → ℕ → List Entry → Told → Told
told_page epoch good upto trim lng es t = record t {
  asked = max (upto + 1) (numbered epoch (good + 1));
  entries = t.entries ++ es;
  trim = max t.trim trim;
  lng = max t.lng lng;
  whole = nat_le (numbered epoch last_esn) upto;
}

-- a page is taken where it begins at the number asked from last, unless the node is whole
abbrev pub takes_page : ℕ → ℕ → Told → Bool
takes_page y from t = (t.node == y) && ((t.asked == from) && not t.whole)

unfoldable pub with_page : ℕ → ℕ → ℕ → ℕ → ℕ → ℕ → List Entry → List Told → List Told
with_page epoch y from upto trim lng es d = map (λ t. if takes_page y from t then told_page epoch (max (digest_lng d) lng) upto trim lng es t else t) d

-- a node that gave a page is asked anew past what is known good by now; one that gave none from its first offset
abbrev pub asked_anew : ℕ → ℕ → Told → Told
asked_anew epoch good t = record t { asked = if t.asked == numbered epoch 1 then t.asked else max t.asked (numbered epoch (good + 1)) }

unfoldable pub with_asks : ℕ → List Told → List Told
with_asks epoch d = map (asked_anew epoch (digest_lng d)) d

abbrev pub told_lost : ℕ → Told → Told
told_lost y t = record t { lost = if t.node == y then true else t.lost }

unfoldable pub with_lost : ℕ → List Told → List Told
with_lost y d = map (told_lost y) d

-- so many whole nodes, not lost, that each set of the factor's size has one of them
unfoldable pub enough : Spec → List Told → Bool
enough s d = nat_lt (length (nodes_of s)) (s.r + how_many (λ t. t.whole && not t.lost) d)

-- every node is whole or has said that it is lost, and it isn't enough
unfoldable pub is_spent : Spec → List Told → Bool
is_spent s d = all_of (λ t. t.whole || t.lost) d && not (enough s d)

-- ---- the plan ----

-- the statement of the greatest ballot over the digest, of equal ones the lowest node's
unfoldable pub best : ℕ → List Told → Option Entry
best s [] = None
best s (t ∷ d) = better (statement s t.entries) (best s d)

abbrev pub is_content : Option Entry → Bool
is_content None = false
is_content (Some e) = not (is_bridge e.what)

-- where no record is found a plan puts a hole, and a loss plan a plug
abbrev pub no_record : Bool → What
no_record loss = if loss then Plug else Hole

abbrev pub record_or : What → What → What
record_or other (Rec p) = Rec p
record_or other _ = other

abbrev pub content : Bool → Option Entry → What
content loss None = no_record loss
content loss (Some e) = record_or (no_record loss) e.what

-- the greatest trim of a digest
unfoldable pub digest_trim : List Told → ℕ
digest_trim [] = 0
digest_trim (t ∷ d) = max t.trim (digest_trim d)

-- a trim as an offset of the epoch
abbrev pub trim_place : ℕ → ℕ → ℕ
trim_place epoch trim =
    if nat_lt (epoch_of trim) epoch then 0
    else if nat_lt epoch (epoch_of trim) then last_esn - 1
    else min (esn_of trim) (last_esn - 1)

-- the greatest offset at which the best statement is a record, a hole or a plug, 0 where there is none
abbrev pub top_in : List Told → List Entry → ℕ
top_in d [] = 0
top_in d (e ∷ es) = if not (is_bridge e.what) && is_content (best e.number d) then max (esn_of e.number) (top_in d es) else top_in d es

unfoldable pub top_place : List Told → List Told → ℕ
top_place d [] = 0
top_place d (t ∷ rest) = max (top_in d t.entries) (top_place d rest)

-- up to this offset a plan says nothing: it is trimmed or known good
unfoldable pub plan_floor : ℕ → List Told → ℕ
plan_floor epoch d = max (trim_place epoch (digest_trim d)) (digest_lng d)

-- where the bridge goes
unfoldable pub plan_end : ℕ → List Told → ℕ
plan_end epoch d = suc (max (top_place d d) (plan_floor epoch d))

pub record Item : Type 0 where
  pub number : ℕ
  pub what : What

-- what a plan puts at an offset: nothing at or below its floor or above the end
unfoldable pub plan_item : ℕ → Bool → List Told → ℕ → Option What
plan_item epoch loss d n =
    if nat_le n (plan_floor epoch d) then None
    else if nat_lt n (plan_end epoch d) then Some (content loss (best (numbered epoch n) d))
    else if n == plan_end epoch d then Some Bridge
    else None

-- the trim as it was found, the last known good offset, the bridge's offset, whether it says what is lost, and the items by number, the bridge last
pub record Plan : Type 0 where
  pub trim : ℕ
  pub lng : ℕ
  pub end : ℕ
  pub loss : Bool
  pub items : List Item

abbrev pub record_items : ℕ → Bool → List Told → List ℕ → List Item
record_items epoch loss d [] = []
record_items epoch loss d (n ∷ ns) = record { number = numbered epoch n; what = content loss (best (numbered epoch n) d) } ∷ record_items epoch loss d ns

-- the offsets above one and below another
abbrev pub places_between : ℕ → ℕ → List ℕ
places_between t end = numbers_from (t + 1) (end - 1 - t)

abbrev pub plan_to : ℕ → Bool → List Told → ℕ → Plan
plan_to epoch loss d end = record {
  trim = digest_trim d;
  lng = digest_lng d;
  end = end;
  loss = loss;
  items = record_items epoch loss d (places_between (plan_floor epoch d) end) ++ record { number = numbered epoch end; what = Bridge } ∷ [];
}

unfoldable pub plan : ℕ → Bool → List Told → Plan
plan epoch loss d = plan_to epoch loss d (plan_end epoch d)
