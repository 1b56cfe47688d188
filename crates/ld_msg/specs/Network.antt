-- The network: all messages ever sent, and which of them are new.
use Rattle.std.specs.Prelude.{ℕ, ◌+◌, ◌-◌, List, [], ◌∷◌, ◌++◌, filter, Option, None, not, ◌==◌, nat_lt, if◌then◌else◌, slice_get}
use Rattle.ld_table.specs.Words.{first}
use Rattle.ld_msg.specs.declared.msg.Who.{Who}
use Rattle.ld_msg.specs.declared.msg.Who.TheVariants as whos
use Rattle.ld_msg.specs.declared.msg.Body.{Body}
use Rattle.ld_msg.specs.declared.msg.Msg.{Msg}

-- the messages, the last one first; how many they are; and the offsets of the new ones, rising
pub record Network : Type 0 where
  pub sent : List Msg
  pub count : ℕ
  pub fresh : List ℕ

abbrev pub no_messages : Network
no_messages = record { sent = []; count = 0; fresh = [] }

abbrev pub send : Network → Msg → Network
send w m = record { sent = m ∷ w.sent; count = w.count + 1; fresh = w.fresh ++ w.count ∷ [] }

abbrev pub send_all : Network → List Msg → Network
send_all w [] = w
send_all w (m ∷ ms) = send_all (send w m) ms

-- the message of a place
unfoldable pub message : Network → ℕ → Option Msg
message w i = if nat_lt i w.count then slice_get w.sent (w.count - 1 - i) else None

abbrev pub oldest_new : Network → Option ℕ
oldest_new w = first w.fresh

-- no longer new
abbrev pub mark : Network → ℕ → Network
mark w i = record w { fresh = filter (λ j. not (i == j)) w.fresh }

-- messages of an actor to nodes
abbrev pub posted : Who → ℕ → List (ℕ × Body) → List Msg
posted who l [] = []
posted who l (b ∷ bs) = record { from = who; to = whos.Node b.0; log = l; body = b.1 } ∷ posted who l bs
