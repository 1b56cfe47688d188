-- Messages that ask one node after another.
use Rattle.std.proofs.Common.{◌≡◌, ℕ, ◌+◌, ◌≤◌, List, [], ◌∷◌, ◌++◌, length, take, drop, Option, Some, refl, ap, sym, ◌∙◌, append_assoc}
use Rattle.std.specs.List.{slice_get}
use Rattle.std.proofs.lemmas.List.{take-append-le}
use Rattle.ld_msg.specs.declared.msg.Body.{Body}
use Rattle.ld_msg.specs.declared.msg.Msg.{Msg}
use Rattle.ld_msg.specs.declared.msg.Who.TheVariants as whos
use Rattle.ld_msg.specs.Reader.{Senders, round_ask}
use Rattle.ld_table.proofs.Places.{drop_at_place}
use Rattle.ld_reader.specs.Following.{messages_from}
use Rattle.ld_reader.specs.Rounds.{asks_once}

-- the message to one node
abbrev pub asking : ℕ → ℕ → Option Senders → ℕ → ℕ → ℕ → Msg
asking number log o round from y = record { from = whos.Reader number; to = whos.Node y; log = log; body = round_ask o round from }

-- one message more, and one node less to ask
pub asked_one : (number log : ℕ) (o : Option Senders) (round from : ℕ) (ys : List ℕ) (i y : ℕ) (sent : List Msg) → slice_get ys i ≡ Some y
    → (sent ++ asking number log o round from y ∷ []) ++ messages_from number log (asks_once o round from (drop (i + 1) ys)) ≡ sent ++ messages_from number log (asks_once o round from (drop i ys))
asked_one number log o round from ys i y sent e =
    append_assoc sent _ _ ∙ ap (λ r. sent ++ messages_from number log (asks_once o round from r)) (sym (drop_at_place ys i y e))

pub keeps_front : (n : ℕ) (sent : List Msg) (m : Msg) → n ≤ length sent → take n (sent ++ m ∷ []) ≡ take n sent
keeps_front n sent m h = take-append-le n sent (m ∷ []) h

pub messages-append : (number log : ℕ) (xs ys : List (ℕ × Body)) → messages_from number log (xs ++ ys) ≡ messages_from number log xs ++ messages_from number log ys
messages-append number log [] ys = refl
messages-append number log (x ∷ xs) ys = ap (λ l. record { from = whos.Reader number; to = whos.Node x.0; log = log; body = x.1 } ∷ l) (messages-append number log xs ys)
