-- Messages that wait for nodes: a queue for each number up to 16, the first message first. Nothing waits for number 0.
use Rattle.std.specs.Prelude.{ℕ, ◌≡◌, ◌≤◌, List, [], ◌∷◌, ◌++◌, length, set, get_or, take, drop, replicate, Bool, true, false}
use Rattle.ld_msg.specs.declared.msg.Who.{Who}
use Rattle.ld_msg.specs.declared.msg.Who.TheVariants as whos
use Rattle.ld_msg.specs.declared.msg.Msg.{Msg}
use Rattle.ld_node_bounds.specs.Messages.{AreMessages}

abbrev pub queue_of : List (List Msg) → ℕ → List Msg
queue_of queues y = get_or queues y []

abbrev pub no_queues : List (List Msg)
no_queues = replicate 17 []

-- there is one for each number
abbrev pub AreQueues : List (List Msg) → Type 0
AreQueues queues = length queues ≡ 17

-- a message comes behind those that wait for its node
abbrev pub put_to : List (List Msg) → Msg → Who → List (List Msg)
put_to queues m (whos.Node y) = set queues y (queue_of queues y ++ m ∷ [])
put_to queues m _ = queues

abbrev pub put_one : List (List Msg) → Msg → List (List Msg)
put_one queues m = put_to queues m m.to

-- each comes behind those that wait for its node; one to another than a node waits for none
abbrev pub put_all : List (List Msg) → List Msg → List (List Msg)
put_all queues [] = queues
put_all queues (m ∷ ms) = put_all (put_one queues m) ms

-- only the first ones came
pub record PutsPart (queues : List (List Msg)) (ms : List Msg) (now : List (List Msg)) : Type 0 where
  pub count : ℕ
  pub put : now ≡ put_all queues (take count ms)

abbrev pub waits : List Msg → Bool
waits [] = false
waits (m ∷ ms) = true

-- nothing waits for any
abbrev pub are_empty : List (List Msg) → Bool
are_empty [] = true
are_empty ([] ∷ queues) = are_empty queues
are_empty ((m ∷ ms) ∷ queues) = false

-- all but the first message
abbrev pub behind : List Msg → List Msg
behind [] = []
behind (m ∷ ms) = ms

-- so many at most of the first messages that wait for the node are taken
pub record TakesUpTo (most : ℕ) (before : List (List Msg)) (y : ℕ) (now : List (List Msg)) : Type 0 where
  pub count : ℕ
  pub few : count ≤ most
  pub left : now ≡ set before y (drop count (queue_of before y))

-- the first messages have come, and the others are left
pub record IsPushing (all : List Msg) (before now : List (List Msg)) (done left : List Msg) : Type 0 where
  pub whole : done ++ left ≡ all
  pub put : now ≡ put_all before done
  pub messages : AreMessages left
