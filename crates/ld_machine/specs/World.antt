-- A state with a book that never forgets: the digests that plans were made from, and the swaps.
use Rattle.std.specs.Prelude.{ℕ, max, ◌≡◌, ◌⊎◌, List, [], ◌∷◌, filter, Option, Some, None, is_some, is_none, not, Bool, true, false, ◌&&◌, ◌||◌, ◌==◌, nat_lt, nat_le, if◌then◌else◌}
use Rattle.ld_table.specs.Table.{find}
use Rattle.ld_table.specs.Named.{find_named}
use Rattle.ld_table.specs.Words.{how_many, any_of}
use Rattle.ld_ids.specs.declared.set.Spec.{Spec}
use Rattle.ld_lsn.specs.Number.{epoch_of, esn_of, home_epoch}
use Rattle.ld_schedule.specs.declared.event.Event.{Event}
use Rattle.ld_schedule.specs.declared.event.Event.TheVariants as events
use Rattle.ld_msg.specs.declared.msg.What.{What}
use Rattle.ld_msg.specs.declared.msg.Who.{Who}
use Rattle.ld_msg.specs.declared.msg.Who.TheVariants as whos
use Rattle.ld_msg.specs.declared.msg.Msg.{Msg}
use Rattle.ld_msg.specs.declared.msg.Entry.{Entry}
use Rattle.ld_msg.specs.declared.msg.Body.{Body}
use Rattle.ld_msg.specs.declared.msg.Body.TheVariants as bodies
use Rattle.ld_msg.specs.Digest.{Told, with_page, with_lost, enough, is_spent, plan_item, trim_place, digest_trim, digest_lng}
use Rattle.ld_op.specs.Plain.{Plain, log_of, summary_at, is_lost}
use Rattle.ld_config.specs.declared.config.Config.{Config}
use Rattle.ld_ids.specs.Choice.{nodes_of}
use Rattle.ld_machine.specs.Config.{spec_of, set_at, fixed_of, fixed_at, looks_at}
use Rattle.ld_machine.specs.Disk.{Node, Cut}
use Rattle.ld_msg.specs.Network.{message}
use Rattle.ld_msg.specs.Sequencer.{Sequencer, Recovery, Stage, Seals, takes_any, recovery_lost}
use Rattle.ld_msg.specs.Register.{Register, View, epochs_of, closed_upto, swaps_in}
use Rattle.ld_machine.specs.State.{State, start, node_at, sequencer_of}

-- a plan: whose, of which epoch of which log, whether it says what is lost, the digest that it was made from, and the nodes that were blank or lost for the epoch then
pub record Made : Type 0 where
  pub log : ℕ
  pub epoch : ℕ
  pub ballot : ℕ
  pub loss : Bool
  pub digest : List Told
  pub gone : List ℕ

-- a swap: the new node took the place of the old one in each epoch of the log up to one that had the old one and lacked the new one; and what the epochs were before
pub record Joined : Type 0 where
  pub log : ℕ
  pub upto : ℕ
  pub old : ℕ
  pub new : ℕ
  pub before : List (ℕ × Spec)

pub record World : Type 0 where
  pub state : State
  pub made : List Made
  pub joined : List Joined

abbrev pub begin : Config → World
begin c = record { state = start c; made = []; joined = [] }

-- ---- the plan that a delivery makes ----

-- the node has nothing of the epoch to tell, in each state that a load may find
abbrev pub is_gone : ℕ → ℕ → Plain → Bool
is_gone l e p = (p.generation == 0) || is_lost (log_of p l) e

abbrev pub is_cut_gone : ℕ → ℕ → Option Cut → Bool
is_cut_gone l e None = true
is_cut_gone l e (Some k) = is_gone l e k.plain

abbrev pub gone_nodes : State → ℕ → ℕ → List ℕ → List ℕ
gone_nodes s l e set = filter (λ y. is_gone l e (node_at s y).plain && is_cut_gone l e (node_at s y).cut) set

abbrev pub makes : State → Sequencer → Recovery → Bool → List Told → List Made
makes s q v loss d = record { log = q.log; epoch = v.epoch; ballot = q.epoch; loss = loss; digest = d; gone = gone_nodes s q.log v.epoch (nodes_of v.spec) } ∷ []

-- the look shows an open epoch, and no greater one than the sequencer's
abbrev pub lets_lose : Sequencer → View → Bool
lets_lose q w = is_none w.summary && (w.epoch == q.epoch)

abbrev pub makes_by : Config → State → Sequencer → Recovery → List Told → List Made
makes_by c s q v d =
    if enough v.spec d then makes s q v false d
    else if is_spent v.spec d && lets_lose q (looks_at c s.register q.log v.epoch) then makes s q v true d
    else []

abbrev pub made_in : Config → State → Sequencer → Recovery → Stage → ℕ → ℕ → ℕ → ℕ → ℕ → List Entry → List Made
made_in c s q v (Seals d) y from upto trim lng es = if takes_any y from d then makes_by c s q v (with_page v.epoch y from upto trim lng es d) else []
made_in c s q v _ y from upto trim lng es = []

abbrev pub made_lost : Config → State → Sequencer → Recovery → Stage → ℕ → List Made
made_lost c s q v (Seals d) y = makes_by c s q v (with_lost y d)
made_lost c s q v _ y = []

abbrev pub made_with : Config → State → Sequencer → Option Recovery → ℕ → Body → List Made
made_with c s q (Some v) y (bodies.DigestPage from upto trim lng es) = if v.epoch == epoch_of from then made_in c s q v v.stage y from upto trim lng es else []
made_with c s q (Some v) y (bodies.LostHere n round generation end) =
    if (v.epoch == home_epoch n) && not (home_epoch n == q.epoch) then made_lost c s q (recovery_lost y v) v.stage y else []
made_with c s q _ y b = []

abbrev pub made_by : Config → State → Option (List ℕ × Sequencer) → ℕ → Body → List Made
made_by c s None y b = []
made_by c s (Some q) y b = if q.1.gone || is_some q.1.preempted then [] else made_with c s q.1 q.1.recovery y b

abbrev pub page_from : Who → ℕ
page_from (whos.Node y) = y
page_from _ = 0

abbrev pub made_for : Config → State → Msg → Who → List Made
made_for c s m (whos.Sequencer b) = made_by c s (sequencer_of m.log b s.sequencers) (page_from m.from) m.body
made_for c s m _ = []

abbrev pub made_at : Config → State → Option Msg → List Made
made_at c s None = []
made_at c s (Some m) = made_for c s m m.to

-- a retry looks again where a digest stayed spent
abbrev pub made_anew : Config → State → Sequencer → Recovery → Stage → List Made
made_anew c s q v (Seals d) = if is_spent v.spec d then makes_by c s q v d else []
made_anew c s q v _ = []

abbrev pub made_again : Config → State → Sequencer → Option Recovery → List Made
made_again c s q None = []
made_again c s q (Some v) = made_anew c s q v v.stage

abbrev pub made_retried : Config → State → Option Sequencer → List Made
made_retried c s None = []
made_retried c s (Some q) = if q.gone || is_some q.preempted then [] else made_again c s q q.recovery

abbrev pub made_on : Config → State → Event → List Made
made_on c s (events.Deliver i) = made_at c s (message s.network i)
made_on c s (events.Retry name) = made_retried c s (find_named name s.sequencers)
made_on c s _ = []

-- ---- the places that an event lets a node take ----

-- the swap that an event made, and what it found
abbrev pub joins : Register → Register → ℕ → ℕ → ℕ → ℕ → List Joined
joins before after l upto old new = if nat_lt (epochs_of before l).swaps (epochs_of after l).swaps
    then record { log = l; upto = closed_upto (epochs_of before l) upto; old = old; new = new; before = (epochs_of before l).swapped } ∷ [] else []

abbrev pub joined_on : State → State → Event → List Joined
joined_on s t (events.Replace n other l) = joins s.register t.register l (log_of (node_at s n).plain l).lost_to other n
joined_on s t _ = []

-- a set in which it put its new node
abbrev pub swaps_there : ℕ → ℕ → Option Spec → Bool
swaps_there old new None = false
swaps_there old new (Some p) = swaps_in old new p.set

-- it put the node in the place of another one in the epoch
abbrev pub joins_there : ℕ → ℕ → ℕ → Joined → Bool
joins_there l e y j = ((j.log == l) && (j.new == y)) && (nat_le e j.upto && swaps_there j.old j.new (find e j.before))

-- some swap did
abbrev pub has_joined : World → ℕ → ℕ → ℕ → Bool
has_joined w l e y = any_of (joins_there l e y) w.joined

-- ---- what was sent ----

-- x is one of the list
abbrev pub In : {X : Type 0} → X → List X → Type 0
In x [] = ⊥
In x (y ∷ ys) = (x ≡ y) ⊎ In x ys

abbrev pub Sent : World → Msg → Type 0
Sent w m = In m w.state.network.sent

abbrev pub from_node : ℕ → ℕ → ℕ → Body → Msg
from_node l y b body = record { from = whos.Node y; to = whos.Sequencer b; log = l; body = body }

abbrev pub to_node_of : ℕ → ℕ → ℕ → Body → Msg
to_node_of l b y body = record { from = whos.Sequencer b; to = whos.Node y; log = l; body = body }

-- node y answered Stored for the number to ballot b
abbrev pub Stored : World → ℕ → ℕ → ℕ → ℕ → Type 0
Stored w l y n b = Sent w (from_node l y b (bodies.Stored n))

abbrev pub is_node : ℕ → Who → Bool
is_node y (whos.Node x) = x == y
is_node y _ = false

abbrev pub is_sequencer : ℕ → Who → Bool
is_sequencer b (whos.Sequencer e) = e == b
is_sequencer b _ = false

abbrev pub says_stored : ℕ → Body → Bool
says_stored n (bodies.Stored s) = s == n
says_stored n _ = false

-- stored, or trimmed at or above the number
abbrev pub says_settled : ℕ → Body → Bool
says_settled n (bodies.Stored s) = s == n
says_settled n (bodies.TrimmedHere s t) = (epoch_of s == epoch_of n) && nat_le n t
says_settled n _ = false

abbrev pub told_by : (Body → Bool) → ℕ → ℕ → ℕ → Msg → Bool
told_by p l y b m = ((m.log == l) && p m.body) && (is_node y m.from && is_sequencer b m.to)

abbrev pub has_told : World → (Body → Bool) → ℕ → ℕ → ℕ → Bool
has_told w p l b y = any_of (told_by p l y b) w.state.network.sent

-- as many nodes as there are copies stored the number for ballot b, of those that were fixed for the epoch
unfoldable pub chosen : Config → World → ℕ → ℕ → ℕ → Bool
chosen c w l n b = nat_le (fixed_of c w.state.register l (epoch_of n)).r (how_many (has_told w (says_stored n) l b) (fixed_at c w.state.register l (epoch_of n)))

-- as many stored it, or are trimmed at or above it
unfoldable pub settled : Config → World → ℕ → ℕ → ℕ → Bool
settled c w l n b = nat_le (fixed_of c w.state.register l (epoch_of n)).r (how_many (has_told w (says_settled n) l b) (fixed_at c w.state.register l (epoch_of n)))

-- the node stored the append of the number, or took a place in its epoch
abbrev pub has_append : World → ℕ → ℕ → ℕ → Bool
has_append w l n y = has_told w (says_stored n) l (epoch_of n) y || has_joined w l (epoch_of n) y

-- as many nodes of the epoch, as swaps left it, as there are copies
unfoldable pub vouched : Config → World → ℕ → ℕ → Bool
vouched c w l n = nat_le (spec_of c w.state.register l (epoch_of n)).r (how_many (has_append w l n) (set_at c w.state.register l (epoch_of n)))

-- the node settled the number for the ballot, or took a place in its epoch
abbrev pub has_settled : World → ℕ → ℕ → ℕ → ℕ → Bool
has_settled w l n b y = has_told w (says_settled n) l b y || has_joined w l (epoch_of n) y

-- as many nodes of the epoch, as swaps left it, as there are copies
unfoldable pub upheld : Config → World → ℕ → ℕ → ℕ → Bool
upheld c w l n b = nat_le (spec_of c w.state.register l (epoch_of n)).r (how_many (has_settled w l n b) (set_at c w.state.register l (epoch_of n)))

-- ---- what a ballot says of a number ----

abbrev pub is_made : ℕ → ℕ → ℕ → Made → Bool
is_made l e b m = ((m.log == l) && (m.epoch == e)) && (m.ballot == b)

abbrev pub plan_in : ℕ → ℕ → ℕ → List Made → Option Made
plan_in l e b [] = None
plan_in l e b (m ∷ ms) = if is_made l e b m then Some m else plan_in l e b ms

abbrev pub HasPlan : World → ℕ → ℕ → ℕ → Made → Type 0
HasPlan w l e b m = plan_in l e b w.made ≡ Some m

abbrev pub stores_at : ℕ → Body → Bool
stores_at n (bodies.Store s lng x) = s == n
stores_at n _ = false

abbrev pub what_sent : ℕ → ℕ → ℕ → Msg → Bool
what_sent l b n m = (m.log == l) && (is_sequencer b m.from && stores_at n m.body)

abbrev pub stored_what : Body → Option What
stored_what (bodies.Store s lng x) = Some x
stored_what _ = None

-- what the epoch's own sequencer sent under the number
abbrev pub append_in : ℕ → ℕ → List Msg → Option What
append_in l n [] = None
append_in l n (m ∷ ms) = if what_sent l (epoch_of n) n m then stored_what m.body else append_in l n ms

abbrev pub item_in : ℕ → ℕ → Option Made → Option What
item_in e n None = None
item_in e n (Some m) = plan_item e m.loss m.digest n

-- the append's record for the epoch's own ballot, and else the item of the ballot's plan
unfoldable pub item : World → ℕ → ℕ → ℕ → Option What
item w l n b = if b == epoch_of n then append_in l n w.state.network.sent else item_in (epoch_of n) (esn_of n) (plan_in l (epoch_of n) b w.made)

abbrev pub plan_trim : ℕ → List Told → ℕ
plan_trim e d = trim_place e (digest_trim d)

-- up to this offset a plan vouches for nothing: it was trimmed, or known good
abbrev pub plan_from : ℕ → List Told → ℕ
plan_from e d = max (plan_trim e d) (digest_lng d)

-- ---- nodes ----

-- a plain state that a load may find: the one before a record that was cut short, or the one after it
abbrev pub MayHold : Node → Plain → Type 0
MayHold x p = (p ≡ x.plain) ⊎ ((k : Cut) × (x.cut ≡ Some k) × (p ≡ k.plain))

-- the epoch is not served there any more: the node is blank, or lost for it, or it is clean there
abbrev pub Unserved : Plain → ℕ → ℕ → Type 0
Unserved p l e = (p.generation ≡ 0) ⊎ ((is_lost (log_of p l) e ≡ true) ⊎ (is_some (summary_at (log_of p l) e) ≡ true))

-- the number has an entry of at least this ballot there
abbrev pub has_at_least : ℕ → Option Entry → Bool
has_at_least b None = false
has_at_least b (Some e) = nat_le b e.ballot

abbrev pub Holds : Plain → ℕ → ℕ → ℕ → Type 0
Holds p l n b = has_at_least b (find n (log_of p l).entries) ≡ true
