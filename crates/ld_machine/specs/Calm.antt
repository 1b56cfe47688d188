-- A calm: each log's last sequencer retries and tells its released number again, all messages are delivered, nodes look at the register, and readers ask until that gives them nothing; as a list of steps, found one after the other.
use Rattle.std.specs.Prelude.{ℕ, suc, zero, ◌≡◌, ◌+◌, ◌*◌, ◌^◌, List, [], ◌∷◌, ◌++◌, length, map, flat_map, filter, Option, Some, None, is_some, Bool, true, false, ◌&&◌, not, ◌==◌, nat_lt, if◌then◌else◌}
use Rattle.ld_table.specs.Named.{find_named}
use Rattle.ld_table.specs.Words.{how_many}
use Rattle.ld_ids.specs.declared.set.Spec.{Spec}
use Rattle.ld_ids.specs.Choice.{nodes_of}
use Rattle.ld_schedule.specs.declared.event.Event.{Event}
use Rattle.ld_schedule.specs.declared.event.Event.TheVariants as events
use Rattle.ld_transcript.specs.declared.line.Line.{Line}
use Rattle.ld_config.specs.declared.config.Config.{Config}
use Rattle.ld_msg.specs.declared.msg.Who.{Who}
use Rattle.ld_msg.specs.declared.msg.Who.TheVariants as whos
use Rattle.ld_msg.specs.declared.msg.Msg.{Msg}
use Rattle.ld_msg.specs.declared.msg.Body.{Body}
use Rattle.ld_msg.specs.declared.msg.Body.TheVariants as bodies
use Rattle.ld_msg.specs.Network.{oldest_new, posted}
use Rattle.ld_msg.specs.Register.{epochs_of}
use Rattle.ld_msg.specs.Sequencer.{Sequencer, Acts, Called, called, on_retry, released_of, release_messages, to_each}
use Rattle.ld_msg.specs.Reader.{Reader, is_finished}
use Rattle.ld_op.specs.declared.op.Op.TheVariants as ops
use Rattle.ld_op.specs.Plain.{log_of}
use Rattle.ld_op.specs.Ticks.{Ticked, Cleans, on_tick}
use Rattle.ld_machine.specs.Config.{all_nodes, looks_at}
use Rattle.ld_machine.specs.Disk.{Node, is_up, keep_end}
use Rattle.ld_machine.specs.State.{State, Done, Stepped, finish, node_at, with_register, with_sequencer}
use Rattle.ld_machine.specs.Step.{happens, is_written, acted_lines, live}

-- ---- a step of a calm ----

-- what a step takes: an event, or the retry of a sequencer that tells its released number again
pub data Move : Type 0 where
  Takes : (event : Event) → Move
  Calms : (name : List ℕ) → Move

-- the released number once more, to the nodes of the sequencer's epoch; nothing of a preempted one
abbrev pub announcements : Sequencer → List (ℕ × Body)
announcements q = if is_some q.preempted then [] else to_each (bodies.Release (released_of q)) (nodes_of q.spec)

-- the messages of such a retry, in their order
abbrev pub calm_messages : Sequencer → Acts → List (ℕ × Body)
calm_messages old a = a.cleans ++ (release_messages old a.sequencer ++ (announcements a.sequencer ++ (a.asks ++ a.stores)))

abbrev pub calms_with : State → List ℕ → Sequencer → Called → Done
calms_with s name old k = record {
  state = with_register (with_sequencer s name k.acts.sequencer) k.register;
  lines = acted_lines name old k.acts;
  sends = posted (whos.Sequencer old.epoch) old.log (calm_messages old k.acts);
}

abbrev pub calms_acts : Config → State → List ℕ → Sequencer → Acts → Done
calms_acts c s name old a = calms_with s name old (called (looks_at c s.register old.log) s.register a a.tries)

-- what a step does
abbrev pub moves : Config → State → Move → Done
moves c s (Takes e) = happens c s e
moves c s (Calms name) = live s name (λ q. calms_acts c s name q (on_retry (looks_at c s.register q.log) q))

-- what it leaves, with its lines
abbrev pub moved : Config → State → Move → Stepped
moved c s m = finish (moves c s m)

-- the event that tells of a step
abbrev pub event_of : Move → Event
event_of (Takes e) = e
event_of (Calms name) = events.Retry name

-- ---- who takes part ----

-- the one of the greater epoch
abbrev pub later_of : Option (List ℕ × Sequencer) → List ℕ × Sequencer → Option (List ℕ × Sequencer)
later_of None q = Some q
later_of (Some p) q = if nat_lt p.1.epoch q.1.epoch then Some q else Some p

-- a log's sequencer of the greatest epoch, with its name, dropped or not
abbrev pub last_in : ℕ → Option (List ℕ × Sequencer) → List (List ℕ × Sequencer) → Option (List ℕ × Sequencer)
last_in l found [] = found
last_in l found (q ∷ qs) = last_in l (if q.1.log == l then later_of found q else found) qs

abbrev pub last_of : State → ℕ → Option (List ℕ × Sequencer)
last_of s l = last_in l None s.sequencers

-- a log's readers, in order of opening
abbrev pub readers_of : ℕ → List (List ℕ × Reader) → List (List ℕ)
readers_of l [] = []
readers_of l (d ∷ ds) = if d.1.log == l then d.0 ∷ readers_of l ds else readers_of l ds

-- a tick of the node now cleans an epoch
abbrev pub cleans_by : Node → ℕ → Ticked → Bool
cleans_by x l (Cleans epoch y) = is_written (keep_end x (ops.Clean l epoch y))
cleans_by x l _ = false

abbrev pub cleans : State → ℕ → ℕ → Bool
cleans s n l = is_up (node_at s n).status && cleans_by (node_at s n) l (on_tick (log_of (node_at s n).plain l) (epochs_of s.register l).summaries)

-- ---- what is left to do ----

-- a log's last sequencer retries; all new messages are delivered, and then the log's nodes tick; a node ticks, again as long as that cleaned an epoch; a reader's turn; all new messages
-- are delivered; the reader asks again, if its next number isn't this one any longer
pub data Left : Type 0 where
  Announces : (log : ℕ) → Left
  Settles : (log : ℕ) → Left
  Ticks : (log : ℕ) (node : ℕ) → Left
  Reads : (name : List ℕ) → Left
  Drains : Left
  Again : (name : List ℕ) (next : ℕ) → Left

abbrev pub left_for : Config → State → ℕ → List Left
left_for c s l = Announces l ∷ Settles l ∷ (map (λ n. Ticks l n) (all_nodes c) ++ map (λ r. Reads r) (readers_of l s.readers))

-- one log after the other, in the configuration's order
abbrev pub all_left : Config → State → List Left
all_left c s = flat_map (λ (p : Spec). left_for c s p.log) c.logs

-- the next step, with what is left to do then
pub record Next : Type 0 where
  pub move : Move
  pub left : List Left

abbrev pub goes : Move → List Left → Option Next
goes m ps = Some (record { move = m; left = ps })

-- the log has no sequencer part where its last one was dropped
abbrev pub announces : Option (List ℕ × Sequencer) → List Left → Option Next → Option Next
announces None ps other = other
announces (Some q) ps other = if q.1.gone then other else goes (Calms q.0) ps

-- the oldest new message is delivered, and the part goes on
abbrev pub delivers_in : Option ℕ → Left → List Left → Option Next → Option Next
delivers_in None p ps other = other
delivers_in (Some i) p ps other = goes (Takes (events.Deliver i)) (p ∷ ps)

-- a poll, then all that this brings, then perhaps another one
abbrev pub polls_then : List ℕ → ℕ → List Left → Option Next
polls_then name next ps = goes (Takes (events.Poll name)) (Drains ∷ Again name next ∷ ps)

-- a reader that is finished at its turn doesn't ask
abbrev pub reads : List ℕ → Option Reader → List Left → Option Next → Option Next
reads name None ps other = other
reads name (Some d) ps other = if is_finished d then other else polls_then name d.next ps

abbrev pub asks_again : List ℕ → ℕ → Option Reader → List Left → Option Next → Option Next
asks_again name next None ps other = other
asks_again name next (Some d) ps other = if d.next == next then other else polls_then name d.next ps

unfoldable pub next_of : Config → State → List Left → Option Next
next_of c s [] = None
next_of c s (Announces l ∷ ps) = announces (last_of s l) ps (next_of c s ps)
next_of c s (Settles l ∷ ps) = delivers_in (oldest_new s.network) (Settles l) ps (next_of c s ps)
next_of c s (Ticks l n ∷ ps) = goes (Takes (events.Tick n l)) (if cleans s n l then Ticks l n ∷ ps else ps)
next_of c s (Reads name ∷ ps) = reads name (find_named name s.readers) ps (next_of c s ps)
next_of c s (Drains ∷ ps) = delivers_in (oldest_new s.network) Drains ps (next_of c s ps)
next_of c s (Again name next ∷ ps) = asks_again name next (find_named name s.readers) ps (next_of c s ps)

-- ---- the bound ----

-- how many numbers a log's sequencers gave
abbrev pub numbers_given : ℕ → List (List ℕ × Sequencer) → ℕ
numbers_given l [] = 0
numbers_given l (q ∷ qs) = (if q.1.log == l then q.1.lng + length q.1.appends else 0) + numbers_given l qs

abbrev pub trims_at : ℕ → Who → Body → Bool
trims_at n (whos.Node y) (bodies.Trim t) = y == n
trims_at n who b = false

abbrev pub is_trim_to : ℕ → ℕ → Msg → Bool
is_trim_to l n m = (m.log == l) && trims_at n m.to m.body

-- how many points were issued: each went to all nodes
abbrev pub points_issued : List ℕ → ℕ → List Msg → ℕ
points_issued [] l ms = 0
points_issued (n ∷ ns) l ms = how_many (is_trim_to l n) ms

abbrev pub is_live : ℕ → List ℕ × Sequencer → Bool
is_live l q = (q.1.log == l) && (not q.1.gone && not (is_some q.1.preempted))

abbrev pub is_open_for : ℕ → List ℕ × Reader → Bool
is_open_for l d = (d.1.log == l) && not (is_finished d.1)

-- the nodes, the log's live sequencers, its open readers, the register's epoch, the numbers that were given, the points that were issued
abbrev pub log_bound : Config → State → ℕ → ℕ
log_bound c s l = 32 * (length (all_nodes c) * ((how_many (is_live l) s.sequencers + how_many (is_open_for l) s.readers + 1)
    * (((epochs_of s.register l).epoch + 1) * (numbers_given l s.sequencers + points_issued (all_nodes c) l s.network.sent + length (all_nodes c) + 4))))

abbrev pub logs_bound : Config → State → List Spec → ℕ
logs_bound c s [] = 0
logs_bound c s (p ∷ ps) = log_bound c s p.log + logs_bound c s ps

-- at most so many steps has a calm
unfoldable pub calm_bound : Config → State → ℕ
calm_bound c s = 2 * length s.network.fresh + logs_bound c s c.logs

-- so many steps are looked for: the bound and more, so that whoever counts steps in 64 bits needn't compute it
unfoldable pub calm_fuel : Config → State → ℕ
calm_fuel c s = calm_bound c s + 2 ^ 64

-- ---- a calm ----

-- the steps, at most so many
unfoldable pub steps_from : ℕ → Config → State → List Left → List Move
steps_from zero c s ps = []
steps_from (suc k) c s ps = elim (next_of c s ps) [ None ↦ [] | Some x ↦ x.move ∷ steps_from k c (moved c s x.move).state x.left ]

abbrev pub calm_moves : Config → State → List Move
calm_moves c s = steps_from (calm_fuel c s) c s (all_left c s)

-- what they leave, and their lines
unfoldable pub calmed : ℕ → Config → State → List Left → Stepped
calmed zero c s ps = record { state = s; lines = [] }
calmed (suc k) c s ps = elim (next_of c s ps) [
  | None ↦ record { state = s; lines = [] }
  | Some x ↦ (let r : Stepped = moved c s x.move in let rest : Stepped = calmed k c r.state x.left in record { state = rest.state; lines = r.lines ++ rest.lines })
]

abbrev pub calms : Config → State → Stepped
calms c s = calmed (calm_fuel c s) c s (all_left c s)
