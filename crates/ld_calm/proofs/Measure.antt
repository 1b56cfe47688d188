-- The measure of a calm: what it may still cost, in steps.
use Rattle.std.proofs.Common.{ℕ, ◌+◌, ◌-◌, ◌*◌, List, [], ◌∷◌, ◌++◌, length, map, filter_map, Option, Some, None, Bool, ◌&&◌, ◌==◌, if◌then◌else◌}
use Rattle.std.specs.Option.{unwrap_or}
use Rattle.ld_table.specs.Table.{find}
use Rattle.ld_table.specs.Named.{find_named}
use Rattle.ld_table.specs.Words.{how_many, numbers_from}
use Rattle.ld_lsn.specs.Number.{numbered, last_esn, epoch_end}
use Rattle.ld_config.specs.declared.config.Config.{Config}
use Rattle.ld_msg.specs.declared.msg.Msg.{Msg}
use Rattle.ld_msg.specs.declared.msg.Body.{Body}
use Rattle.ld_msg.specs.declared.msg.Body.TheVariants as bodies
use Rattle.ld_msg.specs.Register.{epochs_of}
use Rattle.ld_msg.specs.Sequencer.{Sequencer}
use Rattle.ld_msg.specs.Reader.{Reader, is_finished}
use Rattle.ld_op.specs.Plain.{log_of, is_lost}
use Rattle.ld_op.specs.Ticks.{lowest_unclean}
use Rattle.ld_machine.specs.Config.{all_nodes}
use Rattle.ld_machine.specs.Disk.{Node, new_node}
use Rattle.ld_machine.specs.State.{State, node_at}
use Rattle.ld_machine.specs.Calm.{Left, Announces, Settles, Ticks, Reads, Drains, Again, numbers_given, is_trim_to, points_issued, is_open_for}
use Rattle.ld_calm.proofs.Lefts.{left}
use Rattle.ld_calm.proofs.Sequencing.{Sizes, may_send}
use Rattle.ld_calm.proofs.Asking as asking
use Rattle.ld_calm.proofs.Asking.{may_ask}
use Rattle.ld_calm.proofs.Sums.{sum_of, sum_by}
use Rattle.ld_calm.proofs.Weights.{new_weight}

-- ---- marks ----

-- the trim points of a log
abbrev pub point_of : Body → Option ℕ
point_of (bodies.Trim t) = Some t
point_of b = None

abbrev pub point_in : ℕ → ℕ → Msg → Option ℕ
point_in l n m = if is_trim_to l n m then point_of m.body else None

abbrev pub points_of : List ℕ → ℕ → List Msg → List ℕ
points_of [] l ms = []
points_of (n ∷ ns) l ms = filter_map (point_in l n) ms

-- how many numbers a log's sequencer of an epoch gave
abbrev pub given_in : ℕ → ℕ → List (List ℕ × Sequencer) → ℕ
given_in l e [] = 0
given_in l e (q ∷ qs) = (if (q.1.log == l) && (q.1.epoch == e) then q.1.lng + length q.1.appends else 0) + given_in l e qs

-- where a page of an epoch may end: at its numbers and one above, above a trim point, at the epoch's end
abbrev pub page_marks : Config → State → ℕ → ℕ → List ℕ
page_marks c s l e = numbers_from (numbered e 1) (given_in l e s.sequencers + 1) ++ (map (λ t. t + 1) (points_of (all_nodes c) l s.network.sent) ++ numbered e last_esn ∷ [])

abbrev pub numbers_marks : ℕ → List (List ℕ × Sequencer) → List ℕ
numbers_marks l [] = []
numbers_marks l (q ∷ qs) = (if q.1.log == l then numbers_from (numbered q.1.epoch 1) (q.1.lng + length q.1.appends) else []) ++ numbers_marks l qs

-- where an item ends: at the numbers that were given, the ends of epochs, the trim points
abbrev pub item_marks : Config → State → ℕ → List ℕ
item_marks c s l = numbers_marks l s.sequencers ++ (map epoch_end (numbers_from 0 ((epochs_of s.register l).epoch + 1)) ++ points_of (all_nodes c) l s.network.sent)

-- ---- what stays ----

-- what stays as long as nothing is appended, trimmed, activated, set, swapped, formatted or wiped: how many nodes there are, and which; by log the sizes, the numbers that items end at, how many numbers were
-- given, the register's epoch and count of swaps. And for a half: for each reader the round since which its log's nodes are as they are now, and whether a node of a log is lost under a generation for an epoch
pub record Ground : Type 0 where
  pub nodes : ℕ
  pub all : List ℕ
  pub sizes : ℕ → Sizes
  pub items : ℕ → List ℕ
  pub given : ℕ → ℕ
  pub epochs : ℕ → ℕ
  pub swaps : ℕ → ℕ
  pub since : List ℕ → ℕ
  pub right : ℕ → ℕ → ℕ → ℕ → Bool

abbrev pub sizes_of : Config → State → ℕ → Sizes
sizes_of c s l = record {
  nodes = length (all_nodes c);
  pages = length (all_nodes c) * (numbers_given l s.sequencers + points_issued (all_nodes c) l s.network.sent + 2);
  items = length (all_nodes c) * (numbers_given l s.sequencers + 1);
  marks = page_marks c s l;
}

-- how the nodes are now
abbrev pub right_now : State → ℕ → ℕ → ℕ → ℕ → Bool
right_now s l y generation e = ((node_at s y).plain.generation == generation) && is_lost (log_of (node_at s y).plain l) e

abbrev pub round_of_named : State → List ℕ → Option Reader → ℕ
round_of_named s name None = 0
round_of_named s name (Some d) = d.round

-- as it is as a half begins in this state
abbrev pub ground_at : Config → State → Ground
ground_at c s = record {
  nodes = length (all_nodes c);
  all = all_nodes c;
  sizes = sizes_of c s;
  items = item_marks c s;
  given = λ l. numbers_given l s.sequencers;
  epochs = λ l. (epochs_of s.register l).epoch;
  swaps = λ l. (epochs_of s.register l).swaps;
  since = λ name. round_of_named s name (find_named name s.readers);
  right = right_now s;
}

-- what one reader needs of it
abbrev pub ground_of : Ground → List ℕ → ℕ → asking.Ground
ground_of g name l = record { nodes = g.nodes; all = g.all; swaps = g.swaps l; marks = g.items l; since = g.since name; right = g.right l }

-- ---- the measure ----

abbrev pub sequencer_cost : Ground → Sequencer → ℕ
sequencer_cost g q = if q.gone then 0 else may_send (g.sizes q.log) q

abbrev pub reader_cost : Ground → List ℕ → Reader → ℕ
reader_cost g name d = may_ask (ground_of g name d.log) d

-- a poll, all that it brings, and the next one: six times the nodes, and one for itself
abbrev pub poll_cost : Ground → ℕ
poll_cost g = 6 * g.nodes + 1

abbrev pub items_left : Ground → Option Reader → ℕ
items_left g None = 0
items_left g (Some d) = if is_finished d then 0 else left d.next (g.items d.log)

-- one that is finished has no turn
abbrev pub turn_left : Ground → Option Reader → ℕ
turn_left g None = 0
turn_left g (Some d) = if is_finished d then 0 else left d.next (g.items d.log) + 1

abbrev pub asked_again : ℕ → Option Reader → ℕ
asked_again next None = 0
asked_again next (Some d) = if d.next == next then 0 else 1

-- what is left to do costs, by the nodes and the readers
abbrev pub part_cost : Ground → List (ℕ × Node) → List (List ℕ × Reader) → Left → ℕ
part_cost g ns ds (Announces l) = 1 + (g.nodes + 2 * (g.nodes * g.given l + g.nodes * (g.given l + 1)))
part_cost g ns ds (Settles l) = 2 * (g.nodes * (g.nodes + 1)) * how_many (is_open_for l) ds
part_cost g ns ds (Ticks l n) = 1 + ((g.epochs l + 1 - lowest_unclean (log_of (unwrap_or (find n ns) new_node).plain l)) + 2 * g.nodes)
part_cost g ns ds (Reads name) = poll_cost g * turn_left g (find_named name ds)
part_cost g ns ds Drains = 0
part_cost g ns ds (Again name next) = poll_cost g * (items_left g (find_named name ds) + asked_again next (find_named name ds))

abbrev pub parts_cost : Ground → List (ℕ × Node) → List (List ℕ × Reader) → List Left → ℕ
parts_cost g ns ds [] = 0
parts_cost g ns ds (p ∷ ps) = part_cost g ns ds p + parts_cost g ns ds ps

abbrev pub measure : Ground → State → List Left → ℕ
measure g s ps = new_weight s.network + (2 * sum_of (sequencer_cost g) s.sequencers + (2 * sum_by (reader_cost g) s.readers + parts_cost g s.nodes s.readers ps))
