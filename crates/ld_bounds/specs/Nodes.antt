-- What holds of each node of a run: its numbers are in their bounds, its entries rise and stand under their numbers, and its summaries rise.
use Rattle.std.specs.Prelude.{ℕ, Option, Some, None}
use Rattle.std.specs.List.{AllByRecursion}
use Rattle.ld_table.specs.Table.{Ordered}
use Rattle.ld_ids.specs.Id.{IsNode}
use Rattle.ld_op.specs.Plain.{Log, Plain}
use Rattle.ld_node_bounds.specs.States.{last_handed_out, IsPlain, IsReleased}
use Rattle.ld_machine.specs.Disk.{Node, Cut}

-- the epochs of a log's summaries rise
abbrev pub RiseAt : ℕ × Log → Type 0
RiseAt g = Ordered g.1.summaries

abbrev pub Rise : Plain → Type 0
Rise p = AllByRecursion RiseAt p.logs

-- the state with a record that was cut short
abbrev pub IsCut : Option Cut → Type 0
IsCut None = Unit {0}
IsCut (Some k) = IsPlain last_handed_out k.plain × Rise k.plain

pub record IsNodeState (x : Node) : Type 0 where
  pub plain : IsPlain last_handed_out x.plain
  pub rise : Rise x.plain
  pub cut : IsCut x.cut
  pub released : AllByRecursion IsReleased x.released

-- a node under its number
pub record IsNodeAt (x : ℕ × Node) : Type 0 where
  pub node : IsNode x.0
  pub state : IsNodeState x.1
