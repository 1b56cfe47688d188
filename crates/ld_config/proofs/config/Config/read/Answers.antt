use Rattle.std.proofs.Common.{sym, inl, inr}
use Rattle.serde_json.specs.View.{view}
use Rattle.ld_config.proofs.InBounds.{nodes_in_bounds, logs_in_bounds, in_bounds}
use Rattle.ld_config.proofs.config.Config.read.Goals as goal

pub returns-clause-bounds : goal.returns-clause-bounds
returns-clause-bounds c = elim c.in_ok-logs.ensures [
  | inl read ↦
      let nodes = nodes_in_bounds (view c.in_ok-nodes_value.nodes_value.now) c.in_ok-nodes.nodes (sym c.in_ok-nodes.ensures) in
      in_bounds c.in_ok-nodes.nodes c.in_ok-logs.logs nodes (logs_in_bounds c.in_ok-nodes.nodes (view c.in_ok-nodes_value.logs_value.now) c.in_ok-logs.logs (sym read))
  | inr none ↦ absurd (cc)
]
