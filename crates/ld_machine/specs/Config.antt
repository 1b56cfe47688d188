-- What a run asks of its configuration.
use Rattle.std.specs.Prelude.{ℕ, List, Bool}
use Rattle.ld_table.specs.Words.{is_in}
use Rattle.ld_ids.specs.Set.{members}
use Rattle.ld_ids.specs.declared.set.Spec.{Spec}
use Rattle.ld_config.specs.declared.config.Config.{Config}
use Rattle.ld_ids.specs.Choice.{nodes_of}
use Rattle.ld_msg.specs.Register.{Register, View, look, epochs_of, fixed_shown}
pub use Rattle.ld_machine.specs.Logs.{no_spec, spec_in, first_spec, has_log}

-- all nodes
abbrev pub all_nodes : Config → List ℕ
all_nodes c = members c.nodes

-- what a look at an epoch of the log shows
abbrev pub looks_at : Config → Register → ℕ → ℕ → View
looks_at c r l e = look (first_spec c l) r l e

-- the nodes, factor and extras that were fixed for an epoch of a log
abbrev pub fixed_of : Config → Register → ℕ → ℕ → Spec
fixed_of c r l e = fixed_shown (epochs_of r l) (first_spec c l) e

-- the nodes that were fixed for it
abbrev pub fixed_at : Config → Register → ℕ → ℕ → List ℕ
fixed_at c r l e = nodes_of (fixed_of c r l e)

-- the nodes, factor and extras of an epoch of a log, as swaps left them
abbrev pub spec_of : Config → Register → ℕ → ℕ → Spec
spec_of c r l e = (looks_at c r l e).spec

abbrev pub has_node : Config → ℕ → Bool
has_node c n = is_in n (members c.nodes)

-- the nodes that keep an epoch of a log
abbrev pub set_at : Config → Register → ℕ → ℕ → List ℕ
set_at c r l e = nodes_of (spec_of c r l e)
