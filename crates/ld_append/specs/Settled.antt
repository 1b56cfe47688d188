-- Where the sequencer that is driven has settled, so has the one of its name in the state.
use Rattle.std.specs.Prelude.{ℕ, ◌≡◌, List, Option, None, Some, true}
use Rattle.std.proofs.Common.{ap, ◌∙◌}
use Rattle.ld_config.specs.declared.config.Config.{Config}
use Rattle.ld_msg.specs.Register.{Register}
use Rattle.ld_sequencer.specs.Whole.{Whole}
use Rattle.ld_machine.specs.State.{State}
use Rattle.ld_rounds.specs.Requests.{settled_one, settled_at}
use Rattle.ld_append.specs.Acting.{Serves, settled_in}

pub settled_so : (c : Config) (s : State) (name : List ℕ) (o : Option Whole) (tells : Register → Type 0) → Serves name o tells c s → settled_in o ≡ true → settled_at name s ≡ true
settled_so c s name None tells h t = absurd cc
settled_so c s name (Some w) tells h t = ap settled_one h.sequencer.there ∙ t
