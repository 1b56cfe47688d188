use Rattle.ld_machine.specs.State.{start}
use Rattle.ld_bounds.proofs.Steps.{run_is, start_is}
use Rattle.ld_bounds.proofs.laws.runs_are_sound.Goals as goal

pub returns : goal.returns
returns c = λ k es b a. run_is k b (start k) es a (start_is k b)
