use Rattle.ld_safety.proofs.Traces as traces
use Rattle.ld_safety.proofs.lines_are_the_steps.Goals as goal

pub returns : goal.returns
returns c = traces.lines_are_the_steps
