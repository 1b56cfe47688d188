use Rattle.ld_safety.proofs.Traces as traces
use Rattle.ld_safety.proofs.steps_are_the_trace.Goals as goal

pub returns : goal.returns
returns c = traces.steps_are_the_trace
