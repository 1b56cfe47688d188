use Rattle.std.proofs.Common.{◌∙◌, sym}
use Rattle.std.specs.Map.Iter.{deref_pair}
use Rattle.ld_op.specs.Room.{there_of}
use Rattle.ld_op.specs.Within.{logs_within, log_within}
use Rattle.ld_op.proofs.Within.{logs_on, no_logs, goes_on, ends_here}
use Rattle.ld_op.proofs.ends.logs_lie_within.Goals as goal

pub returns-then-not-log_lies_within : goal.returns-then-not-log_lies_within
returns-then-not-log_lies_within c =
    ends_here (log_within c.args.end c.in-Some.state.now) _ (logs_within c.args.end (there_of c.next.new.self)) _ (logs_on c.args.end (deref_pair (c.in-Some.field-0-0, c.in-Some.state)) c.logs.state-iterator c.next.new.self c.in-Some.ensures.steps) (sym c.log_lies_within.ensures ∙ c.if-not-log_lies_within.true) c.logs.invariant

pub logs-preserved : goal.logs-preserved
logs-preserved c =
    goes_on (log_within c.args.end c.in-Some.state.now) _ (logs_within c.args.end (there_of c.next.new.self)) _ (logs_on c.args.end (deref_pair (c.in-Some.field-0-0, c.in-Some.state)) c.logs.state-iterator c.next.new.self c.in-Some.ensures.steps) (sym c.log_lies_within.ensures ∙ c.if-not-log_lies_within.false) c.logs.invariant

pub returns : goal.returns
returns c = sym (no_logs c.args.end c.logs.state-iterator c.in-None.ensures.steps.0) ∙ c.logs.invariant
