use Rattle.std.specs.Map.Iter.{deref_pair}
use Rattle.ld_op.proofs.Tables.{all_starts_of, all_starts_more, all_starts_none, put_on, put_all}
use Rattle.ld_op.proofs.sizes.add_all_starts.Goals as goal

pub logs-preserved : goal.logs-preserved
logs-preserved c = put_on all_starts_of (deref_pair (c.in-Some.log, c.in-Some.state)) c.logs.log-iterator c.next.new.self _ c.logs.out.items _ all_starts_more c.in-Some.ensures.steps c.in_ok-add_starts_there.ensures c.logs.invariant

pub returns : goal.returns
returns c = put_all all_starts_of c.logs.log-iterator _ c.logs.out.items all_starts_none c.in-None.ensures.steps.0 c.logs.invariant
