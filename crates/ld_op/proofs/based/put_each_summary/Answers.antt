use Rattle.std.specs.Map.Iter.{deref_pair}
use Rattle.ld_op.proofs.Tables.{summaries_of, summaries_more, summaries_none, put_on, put_all}
use Rattle.ld_op.proofs.based.put_each_summary.Goals as goal

pub summaries-preserved : goal.summaries-preserved
summaries-preserved c = put_on summaries_of (deref_pair (c.in-Some.epoch, c.in-Some.place)) c.summaries.epoch-iterator c.next.new.self _ c.summaries.out.items _ summaries_more c.in-Some.ensures.steps c.in_ok-put_summary_there.ensures c.summaries.invariant

pub returns : goal.returns
returns c = put_all summaries_of c.summaries.epoch-iterator _ c.summaries.out.items summaries_none c.in-None.ensures.steps.0 c.summaries.invariant
