use Rattle.std.specs.Map.Iter.{deref_pair}
use Rattle.ld_op.proofs.Tables.{starts_of, starts_more, starts_none, put_on, put_all}
use Rattle.ld_op.proofs.sizes.add_each_start.Goals as goal

pub entries-preserved : goal.entries-preserved
entries-preserved c = put_on starts_of (deref_pair (c.in-Some.number, c.in-Some.place)) c.entries.number-iterator c.next.new.self _ c.entries.out.items _ starts_more c.in-Some.ensures.steps c.in_ok-add_start_there.ensures c.entries.invariant

pub returns : goal.returns
returns c = put_all starts_of c.entries.number-iterator _ c.entries.out.items starts_none c.in-None.ensures.steps.0 c.entries.invariant
