use Rattle.std.specs.Map.Iter.{deref_pair}
use Rattle.ld_op.proofs.Tables.{entries_of, entries_more, entries_none, put_on, put_all}
use Rattle.ld_op.proofs.based.put_each_entry.Goals as goal

pub entries-preserved : goal.entries-preserved
entries-preserved c = put_on entries_of (deref_pair (c.in-Some.number, c.in-Some.place)) c.entries.number-iterator c.next.new.self _ c.entries.out.items _ entries_more c.in-Some.ensures.steps c.in_ok-put_entry_there.ensures c.entries.invariant

pub returns : goal.returns
returns c = put_all entries_of c.entries.number-iterator _ c.entries.out.items entries_none c.in-None.ensures.steps.0 c.entries.invariant
