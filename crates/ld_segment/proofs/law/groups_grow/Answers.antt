use Rattle.ld_segment.proofs.Groups.{begins_as, goes_on, read_then}
use Rattle.ld_segment.proofs.law.groups_grow.Goals as goal

pub returns-clause-begins : goal.returns-clause-begins
returns-clause-begins c y z o b w is lies sound may = let all = begins_as y z b o lies sound may w is in (all.group, all.plain)

pub returns-clause-crash : goal.returns-clause-crash
returns-clause-crash c y z o b after w is lies sound may torn = (begins_as y z b o lies sound may w is).torn after torn

pub returns-clause-goes_on : goal.returns-clause-goes_on
returns-clause-goes_on c p y z gate safe shown o group may goes = (goes_on p y z gate safe shown group o may goes, read_then p y z gate safe shown group o may goes)
