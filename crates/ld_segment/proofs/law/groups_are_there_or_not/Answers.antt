use Rattle.ld_segment.proofs.Groups.{left, either}
use Rattle.ld_segment.proofs.law.groups_are_there_or_not.Goals as goal

pub returns-clause-shut : goal.returns-clause-shut
returns-clause-shut c p y z gate n safe shown after group size torn = left p y z gate safe shown group n size after torn

pub returns-clause-crash : goal.returns-clause-crash
returns-clause-crash c p y z gate n safe shown after group size there torn = either p y z gate safe shown group n size there after torn
