use Rattle.ld_crowd.proofs.Talks.{in_turn_state, in_turn_said, in_turn_heard}
use Rattle.std.proofs.Common.{length, arith}
use Rattle.ld_crowd.proofs.laws.one_after_the_other.Goals as goal

pub returns-clause-state : goal.returns-clause-state
returns-clause-state g c after s peers = in_turn_state after 0 s peers

pub returns-clause-said : goal.returns-clause-said
returns-clause-said g c after answers s before ms more = in_turn_said after answers (length before) 0 s before ms more (omega arith)

pub returns-clause-heard : goal.returns-clause-heard
returns-clause-heard g c before ms more = in_turn_heard (length before) 0 before ms more (omega arith)
