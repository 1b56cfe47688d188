use Rattle.ld_segment.proofs.Rows.{there_or_not, round_it, is_there, round_done}
use Rattle.ld_segment.proofs.law.records_are_there_or_not.Goals as goal

pub returns-clause-crash : goal.returns-clause-crash
returns-clause-crash c at bodies body old left inside short journal torn = (there_or_not at bodies body old inside short journal left torn, round_it at bodies body old inside short journal left torn)

pub returns-clause-made : goal.returns-clause-made
returns-clause-made c at bodies body old inside short journal = (is_there at bodies body old inside short journal, round_done at bodies body old inside short journal)
