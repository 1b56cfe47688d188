use Rattle.ld_words.proofs.words.read.Goals as goal

pub returns-else-is_memory-clause-asks : goal.returns-else-is_memory-clause-asks
returns-else-is_memory-clause-asks c = c.in-Err.ensures.asks c.if-is_memory.ensures
