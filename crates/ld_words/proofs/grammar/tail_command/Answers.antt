use Rattle.ld_words.proofs.grammar.tail_command.Goals as goal

pub returns : goal.returns
returns c = c.with_parts.ensures _ c.log_command.ensures
