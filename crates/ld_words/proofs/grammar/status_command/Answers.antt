use Rattle.ld_words.proofs.grammar.status_command.Goals as goal

pub returns : goal.returns
returns c = c.with_parts.ensures _ c.log_command.ensures
