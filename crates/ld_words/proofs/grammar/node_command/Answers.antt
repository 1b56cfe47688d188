use Rattle.ld_words.proofs.grammar.node_command.Goals as goal

pub returns : goal.returns
returns c = c.with_parts.ensures _ c.files_command.ensures
