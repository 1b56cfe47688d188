use Rattle.ld_words.proofs.grammar.show_command.Goals as goal

pub returns : goal.returns
returns c = c.with_parts.ensures _ (record { app = c.new.ensures.app; own = c.new.ensures.local })
