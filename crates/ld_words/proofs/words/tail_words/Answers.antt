use Rattle.ld_words.proofs.words.tail_words.Goals as goal

pub returns-in-Err-clause-says : goal.returns-in-Err-clause-says
returns-in-Err-clause-says c other t words =
    c.in-Err.ensures other (record { from = t.from; until = t.until; style = t.style; pause = t.pause; shown = t.shown })
    (record { range = words.range; style = words.style; pause = words.pause; shown = words.shown })
