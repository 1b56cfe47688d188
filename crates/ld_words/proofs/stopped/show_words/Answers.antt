use Rattle.clap.specs.Words.{rows_of, found_of}
use Rattle.ld_words.specs.Meaning.{IsShowWords}
use Rattle.ld_words.proofs.Refused.{refused_one, not_none}
use Rattle.ld_words.proofs.stopped.show_words.Goals as goal

pub returns-in_err-store-clause-says : goal.returns-in_err-store-clause-says
returns-in_err-store-clause-says c =
    refused_one c.from_residual.result c.in_err-store.field-0.0 (IsShowWords (rows_of (found_of c.args.matches.now))) _ c.from_residual.ensures.1 c.in_err-store.ensures
    (λ s words none. not_none _ _ words.store none)

pub returns-in-Err-clause-says : goal.returns-in-Err-clause-says
returns-in-Err-clause-says c other s words = c.in-Err.ensures.says other s.id s.config words.node
