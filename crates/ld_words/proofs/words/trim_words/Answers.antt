use Rattle.clap.specs.Words.{rows_of, found_of}
use Rattle.ld_words.specs.Meaning.{IsTrimWords}
use Rattle.ld_words.proofs.Refused.{refused_one}
use Rattle.ld_words.proofs.words.trim_words.Goals as goal

pub returns-in_err-upto-clause-says : goal.returns-in_err-upto-clause-says
returns-in_err-upto-clause-says c =
    refused_one c.from_residual.result c.in_err-upto.field-0.0 (IsTrimWords (rows_of (found_of c.args.matches.now))) _ c.from_residual.ensures.1 c.in_err-upto.ensures
    (λ t words none. none t.upto words.upto words.some)

pub returns-in-Err-clause-says : goal.returns-in-Err-clause-says
returns-in-Err-clause-says c other t words = c.in-Err.ensures.says other t.of words.of
