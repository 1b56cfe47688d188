use Rattle.clap.specs.Words.{rows_of, found_of}
use Rattle.ld_words.specs.Meaning.{IsCopyWords}
use Rattle.ld_words.proofs.Refused.{refused_one, not_none}
use Rattle.ld_words.proofs.copying.copy_words.Goals as goal

pub returns-in_err-alone : goal.returns-in_err-alone
returns-in_err-alone c =
    refused_one c.from_residual.result c.in_err-alone.field-0.0 (IsCopyWords (rows_of (found_of c.args.matches.now))) _ c.from_residual.ensures.1 c.in_err-alone.ensures
    (λ w words none. none words.alone)

pub returns-in_err-from : goal.returns-in_err-from
returns-in_err-from c =
    refused_one c.from_residual-in_err-from.result c.in_err-from.field-0.0 (IsCopyWords (rows_of (found_of c.args.matches.now))) _ c.from_residual-in_err-from.ensures.1 c.in_err-from.ensures
    (λ w words none. not_none _ _ words.copy none)

pub returns-in-Err : goal.returns-in-Err
returns-in-Err c other w words = not_none _ _ words.register (c.in-Err.ensures other)
