use Rattle.clap.specs.Words.{rows_of, found_of}
use Rattle.ld_words.specs.Parts.{IsServeWords}
use Rattle.ld_words.proofs.Refused.{refused_one}
use Rattle.ld_words.proofs.words.serve_words.Goals as goal

pub returns-in_err-store : goal.returns-in_err-store
returns-in_err-store c =
    refused_one c.from_residual.result c.in_err-store.field-0.0 (IsServeWords (rows_of (found_of c.args.matches.now))) _ c.from_residual.ensures.1 c.in_err-store.ensures
    (λ s words none. none s.store s.register words.files)

pub returns-in-Err : goal.returns-in-Err
returns-in-Err c other s words = c.in-Err.ensures other s.listen words.listen

pub returns-in-Err-turns : goal.returns-in-Err-turns
returns-in-Err-turns c other s words = c.in-Err-turns.ensures other s.turns words.turns

pub returns-in-Ok-turns : goal.returns-in-Ok-turns
returns-in-Ok-turns c = record { files = c.in_ok-store.ensures; listen = c.in-Ok.ensures; turns = c.in-Ok-turns.ensures }
