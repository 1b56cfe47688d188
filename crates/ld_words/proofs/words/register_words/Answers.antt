use Rattle.clap.specs.Words.{rows_of, found_of}
use Rattle.ld_words.specs.Meaning.{IsRegisterWords}
use Rattle.ld_words.proofs.OneCommand.{some_epoch}
use Rattle.ld_words.proofs.Refused.{refused_one}
use Rattle.ld_words.proofs.words.register_words.Goals as goal

pub returns-in_err-log-clause-says : goal.returns-in_err-log-clause-says
returns-in_err-log-clause-says c =
    refused_one c.from_residual.result c.in_err-log.field-0.0 (IsRegisterWords (rows_of (found_of c.args.matches.now))) _ c.from_residual.ensures.1 c.in_err-log.ensures.says
    (λ w words none. none w.log w.config (record { config = words.config; log = words.log; known = words.known }))

pub returns-in-Err-clause-says : goal.returns-in-Err-clause-says
returns-in-Err-clause-says c other w words = c.in-Err.ensures other w.register w.from (record { register = words.register; from = words.from })

pub returns-in-Ok : goal.returns-in-Ok
returns-in-Ok c =
    record {
      says = record {
        config = c.in_ok-log.ensures.says.config;
        log = c.in_ok-log.ensures.says.log;
        known = c.in_ok-log.ensures.says.known;
        register = c.in-Ok.ensures.register;
        from = c.in-Ok.ensures.from;
        json = c.flag.ensures;
      };
      bounds = record {
        config = c.in_ok-log.ensures.bounds;
        log = c.in_ok-log.ensures.says.known.has;
        some = some_epoch _ c.in-Ok.from c.in-Ok.ensures.from;
      };
    }
