use Rattle.clap.specs.Words.{rows_of, found_of}
use Rattle.ld_words.specs.Meaning.{IsStatusWords}
use Rattle.ld_words.proofs.OneCommand.{some_epochs}
use Rattle.ld_words.proofs.Refused.{refused_one}
use Rattle.ld_words.proofs.words.status_words.Goals as goal

pub returns-in_err-reached-clause-says : goal.returns-in_err-reached-clause-says
returns-in_err-reached-clause-says c =
    refused_one c.from_residual.result c.in_err-reached.field-0.0 (IsStatusWords (rows_of (found_of c.args.matches.now))) _ c.from_residual.ensures.1 c.in_err-reached.ensures.says
    (λ w words none. none (record { config = w.config; log = w.log; register = w.register; reach = w.reach })
    (record { config = words.config; log = words.log; known = words.known; register = words.register; reach = words.reach }))

pub returns-in-Err-clause-says : goal.returns-in-Err-clause-says
returns-in-Err-clause-says c other w words = c.in-Err.ensures other w.limit w.epochs (record { limit = words.limit; epochs = words.epochs })

pub returns-in-Ok : goal.returns-in-Ok
returns-in-Ok c =
    record {
      says = record {
        config = c.in_ok-reached.ensures.says.config;
        log = c.in_ok-reached.ensures.says.log;
        known = c.in_ok-reached.ensures.says.known;
        register = c.in_ok-reached.ensures.says.register;
        reach = c.in_ok-reached.ensures.says.reach;
        limit = c.in-Ok.ensures.limit;
        epochs = c.in-Ok.ensures.epochs;
        json = c.flag.ensures;
      };
      bounds = record {
        config = c.in_ok-reached.ensures.bounds.config;
        log = c.in_ok-reached.ensures.bounds.log;
        nodes = c.in_ok-reached.ensures.bounds.nodes;
        some = some_epochs _ c.in-Ok.epochs c.in-Ok.ensures.epochs;
      };
    }
