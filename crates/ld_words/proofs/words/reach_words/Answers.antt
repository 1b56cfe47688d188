use Rattle.clap.specs.Words.{rows_of, found_of}
use Rattle.ld_words.specs.Parts.{IsReachWords}
use Rattle.ld_words.proofs.OneCommand.{no_reach_of}
use Rattle.ld_words.proofs.Refused.{refused_one, not_none}
use Rattle.ld_words.proofs.words.reach_words.Goals as goal

pub returns-in_err-log-clause-says : goal.returns-in_err-log-clause-says
returns-in_err-log-clause-says c =
    refused_one c.from_residual.result c.in_err-log.field-0.0 (IsReachWords (rows_of (found_of c.args.matches.now))) _ c.from_residual.ensures.1 c.in_err-log.ensures.says
    (λ w words none. none w.log w.config (record { config = words.config; log = words.log; known = words.known }))

pub returns-in-Err-clause-says : goal.returns-in-Err-clause-says
returns-in-Err-clause-says c other w words = not_none _ _ words.register (c.in-Err.ensures other)

pub returns-in-Err-reach-clause-says : goal.returns-in-Err-reach-clause-says
returns-in-Err-reach-clause-says c other w words =
    no_reach_of (rows_of (found_of c.args.matches.now)) c.in_ok-log.config c.in_ok-log.ensures.says.config w words (c.in-Err-reach.ensures.says other)

pub returns-in-Ok-reach : goal.returns-in-Ok-reach
returns-in-Ok-reach c =
    record {
      says = record {
        config = c.in_ok-log.ensures.says.config;
        log = c.in_ok-log.ensures.says.log;
        known = c.in_ok-log.ensures.says.known;
        register = c.in-Ok.ensures;
        reach = c.in-Ok-reach.ensures.says;
      };
      bounds = record {
        config = c.in_ok-log.ensures.bounds;
        log = c.in_ok-log.ensures.says.known.has;
        nodes = c.in-Ok-reach.ensures.bounds;
      };
    }
