use Rattle.clap.specs.Words.{rows_of, found_of}
use Rattle.ld_words.specs.Meaning.{IsNodeWords}
use Rattle.ld_words.proofs.Refused.{refused_one}
use Rattle.ld_words.proofs.words.node_words.Goals as goal

pub returns-in_err-id-clause-says : goal.returns-in_err-id-clause-says
returns-in_err-id-clause-says c =
    refused_one c.from_residual.result c.in_err-id.field-0.0 (IsNodeWords (rows_of (found_of c.args.matches.now))) _ c.from_residual.ensures.1 c.in_err-id.ensures.says
    (λ w words none. none w.id w.config (record { id = words.id; config = words.config; member = words.member }))

pub returns-in-Err-clause-says : goal.returns-in-Err-clause-says
returns-in-Err-clause-says c other w words =
    c.in-Err.ensures other (record { store = w.store; register = w.register; listen = w.listen; turns = w.turns }) (record { files = words.files; listen = words.listen; turns = words.turns })

pub returns-in-Ok : goal.returns-in-Ok
returns-in-Ok c =
    record {
      says = record {
        id = c.in_ok-id.ensures.says.id;
        config = c.in_ok-id.ensures.says.config;
        member = c.in_ok-id.ensures.says.member;
        files = c.in-Ok.ensures.files;
        listen = c.in-Ok.ensures.listen;
        turns = c.in-Ok.ensures.turns;
        format = c.flag.ensures;
        quiet = c.flag-in-Ok.ensures;
      };
      bounds = c.in_ok-id.ensures.bounds;
    }
