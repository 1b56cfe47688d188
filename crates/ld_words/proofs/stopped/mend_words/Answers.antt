use Rattle.clap.specs.Words.{rows_of, found_of}
use Rattle.ld_words.specs.Meaning.{IsMendWords}
use Rattle.ld_words.proofs.Refused.{refused_one}
use Rattle.ld_words.proofs.stopped.mend_words.Goals as goal

pub returns-in_err-store-clause-says : goal.returns-in_err-store-clause-says
returns-in_err-store-clause-says c =
    refused_one c.from_residual.result c.in_err-store.field-0.0 (IsMendWords (rows_of (found_of c.args.matches.now))) _ c.from_residual.ensures.1 c.in_err-store.ensures
    (λ m words none. none m.store m.register words.files)

pub returns-in-Err-clause-says : goal.returns-in-Err-clause-says
returns-in-Err-clause-says c other m words =
    c.in-Err.ensures.says other (record { id = m.id; config = m.config; reach = m.reach; rounds = m.rounds; limit = m.limit })
    (record { node = words.node; reach = words.reach; rounds = words.rounds; limit = words.limit })

pub returns-in-Ok : goal.returns-in-Ok
returns-in-Ok c =
    record {
      says = record {
        node = c.in-Ok.ensures.says.node;
        files = c.in_ok-store.ensures;
        reach = c.in-Ok.ensures.says.reach;
        rounds = c.in-Ok.ensures.says.rounds;
        limit = c.in-Ok.ensures.says.limit;
      };
      bounds = record {
        config = c.in-Ok.ensures.bounds.config;
        node = c.in-Ok.ensures.bounds.node;
        nodes = c.in-Ok.ensures.bounds.nodes;
        some = c.in-Ok.ensures.bounds.some;
      };
    }
