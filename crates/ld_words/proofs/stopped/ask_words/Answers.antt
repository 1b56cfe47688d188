use Rattle.clap.specs.Words.{rows_of, found_of}
use Rattle.ld_words.specs.Parts.{IsAskWords}
use Rattle.ld_words.proofs.OneCommand.{no_ask_reach}
use Rattle.ld_words.proofs.Refused.{refused_one}
use Rattle.ld_words.proofs.stopped.ask_words.Goals as goal

pub returns-in_err-rounds-clause-says : goal.returns-in_err-rounds-clause-says
returns-in_err-rounds-clause-says c =
    refused_one c.from_residual.result c.in_err-rounds.field-0.0 (IsAskWords (rows_of (found_of c.args.matches.now))) _ c.from_residual.ensures.1 c.in_err-rounds.ensures
    (λ m words none. none m.rounds words.rounds)

pub returns-in_err-limit-clause-says : goal.returns-in_err-limit-clause-says
returns-in_err-limit-clause-says c =
    refused_one c.from_residual-in_err-limit.result c.in_err-limit.field-0.0 (IsAskWords (rows_of (found_of c.args.matches.now))) _ c.from_residual-in_err-limit.ensures.1 c.in_err-limit.ensures
    (λ m words none. none m.limit words.limit)

pub returns-in_err-id-clause-says : goal.returns-in_err-id-clause-says
returns-in_err-id-clause-says c =
    refused_one c.from_residual-in_err-id.result c.in_err-id.field-0.0 (IsAskWords (rows_of (found_of c.args.matches.now))) _ c.from_residual-in_err-id.ensures.1 c.in_err-id.ensures.says
    (λ m words none. none m.id m.config words.node)

pub returns-in-Err-clause-says : goal.returns-in-Err-clause-says
returns-in-Err-clause-says c other m words =
    no_ask_reach (rows_of (found_of c.args.matches.now)) c.in_ok-id.id c.in_ok-id.config c.in_ok-id.ensures.says m words (c.in-Err.ensures.says other)

pub returns-in-Ok : goal.returns-in-Ok
returns-in-Ok c =
    record {
      says = record {
        node = c.in_ok-id.ensures.says;
        reach = c.in-Ok.ensures.says;
        rounds = c.in_ok-rounds.ensures;
        limit = c.in_ok-limit.ensures;
      };
      bounds = record {
        config = c.in_ok-id.ensures.bounds;
        node = c.in_ok-id.ensures.says.member.member;
        nodes = c.in-Ok.ensures.bounds;
        some = c.in_ok-rounds.ensures.from;
      };
    }
