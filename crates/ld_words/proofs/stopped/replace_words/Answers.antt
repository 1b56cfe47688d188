use Rattle.std.proofs.lemmas.Bool.{ne_eqb}
use Rattle.clap.specs.Words.{rows_of, found_of}
use Rattle.ld_words.specs.Meaning.{IsReplaceWords}
use Rattle.ld_words.proofs.OneCommand.{no_replace_place}
use Rattle.ld_words.proofs.Refused.{refused_one}
use Rattle.ld_words.proofs.stopped.replace_words.Goals as goal

pub returns-in_err-store-clause-says : goal.returns-in_err-store-clause-says
returns-in_err-store-clause-says c =
    refused_one c.from_residual.result c.in_err-store.field-0.0 (IsReplaceWords (rows_of (found_of c.args.matches.now))) _ c.from_residual.ensures.1 c.in_err-store.ensures
    (λ r words none. none r.store r.register words.files)

pub returns-in-Err-clause-says : goal.returns-in-Err-clause-says
returns-in-Err-clause-says c other r words = c.in-Err.ensures.says other r.id r.config words.node

pub returns-in-Err-place_for-clause-says : goal.returns-in-Err-place_for-clause-says
returns-in-Err-place_for-clause-says c other r words =
    no_replace_place (rows_of (found_of c.args.matches.now)) c.in-Ok.node.0 c.in-Ok.node.1 c.in-Ok.ensures.says r words (c.in-Err-place_for.ensures other)

pub returns-in-Ok-place_for : goal.returns-in-Ok-place_for
returns-in-Ok-place_for c =
    record {
      says = record {
        node = c.in-Ok.ensures.says;
        place = c.in-Ok-place_for.ensures;
        files = c.in_ok-store.ensures;
      };
      bounds = record {
        config = c.in-Ok.ensures.bounds;
        node = c.in-Ok.ensures.says.member.member;
        gone = c.in-Ok-place_for.ensures.member.member;
        apart = ne_eqb c.in-Ok.node.0 c.in-Ok-place_for.place.0 c.in-Ok-place_for.ensures.apart;
        log = c.in-Ok-place_for.ensures.known.has;
      };
    }
