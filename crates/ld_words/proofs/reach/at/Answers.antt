use Rattle.clap.specs.Words.{rows_of, found_of}
use Rattle.ld_words.proofs.OneAddress.{at_as}
use Rattle.ld_words.proofs.reach.at.Goals as goal

pub returns : goal.returns
returns c = at_as (rows_of (found_of c.args.matches.now)) c.args.nodes.now c.in_ok-text.field-0.now c.addresses.result c.in_ok-text.ensures c.addresses.ensures
