use Rattle.std.proofs.Common.{map}
use Rattle.std.specs.Prelude.{string_bytes}
use Rattle.ld_words.proofs.Found.{asked_as}
use Rattle.ld_words.proofs.words.try_read.Goals as goal

pub returns-clause-asks : goal.returns-clause-asks
returns-clause-asks c = asked_as (map string_bytes c.args.words.now) _ c.command.result c.in_ok-matches.ensures c.command.ensures.means
