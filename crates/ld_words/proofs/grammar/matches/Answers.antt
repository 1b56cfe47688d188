use Rattle.std.proofs.Common.{rules, map}
use Rattle.std.specs.Prelude.{string_bytes}
use Rattle.ld_words.proofs.Found.{found_by, refused_by}
use Rattle.ld_words.proofs.grammar.matches.Goals as goal

pub returns-in-Ok : goal.returns-in-Ok
returns-in-Ok c =
    found_by _ (map string_bytes c.args.words.now) _ c.in_ok-command.ensures c.in-Ok.ensures.matches c.in-Ok.ensures.kinds

pub returns-else-eq : goal.returns-else-eq
returns-else-eq c other =
    refused_by _ (map string_bytes c.args.words.now) c.in-Err.error c.in_ok-command.ensures c.in-Err.ensures.kinds (search rules)
