use Rattle.std.proofs.Common.{codes, sym}
use Rattle.clap.specs.Words.{rows_of, found_of}
use Rattle.ld_words.specs.Meaning.{IsNamed}
use Rattle.ld_words.proofs.OneCommand.{no_copy_named}
use Rattle.ld_words.proofs.Refused.{refused_one}
use Rattle.ld_words.proofs.words.register_command.Goals as goal

pub returns-in_err-copy_words-clause-means : goal.returns-in_err-copy_words-clause-means
returns-in_err-copy_words-clause-means c =
    refused_one c.from_residual.result c.in_err-copy_words.field-0.0 (IsNamed (codes "register") (rows_of (found_of c.args.matches.now))) _ c.from_residual.ensures.1 c.in_err-copy_words.ensures
    (λ d is none. no_copy_named (rows_of (found_of c.args.matches.now)) d (sym c.if-is_given.ensures) is none)
