use Rattle.clap.specs.Walk.{Text}
use Rattle.clap.specs.Words.{rows_of, found_of}
use Rattle.ld_words.specs.Meaning.{AreFiles}
use Rattle.ld_words.proofs.Refused.{refused, not_none}
use Rattle.ld_words.proofs.arguments.files.Goals as goal

pub returns-in_err-store : goal.returns-in_err-store
returns-in_err-store c =
    refused c.from_residual.result c.in_err-store.field-0.0 (λ f. AreFiles (rows_of (found_of c.args.matches.now)) f.0 f.1) _
    ((store register : Text) → AreFiles (rows_of (found_of c.args.matches.now)) store register → ⊥) c.from_residual.ensures.1 c.in_err-store.ensures
    (λ none store register files. not_none _ _ files.first none)

pub returns-in-Err : goal.returns-in-Err
returns-in-Err c other store register files = not_none _ _ files.second (c.in-Err.ensures other)
