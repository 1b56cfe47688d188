use Rattle.std.proofs.Common.{ℕ, arith}
use Rattle.clap.specs.Words.{rows_of, found_of}
use Rattle.ld_words.specs.Meaning.{IsRange}
use Rattle.ld_words.proofs.Refused.{refused}
use Rattle.ld_words.proofs.words.range.Goals as goal

pub returns-in_err-from : goal.returns-in_err-from
returns-in_err-from c =
    refused c.from_residual.result c.in_err-from.field-0.0 (λ r. IsRange (rows_of (found_of c.args.matches.now)) r.0 r.1) _
    ((first last : ℕ) → IsRange (rows_of (found_of c.args.matches.now)) first last → ⊥) c.from_residual.ensures.1 c.in_err-from.ensures
    (λ none first last is. none first is.from)

pub returns-in_err-until : goal.returns-in_err-until
returns-in_err-until c =
    refused c.from_residual-in_err-until.result c.in_err-until.field-0.0 (λ r. IsRange (rows_of (found_of c.args.matches.now)) r.0 r.1) _
    ((first last : ℕ) → IsRange (rows_of (found_of c.args.matches.now)) first last → ⊥) c.from_residual-in_err-until.ensures.1 c.in_err-until.ensures
    (λ none first last is. none last is.until)

pub returns : goal.returns
returns c = record { from = c.in_ok-from.ensures; until = c.in_ok-until.ensures; some = omega arith; order = omega arith }
