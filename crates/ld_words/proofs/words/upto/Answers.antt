use Rattle.std.proofs.Common.{ℕ, ◌≤◌, codes, arith}
use Rattle.clap.specs.Words.{rows_of, found_of}
use Rattle.ld_words.specs.Meaning.{IsLsn}
use Rattle.ld_words.proofs.OneCommand.{upto_from}
use Rattle.ld_words.proofs.Refused.{refused}
use Rattle.ld_words.proofs.words.upto.Goals as goal

pub returns-in_err-upto : goal.returns-in_err-upto
returns-in_err-upto c =
    refused c.from_residual.result c.in_err-upto.field-0.0 (λ last. IsLsn (codes "upto") (rows_of (found_of c.args.matches.now)) last × (1 ≤ last)) _
    ((last : ℕ) → IsLsn (codes "upto") (rows_of (found_of c.args.matches.now)) last → 1 ≤ last → ⊥) c.from_residual.ensures.1 c.in_err-upto.ensures
    (λ none last is some. none last is)

pub returns-then-value-lt1 : goal.returns-then-value-lt1
returns-then-value-lt1 c refusal last is some =
    let from = upto_from (rows_of (found_of c.args.matches.now)) c.in_ok-upto.upto last c.in_ok-upto.ensures is some in
    omega (arith, from, c.value.ensures, c.if-value-lt1.true)
