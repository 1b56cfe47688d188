use Rattle.std.proofs.Common.{ℕ}
use Rattle.clap.specs.Words.{rows_of, found_of}
use Rattle.ld_words.specs.Parts.{IsPace}
use Rattle.ld_words.proofs.Refused.{refused}
use Rattle.ld_words.proofs.words.pace.Goals as goal

pub returns-in_err-rounds : goal.returns-in_err-rounds
returns-in_err-rounds c =
    refused c.from_residual.result c.in_err-rounds.field-0.0 (λ r. IsPace (rows_of (found_of c.args.matches.now)) r.0 r.1) _
    ((many most : ℕ) → IsPace (rows_of (found_of c.args.matches.now)) many most → ⊥) c.from_residual.ensures.1 c.in_err-rounds.ensures
    (λ none many most is. none many is.rounds)

pub returns-in_err-limit : goal.returns-in_err-limit
returns-in_err-limit c =
    refused c.from_residual-in_err-limit.result c.in_err-limit.field-0.0 (λ r. IsPace (rows_of (found_of c.args.matches.now)) r.0 r.1) _
    ((many most : ℕ) → IsPace (rows_of (found_of c.args.matches.now)) many most → ⊥) c.from_residual-in_err-limit.ensures.1 c.in_err-limit.ensures
    (λ none many most is. none most is.limit)

pub returns : goal.returns
returns c = record { rounds = c.in_ok-rounds.ensures; limit = c.in_ok-limit.ensures }
